use mathlib.Core.Path.{refl}
use Rattle.unescape.proofs.Filling.{lent, write-next}
use Rattle.unescape.proofs.walk.write.Goals as goal

pub loop-piece-preserved : goal.loop-piece-preserved
loop-piece-preserved c =
    write-next c.loop-piece.invariant c.as_slice-bytes.result.now _ (rw (← c.as_slice-bytes.ensures) at (rw c.in-Ok.is at c.in-Some.ensures.steps).means) _ (lent _ _ _ _ c.copy.ensures) _ refl
