use mathlib.Core.Path.{sym, ◌∙◌}
use Prim.Native.Nat.{◌+◌}
use native.Mathlib.Omega.{arith}
use Rattle.unescape_codes.proofs.Digits.{more, grows, room, digit_16}
use Rattle.unescape_codes.proofs.codes.digits_value.Goals as goal

pub overflow_add-n : goal.overflow_add-n
overflow_add-n c =
    omega (arith, grows _ _ _ c.loop-b.invariant.0 (digit_16 _ _ (sym c.in_ok-n.ensures)), room (c.loop-b.b-index + 1) (omega arith))

pub loop-b-preserved : goal.loop-b-preserved
loop-b-preserved c = (
  grows _ _ _ c.loop-b.invariant.0 (digit_16 _ _ (sym c.in_ok-n.ensures)),
  c.loop-b.invariant.1 ∙ more _ _ _ c.loop-b-test.true (sym c.in_ok-n.ensures),
)
