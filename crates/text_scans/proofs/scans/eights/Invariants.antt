-- Invariant: by whatever test the closure computes, all before the eight that comes next passes.
use Prim.Native.Nat.{ℕ, ◌*◌, ◌≤◌}
use mathlib.Core.Bool.{Bool}
use Rattle.text_scans.specs.Eights.{Computes, passing}
use Rattle.text_scans.proofs.scans.eights.Given as goal

abbrev pub invariant-loop-k : goal.invariant-loop-k
invariant-loop-k g l = (t : ℕ → Bool) → Computes (goal.F-post g l.test) l.n t → 8 * l.k ≤ passing t l.n
