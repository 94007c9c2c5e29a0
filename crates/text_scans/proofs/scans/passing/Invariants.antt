-- Invariant: by whatever test the closure computes, all before the next place pass.
use Prim.Native.Nat.{ℕ, ◌≤◌}
use mathlib.Core.Bool.{Bool}
use Rattle.text_scans.specs.Eights.{Computes, passing}
use Rattle.text_scans.proofs.scans.passing.Given as goal

abbrev pub invariant-loop-i : goal.invariant-loop-i
invariant-loop-i g l = (t : ℕ → Bool) → Computes (goal.F-post g l.test) l.n t → l.i ≤ passing t l.n
