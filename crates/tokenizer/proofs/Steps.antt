-- The step's rule by the code's own branches: over the limit, unfit, and the step of a fit state.
use Prim.Native.Nat.{ℕ, ◌≤◌, ◌<◌}
use mathlib.Core.Path.{◌≡◌}
use mathlib.Core.List.{List}
use mathlib.Core.Bool.{true, false}
use lib.ListN.{length}
use borrow.Author.Tests.{lt-ltb, le-ltb}
use Rattle.text.specs.declared.refusals.Refusal.TheVariants.{TooLong, UnfitState}
use Rattle.tokenizer.specs.Step.{step_rule, fit, refusal, step_of}
use Rattle.tokenizer.specs.declared.state.State.{State}

module _ (d : List ℕ) (s : State) where
  pub over : 16777216 < length d → step_of d s ≡ refusal TooLong s
  unfolding step_of
  over h = rw (lt-ltb 16777216 (length d) h)

  pub unfit : length d ≤ 16777216 → fit (length d) s ≡ false → step_of d s ≡ refusal UnfitState s
  unfolding step_of
  unfit h e = rw (le-ltb 16777216 (length d) h, e)

  pub ruled : length d ≤ 16777216 → fit (length d) s ≡ true → step_of d s ≡ step_rule d s
  unfolding step_of
  ruled h e = rw (le-ltb 16777216 (length d) h, e)
