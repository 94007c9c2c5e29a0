-- The step by the code's own branches: over the limit, unfit, refused before, and else by what was kept.
use Rattle.std.specs.Prelude.{None}
use Prim.Native.Nat.{ℕ, ◌≤◌, ◌<◌}
use mathlib.Core.Path.{◌≡◌}
use mathlib.Core.List.{List}
use mathlib.Core.Bool.{true, false}
use lib.ListN.{length}
use borrow.Author.Tests.{lt-ltb, le-ltb}
use Rattle.tokenizer.specs.Step.{fit}
use Rattle.parser.specs.Step.{refusal, step_kept, step_of}
use Rattle.parser.specs.declared.state.State.{State}
use Rattle.text.specs.declared.refusals.Refusal.TheVariants.{TooLong, UnfitState}

module _ (d : List ℕ) (s : State) where
  pub over : 16777216 < length d → step_of d s ≡ refusal TooLong s
  unfolding step_of
  over h = rw (lt-ltb 16777216 (length d) h)

  pub unfit : length d ≤ 16777216 → fit (length d) s.tokenizer ≡ false → step_of d s ≡ refusal UnfitState s
  unfolding step_of
  unfit h e = rw (le-ltb 16777216 (length d) h, e)

  pub ended : length d ≤ 16777216 → fit (length d) s.tokenizer ≡ true → s.refused ≡ true
      → step_of d s ≡ record { answer = None; state = s }
  unfolding step_of
  ended h e r = simp (le-ltb 16777216 (length d) h, e, r)

  pub goes_on : length d ≤ 16777216 → fit (length d) s.tokenizer ≡ true → s.refused ≡ false → step_of d s ≡ step_kept d s s.kept
  unfolding step_of
  goes_on h e r = simp (le-ltb 16777216 (length d) h, e, r)
