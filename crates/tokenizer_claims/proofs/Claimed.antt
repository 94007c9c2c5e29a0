-- Claims 1 and 2 for the tokenizer, proved: the general facts of Readings, for the steps of sound states.
use Rattle.std.specs.Prelude.{Some, None, Ok, Err}
use Rattle.tokenizer.specs.Token.{Answer}
use Prim.Native.Nat.{ℕ, ◌*◌, ◌≤◌, ◌<◌}
use mathlib.Core.Path.{◌≡◌, subst}
use mathlib.Core.List.{List}
use mathlib.Core.Bool.{false}
use native.Mathlib.Omega.{arith}
use lib.Dec.{ltb}
use lib.ListN.{length}
use borrow.Author.Tests.{ltb-true, ltb-false, lt-ltb, le-ltb}
use Rattle.text.proofs.Cases.{by_bool}
use Rattle.tokenizer.specs.Step.{step_with, step_rule, step_of, fresh}
use Rattle.tokenizer.specs.Lists.{is_end, Reads, TokenList, over, read, run, tokens}
use Rattle.tokenizer.specs.declared.state.State.{State}
use Rattle.tokenizer_claims.specs.Claims.{Ends, Lists, Fits, Fit}
use Rattle.tokenizer_claims.proofs.Sound.{plan_of, step-bounded, Sound, fresh-sound, step-sound, after-sound}
use Rattle.tokenizer_claims.proofs.Weight.{weight, plan-turns}
use Rattle.tokenizer_claims.proofs.Answers.{Vouched, plan-vouches}
use Rattle.tokenizer_claims.proofs.Readings.{reads_end, reads-one, last-kept, all-kept, length-le, run-reads}

vouched-fits : (d : List ℕ) (s : State) (a : Answer) → Vouched d s a → is_end a ≡ false → Fits d a
unfolding is_end
vouched-fits d s None v e = absurd cc
vouched-fits d s (Some (Ok t)) v e = v
vouched-fits d s (Some (Err x)) v e = v

module _ (d : List ℕ) (l : length d ≤ 16777216) where
  pub sound-kept : (s : State) → Sound d s → Sound d (step_of d s).state
  unfolding step_rule step_with
  sound-kept s o = rw (step-sound d s l o) (after-sound d s (plan_of d s) o (step-bounded d s))

  sound-falls : (s : State) → Sound d s → is_end (step_of d s).answer ≡ false → weight d (step_of d s).state < weight d s
  unfolding step_rule step_with
  sound-falls s o e = rw (step-sound d s l o) ((plan-turns d s o).falls (rw (step-sound d s l o) at e))

  pub sound-vouches : (s : State) → Sound d s → Vouched d s (step_of d s).answer
  unfolding step_rule step_with
  sound-vouches s o = rw (step-sound d s l o) (plan-vouches d s o)

  tokens-run : tokens d ≡ run (2 * length d) d fresh
  unfolding tokens
  tokens-run = rw (le-ltb 16777216 (length d) l)

  fresh-weight : weight d fresh ≤ 2 * length d
  unfolding weight fresh
  fresh-weight = omega arith

  tokens-read : (u : State) × Reads d fresh (tokens d) u
  tokens-read = rw tokens-run (run-reads sound-kept (weight d) sound-falls (2 * length d) fresh (fresh-sound d) fresh-weight)

pub ends : Ends
ends d l =
    let r = (tokens-read d l).1 in
    let last = subst (Vouched d (tokens-read d l).0) (reads_end r) (sound-vouches d l _ (last-kept (sound-kept d l) r (fresh-sound d))) in
    record {
      last = (tokens-read d l).0;
      reads = r;
      bound = omega (arith, length-le (sound-kept d l) (weight d) (sound-falls d l) r (fresh-sound d), fresh-weight d l);
      only_blanks = last.0;
      closed = last.1;
    }

pub lists : Lists
unfolding tokens
lists d = record {
  exists =
      by_bool (ltb 16777216 (length d))
      (λ e. rw e (over (ltb-true 16777216 (length d) e)))
      (λ e. let l = ltb-false 16777216 (length d) e in read l (tokens-read d l).1);
  unique = one;
}
  where
    one : (l : List Answer) → TokenList d l → l ≡ tokens d
    one l (over h) = rw (lt-ltb 16777216 (length d) h)
    one l (read h r) = reads-one r (tokens-read d h).1

pub fit : Fit
fit d l =
    all-kept (sound-kept d l) (Fits d) (λ s o. vouched-fits d s (step_of d s).answer (sound-vouches d l s o))
    (tokens-read d l).1 (fresh-sound d)
