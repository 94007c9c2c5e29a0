-- The states of a reading: they keep their slots, their sections and their fitness; and their words are as many as there are.
use Rattle.parser_words.proofs.Slotted.{step-having}
use Rattle.parser_words.specs.Claims.{KeepsNone}
use Prim.Native.Nat.{ℕ, ◌+◌, ◌≤◌}
use mathlib.Core.Path.{◌≡◌, refl, sym, ap, ◌∙◌}
use mathlib.Core.List.{List, ◌++◌}
use mathlib.Core.Bool.{true}
use lib.Dec.{ltb}
use lib.ListN.{length, drop, length-append}
use lib.Seq.{drop_at}
use borrow.Author.Tests.{le-leb, ltb-false}
use native.Mathlib.Omega.{arith}
use Rattle.text.proofs.Cases.{on-cond}
use Rattle.tokenizer.specs.Step.{fit_open, fit, fresh as fresh_tokenizer}
use Rattle.tokenizer.specs.declared.state.State.{State as Tokenizer}
use Rattle.tokenizer.proofs.Kept.{step-fit}
use Rattle.parser_rules.specs.declared.ruling.Kept.{Kept}
use Rattle.parser_rules.specs.declared.ruling.Kept.TheVariants as kept
use Rattle.parser_rules.specs.declared.ruling.Ruling.{Ruling}
use Rattle.parser_rules.specs.declared.ruling.Ruling.TheVariants.{Says, End, Unfit}
use Rattle.parser.specs.Step.{after_verdict, on_ruling, step_with, step_kept, step_of, fresh}
use Rattle.parser.specs.declared.state.State.{State}
use Rattle.tokenizer_words.specs.Words.{state_in}
use Rattle.tokenizer_words.proofs.Slots.{words-137}
use Rattle.parser_words.specs.ParserWords.{parser_words, parser_in}
use Rattle.parser_words.proofs.Sections.{section-words-length, middle-11}
use Rattle.parser_words.proofs.Back.{parser-back}
use Rattle.tokenizer_words.proofs.Slotted.{step-slots}
use Rattle.step_words.specs.Claims.{Whole}
use Rattle.tokenizer.specs.declared.state.Step.{Step}

module _ (d : List ℕ) (s : State) (h : Whole d s) where
  ruled-fit : (r : Ruling) (t : Tokenizer) → fit (length d) t ≡ true → fit (length d) (on_ruling r s t).state.tokenizer ≡ true
  unfolding after_verdict
  ruled-fit (Says x) t f = f
  ruled-fit End t f = h.fits
  ruled-fit Unfit t f = h.fits

  kept-fit : length d ≤ 16777216 → (k : Kept) → fit (length d) (step_kept d s k).state.tokenizer ≡ true
  unfolding step_kept step_with
  kept-fit l kept.Nothing = ruled-fit _ _ (step-fit d s.tokenizer l h.fits)
  kept-fit l kept.End = ruled-fit _ s.tokenizer h.fits
  kept-fit l (kept.Token x) = ruled-fit _ s.tokenizer h.fits

  step-fits : fit (length d) (step_of d s).state.tokenizer ≡ true
  unfolding step_of
  step-fits =
      let F : Step State → Type 0 = λ x. fit (length d) x.state.tokenizer ≡ true in
      on-cond F (ltb 16777216 (length d)) (λ e. h.fits)
      (λ e. on-cond F (fit (length d) s.tokenizer)
      (λ f. on-cond F s.refused (λ r. h.fits) (λ r. kept-fit (ltb-false 16777216 (length d) e) s.kept))
      (λ f. h.fits))

  pub step-whole : Whole d (step_of d s).state
  step-whole =
      let k = step-having d (λ t. length t.indents ≡ 64) (λ t e. step-slots d t ∙ e) s (h.slots, (h.sections, h.keeps)) in
      record { slots = k.0; sections = k.1.0; keeps = k.1.1; fits = step-fits }

pub fresh-whole : (d : List ℕ) → Whole d fresh
unfolding fresh fresh_tokenizer fit fit_open
fresh-whole d = record { slots = refl; sections = refl; keeps = tt; fits = rw (le-leb 0 (length d) (omega arith)) }

pub words-278 : (s : State) → length s.tokenizer.indents ≡ 64 → length s.sections ≡ 65 → length (parser_words s) ≡ 278
unfolding parser_words
words-278 s e f = rw (length-append, length-append, words-137 s.tokenizer e, middle-11 s, section-words-length s.sections, f)

-- words in which a state stands
module _ (s : State) (e : length s.tokenizer.indents ≡ 64) (f : length s.sections ≡ 65) (n : KeepsNone s.kept) (r v : List ℕ) (q : v ≡ parser_words s ++ r) where
  pub stood-state : parser_in v ≡ s
  stood-state = ap parser_in q ∙ parser-back s r e f n

  pub stood-tokenizer : state_in v ≡ s.tokenizer
  unfolding parser_in
  stood-tokenizer = ap (λ (x : State). x.tokenizer) stood-state

  pub stood-rest : drop 278 v ≡ r
  stood-rest = ap (drop 278) q ∙ drop_at (parser_words s) r 278 (words-278 s e f)

  pub stood-words : v ≡ parser_words (parser_in v) ++ drop 278 v
  stood-words = q ∙ sym (λ j. parser_words (stood-state j) ++ stood-rest j)

  pub stood-length : length v ≡ 278 + length r
  stood-length = rw (q, length-append, words-278 s e f)
