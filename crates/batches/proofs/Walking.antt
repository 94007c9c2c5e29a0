-- `next` is the parser's step, of the words of a reading.
use Rattle.tokenizer.specs.Token.{values_of}
use Prim.Native.Nat.{ℕ}
use mathlib.Core.Path.{◌≡◌, sym, ap, ◌∙◌}
use mathlib.Core.List.{List, [], ◌++◌, append-nil}
use lib.Dec.{ltb}
use lib.ListN.{length, get_or}
use borrow.Author.Tests.{ltb-true, ltb-false}
use Rattle.text.proofs.Cases.{by_bool}
use Rattle.tokenizer.specs.Said.{said_by}
use Rattle.parser.specs.Step.{step_of}
use Rattle.parser.specs.declared.state.State.{State}
use Rattle.parser.proofs.Steps.{over}
use Rattle.parser_words.specs.ParserWords.{parser_words, parser_in}
use Rattle.parser_words.specs.Stops.{is_stop}
use Rattle.tokenizer_rows.specs.Rows.{row_of, row_by}
use Rattle.step_words.specs.Claims.{Reading, Whole}
use Rattle.step_words.specs.Stepping.{Gone}
use Rattle.step_words.proofs.Whole.{step-whole}
use Rattle.step_words.proofs.Laws.{parser-steps, step-stops, reads}
use Rattle.batches.specs.Walks.{next_of}
use Rattle.batches.specs.Claims.{NextSteps}

next-of : (d : List ℕ) (s : State) (r : List ℕ) → Whole d s
    → next_of d (parser_words s ++ r) ≡ record { said = said_by (values_of (step_of d s).answer); words = parser_words (step_of d s).state ++ r }
unfolding next_of values_of
next-of d s r h =
    by_bool (ltb 16777216 (length d))
    (λ e. rw (e, over d s (ltb-true 16777216 (length d) e)))
    (λ e.
    let l = ltb-false 16777216 (length d) e in
    let p = parser-steps d s r l h in
    rw e (by_bool (is_stop (step_of d s).answer)
    (λ k. rw k at p ∙ (λ j. record { said = sym (step-stops d s l h.fits k).0 j; words = parser_words (sym (step-stops d s l h.fits k).1 j) ++ r }))
    (λ k. rw k at p)))

pub next-steps : NextSteps
next-steps d w h =
    let s = parser_in w in
    let e : next_of d w ≡ record { said = said_by (values_of (step_of d s).answer); words = parser_words (step_of d s).state } =
    ap (next_of d) h.words ∙ rw (append-nil (parser_words s), append-nil (parser_words (step_of d s).state)) at (next-of d s [] h.whole) in
    let r = reads d (step_of d s).state (next_of d w).words (ap (λ (g : Gone). g.words) e) (step-whole d s h.whole) in
    record { said = ap (λ (g : Gone). g.said) e; state = r.0; reading = r.1 }

-- What a call of `next` in words of a reading leaves: the step's row, and words of the reading still, in which the step's
-- state stands.
pub record Called (d words words' row : List ℕ) : Type 0 where
  pub reading : Reading d words'
  pub rowed : row ≡ row_of (values_of (step_of d (parser_in words)).answer)
  pub number : get_or row 0 0 ≡ (values_of (step_of d (parser_in words)).answer).number
  pub stepped : parser_in words' ≡ (step_of d (parser_in words)).state

pub called : (d words : List ℕ) {words' row : List ℕ} → Reading d words → words' ≡ (next_of d words).words → row ≡ row_by (next_of d words).said
    → Called d words words' row
called d words r w e =
    let s = next-steps d words r in
    let rowed = e ∙ ap row_by s.said in
    record { reading = rw w s.reading; rowed = rowed; number = ap (λ x. get_or x 0 0) rowed; stepped = ap parser_in w ∙ s.state }
