-- THE LAW. Of the words of a fit state, the step in words is the tokenizer's step, or the parser's.
use Rattle.text.specs.Numbers.{number_of}
use Rattle.std.specs.Prelude.{Some, None, Ok, Err}
use Rattle.tokenizer.specs.Token.{Answer as Came, bare, values_of}
use Prim.Native.Nat.{ℕ, ◌≤◌}
use mathlib.Core.Path.{◌≡◌, refl, sym, ap, subst, ◌∙◌}
use mathlib.Core.List.{List, [], ◌++◌, append-nil}
use mathlib.Core.Bool.{true, cond, or-false}
use native.Mathlib.Omega.{arith}
use lib.Dec.{eqb}
use lib.ListN.{length, drop}
use lib.Seq.{drop-length}
use borrow.Author.Tests.{ne_eqb, eqb-true, le-leb}
use Rattle.text.proofs.Cases.{by_bool, on-cond, clash}
use Rattle.tokenizer.specs.Step.{fit, step_of as token_step}
use Rattle.tokenizer.specs.Said.{said_by}
use Rattle.tokenizer.specs.Lists.{is_end}
use Rattle.tokenizer.specs.declared.state.State.{State as Tokenizer}
use Rattle.tokenizer.proofs.Valued.{end-number}
use Rattle.tokenizer.proofs.Advancing.{step-said, step-number}
use Rattle.parser_rules.specs.Ruling.{ruling_of}
use Rattle.parser_rules.specs.declared.ruling.Kept.{Kept}
use Rattle.parser_rules.specs.declared.ruling.Kept.TheVariants as kept
use Rattle.parser_rules.specs.declared.ruling.Ruling.{Ruling}
use Rattle.parser_rules.specs.declared.ruling.Ruling.TheVariants.{Says, End, Unfit}
use Rattle.parser.specs.Step.{innermost_of, full_of, on_ruling, step_with, came_of, step_kept, step_of, fresh}
use Rattle.parser.specs.declared.state.State.{State}
use Rattle.parser.proofs.Steps.{ended, goes_on}
use Rattle.tokenizer_words.specs.Words.{state_in}
use Rattle.parser_words.specs.ParserWords.{parser_words, parser_in, fresh_parser_in}
use Rattle.parser_words.specs.Stops.{is_stop}
use Rattle.step_words.specs.Stepping.{refused_in, kept_number, came_in, outcome_for, stops_at, Gone, stays, step_in}
use Rattle.step_words.specs.Claims.{Whole, Reading, FreshReads, TokenizerSteps, ParserSteps}
use Rattle.step_words.specs.declared.outcome.Outcome.{Outcome}
use Rattle.step_words.specs.declared.step.Layer.TheVariants.{Parser as Parses}
use Rattle.front_words.proofs.Fronts.{step-committed}
use Rattle.step_words.proofs.Rulings.{GoesOn, Fair, ruling-goes-on}
use Rattle.step_words.proofs.Going.{stop_is, answer-is, words_are}
use Rattle.step_words.proofs.Branches.{gone_is}
use Rattle.step_words.proofs.Whole.{fresh-whole, stood-state, stood-tokenizer, stood-rest, stood-words, stood-length}
use Rattle.tokenizer.specs.declared.state.Step.{Step}

-- the tokenizer's: it never says 15, and End by its number 0
pub tokenizer-steps : TokenizerSteps
unfolding step_in refused_in came_in kept_number stops_at
tokenizer-steps d w l h f =
    let t = token_step d (state_in w) in
    let v = values_of t.answer in
    let n : eqb v.number 0 ≡ is_end t.answer = end-number t.answer in
    let k : v.number ≤ 259 = step-number d (state_in w) l f in
    let q : stops_at v.number ≡ eqb v.number 0 = rw (ne_eqb v.number 271 (λ e. omega arith)) (or-false _) in
    let g = gone_is w (is_end t.answer) (step-said d (state_in w) l f) (q ∙ n) (λ _. step-committed d w l h f) in
    by_bool (is_end t.answer)
    (λ e. rw e (rw e at g ∙ ap (λ x. stays x w) (eqb-true v.number 0 (n ∙ e))))
    (λ e. rw e (rw e at g))

-- the parser's
module _ (d w : List ℕ) (l : length d ≤ 16777216) (h : 278 ≤ length w) (e : w ≡ parser_words (parser_in w) ++ drop 278 w)
    (f : fit (length d) (state_in w) ≡ true) where
  abbrev t : Step State
  t = step_of d (parser_in w)

  abbrev o : Outcome
  o = outcome_for (came_in Parses d w).said w

  -- g is the parser's step
  abbrev Steps : Gone → Type 0
  Steps g =
      g ≡ cond (is_stop t.answer) (stays (values_of t.answer).number w)
      (record { said = said_by (values_of t.answer); words = parser_words t.state ++ drop 278 w })

  at-end : (parser_in w).refused ≡ true → Steps (stays 0 w)
  unfolding parser_in is_stop values_of
  at-end r = rw (ended d (parser_in w) l f r)

  parser-step : Steps (step_in Parses d w)
  unfolding step_in refused_in parser_in
  parser-step =
      on-cond Steps (refused_in Parses w) at-end
      (λ r. gone_is w (is_stop t.answer) (answer-is d w l h e f r) (stop_is t.answer) (words_are d w l h e f r))

pub parser-steps : ParserSteps
parser-steps d s r l p =
    let w = parser_words s ++ r in
    let e = stood-words s p.slots p.sections p.keeps r w refl in
    let f : fit (length d) (state_in w) ≡ true = rw (stood-tokenizer s p.slots p.sections p.keeps r w refl) p.fits in
    let q = parser-step d w l (omega (arith, stood-length s p.slots p.sections p.keeps r w refl)) e f in
    rw (stood-state s p.slots p.sections p.keeps r w refl, stood-rest s p.slots p.sections p.keeps r w refl) at q

-- a stop is of no line, and the state stays
abbrev Stopped : State → Step State → Type 0
Stopped s x = (said_by (values_of x.answer) ≡ said_by (bare (values_of x.answer).number 0)) × (x.state ≡ s)

fair : (c : Came) → (values_of c).number ≤ 259 → Fair c
unfolding values_of
fair None h = tt
fair (Some (Ok t)) h = tt
fair (Some (Err x)) h = ne_eqb (number_of x.refusal) 15 (λ e. omega arith)

module _ (d : List ℕ) (s : State) where
  ruled-stops : (r : Ruling) (t : Tokenizer) → GoesOn r → is_stop (on_ruling r s t).answer ≡ true → Stopped s (on_ruling r s t)
  unfolding values_of
  ruled-stops (Says x) t g e = absurd (clash (sym e ∙ g))
  ruled-stops End t g e = (refl, refl)
  ruled-stops Unfit t g e = (refl, refl)

  module _ (l : length d ≤ 16777216) (f : fit (length d) s.tokenizer ≡ true) where
    fair-came : (k : Kept) → Fair (came_of d s.tokenizer k).answer
    fair-came kept.Nothing = fair (token_step d s.tokenizer).answer (step-number d s.tokenizer l f)
    fair-came kept.End = tt
    fair-came (kept.Token t) = tt

    kept-stops : is_stop (step_kept d s s.kept).answer ≡ true → Stopped s (step_kept d s s.kept)
    unfolding step_kept step_with
    kept-stops e =
        let c = (came_of d s.tokenizer s.kept).answer in
        let i = innermost_of s.sections s.count in
        ruled-stops (ruling_of s.awaited i (full_of s.count) c) _ (ruling-goes-on s.awaited i (full_of s.count) c (fair-came s.kept)) e

    pub step-stops : is_stop (step_of d s).answer ≡ true → Stopped s (step_of d s)
    unfolding values_of
    step-stops e =
        by_bool s.refused
        (λ r. subst (Stopped s) (sym (ended d s l f r)) (refl, refl))
        (λ r. let q = goes_on d s l f r in subst (Stopped s) (sym q) (kept-stops (rw q at e)))

-- the words of a state are those of a reading
pub reads : (d : List ℕ) (s : State) (w : List ℕ) → w ≡ parser_words s → Whole d s → (parser_in w ≡ s) × Reading d w
reads d s w e h =
    let b = stood-state s h.slots h.sections h.keeps [] w (e ∙ sym (append-nil (parser_words s))) in
    (b, record { words = rw b e; whole = rw b h })

pub fresh-reads : FreshReads
unfolding fresh_parser_in
fresh-reads d w h =
    let z : drop 278 w ≡ [] = subst (λ n. drop n w ≡ []) h (drop-length w) in
    let e : fresh_parser_in w ≡ parser_words fresh = rw (le-leb 278 (length w) (omega (arith, h)), z, append-nil) in
    reads d fresh (fresh_parser_in w) e (fresh-whole d)
