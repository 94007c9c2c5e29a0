-- One step in place is the parser's step.
use Rattle.std.specs.Prelude.{Some, None, Ok, Err}
use Rattle.tokenizer.specs.Token.{Answer as Came, Answer, token_values, values_of}
use Rattle.text.specs.Numbers.{number_of}
use Prim.Native.Nat.{ℕ, ◌+◌, ◌≤◌}
use mathlib.Core.Path.{◌≡◌, refl, sym, ap, subst, ◌∙◌}
use mathlib.Core.List.{List, ◌++◌}
use mathlib.Core.Bool.{true, false}
use native.Mathlib.Omega.{arith}
use lib.Dec.{eqb}
use lib.ListN.{length, drop, get_or}
use borrow.Author.Tests.{eq-eqb, ne_eqb, eqb-true}
use Rattle.text.proofs.Cases.{by_bool, clash}
use Rattle.tokenizer.specs.Step.{fit}
use Rattle.tokenizer.specs.Said.{said_by}
use Rattle.tokenizer.specs.declared.state.State.{State as Tokenizer}
use Rattle.parser_rules.specs.Ruling.{ruling_of}
use Rattle.parser_rules.specs.Numbers.{awaited_number, awaited_line}
use Rattle.parser_rules.specs.Judging.{sort_number, opened_line, judged_by}
use Rattle.parser_rules.specs.declared.ruling.Ruling.{Ruling}
use Rattle.parser_rules.specs.declared.ruling.Ruling.TheVariants.{Says, End, Unfit}
use Rattle.parser.specs.Step.{innermost_of, full_of, on_ruling, step_with, came_of, step_kept, step_of}
use Rattle.parser.specs.declared.state.State.{State}
use Rattle.parser.proofs.Sections.{Asks, asks-no-more}
use Rattle.parser.proofs.Steps.{goes_on}
use Rattle.tokenizer_rows.proofs.Back.{kinds}
use Rattle.tokenizer_words.specs.Words.{words_of, state_in}
use Rattle.tokenizer_words.proofs.Standing.{slots-64}
use Rattle.parser_words.specs.ParserWords.{middle_words, parser_words, parser_in}
use Rattle.parser_words.specs.Stops.{is_stop}
use Rattle.front_words.specs.Fronts.{committed}
use Rattle.step_words.specs.Outcomes.{outcome_by, outcome_in}
use Rattle.step_words.specs.Stepping.{came_in, sort_at, opened_at, judged_in, outcome_for, stops_at}
use Rattle.step_words.specs.declared.step.Layer.TheVariants.{Parser}
use Rattle.step_words.specs.declared.outcome.Outcome.{Outcome}
use Rattle.parser_words.proofs.Sections.{sections-length}
use Rattle.parser_words.proofs.Back.{all_words, behind-137, number_at, line_at, kept_at, sections-at, reads-none}
use Rattle.step_words.proofs.Agreeing.{Leaves, agrees}
use Rattle.step_words.proofs.Putting.{moved, put_is}
use Rattle.step_words.proofs.Coming.{sort-is, opened-is, Comes, comes}

-- the answers that stop, by their numbers
pub stop_is : (a : Answer) → stops_at (values_of a).number ≡ is_stop a
unfolding values_of is_stop stops_at
stop_is None = refl
stop_is (Some (Ok t)) =
    let k = kinds t in
    rw (ne_eqb (token_values t).number 0 (λ e. omega (arith, k.0)), ne_eqb (token_values t).number 271 (λ e. omega (arith, k.1)))
stop_is (Some (Err e)) =
    let n = number_of e.refusal in
    rw (ne_eqb (256 + n) 0 (λ e. omega arith))
    (by_bool (eqb n 15)
    (λ e. let k : n ≡ 15 = eqb-true n 15 e in rw k)
    (λ e. rw (e, ne_eqb (256 + n) 271 (λ q. let k : n ≡ 15 = omega arith in clash (sym (eq-eqb n 15 k) ∙ e)))))

-- what a ruling says, and leaves
module _ (s : State) (t : Tokenizer) where
  answer-of : (r : Ruling) (o : Outcome) → Leaves o r → o.answer ≡ said_by (values_of (on_ruling r s t).answer)
  unfolding values_of
  answer-of (Says x) o h = h.0
  answer-of End o h = h
  answer-of Unfit o h = h

  words-of : (w : List ℕ) (r : Ruling) (o : Outcome) → length t.indents ≡ 64 → length s.sections ≡ 65 → Leaves o r → Asks s.count r
      → is_stop (on_ruling r s t).answer ≡ false → outcome_in o s.count (parser_words (moved s t) ++ w) ≡ parser_words (on_ruling r s t).state ++ w
  unfolding is_stop
  words-of w (Says x) o i k h a e = put_is s t w i k o x h.1.0 h.1.1 a
  words-of w End o i k h a e = absurd (let z : ◌≡◌ {A = ℕ} 0 1 = cc in omega arith)
  words-of w Unfit o i k h a e = absurd (let z : ◌≡◌ {A = ℕ} 0 1 = cc in omega arith)

-- what came of the state in words, and the tokenizer's state after it
abbrev came_for : List ℕ → List ℕ → Came
came_for d w = (came_of d (state_in w) (parser_in w).kept).answer

abbrev next_for : List ℕ → List ℕ → Tokenizer
next_for d w = (came_of d (state_in w) (parser_in w).kept).state

abbrev ruled_for : List ℕ → List ℕ → Ruling
ruled_for d w = let s = parser_in w in ruling_of s.awaited (innermost_of s.sections s.count) (full_of s.count) (came_for d w)

pub sections-65 : (w : List ℕ) → length (parser_in w).sections ≡ 65
unfolding parser_in
sections-65 w = sections-length 65 (drop 148 w)

pub slots-in : (w : List ℕ) → length (parser_in w).tokenizer.indents ≡ 64
unfolding parser_in
slots-in w = slots-64 w

module _ (d w : List ℕ) (l : length d ≤ 16777216) (h : 278 ≤ length w) (e : w ≡ parser_words (parser_in w) ++ drop 278 w)
    (f : fit (length d) (state_in w) ≡ true) where
  came : Comes d w l (omega arith) f (parser_in w).kept
  unfolding parser_in
  came = comes d w l (omega arith) f _ (parser_in w).kept (reads-none w) (ap (drop 140) e ∙ kept_at (parser_in w) (drop 278 w) (slots-in w))

  leaves : Leaves (outcome_for (came_in Parser d w).said w) (ruled_for d w)
  unfolding parser_in judged_in
  leaves =
      let s = parser_in w in
      let p : (came_in Parser d w).said ≡ said_by (values_of (came_for d w)) = came.said in
      let na : get_or w 138 0 ≡ awaited_number s.awaited = ap (λ x. get_or x 138 0) e ∙ number_at s (drop 278 w) (slots-in w) in
      let la : get_or w 139 0 ≡ awaited_line s.awaited = ap (λ x. get_or x 139 0) e ∙ line_at s (drop 278 w) (slots-in w) in
      let sections = ap (drop 148) e ∙ sections-at s (drop 278 w) (slots-in w) in
      let so : sort_at (get_or w 147 0) w ≡ sort_number (innermost_of s.sections s.count) =
      sort-is s.sections w (drop 278 w) sections (sections-65 w) s.count in
      let op : opened_at (get_or w 147 0) w ≡ opened_line (innermost_of s.sections s.count) =
      opened-is s.sections w (drop 278 w) sections (sections-65 w) s.count in
      subst (λ o. Leaves o (ruled_for d w))
      (sym (λ j. outcome_by (judged_by (p j).number (na j) (so j) (full_of s.count)) (p j) (na j) (la j) (op j)))
      (agrees s.awaited (innermost_of s.sections s.count) (full_of s.count) (came_for d w))

  asks : Asks (parser_in w).count (ruled_for d w)
  asks = asks-no-more (parser_in w).sections (parser_in w).count (parser_in w).awaited (came_for d w)

  -- the words with the tokenizer's next
  pub between : committed (came_in Parser d w) w ≡ parser_words (moved (parser_in w) (next_for d w)) ++ drop 278 w
  unfolding parser_in middle_words
  between =
      came.words
      ∙ ap (λ x. words_of (next_for d w) ++ x) (ap (drop 137) e ∙ behind-137 (parser_in w) (drop 278 w) (slots-in w))
      ∙ sym (all_words (moved (parser_in w) (next_for d w)) (drop 278 w) came.slots)

  module _ (r : (parser_in w).refused ≡ false) where
    step_is : step_of d (parser_in w) ≡ on_ruling (ruled_for d w) (parser_in w) (next_for d w)
    unfolding parser_in step_kept step_with
    step_is = goes_on d (parser_in w) l f r

    pub answer-is : (outcome_for (came_in Parser d w).said w).answer ≡ said_by (values_of (step_of d (parser_in w)).answer)
    answer-is = rw step_is (answer-of (parser_in w) (next_for d w) (ruled_for d w) _ leaves)

    pub words_are : is_stop (step_of d (parser_in w)).answer ≡ false
        → outcome_in (outcome_for (came_in Parser d w).said w) (get_or w 147 0) (committed (came_in Parser d w) w) ≡ parser_words (step_of d (parser_in w)).state ++ drop 278 w
    unfolding parser_in
    words_are g =
        rw (between, step_is)
        (words-of (parser_in w) (next_for d w) (drop 278 w) (ruled_for d w) _ came.slots (sections-65 w) leaves asks (rw step_is at g))
