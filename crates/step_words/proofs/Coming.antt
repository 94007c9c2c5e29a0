-- What comes: the words say what was kept, or the tokenizer's next; and it leads to the tokenizer's state after it.
use Rattle.parser_words.specs.Claims.{KeepsNone}
use Prim.Native.Nat.{ℕ, zero, suc, ◌+◌, ◌*◌, ◌≤◌}
use mathlib.Core.Path.{◌≡◌, refl, sym, ap, ◌∙◌}
use mathlib.Core.List.{List, ◌++◌}
use mathlib.Core.Bool.{true}
use native.Mathlib.Omega.{arith}
use lib.Dec.{ltb}
use lib.ListN.{length, drop, get_or}
use lib.Seq.{get_or-drop}
use borrow.Author.Tests.{ltb-true}
use Rattle.text.proofs.Cases.{by_bool}
use Rattle.tokenizer.specs.Token.{bare, token_values, Values, values_of}
use Rattle.tokenizer.specs.Step.{no_part, fit}
use Rattle.tokenizer.specs.Said.{said_by}
use Rattle.tokenizer.specs.Front.{front_of, ahead_of}
use Rattle.tokenizer.specs.declared.said.Said.{Said}
use Rattle.tokenizer.specs.declared.front.Advanced.{Advanced}
use Rattle.tokenizer_rules.specs.declared.plan.Change.TheVariants as moves
use Rattle.tokenizer.proofs.Fitness.{fitness}
use Rattle.tokenizer.proofs.Kept.{step-fit}
use Rattle.tokenizer.proofs.Advancing.{step-said}
use Rattle.parser_rules.specs.Judging.{sort_number, opened_line}
use Rattle.parser_rules.specs.declared.ruling.Kept.{Kept}
use Rattle.parser_rules.specs.declared.ruling.Kept.TheVariants as kept
use Rattle.parser.specs.Step.{no_sort, innermost_of, came_of}
use Rattle.parser_rules.specs.declared.ruling.Section.{Section}
use Rattle.tokenizer_words.specs.Words.{words_of, state_in}
use Rattle.tokenizer_words.proofs.Standing.{slots-64}
use Rattle.tokenizer_words.proofs.Slotted.{step-slots}
use Rattle.parser_words.specs.ParserWords.{section_words, said_of}
use Rattle.tokenizer_rows.specs.Rows.{row_by}
use Rattle.front_words.specs.Fronts.{committed}
use Rattle.step_words.specs.Stepping.{kept_number, came_in, innermost_in, sort_at, opened_at}
use Rattle.step_words.specs.declared.step.Layer.TheVariants.{Parser}
use Rattle.front_words.proofs.Fronts.{stepped, step-committed}
use Rattle.parser_words.proofs.Sections.{section-at}
use Rattle.parser_words.proofs.Back.{not-0, not-11}

-- the innermost section's sort, by number, and its line
module _ (l : List Section) (w r : List ℕ) (e : drop 148 w ≡ section_words l ++ r) (f : length l ≡ 65) where
  at-148 : (i : ℕ) → get_or w (148 + i) 0 ≡ get_or (section_words l ++ r) i 0
  at-148 i = sym (get_or-drop 148 w i 0) ∙ ap (λ x. get_or x i 0) e

  pub sort-is : (n : ℕ) → sort_at n w ≡ sort_number (innermost_of l n)
  unfolding innermost_in innermost_of
  sort-is zero = refl
  sort-is (suc k) =
      by_bool (ltb k 65)
      (λ q.
      let h = ltb-true k 65 q in
      rw q (at-148 (2 * k) ∙ (section-at l r k no_sort (omega arith)).0))
      (λ q. rw q)

  pub opened-is : (n : ℕ) → opened_at n w ≡ opened_line (innermost_of l n)
  unfolding innermost_in innermost_of
  opened-is zero = refl
  opened-is (suc k) =
      by_bool (ltb k 65)
      (λ q.
      let h = ltb-true k 65 q in
      let i : 149 + 2 * k ≡ 148 + (2 * k + 1) = omega arith in
      rw (q, i) (at-148 (2 * k + 1) ∙ (section-at l r k no_sort (omega arith)).1))
      (λ q. rw q)

-- what was kept leaves the tokenizer's state as it is
stays : (w : List ℕ) (s : Said) → 137 ≤ length w → get_or w 8 0 ≤ 64
    → committed (record { said = s; front = front_of (state_in w); change = moves.Keep; indent = no_part }) w ≡ words_of (state_in w) ++ drop 137 w
unfolding committed state_in
stays w s h k = stepped w moves.Keep no_part (get_or w 8 0) (front_of (state_in w)) (state_in w) h refl k refl

-- values that carry no line
bare-row : (v : Values) → v.opened ≡ 0
    → record { number = v.number; line = v.line; start = v.start; end = v.end; from = v.from; to = v.to; opened = 0 } ≡ v
bare-row v e =
    ap (λ o. record { number = v.number; line = v.line; start = v.start; end = v.end; from = v.from; to = v.to; opened = o }) (sym e)

module _ (d w : List ℕ) (l : length d ≤ 16777216) (h : 137 ≤ length w) (f : fit (length d) (state_in w) ≡ true) where
  depth-64 : get_or w 8 0 ≤ 64
  unfolding state_in
  depth-64 = (fitness (length d) (state_in w) f).depth

  -- what comes says what came, and leads to the tokenizer's state after it
  pub record Comes (k : Kept) : Type 0 where
    pub said : (came_in Parser d w).said ≡ said_by (values_of (came_of d (state_in w) k).answer)
    pub words : committed (came_in Parser d w) w ≡ words_of (came_of d (state_in w) k).state ++ drop 137 w
    pub slots : length (came_of d (state_in w) k).state.indents ≡ 64
    pub fits : fit (length d) (came_of d (state_in w) k).state ≡ true

  module _ (x : List ℕ) where
    word : (y : List ℕ) (i : ℕ) → drop 140 w ≡ y → get_or w (140 + i) 0 ≡ get_or y i 0
    word y i e = sym (get_or-drop 140 w i 0) ∙ ap (λ z. get_or z i 0) e

    pub comes : (k : Kept) → KeepsNone k → drop 140 w ≡ row_by (said_of k) ++ x → Comes k
    unfolding values_of
    comes kept.Nothing n e =
        let q : came_in Parser d w ≡ ahead_of d (state_in w) = unfold came_in kept_number in rw (word _ 0 e) in
        record {
          said = ap (λ (m : Advanced). m.said) q ∙ step-said d (state_in w) l f;
          words = ap (λ m. committed m w) q ∙ step-committed d w l h f;
          slots = step-slots d (state_in w) ∙ slots-64 w;
          fits = step-fit d (state_in w) l f;
        }
    comes kept.End n e =
        let q : came_in Parser d w ≡ record { said = said_by (bare 0 0); front = front_of (state_in w); change = moves.Keep; indent = no_part } = unfold came_in kept_number in rw (word _ 0 e) in
        record {
          said = ap (λ (m : Advanced). m.said) q;
          words = ap (λ m. committed m w) q ∙ stays w _ h depth-64;
          slots = slots-64 w;
          fits = f;
        }
    comes (kept.Token t) n e =
        let q : came_in Parser d w ≡ record { said = said_by (token_values t); front = front_of (state_in w); change = moves.Keep; indent = no_part } =
        unfold came_in kept_number in rw (word _ 0 e, not-0 t, not-11 t, e)
        (ap (λ v. record { said = said_by v; front = front_of (state_in w); change = moves.Keep; indent = no_part }) (bare-row (token_values t) n)) in
        record {
          said = ap (λ (m : Advanced). m.said) q;
          words = ap (λ m. committed m w) q ∙ stays w _ h depth-64;
          slots = slots-64 w;
          fits = f;
        }
