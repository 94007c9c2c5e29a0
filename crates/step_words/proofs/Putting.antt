-- What a judgement leaves, written into the words: the words of the state after the verdict.
use Prim.Native.Nat.{ℕ, zero, suc, ◌+◌, ◌*◌, ◌-◌, ◌<◌}
use mathlib.Core.Path.{◌≡◌, refl, sym, ap, ◌∙◌}
use mathlib.Core.List.{List, [], ◌∷◌, ◌++◌, append_assoc}
use native.Mathlib.Nat.{zero-add}
use native.Mathlib.Omega.{arith}
use lib.ListN.{length, drop, get_or, set, length-append}
use lib.Seq.{drop_at}
use Rattle.tokenizer.specs.declared.state.State.{State as Tokenizer}
use Rattle.std.specs.Prelude.{Option, Some}
use Rattle.parser_rules.specs.Numbers.{number_of_sort}
use Rattle.parser_rules.specs.declared.ruling.Sort.{Sort}
use Rattle.parser_rules.specs.declared.ruling.Change.{Change}
use Rattle.parser_rules.specs.declared.ruling.Change.TheVariants.{Keep, Fix, Open, Close}
use Rattle.parser_rules.specs.declared.ruling.Verdict.{Verdict}
use Rattle.parser.specs.Step.{no_sort, unsorted, ChangeFits, sections_after, count_after, after_verdict}
use Rattle.parser_rules.specs.declared.ruling.Section.{Section}
use Rattle.parser.specs.declared.state.State.{State}
use Rattle.tokenizer_words.specs.Words.{pasted_in, words_of}
use Rattle.tokenizer_words.proofs.Pasting.{pasted-room, pasted-front}
use Rattle.tokenizer_words.proofs.Slots.{words-137}
use Rattle.tokenizer_words.proofs.Standing.{pasted-behind}
use Rattle.parser_words.specs.ParserWords.{section_words, middle_words, parser_words}
use Rattle.step_words.specs.Outcomes.{middle_after, section_put, outcome_in}
use Rattle.step_words.proofs.Agreeing.{SameMiddle}
use Rattle.step_words.specs.declared.outcome.Outcome.{Outcome}
use Rattle.parser_words.proofs.Sections.{middle-11}
use Rattle.parser_words.proofs.Back.{all_words}

-- set behind others
set-behind : (a v : List ℕ) (m x : ℕ) → set (a ++ v) (length a + m) x ≡ a ++ set v m x
set-behind [] v m x = rw zero-add
set-behind (y ∷ a) v m x = let k : length (y ∷ a) + m ≡ suc (length a + m) = omega arith in rw k (ap (λ z. y ∷ z) (set-behind a v m x))

-- a section's sort is set, and a section
sort-set : (l : List Section) (k : ℕ) (s : Option Sort) (r : List ℕ) → k < length l
    → set (section_words l ++ r) (2 * k) (number_of_sort s) ≡ section_words (set l k (record { sort = s; line = (get_or l k no_sort).line })) ++ r
unfolding section_words
sort-set [] k s r h = absurd (omega arith)
sort-set (x ∷ l) zero s r h = refl
sort-set (x ∷ l) (suc k) s r h =
    let e : 2 * suc k ≡ suc (suc (2 * k)) = omega arith in
    rw e (ap (λ z. number_of_sort x.sort ∷ x.line ∷ z) (sort-set l k s r (omega arith)))

section-set : (l : List Section) (k : ℕ) (y : Section) (r : List ℕ) → k < length l
    → set (set (section_words l ++ r) (2 * k) (number_of_sort y.sort)) (2 * k + 1) y.line ≡ section_words (set l k y) ++ r
unfolding section_words
section-set [] k y r h = absurd (omega arith)
section-set (x ∷ l) zero y r h = refl
section-set (x ∷ l) (suc k) y r h =
    let e : 2 * suc k ≡ suc (suc (2 * k)) = omega arith in
    let f : 2 * suc k + 1 ≡ suc (suc (2 * k + 1)) = omega arith in
    rw (f, e) (ap (λ z. number_of_sort x.sort ∷ x.line ∷ z) (section-set l k y r (omega arith)))

module _ (a m r : List ℕ) (e : length a ≡ 137) (f : length m ≡ 11) where
  -- the middle is replaced
  replaced : (n : List ℕ) → length n ≡ 11 → pasted_in n 137 (a ++ (m ++ r)) ≡ a ++ (n ++ r)
  replaced n g =
      let l : length (a ++ (m ++ r)) ≡ 148 + length r = rw (length-append, length-append, e, f) (omega arith) in
      let q : drop (length n) (m ++ r) ≡ r = rw g (drop_at m r 11 f) in
      pasted-room n _ 137 (omega (arith, l)) ∙ pasted-behind a n (m ++ r) 137 0 e ∙ ap (λ z. a ++ z) (pasted-front n (m ++ r) ∙ ap (λ z. n ++ z) q)

  -- a word is set behind them
  set_at : (v : List ℕ) (k x : ℕ) → set (a ++ (m ++ v)) (148 + k) x ≡ a ++ (m ++ set v k x)
  set_at v k x =
      let i : 148 + k ≡ length a + (length m + k) = omega arith in
      rw i (set-behind a (m ++ v) (length m + k) x ∙ ap (λ z. a ++ z) (set-behind m v k x))

  section-put : (c : Change) (l : List Section) (n : ℕ) → length l ≡ 65 → ChangeFits c n
      → section_put c n (a ++ (m ++ (section_words l ++ r))) ≡ a ++ (m ++ (section_words (sections_after c l n) ++ r))
  unfolding section_put sections_after
  section-put Keep l n g h = refl
  section-put (Fix s) l n g h =
      let p = h.0 in
      let q = h.1 in
      let i : 146 + 2 * n ≡ 148 + 2 * (n - 1) = omega arith in
      rw i (set_at (section_words l ++ r) (2 * (n - 1)) (number_of_sort (Some s)) ∙ ap (λ z. a ++ (m ++ z)) (sort-set l (n - 1) (Some s) r (omega arith)))
  section-put (Open o) l n g h =
      let i : 149 + 2 * n ≡ 148 + (2 * n + 1) = omega arith in
      let v = set (section_words l ++ r) (2 * n) 0 in
      rw (i, set_at (section_words l ++ r) (2 * n) 0)
      (set_at v (2 * n + 1) o ∙ ap (λ z. a ++ (m ++ z)) (section-set l n (unsorted o) r (omega arith)))
  section-put Close l n g h = refl

-- the state with the tokenizer's next
abbrev pub moved : State → Tokenizer → State
moved s t = record { tokenizer = t; kept = s.kept; awaited = s.awaited; refused = s.refused; sections = s.sections; count = s.count }

module _ (s : State) (t : Tokenizer) (r : List ℕ) (e : length t.indents ≡ 64) (f : length s.sections ≡ 65) where
  middle_of : (o : Outcome) (x : Verdict) → SameMiddle o x → o.change ≡ x.change → middle_after o s.count ≡ middle_words (after_verdict s t x)
  unfolding middle_words after_verdict
  middle_of o x m q = m (count_after o.change s.count) ∙ rw q

  back : (x : Verdict) → words_of t ++ (middle_words (after_verdict s t x) ++ (section_words (sections_after x.change s.sections s.count) ++ r))
      ≡ parser_words (after_verdict s t x) ++ r
  unfolding parser_words after_verdict
  back x = sym (append_assoc (words_of t ++ middle_words (after_verdict s t x)) _ r ∙ append_assoc (words_of t) (middle_words (after_verdict s t x)) _)

  pub put_is : (o : Outcome) (x : Verdict) → SameMiddle o x
      → o.change ≡ x.change → ChangeFits x.change s.count
      → outcome_in o s.count (parser_words (moved s t) ++ r) ≡ parser_words (after_verdict s t x) ++ r
  unfolding outcome_in
  put_is o x m q h =
      let u = after_verdict s t x in
      let m₀ = middle_words (moved s t) in
      let a = words-137 t e in
      let l = middle-11 (moved s t) in
      rw (middle_of o x m q, q, all_words (moved s t) r e, section-put (words_of t) m₀ r a l x.change s.sections s.count f h)
      (replaced (words_of t) m₀ (section_words (sections_after x.change s.sections s.count) ++ r) a l (middle_words u) (middle-11 u) ∙ back x)
