-- The words of a readable parser's state, copied as they are but for what is held and the eleven in the middle, are those of the state
-- that is read from them.
use Prim.Native.Nat.{ℕ, zero, suc, ◌*◌, ◌≤◌}
use mathlib.Core.Path.{◌≡◌, refl, sym, ap, ◌∙◌}
use mathlib.Core.List.{List, [], ◌∷◌, ◌++◌, append_assoc}
use mathlib.Core.Bool.{true}
use native.Mathlib.Omega.{arith}
use lib.Dec.{leb}
use lib.ListN.{length, take, drop, get_or, length-append, length-drop}
use lib.Seq.{length-take-le, take-add, drop-drop, drop_at}
use borrow.Author.Tests.{leb-true}
use Rattle.text.proofs.Cases.{and_left, and_right}
use Rattle.tokenizer_words.specs.Words.{pasted_in, held_words, words_of, state_in, readable}
use Rattle.tokenizer_words.proofs.Pasting.{pasted-room, pasted-front}
use Rattle.tokenizer_words.proofs.Slots.{words-137}
use Rattle.tokenizer_words.proofs.Standing.{pasted-behind, slots-64}
use Rattle.tokenizer_words.proofs.Restoring.{held-3, held-left}
use Rattle.parser_rules.specs.Numbers.{number_of_sort}
use Rattle.parser_words.specs.ParserWords.{section_words, middle_words, parser_words, sort_in, sections_in, parser_in, are_sorts, parser_readable}
use Rattle.parser_words.proofs.Tests.{has-278}
use Rattle.parser_words.proofs.Sections.{middle-11}

-- a word that is a sort's, read and written again
sort-back : (n : ℕ) → leb n 2 ≡ true → number_of_sort (sort_in n) ≡ n
unfolding sort_in
sort-back zero e = refl
sort-back (suc zero) e = refl
sort-back (suc (suc zero)) e = refl
sort-back (suc (suc (suc n))) e = absurd (omega (arith, leb-true (suc (suc (suc n))) 2 e))

-- n sections, read and written again
sections-are : (n : ℕ) (v : List ℕ) → 2 * n ≤ length v → are_sorts n v ≡ true → section_words (sections_in n v) ≡ take (2 * n) v
unfolding section_words sections_in are_sorts
sections-are zero v h e = refl
sections-are (suc n) [] h e = absurd (omega arith)
sections-are (suc n) (a ∷ []) h e = absurd (omega arith)
sections-are (suc n) (a ∷ b ∷ v) h e =
    let i : 2 * suc n ≡ suc (suc (2 * n)) = omega arith in
    rw (i, sort-back a (and_left (leb a 2) _ e), sections-are n v (omega arith) (and_right (leb a 2) _ e))

pub tokenizer-reads : (w : List ℕ) → parser_readable w ≡ true → readable w ≡ true
unfolding parser_readable
tokenizer-reads w e = and_left (readable w) _ (and_right (leb 278 (length w)) _ e)

sorts-read : (w : List ℕ) → parser_readable w ≡ true → are_sorts 65 (drop 148 w) ≡ true
unfolding parser_readable
sorts-read w e =
    let e₁ = and_right (leb 278 (length w)) _ e in
    let e₂ = and_right (readable w) _ e₁ in
    let e₃ = and_right (leb (get_or w 137 0) 1) _ e₂ in
    let e₄ = and_right (leb (get_or w 138 0) 2) _ e₃ in
    and_right (leb (get_or w 140 0) 11) _ e₄

-- what stands behind the tokenizer's words: the middle, the sections, and z
module _ (w z : List ℕ) (e : parser_readable w ≡ true) (h : 278 ≤ length z) where
  abbrev behind : List ℕ
  behind = take 141 (drop 137 w) ++ drop 278 z

  abbrev sections : List ℕ
  sections = take 130 (drop 148 w) ++ drop 278 z

  long : 141 ≤ length (drop 137 w)
  long = rw length-drop (omega (arith, has-278 w e))

  behind-split : behind ≡ take 11 (drop 137 w) ++ sections
  behind-split =
      let t : take 141 (drop 137 w) ≡ take 11 (drop 137 w) ++ take 130 (drop 148 w) =
      take-add 11 130 (drop 137 w) ∙ ap (λ x. take 11 (drop 137 w) ++ take 130 x) (drop-drop 11 137 w) in
      ap (λ x. x ++ drop 278 z) t ∙ append_assoc (take 11 (drop 137 w)) (take 130 (drop 148 w)) (drop 278 z)

  copied : pasted_in (take 278 w) 0 z ≡ take 137 w ++ behind
  copied =
      let l : length (take 278 w) ≡ 278 = length-take-le 278 w (has-278 w e) in
      pasted-room (take 278 w) z 0 (omega (arith, l)) ∙ pasted-front (take 278 w) z ∙ ap (λ n. take 278 w ++ drop n z) l
      ∙ ap (λ x. x ++ drop 278 z) (take-add 137 141 w) ∙ append_assoc (take 137 w) (take 141 (drop 137 w)) (drop 278 z)

  held-put : pasted_in (held_words (state_in w).held) 5 (take 137 w ++ behind) ≡ words_of (state_in w) ++ behind
  held-put =
      let l : length (take 137 w) ≡ 137 = length-take-le 137 w (omega (arith, has-278 w e)) in
      pasted-room _ _ 5 (rw (held-3, length-append, l) (omega arith)) ∙ held-left w behind (tokenizer-reads w e)

  middle-put : (m : List ℕ) → length m ≡ 11 → pasted_in m 137 (words_of (state_in w) ++ behind) ≡ words_of (state_in w) ++ (m ++ sections)
  middle-put m l =
      let a = words_of (state_in w) in
      let n : length a ≡ 137 = words-137 (state_in w) (slots-64 w) in
      let b : 11 ≤ length behind = rw (length-append, length-take-le 141 (drop 137 w) long) (omega arith) in
      let d : drop 11 behind ≡ sections = ap (drop 11) behind-split ∙ drop_at (take 11 (drop 137 w)) sections 11 (length-take-le 11 (drop 137 w) (omega (arith, long))) in
      pasted-room m _ 137 (rw (l, length-append, n) (omega (arith, b))) ∙ pasted-behind a m behind 137 0 n
      ∙ ap (λ x. a ++ x) (pasted-front m behind ∙ ap (λ k. m ++ drop k behind) l ∙ ap (λ x. m ++ x) d)

  pub restored-parser : pasted_in (middle_words (parser_in w)) 137 (pasted_in (held_words (state_in w).held) 5 (pasted_in (take 278 w) 0 z)) ≡ parser_words (parser_in w) ++ drop 278 z
  unfolding parser_words parser_in
  restored-parser =
      let a = words_of (state_in w) in
      let m = middle_words (parser_in w) in
      let v = drop 148 w in
      let s : section_words (sections_in 65 v) ≡ take 130 v = sections-are 65 v (rw length-drop (omega (arith, has-278 w e))) (sorts-read w e) in
      rw (copied, held-put) (middle-put m (middle-11 (parser_in w)) ∙ rw s (sym (append_assoc (a ++ m) (take 130 v) (drop 278 z) ∙ append_assoc a m (take 130 v ++ drop 278 z))))
