-- The sections, two words each: one more sort is tested, one more section written; and the words of a whole parser's
-- state.
use Prim.Native.Nat.{ℕ, zero, suc, ◌+◌, ◌*◌, ◌≤◌, ◌<◌}
use mathlib.Core.Path.{◌≡◌, refl, ap, ◌∙◌}
use mathlib.Core.List.{List, [], ◌∷◌, ◌++◌, append_assoc}
use mathlib.Core.Bool.{◌&&◌}
use native.Mathlib.Nat.{add-zero}
use native.Mathlib.Numerals.{add-one}
use native.Mathlib.Omega.{arith}
use lib.Dec.{leb}
use lib.ListN.{length, take, drop, get_or, set, length-append}
use lib.Seq.{get_or-drop, drop-drop, take-suc, length-take-le}
use mir.Val.{Val}
use denote.Laws.{Is}
use denote.Struct.Declared.{row}
use Rattle.parser_rules.specs.declared.ruling.Section.{Section}
use Rattle.parser.specs.declared.state.State.{State}
use Rattle.parser.specs.contracts.state.State.{the_type}
use Rattle.parser_rules.specs.Numbers.{number_of_sort}
use Rattle.std.specs.List.{range_with_len}
use Rattle.std.specs.List.{list_all}
use Rattle.tokenizer_words.specs.Words.{pasted, words_of}
use Rattle.parser_words.specs.ParserWords.{section_words, middle_words, parser_words, sections_in, are_sorts}
use Rattle.tokenizer_words.proofs.Pasting.{pasted-more, pasted-after}
use Rattle.tokenizer_words.proofs.Slots.{words-137}

pub sections-length : (n : ℕ) (w : List ℕ) → length (sections_in n w) ≡ n
unfolding sections_in
sections-length zero w = refl
sections-length (suc n) w = ap suc (sections-length n (drop 2 w))

-- one sort more is tested
pub sorts-more : (n : ℕ) (w : List ℕ) (i : ℕ) → are_sorts (suc n) (drop i w) ≡ (leb (get_or w i 0) 2 && are_sorts n (drop (i + 2) w))
unfolding are_sorts
sorts-more n w i = rw (get_or-drop i w 0 0, drop-drop 2 i w, add-zero)

-- the sorts of n sections from the kth on, tested in their order
pub sorts_all : (w : List ℕ) (n k : ℕ) → list_all (λ i. leb (get_or w (148 + 2 * i) 0) 2) (range_with_len k n) ≡ are_sorts n (drop (148 + 2 * k) w)
unfolding are_sorts
sorts_all w zero k = refl
sorts_all w (suc n) k =
    let e : 148 + 2 * k + 2 ≡ 148 + 2 * (k + 1) = omega arith in
    rw (sorts-more n w (148 + 2 * k), e, sorts_all w n (k + 1))

section-words-append : (l m : List Section) → section_words (l ++ m) ≡ section_words l ++ section_words m
unfolding section_words
section-words-append [] m = refl
section-words-append (s ∷ l) m = ap (λ x. number_of_sort s.sort ∷ s.line ∷ x) (section-words-append l m)

pub section-words-length : (l : List Section) → length (section_words l) ≡ 2 * length l
unfolding section_words
section-words-length [] = refl
section-words-length (s ∷ l) = omega (arith, section-words-length l)

-- a section's two words, where it stands
pub section-at : (l : List Section) (r : List ℕ) (i : ℕ) (z : Section) → i < length l
    → (get_or (section_words l ++ r) (2 * i) 0 ≡ number_of_sort (get_or l i z).sort) × (get_or (section_words l ++ r) (2 * i + 1) 0 ≡ (get_or l i z).line)
unfolding section_words
section-at [] r i z h = absurd (omega arith)
section-at (s ∷ l) r zero z h = (refl, refl)
section-at (s ∷ l) r (suc i) z h =
    let j : 2 * suc i ≡ suc (suc (2 * i)) = omega arith in
    let k : 2 * suc i + 1 ≡ suc (suc (2 * i + 1)) = omega arith in
    rw (k, j) (section-at l r i z (omega arith))

-- one section more is written
pub write-section : (l : List Section) (z : Section) (w : List ℕ) (i : ℕ) → i < length l → 148 + 2 * length l ≤ length w
    → set (set (pasted (section_words (take i l)) 148 w) (148 + 2 * i) (number_of_sort (get_or l i z).sort)) (149 + 2 * i) (get_or l i z).line
    ≡ pasted (section_words (take (i + 1) l)) 148 w
unfolding section_words
write-section l z w i h k =
    let s = get_or l i z in
    let a = section_words (take i l) in
    let n : length a ≡ 2 * i = section-words-length (take i l) ∙ ap (◌*◌ 2) (length-take-le i l (omega arith)) in
    let m : length (a ++ (number_of_sort s.sort ∷ [])) ≡ 2 * i + 1 = rw (length-append, n) in
    let e : section_words (take (i + 1) l) ≡ a ++ (number_of_sort s.sort ∷ []) ++ (s.line ∷ []) = rw (add-one, take-suc l i z h, section-words-append, append_assoc) in
    let j : 149 + 2 * i ≡ 148 + (2 * i + 1) = omega arith in
    rw (e, j, pasted-more a w 148 (2 * i) (number_of_sort s.sort) n (omega arith), pasted-more (a ++ (number_of_sort s.sort ∷ [])) w 148 (2 * i + 1) s.line m (omega arith))

pub middle-11 : (s : State) → length (middle_words s) ≡ 11
unfolding middle_words
middle-11 s = refl

-- a state that is owned has 65 sections
pub owned-65 : (s : State) {v : List Val} → Is (row the_type) s v → length s.sections ≡ 65
owned-65 s o = o.1.1.1.1.1.1.0.1.0.1

-- the tokenizer's words, then the middle, then the sections
pub all-written : (s : State) (w : List ℕ) → length s.tokenizer.indents ≡ 64 → length s.sections ≡ 65
    → pasted (section_words s.sections) 148 (pasted (middle_words s) 137 (words_of s.tokenizer ++ drop 137 w))
    ≡ parser_words s ++ drop 278 w
unfolding parser_words
all-written s w e f =
    let a = words_of s.tokenizer in
    let l : length (a ++ middle_words s) ≡ 148 = rw (length-append, words-137 s.tokenizer e, middle-11 s) in
    let m : length (section_words s.sections) ≡ 130 = rw (section-words-length, f) in
    rw (
      pasted-after a (middle_words s) w 137 (words-137 s.tokenizer e),
      middle-11 s,
      pasted-after (a ++ middle_words s) (section_words s.sections) w 148 l,
      m,
    )
