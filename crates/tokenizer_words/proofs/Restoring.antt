-- The words of a readable state, copied as they are but for what is held, are those of the state that is read from them.
use Rattle.text.specs.Bytes.{part}
use Rattle.text.specs.declared.bytes.Part.{Part}
use Rattle.std.specs.Prelude.{Option, Some, None, map}
use Prim.Native.Nat.{ℕ, zero, suc, ◌+◌, ◌*◌, ◌≤◌, ◌<◌}
use mathlib.Core.Path.{◌≡◌, refl, sym, ap, subst, ◌∙◌}
use mathlib.Core.List.{List, [], ◌∷◌, ◌++◌, append_assoc}
use mathlib.Core.Bool.{true, and-true}
use native.Mathlib.Numerals.{add-one}
use Rattle.std.specs.List.{list_all, range_with_len}
use Rattle.std.proofs.lemmas.List.Folds.{list_all-append, list_all-map}
use Rattle.std.proofs.lemmas.List.FromFn.{map-range_with_len_more}
use native.Mathlib.Omega.{arith}
use lib.Dec.{eqb, leb}
use lib.ListN.{length, take, drop, get_or, length-append, length-drop}
use lib.Seq.{drop-cons, get_or-drop, take-append_seam, length-take-le}
use borrow.Author.Tests.{leb-true}
use Rattle.text.proofs.Cases.{and_left, and_right}
use Rattle.tokenizer.specs.Step.{no_part, fit_part, fit_open}
use Rattle.tokenizer.proofs.Fitness.{open_more}
use Rattle.tokenizer_words.specs.Words.{pasted, pasted_in, flag, held_words, part_words, front_words, words_of, parts_in, held_by, state_in, readable}
use Rattle.tokenizer_words.proofs.Pasting.{pasted-room, pasted-front}
use Rattle.tokenizer_words.proofs.Slots.{part-words-length, parts-length}
use Rattle.tokenizer_words.proofs.Standing.{part_at, slots-back}
use Rattle.tokenizer_words.proofs.Storing.{has-137}

-- the ith slot, by its two words
abbrev pub slot : List ℕ → ℕ → Part
slot w i = part (get_or w (9 + 2 * i) 0) (get_or w (10 + 2 * i) 0)

pub slot_at : (w : List ℕ) (i : ℕ) → i < 64 → slot w i ≡ get_or (state_in w).indents i no_part
unfolding state_in
slot_at w i h =
    let j : 9 + (2 * i + 1) ≡ 10 + 2 * i = omega arith in
    rw (part_at 64 (drop 9 w) i h, get_or-drop 9 w (2 * i) 0, get_or-drop 9 w (2 * i + 1) 0, j)

mapped_fit : (n : ℕ) (w : List ℕ) (k : ℕ) → k ≤ 64 → list_all (fit_part n) (map (slot w) (range_with_len 0 k)) ≡ fit_open n (state_in w).indents k
unfolding fit_open
mapped_fit n w zero h = refl
mapped_fit n w (suc k) h =
    let s = (state_in w).indents in
    let more : list_all (fit_part n) (map (slot w) (range_with_len 0 (k + 1))) ≡ fit_open n s (k + 1)
    = rw (map-range_with_len_more (slot w) 0 k k (omega arith), list_all-append, mapped_fit n w k (omega arith), and-true)
    (open_more n s k refl (ap (fit_part n) (slot_at w k (omega arith)))) in
    rw add-one at more

-- the slots of the open indentations, tested in their order
pub slots_fit : (n : ℕ) (w : List ℕ) (k : ℕ) → k ≤ 64 → list_all (λ i. fit_part n (slot w i)) (range_with_len 0 k) ≡ fit_open n (state_in w).indents k
slots_fit n w k h = sym (list_all-map (fit_part n) (slot w) (range_with_len 0 k)) ∙ mapped_fit n w k h

-- a word that is 0 or 1, read as a mark and written again
flag-back : (n : ℕ) → leb n 1 ≡ true → flag (eqb n 1) ≡ n
unfolding flag
flag-back zero e = refl
flag-back (suc zero) e = refl
flag-back (suc (suc n)) e = absurd (omega (arith, leb-true (suc (suc n)) 1 e))

-- 64 slots, read and written again
slots-are : (v : List ℕ) → 128 ≤ length v → part_words (parts_in 64 v) ≡ take 128 v
slots-are v h =
    let a = part_words (parts_in 64 v) in
    let r = drop 128 v in
    let l : length a ≡ 128 = rw (part-words-length, parts-length 64 v) in
    let t : take 128 (a ++ r) ≡ a = subst (λ n. take n (a ++ r) ≡ a) l (take-append_seam a r) in
    sym (sym (ap (take 128) (slots-back 64 v (omega arith))) ∙ t)

-- the nine words before them
nine : (w : List ℕ) → 9 ≤ length w
    → let g : ℕ → ℕ = λ i. get_or w i 0 in w ≡ g 0 ∷ g 1 ∷ g 2 ∷ g 3 ∷ g 4 ∷ g 5 ∷ g 6 ∷ g 7 ∷ g 8 ∷ drop 9 w
nine w h =
    let d : (i : ℕ) → i < length w → drop i w ≡ get_or w i 0 ∷ drop (suc i) w = λ i k. drop-cons w i 0 k in
    d 0 (omega arith) ∙ ap (λ x. get_or w 0 0 ∷ x)
    (d 1 (omega arith) ∙ ap (λ x. get_or w 1 0 ∷ x)
    (d 2 (omega arith) ∙ ap (λ x. get_or w 2 0 ∷ x)
    (d 3 (omega arith) ∙ ap (λ x. get_or w 3 0 ∷ x)
    (d 4 (omega arith) ∙ ap (λ x. get_or w 4 0 ∷ x)
    (d 5 (omega arith) ∙ ap (λ x. get_or w 5 0 ∷ x)
    (d 6 (omega arith) ∙ ap (λ x. get_or w 6 0 ∷ x)
    (d 7 (omega arith) ∙ ap (λ x. get_or w 7 0 ∷ x) (d 8 (omega arith)))))))))

pub held-3 : (h : Option Part) → length (held_words h) ≡ 3
unfolding held_words
held-3 None = refl
held-3 (Some p) = refl

-- three words, written behind five others
behind-five : (h : Option Part) (a b c d e x y z : ℕ) (r : List ℕ)
    → pasted (held_words h) 5 (a ∷ b ∷ c ∷ d ∷ e ∷ x ∷ y ∷ z ∷ r) ≡ a ∷ b ∷ c ∷ d ∷ e ∷ (held_words h ++ r)
unfolding pasted held_words
behind-five None a b c d e x y z r = refl
behind-five (Some p) a b c d e x y z r = refl

-- a readable state's words but for what is held are as its own
marks-are : (w : List ℕ) → readable w ≡ true
    → let g : ℕ → ℕ = λ i. get_or w i 0 in (flag (eqb (g 2) 1) ≡ g 2) × ((flag (eqb (g 3) 1) ≡ g 3) × (flag (eqb (g 4) 1) ≡ g 4))
unfolding readable
marks-are w e =
    let e₁ = and_right (leb 137 (length w)) _ e in
    let e₂ = and_right (leb (get_or w 2 0) 1) _ e₁ in
    let e₃ = and_right (leb (get_or w 3 0) 1) _ e₂ in
    (flag-back (get_or w 2 0) (and_left (leb (get_or w 2 0) 1) _ e₁), (flag-back (get_or w 3 0) (and_left (leb (get_or w 3 0) 1) _ e₂), flag-back (get_or w 4 0) (and_left (leb (get_or w 4 0) 1) _ e₃)))

-- where they stand at the front of z, what is held is all that is left to write
pub held-left : (w r : List ℕ) → readable w ≡ true → pasted (held_words (state_in w).held) 5 (take 137 w ++ r) ≡ words_of (state_in w) ++ r
unfolding words_of front_words state_in
held-left w r e =
    let n = has-137 w e in
    let g : ℕ → ℕ = λ i. get_or w i 0 in
    let v = drop 9 w in
    let t : take 137 w ≡ g 0 ∷ g 1 ∷ g 2 ∷ g 3 ∷ g 4 ∷ g 5 ∷ g 6 ∷ g 7 ∷ g 8 ∷ take 128 v = ap (take 137) (nine w (omega arith)) in
    let m = marks-are w e in
    let s : part_words (parts_in 64 v) ≡ take 128 v = slots-are v (rw length-drop (omega arith)) in
    let h = held_by (g 5) (g 6) (g 7) in
    let q : held_words h ++ (g 8 ∷ (take 128 v ++ r)) ≡ ((held_words h ++ (g 8 ∷ [])) ++ take 128 v) ++ r =
    sym (append_assoc (held_words h ++ (g 8 ∷ [])) (take 128 v) r ∙ append_assoc (held_words h) (g 8 ∷ []) (take 128 v ++ r)) in
    rw t (behind-five h (g 0) (g 1) (g 2) (g 3) (g 4) (g 5) (g 6) (g 7) (g 8 ∷ (take 128 v ++ r))
    ∙ rw (m.0, m.1.0, m.1.1, s) (ap (λ x. g 0 ∷ g 1 ∷ g 2 ∷ g 3 ∷ g 4 ∷ x) q))

-- so copying a readable state's words, and then what is held, stores it
pub restored : (w z : List ℕ) → readable w ≡ true → 137 ≤ length z
    → pasted_in (held_words (state_in w).held) 5 (pasted_in (take 137 w) 0 z) ≡ words_of (state_in w) ++ drop 137 z
restored w z e h =
    let l : length (take 137 w) ≡ 137 = length-take-le 137 w (has-137 w e) in
    let f : pasted_in (take 137 w) 0 z ≡ take 137 w ++ drop 137 z = pasted-room (take 137 w) z 0 (omega (arith, l)) ∙ pasted-front (take 137 w) z ∙ rw l in
    let k : length (held_words (state_in w).held) ≡ 3 = held-3 (state_in w).held in
    rw f (pasted-room _ _ 5 (rw (k, length-append, l) (omega arith)) ∙ held-left w (drop 137 z) e)
