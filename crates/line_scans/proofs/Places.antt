-- What the functions over places need: the bytes of a word, and how far the words before the first hit have counted.
use Prim.Native.Nat.{ℕ, zero, suc, ◌+◌, ◌*◌, ◌/◌, ◌^◌, ◌≤◌, ◌<◌}
use Prim.Native.Char.{code as byte}
use mathlib.Core.Path.{◌≡◌, refl, sym, ap, ◌∙◌}
use mathlib.Core.List.{List, []}
use mathlib.Core.Bool.{Bool, true, false, cond}
use native.Mathlib.Nat.{lt_of_not-le, pos_of_ne-zero, min-eq_left}
use native.Mathlib.Omega.{arith}
use lib.Count.{count_trailing_zeros, trailing_le, trailing_of_zero}
use lib.Bits.{bit_or, bit_xor, and_le_l, and_le_r, or_add_and, or_zero_l}
use lib.Dec.{ltb}
use lib.ListN.{length, get_or}
use borrow.Author.Tests.{ltb-true, ltb-false}
use Rattle.text_scans.specs.Eights.{passing}
use Rattle.text_scans.proofs.Passing.{passing-le, passes, reaches}
use Rattle.std.specs.Simd.{first_chunks}
use Rattle.std.specs.Int.{w64, from_le_bytes}
use Rattle.line_scans.specs.Words.{byte_at, each, first_hit, is_space, passed_by, at_most}
use Rattle.line_scans.proofs.Chunks.{single}
use Rattle.line_scans.proofs.Hits.{some, first-other}

-- All before place i passes, and k places follow, of which the first r pass.
module _ (t : ℕ → Bool) (n i k : ℕ) (h : i ≤ passing t n) (l : i + k ≤ n) (r : ℕ) (e : r ≡ passing (λ j. t (i + j)) k) where
  -- these are counted too
  counts : (m : ℕ) → m ≤ r → i + m ≤ passing t n
  counts zero q = omega arith
  counts (suc m) q =
      let p = passes (λ j. t (i + j)) k m (omega arith) in
      let g = reaches t n (i + m) (omega (arith, passing-le (λ j. t (i + j)) k)) (counts m (omega arith)) p in
      omega arith

  -- a place that is counted passes, and so is one of the first
  fails : r < k → i + r < passing t n → ⊥
  fails q c = let g = reaches (λ j. t (i + j)) k r q (omega arith) (passes t n (i + r) c) in omega arith

  -- where one fails, the count ends there
  first : r < k → i + r ≡ passing t n
  first q = omega (arith, counts r (omega arith), lt_of_not-le (fails q))

-- two words without a hit
both : (a b : ℕ) → bit_or a b ≡ 0 → (a ≡ 0) × (b ≡ 0)
both a b e = let f = or_add_and a b in (omega (arith, and_le_l a b, and_le_r a b), omega (arith, and_le_l a b, and_le_r a b))

pub hit-le : (a b : ℕ) → first_hit a b ≤ 16
hit-le a b = by (ltb (count_trailing_zeros 64 a / 8) 8)
  where
    by : (t : Bool) → cond t (count_trailing_zeros 64 a / 8) (8 + count_trailing_zeros 64 b / 8) ≤ 16
    by true = omega (arith, trailing_le 64 a)
    by false = omega (arith, trailing_le 64 b)

-- Every byte before place i passes the test.
pub record Clean (t : ℕ → Bool) (s : List ℕ) (i : ℕ) : Type 0 where
  pub counted : i ≤ passed_by t s

-- how many of the eight bytes from place i on pass before one fails: what is found in their word
abbrev pub Found : (ℕ → Bool) → List ℕ → ℕ → ℕ → Type 0
Found t s i w = count_trailing_zeros 64 w / 8 ≡ passing (λ j. t (byte_at s i j)) 8

module _ {t : ℕ → Bool} {s : List ℕ} {i : ℕ} (h : Clean t s i) (l : i + 8 ≤ length s) (w : ℕ) (e : Found t s i w) where
  here : count_trailing_zeros 64 w / 8 < 8 → i + count_trailing_zeros 64 w / 8 ≡ passed_by t s
  here = first (λ j. t (get_or s j 0)) (length s) i 8 h.counted l _ e

  past : 8 ≤ count_trailing_zeros 64 w / 8 → Clean t s (i + 8)
  past q = record { counted = counts (λ j. t (get_or s j 0)) (length s) i 8 h.counted l 8 (omega (arith, e, passing-le (λ j. t (byte_at s i j)) 8)) 8 (omega arith) }

-- no bit is set in a word of eight bytes that pass
none : (w : ℕ) → w ≡ 0 → 8 ≤ count_trailing_zeros 64 w / 8
none w e = rw (e, trailing_of_zero 64) (omega arith)

-- the pair of words after k pairs
module _ {t : ℕ → Bool} {s : List ℕ} (k : ℕ) (h : Clean t s (16 * k)) (l : 16 * k + 16 ≤ length s) (a b : ℕ) (e : Found t s (16 * k) a) (f : Found t s (16 * k + 8) b) where
  pub passed : bit_or a b ≡ 0 → Clean t s (16 * (k + 1))
  passed z =
      let u = past h (omega arith) a e (none a (both a b z).0) in
      let c = past u (omega arith) b f (none b (both a b z).1) in
      record { counted = omega (arith, c.counted) }

  -- where one fails, the count ends there
  module _ (m : a < 2 ^ 64) (n : b < 2 ^ 64) (z : bit_or a b ≡ 0 → ⊥) where
    hit : 16 * k + first_hit a b ≡ passed_by t s
    hit = by (ltb (count_trailing_zeros 64 a / 8) 8) refl
      where
        by : (u : Bool) → ltb (count_trailing_zeros 64 a / 8) 8 ≡ u → 16 * k + cond u (count_trailing_zeros 64 a / 8) (8 + count_trailing_zeros 64 b / 8) ≡ passed_by t s
        by true q = here h (omega arith) a e (ltb-true _ 8 q)
        by false q =
            let v : 8 ≤ count_trailing_zeros 64 a / 8 = ltb-false (count_trailing_zeros 64 a / 8) 8 q in
            let p : a < 1 = lt_of_not-le (λ i. let g = some a m i in omega arith) in
            let y : a ≡ 0 = omega arith in
            let c = past h (omega arith) a e v in
            let g = here c (omega arith) b f (some b n (pos_of_ne-zero (λ r. z (rw (y, r) (or_zero_l 0))))) in
            omega (arith, g)

    pub found : 16 * k + first_hit a b ≡ at_most (length s / 16 * 16) t s
    found = hit ∙ sym (min-eq_left (omega (arith, hit, hit-le a b)))

-- the word after k words
module _ {t : ℕ → Bool} {s : List ℕ} (k : ℕ) (h : Clean t s (8 * k)) (l : 8 * k + 8 ≤ length s) (a : ℕ) (e : Found t s (8 * k) a) where
  pub passed-one : a ≡ 0 → Clean t s (8 * (k + 1))
  passed-one z = let c = past h l a e (none a z) in record { counted = omega (arith, c.counted) }

  pub found-one : a < 2 ^ 64 → (a ≡ 0 → ⊥) → 8 * k + count_trailing_zeros 64 a / 8 ≡ at_most (length s / 8 * 8) t s
  found-one m z =
      let i = some a m (pos_of_ne-zero z) in
      let g = here h l a e i in
      g ∙ sym (min-eq_left (omega (arith, g, i)))

-- what is found in the word k, x being that word
pub found-other : (s : List ℕ) {c : List (List ℕ)} (k : ℕ) {x : ℕ} → c ≡ first_chunks 8 (length s / 8) s → ((j : ℕ) → get_or s j 0 < 2 ^ 8) → 8 * k + 8 ≤ length s
    → x ≡ from_le_bytes w64 (get_or c k []) → Found is_space s (8 * k) (bit_xor x (each 8 (byte " ")))
found-other s k e known l f = first-other s (8 * k) known (ap (λ y. bit_xor y (each 8 (byte " "))) (f ∙ single _ _ e k l))
