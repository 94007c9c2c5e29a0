-- Scans by whole eights: what each loop over eights needs of `passing`, and how what holds from byte to byte reaches
-- the place where the eights end.
use Prim.Native.Nat.{ℕ, zero, suc, ◌+◌, ◌*◌, ◌/◌, ◌≤◌, ◌<◌}
use mathlib.Core.Path.{◌≡◌, refl, sym, ◌∙◌}
use mathlib.Core.Bool.{Bool, true, false, cond, ◌&&◌, and-eq-true_iff, false≢true}
use native.Mathlib.Nat.{lt_of_not-le}
use native.Mathlib.Numerals.{add-one}
use native.Mathlib.Omega.{arith}
use Rattle.text_scans.specs.Eights.{eight, passing, eights}

-- The count below suc n, over the first place's test b and the count m of those after it.
head : (b : Bool) (m : ℕ) → 0 < cond b (suc m) 0 → b ≡ true
head true m h = refl
head false m h = absurd (omega arith)

tail : (b : Bool) (m i : ℕ) → suc i < cond b (suc m) 0 → i < m
tail true m i h = omega arith
tail false m i h = absurd (omega arith)

more : (b : Bool) {m i : ℕ} → suc i ≤ cond b (suc m) 0 → (i ≤ m → i < m) → suc i < cond b (suc m) 0
more true h f = let g = f (omega arith) in omega arith
more false h f = absurd (omega arith)

most : (b : Bool) {m n : ℕ} → m ≤ n → cond b (suc m) 0 ≤ suc n
most true h = omega arith
most false h = omega arith

pub passing-le : (t : ℕ → Bool) (n : ℕ) → passing t n ≤ n
unfolding passing
passing-le t zero = omega arith
passing-le t (suc n) = most (t 0) (passing-le (λ j. t (suc j)) n)

-- every place below the count passes
pub passes : (t : ℕ → Bool) (n i : ℕ) → i < passing t n → t i ≡ true
unfolding passing
passes t zero i h = absurd (omega arith)
passes t (suc n) zero h = head (t 0) _ h
passes t (suc n) (suc i) h = passes (λ j. t (suc j)) n i (tail (t 0) _ i h)

-- a place that is reached and passes is counted
pub reaches : (t : ℕ → Bool) (n i : ℕ) → i < n → i ≤ passing t n → t i ≡ true → i < passing t n
unfolding passing
reaches t zero i l h e = absurd (omega arith)
reaches t (suc n) zero l h e = rw e (omega arith)
reaches t (suc n) (suc i) l h e = more (t 0) h (λ k. reaches (λ j. t (suc j)) n i (omega arith) k e)

-- A loop over eights has passed k of them.
module _ (t : ℕ → Bool) (n k : ℕ) (h : 8 * k ≤ passing t n) where
  -- after m places, whose tests are a, one more that passes
  next : (m : ℕ) (a : Bool) → 8 * k + m < n → (a ≡ true → 8 * k + m ≤ passing t n) → (a && t (8 * k + m)) ≡ true → 8 * k + suc m ≤ passing t n
  next m a l f e =
      let both = (and-eq-true_iff a (t (8 * k + m))).0 e in
      let g = reaches t n (8 * k + m) l (f both.0) both.1 in
      omega arith

  -- one more passes
  pub go : 8 * k + 8 ≤ n → eight t (8 * k) ≡ true → 8 * (k + 1) ≤ passing t n
  go l e =
      let one = next 1 (t (8 * k)) (omega arith) (λ f. rw add-one (reaches t n (8 * k) (omega arith) h f)) in
      let three = next 3 _ (omega arith) (next 2 _ (omega arith) one) in
      let five = next 5 _ (omega arith) (next 4 _ (omega arith) three) in
      let seven = next 7 _ (omega arith) (next 6 _ (omega arith) five) in
      omega (arith, seven e)

  -- the eights end where fewer than eight pass
  ends : passing t n < 8 * k + 8 → 8 * k ≡ eights t n
  unfolding eights
  ends l = omega arith

  -- one of the next eight places fails
  pub stop : eight t (8 * k) ≡ false → 8 * k ≡ eights t n
  stop e = ends (lt_of_not-le (λ l. false≢true (sym e ∙ all l)))
    where
      all : 8 * k + 8 ≤ passing t n → eight t (8 * k) ≡ true
      all l =
          rw (
            passes t n (8 * k) (omega arith),
            passes t n (8 * k + 1) (omega arith),
            passes t n (8 * k + 2) (omega arith),
            passes t n (8 * k + 3) (omega arith),
            passes t n (8 * k + 4) (omega arith),
            passes t n (8 * k + 5) (omega arith),
            passes t n (8 * k + 6) (omega arith),
            passes t n (8 * k + 7) (omega arith),
          )

  -- fewer than eight are left
  pub end : n / 8 ≤ k → n / 8 * 8 ≡ eights t n
  unfolding eights
  end l = omega (arith, passing-le t n)

-- What holds at the start, and goes over from each place that passes to the next, holds at each place up to the first
-- that fails.
module _ (t : ℕ → Bool) (n : ℕ) (G : ℕ → Type 0) (z : G 0) (next : (i : ℕ) → i < n → t i ≡ true → G i → G (i + 1)) where
  pub upto : (i : ℕ) → i ≤ passing t n → G i
  upto zero l = z
  upto (suc i) l = rw add-one at (next i (omega (arith, passing-le t n)) (passes t n i (omega arith)) (upto i (omega arith)))

-- A loop over places has passed i of them.
module _ (t : ℕ → Bool) (n i : ℕ) where
  pub within : i ≡ eights t n → i ≤ passing t n
  unfolding eights
  within e = omega arith

  -- the next place fails, or none is left
  pub halt : i ≤ passing t n → t i ≡ false → i ≡ passing t n
  halt h e = let f : passing t n < suc i = lt_of_not-le (λ l. false≢true (sym e ∙ passes t n i l)) in omega arith

  pub over : i ≤ passing t n → n ≤ i → n ≡ passing t n
  over h l = omega (arith, passing-le t n)
