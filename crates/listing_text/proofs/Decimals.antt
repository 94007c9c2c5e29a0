-- The fewest digits that hold a number are its decimal digits.
use Prim.Native.Nat.{ℕ, zero, suc, ◌-◌, ◌/◌, ◌%◌, ◌^◌, ◌≤◌, ◌<◌}
use mathlib.Core.Path.{◌≡◌}
use native.Mathlib.Nat.{pow-suc, one-le-pow, pow-le-pow_right, mod-eq_of_lt}
use native.Mathlib.Omega.{arith}
use lib.Dec.{leb}
use borrow.Author.Tests.{lt-ltb, le-ltb, leb-true, leb-false}
use Rattle.text.proofs.Cases.{by_bool}
use Rattle.io.specs.Digits.{last_digits, IsDigitCount}
use Rattle.listing_text.specs.Text.{digits_in, decimal}

-- j, the bound of `digits_in`, is above n
in-digits : (k j n : ℕ) → n < 10 ^ suc k → (1 < suc k → 10 ^ k ≤ n) → n < j → last_digits 10 (suc k) n ≡ digits_in j n
unfolding digits_in
in-digits k zero n h f l = absurd (omega arith)
in-digits zero (suc j) n h f l = let e : n % 10 ≡ n = mod-eq_of_lt h in rw (e, lt-ltb n 10 h)
in-digits (suc k) (suc j) n h f l =
    let p = pow-suc 10 k in
    let q = pow-suc 10 (suc k) in
    let o = one-le-pow k 10 (omega arith) in
    let g = f (omega arith) in
    rw (le-ltb n 10 (omega arith), lt-ltb (n % 10) 10 (omega arith), in-digits k j (n / 10) (omega arith) (λ _. omega arith) (omega arith))

pub fewest : (n k : ℕ) → IsDigitCount 10 1 n k → last_digits 10 k n ≡ decimal n
unfolding decimal
fewest n zero f = absurd (omega arith)
fewest n (suc k) f = in-digits k (suc n) n f.1 (λ h. let e : suc k - 1 ≡ k = omega arith in rw e at (f.2 h)) (omega arith)

-- a number of 64 bits has at most 20
pub at_most_20 : (n k : ℕ) → n < 2 ^ 64 → IsDigitCount 10 1 n k → k ≤ 20
at_most_20 n k h f =
    by_bool (leb k 20) (leb-true k 20)
    (λ e. let l = leb-false k 20 e in
    let m : 20 ≤ k - 1 = omega arith in
    let p = pow-le-pow_right {n = 10} (omega arith) m in
    absurd (omega (arith, f.2 (omega arith))))
