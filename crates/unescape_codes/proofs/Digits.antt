-- Hexadecimal digits from the left, at a position of the bytes. Eight at most make a number below 16^8, so that none wraps.
use Prim.Native.Nat.{ℕ, ◌+◌, ◌*◌, ◌^◌, ◌≤◌, ◌<◌}
use mathlib.Core.Path.{◌≡◌}
use mathlib.Core.List.{List}
use native.Mathlib.Nat.{pow-suc, pow-le-pow_right}
use native.Mathlib.Numerals.{add-one}
use native.Mathlib.Omega.{arith}
use lib.ListN.{length, drop, get_or, drop_of_length-le}
use lib.Seq.{drop-cons}
use Rattle.std.specs.Prelude.{Some, None}
use Rattle.utf8.specs.Utf8.{within}
use Rattle.unescape_codes.specs.Codes.{digit_of, digits_from}

-- a digit is below 16
pub digit_16 : (b d : ℕ) → digit_of b ≡ Some d → d < 16
unfolding digit_of within
digit_16 b d e = grind arith

-- n is the number of the digits before i
module _ (h : List ℕ) (i n : ℕ) where
  pub more : {d : ℕ} → i < length h → digit_of (get_or h i 0) ≡ Some d → digits_from n (drop i h) ≡ digits_from (n * 16 + d) (drop (i + 1) h)
  unfolding digits_from
  more k e = rw (drop-cons h i 0 k, e, add-one)

  pub bad : i < length h → digit_of (get_or h i 0) ≡ None → digits_from n (drop i h) ≡ None
  unfolding digits_from
  bad k e = rw (drop-cons h i 0 k, e)

  pub end : length h ≤ i → digits_from n (drop i h) ≡ Some n
  unfolding digits_from
  end k = rw (drop_of_length-le h k)

pub grows : (n d i : ℕ) → n < 16 ^ i → d < 16 → n * 16 + d < 16 ^ (i + 1)
grows n d i h k = rw (add-one, pow-suc) (omega arith)

pub room : (i : ℕ) → i ≤ 8 → 16 ^ i ≤ 4294967296
room i h = pow-le-pow_right {n = 16} (omega arith) {i = i} {j = 8} h
