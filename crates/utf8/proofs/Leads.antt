-- The bytes that follow a lead byte.
use Prim.Native.Nat.{ℕ, zero, suc, ◌≤◌, ◌<◌}
use mathlib.Core.Path.{◌≡◌, refl, ap, ◌∙◌}
use mathlib.Core.List.{List, [], ◌∷◌}
use mathlib.Core.Bool.{Bool, true, false, ◌&&◌, and-false}
use native.Mathlib.Omega.{arith}
use lib.ListN.{length, take}
use Rattle.std.specs.List.{list_all}
use Rattle.utf8.specs.Utf8.{within, followed}

pub short : (n low high : ℕ) (s : List ℕ) → length s < n → followed n low high s ≡ false
unfolding followed
short zero low high s h = absurd (omega arith)
short (suc n) low high [] h = refl
short (suc n) low high (b ∷ r) h = rw (short n 0x80 0xBF r (omega arith), and-false)

-- the first of some bytes from low to high, the others from 80 to BF
abbrev pub all_in : ℕ → ℕ → List ℕ → Bool
all_in low high [] = true
all_in low high (b ∷ r) = within low high b && list_all (within 0x80 0xBF) r

all-continue : (s : List ℕ) → all_in 0x80 0xBF s ≡ list_all (within 0x80 0xBF) s
all-continue [] = refl
all-continue (b ∷ r) = refl

pub whole : (n low high : ℕ) (s : List ℕ) → n ≤ length s → followed n low high s ≡ all_in low high (take n s)
unfolding followed
whole zero low high s h = refl
whole (suc n) low high [] h = absurd (omega arith)
whole (suc n) low high (b ∷ r) h = ap (λ t. within low high b && t) (whole n 0x80 0xBF r (omega arith) ∙ all-continue (take n r))
