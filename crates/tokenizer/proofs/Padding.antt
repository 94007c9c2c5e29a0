-- A name is copied over zeros: the array holds the first n bytes of the text and its own zeros after them.
use Prim.Native.Nat.{ℕ, zero, suc, ◌≤◌, min}
use mathlib.Core.Path.{◌≡◌, ap}
use mathlib.Core.List.{List, [], ◌∷◌, ◌++◌}
use native.Mathlib.Nat.{zero-min, min-zero, suc-min-suc}
use native.Mathlib.Omega.{arith}
use lib.ListN.{length, take, drop, replicate}
use Rattle.tokenizer.specs.Token.{padded}
use Rattle.tokenizer.specs.declared.token.Name.{Name}

-- n bytes of a text with enough zeros after it
pad : (n m : ℕ) (s : List ℕ) → n ≤ m → take n (s ++ replicate m 0) ≡ take (min n (length s)) s ++ drop (min n (length s)) (replicate n 0)
pad zero m s h = rw (zero-min (length s))
pad (suc n) zero s h = absurd (omega arith)
pad (suc n) (suc m) [] h = rw (min-zero (suc n)) (ap (◌∷◌ 0) (rw (min-zero n) at (pad n m [] (omega arith))))
pad (suc n) (suc m) (b ∷ s) h = rw (suc-min-suc n (length s)) (ap (◌∷◌ b) (pad n (suc m) s (omega arith)))

-- all of the text, or 16 bytes of it
pub padded-at : (s : List ℕ) (n : ℕ) (bytes : List ℕ) → n ≡ min 16 (length s) → bytes ≡ take n s ++ drop n (replicate 16 0)
    → ◌≡◌ {A = Name} (record { bytes = bytes; len = n }) (padded s)
unfolding padded
padded-at s n bytes e f = rw (f, e, pad 16 16 s (omega arith))
