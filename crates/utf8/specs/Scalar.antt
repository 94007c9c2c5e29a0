-- Law: the scalar values, of document 01, 'Unescaping', and their encoding by the arithmetic of Table 3-6 of the
-- Unicode Standard. Nothing here rests on Table 3-7: proofs/Unicode shows that the two agree.
use Rattle.std.specs.Prelude.{ℕ, ◌+◌, ◌/◌, ◌%◌, ◌≡◌, ◌↔◌, List, [], ◌∷◌, ◌++◌, Bool, true, cond, ◌||◌, ◌&&◌, ltb, leb, take}
use Rattle.utf8.specs.Utf8.{utf8}

-- not D800 to DFFF, and at most 10FFFF
unfoldable pub is_scalar : ℕ → Bool
is_scalar n = ltb n 0xD800 || (ltb 0xDFFF n && leb n 0x10FFFF)

-- the bytes of a scalar value
unfoldable pub encoding : ℕ → List ℕ
encoding n =
    cond (ltb n 0x80) (n ∷ [])
    (cond (ltb n 0x800) ((0xC0 + n / 64) ∷ (0x80 + n % 64) ∷ [])
    (cond (ltb n 0x10000) ((0xE0 + n / 4096) ∷ (0x80 + n / 64 % 64) ∷ (0x80 + n % 64) ∷ [])
    ((0xF0 + n / 262144) ∷ (0x80 + n / 4096 % 64) ∷ (0x80 + n / 64 % 64) ∷ (0x80 + n % 64) ∷ [])))

-- the encodings one after the other
unfoldable pub encodings : List ℕ → List ℕ
encodings [] = []
encodings (n ∷ ns) = encoding n ++ encodings ns

unfoldable pub all_scalar : List ℕ → Bool
all_scalar [] = true
all_scalar (n ∷ ns) = is_scalar n && all_scalar ns

-- the encoding, or nothing for a number that is no scalar value
unfoldable pub encoding_of : ℕ → List ℕ
encoding_of n = cond (is_scalar n) (encoding n) []

-- up to four bytes, zeros after them
abbrev pub padded : List ℕ → List ℕ
padded w = take 4 (w ++ 0 ∷ 0 ∷ 0 ∷ 0 ∷ [])

-- the scalar values whose encodings make up a text
pub record Decoded (s : List ℕ) : Type 0 where
  pub values : List ℕ
  pub scalar : all_scalar values ≡ true
  pub joined : s ≡ encodings values

-- Claim 4, Unicode: Table 3-7 accepts exactly the concatenations of encodings of scalar values
abbrev pub Unicode : Type 0
Unicode = (s : List ℕ) → utf8 s ≡ true ↔ Decoded s
