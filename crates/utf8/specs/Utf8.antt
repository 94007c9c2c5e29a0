-- Law: document 01, 'Bytes and UTF-8': well-formed UTF-8 by Table 3-7 of the Unicode Standard. The lead byte's range
-- decides how many bytes follow and the range of the second; every later one is 80 to BF.
use Rattle.std.specs.Prelude.{ℕ, zero, suc, List, [], ◌∷◌, Bool, true, false, cond, ◌&&◌, leb, Option, Some, None}
use Rattle.utf8.specs.declared.utf8.Lead.{Lead}

unfoldable pub within : ℕ → ℕ → ℕ → Bool
within low high b = leb low b && leb b high

-- n bytes follow, the first of them from low to high
abbrev pub follow : ℕ → ℕ → ℕ → Option Lead
follow n low high = Some (record { more = n; low = low; high = high })

-- the table's rows; none for a byte that leads no character
unfoldable pub lead_of : ℕ → Option Lead
lead_of b =
    cond (within 0x00 0x7F b) (follow 0 0x80 0xBF)
    (cond (within 0xC2 0xDF b) (follow 1 0x80 0xBF)
    (cond (within 0xE0 0xE0 b) (follow 2 0xA0 0xBF)
    (cond (within 0xE1 0xEC b) (follow 2 0x80 0xBF)
    (cond (within 0xED 0xED b) (follow 2 0x80 0x9F)
    (cond (within 0xEE 0xEF b) (follow 2 0x80 0xBF)
    (cond (within 0xF0 0xF0 b) (follow 3 0x90 0xBF)
    (cond (within 0xF1 0xF3 b) (follow 3 0x80 0xBF)
    (cond (within 0xF4 0xF4 b) (follow 3 0x80 0x8F)
    None))))))))

-- the text begins with n bytes, the first of them from low to high and the others from 80 to BF
unfoldable pub followed : ℕ → ℕ → ℕ → List ℕ → Bool
followed zero low high s = true
followed (suc n) low high [] = false
followed (suc n) low high (b ∷ r) = let t = followed n 0x80 0xBF r in within low high b && t

abbrev pub len_after : Option Lead → List ℕ → ℕ
len_after None r = 0
len_after (Some l) r = cond (followed l.more l.low l.high r) (suc l.more) 0

-- how many bytes the well-formed character has that the text begins with; 0 where it begins with none
unfoldable pub char_len : List ℕ → ℕ
char_len [] = 0
char_len (b ∷ r) = len_after (lead_of b) r

abbrev pub on_lead : Option Lead → (ℕ → ℕ → ℕ → Bool) → Bool
on_lead None k = false
on_lead (Some l) k = k l.more l.low l.high

-- the text is well-formed where n bytes of its first character are still to come, the next one from low to high
unfoldable pub owes : List ℕ → ℕ → ℕ → ℕ → Bool
owes [] zero low high = true
owes [] (suc n) low high = false
owes (b ∷ r) zero low high = on_lead (lead_of b) (λ n l h. owes r n l h)
owes (b ∷ r) (suc n) low high = let t = owes r n 0x80 0xBF in within low high b && t

-- the text is well-formed
unfoldable pub utf8 : List ℕ → Bool
utf8 s = owes s 0 0x80 0xBF
