-- Scans by words: intermediate definitions, over the bytes at places. text/proofs/Skipped ties the counts to what is counted
-- byte by byte.
use Rattle.std.specs.Prelude.{ℕ, zero, suc, ◌+◌, ◌*◌, ◌/◌, ◌^◌, min, List, Bool, cond, not, ◌||◌, eqb, ltb, length, get_or}
use Prim.Native.Char.{code as byte}
use Rattle.std.specs.Int.Bits.{bit_and, bit_or, bit_xor}
use Rattle.std.specs.Int.Count.{count_trailing_zeros}
use Rattle.text_scans.specs.Eights.{passing}

-- the bytes of a text, from place i on
abbrev pub byte_at : List ℕ → ℕ → ℕ → ℕ
byte_at s i j = get_or s (i + j) 0

-- the first n of some bytes as a number, the first one lowest
unfoldable pub word_of : (ℕ → ℕ) → ℕ → ℕ
word_of f zero = 0
word_of f (suc n) = word_of (λ i. f (suc i)) n * 2 ^ 8 + f 0

-- n times the byte b
unfoldable pub each : ℕ → ℕ → ℕ
each zero b = 0
each (suc n) b = each n b * 2 ^ 8 + b

-- of n bytes, those that are not 0: they have the high bit set, the others do not; the other bits say nothing
abbrev pub marked_in : ℕ → ℕ → ℕ
marked_in n x = bit_or (bit_and x (each n 0x7F) + each n 0x7F) x

-- of n bytes, those that are CR or LF: they are 80, the others 0
abbrev pub hits_of : ℕ → ℕ → ℕ
hits_of n w =
    bit_xor (bit_and (bit_and (marked_in n (bit_xor w (each n (byte "\r")))) (marked_in n (bit_xor w (each n (byte "\n"))))) (each n 0x80))
    (each n 0x80)

-- how many of sixteen bytes stand before the first hit: trailing zero bits count the bytes below it
abbrev pub first_hit : ℕ → ℕ → ℕ
first_hit low high = cond (ltb (count_trailing_zeros 64 low / 8) 8) (count_trailing_zeros 64 low / 8) (8 + count_trailing_zeros 64 high / 8)

-- a byte is neither CR nor LF; is a space
abbrev pub in_line : ℕ → Bool
in_line b = not (eqb b (byte "\r") || eqb b (byte "\n"))

abbrev pub is_space : ℕ → Bool
is_space b = eqb b (byte " ")

-- how many bytes pass a test before one fails; at most m
abbrev pub passed_by : (ℕ → Bool) → List ℕ → ℕ
passed_by t s = passing (λ i. t (get_or s i 0)) (length s)

abbrev pub at_most : ℕ → (ℕ → Bool) → List ℕ → ℕ
at_most m t s = min (passed_by t s) m

-- how many bytes stand before the first CR or LF, as far as the whole sixteens go
abbrev pub line_sixteens : List ℕ → ℕ
line_sixteens s = at_most (length s / 16 * 16) in_line s

-- how many spaces stand in front, as far as the whole eights go
abbrev pub space_eights : List ℕ → ℕ
space_eights s = at_most (length s / 8 * 8) is_space s
