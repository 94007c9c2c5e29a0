-- Scans by eights: intermediate definitions, over a test of places. tokenizer_scans/proofs/Related and utf8/proofs/Skipped
-- tie them to what is compared and read byte by byte.
use Rattle.std.specs.Prelude.{ℕ, zero, suc, ◌+◌, ◌*◌, ◌/◌, ◌<◌, ◌≡◌, List, Bool, cond, ◌&&◌, eqb, ltb, get_or}

-- the byte at a place is below 80, a character by itself; is the byte that p has there
abbrev pub ascii_at : List ℕ → ℕ → Bool
ascii_at s i = ltb (get_or s i 0) 0x80

abbrev pub same_at : List ℕ → List ℕ → ℕ → Bool
same_at s p i = eqb (get_or s i 0) (get_or p i 0)

-- the eight places from i on pass
abbrev pub eight : (ℕ → Bool) → ℕ → Bool
eight t i = ((((((t i && t (i + 1)) && t (i + 2)) && t (i + 3)) && t (i + 4)) && t (i + 5)) && t (i + 6)) && t (i + 7)

-- how many of the first n places pass before one fails
unfoldable pub passing : (ℕ → Bool) → ℕ → ℕ
passing t zero = 0
passing t (suc n) = let more = suc (passing (λ i. t (suc i)) n) in cond (t 0) more 0

-- the same, in whole eights
unfoldable pub eights : (ℕ → Bool) → ℕ → ℕ
eights t n = passing t n / 8 * 8

-- a closure, of which post says what its calls return, computes the test t of each of the first n places
abbrev pub Computes : (ℕ → Bool → Type 0) → ℕ → (ℕ → Bool) → Type 0
Computes post n t = (i : ℕ) (r : Bool) → i < n → post i r → r ≡ t i
