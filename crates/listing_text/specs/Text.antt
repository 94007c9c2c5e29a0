-- Law: numbers as text, of document 01's 'Look-up and listing'. And text in a lent buffer: `filled` is what the
-- listing's contract promises, `placed` is intermediate, and proofs/Placing shows that placed from the first byte on is
-- filled.
use Rattle.std.specs.Prelude.{ℕ, zero, suc, ◌+◌, ◌/◌, ◌%◌, List, [], ◌∷◌, ◌++◌, cond, ltb, length, take, drop, set}
use Prim.Native.Char.{code as byte}

-- the buffer o with the bytes of a text from the nth on, as far as it goes
unfoldable pub placed : List ℕ → ℕ → List ℕ → List ℕ
placed [] n o = o
placed (b ∷ s) n o = placed s (n + 1) (set o n b)

-- the same from the first byte on: as much of the text as there is room for, then what the buffer had
unfoldable pub filled : List ℕ → List ℕ → List ℕ
filled s o = take (length o) s ++ drop (length s) o

-- the decimal digits of n, of which there are at most k
unfoldable pub digits_in : ℕ → ℕ → List ℕ
digits_in zero n = []
digits_in (suc k) n = cond (ltb n 10) ((byte "0" + n) ∷ []) (digits_in k (n / 10) ++ ((byte "0" + n % 10) ∷ []))

-- a number of n has at most n + 1 digits
unfoldable pub decimal : ℕ → List ℕ
decimal n = digits_in (suc n) n
