-- Law: document 01, 'Unescaping', and document 02's request 3: the codes behind a backslash.
use Rattle.std.specs.Prelude.{ℕ, ◌+◌, ◌-◌, ◌*◌, List, [], ◌∷◌, cond, eqb, length, Option, Some, None}
use Rattle.std.specs.Option.{option_and_then}
use Prim.Native.Char.{code as byte}
use Rattle.utf8.specs.Utf8.{within}

-- the value of a hexadecimal digit of either case
unfoldable pub digit_of : ℕ → Option ℕ
digit_of b =
    cond (within (byte "0") (byte "9") b) (Some (b - byte "0"))
    (cond (within (byte "A") (byte "F") b) (Some (b - (byte "A" - 10)))
    (cond (within (byte "a") (byte "f") b) (Some (b - (byte "a" - 10))) None))

-- the number that hexadecimal digits make, n being what stands before them; it wraps at no length
unfoldable pub digits_from : ℕ → List ℕ → Option ℕ
digits_from n [] = Some n
digits_from n (b ∷ r) = option_and_then (λ d. digits_from (n * 16 + d) r) (digit_of b)

-- the number that the bytes between braces name: 1 to 8 of them, all digits
unfoldable pub code_of : List ℕ → Option ℕ
code_of h = let n = digits_from 0 h in cond (within 1 8 (length h)) n None

-- the byte that a backslash and this byte stand for: `"`, `\`, `n`, `r`, `t`; none for any other
unfoldable pub simple_of : ℕ → Option ℕ
simple_of b =
    cond (eqb b (byte "\"")) (Some (byte "\""))
    (cond (eqb b (byte "\\")) (Some (byte "\\"))
    (cond (eqb b (byte "n")) (Some (byte "\n"))
    (cond (eqb b (byte "r")) (Some (byte "\r"))
    (cond (eqb b (byte "t")) (Some (byte "\t")) None))))
