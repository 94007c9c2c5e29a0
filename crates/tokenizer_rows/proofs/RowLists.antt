-- The rows of a list of answers, one after the other.
use Prim.Native.Nat.{◌*◌}
use mathlib.Core.Path.{◌≡◌, refl}
use mathlib.Core.List.{List, [], ◌∷◌, ◌++◌}
use native.Mathlib.Omega.{arith}
use lib.ListN.{length}
use Rattle.tokenizer.specs.Token.{Values}
use Rattle.tokenizer_rows.specs.Rows.{rows_of}

pub rows_append : (l m : List Values) → rows_of (l ++ m) ≡ rows_of l ++ rows_of m
unfolding rows_of
rows_append [] m = refl
rows_append (v ∷ l) m = rw (rows_append l m)

pub rows-length : (l : List Values) → length (rows_of l) ≡ 7 * length l
unfolding rows_of
rows-length [] = refl
rows-length (v ∷ l) = omega (arith, rows-length l)
