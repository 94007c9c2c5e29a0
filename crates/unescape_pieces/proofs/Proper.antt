-- A meaning's part lies within its text.
use Prim.Native.Nat.{ℕ, suc, ◌+◌, ◌≤◌}
use mathlib.Core.List.{List, [], ◌∷◌}
use native.Mathlib.Omega.{arith}
use lib.Dec.{eqb, leb}
use lib.ListN.{length}
use borrow.Author.Tests.{leb-true}
use Rattle.text.specs.Bytes.{not_break}
use Rattle.std.specs.List.{prefix_len}
use Rattle.text.proofs.Cases.{on-cond, and_left}
use Rattle.unescape_pieces.specs.Meaning.{Meaning, part, bytes, refused, plain, quoted, simply_quoted, entry_meaning, block_meaning, meaning}
use Rattle.unescape_pieces.specs.declared.start.Style.{Style}
use Rattle.unescape_pieces.specs.declared.start.Style.TheVariants.{AsIs, Entry, Block}
use Rattle.unescape_pieces.proofs.Ends.{Ends, quoted-ends}

abbrev pub Proper : ℕ → Meaning → Type 0
Proper n (part a e) = (a ≤ e) × (e ≤ n)
Proper n (bytes w) = Unit {0}
Proper n (refused f) = Unit {0}

-- the bytes in quotes are no part
no_part : (n k : ℕ) (m : Meaning) → Ends k m → Proper n m
no_part n k (part a e) x = absurd x
no_part n k (bytes w) x = tt
no_part n k (refused f) x = tt

entry-proper : (s : List ℕ) → Proper (length s) (entry_meaning s)
unfolding entry_meaning simply_quoted
entry-proper [] = (omega arith, omega arith)
entry-proper (b ∷ r) =
    on-cond (Proper (suc (length r))) (eqb b 34)
    (λ e. on-cond (Proper (suc (length r))) (simply_quoted (b ∷ r))
    (λ f. (omega (arith, leb-true 2 (suc (length r)) (and_left (leb 2 (suc (length r))) _ f)), omega arith))
    (λ f. no_part (suc (length r)) (1 + length r) (quoted r plain 1) (quoted-ends r plain 1 tt)))
    (λ e. (omega arith, omega arith))

pub meaning-proper : (r : Style) (s i : List ℕ) → Proper (length s) (meaning r s i)
unfolding meaning block_meaning
meaning-proper AsIs s i = (omega arith, omega arith)
meaning-proper Entry s i = entry-proper s
meaning-proper Block s i = on-cond (Proper (length s)) (eqb (prefix_len not_break s) (length s)) (λ e. (omega arith, omega arith)) (λ e. tt)
