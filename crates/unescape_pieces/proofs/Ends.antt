-- The pieces of a text make up no part of it, and a code that is shown lies within it.
use Prim.Native.Nat.{ℕ, ◌+◌, ◌≤◌}
use mathlib.Core.List.{List, [], ◌∷◌, ◌++◌}
use native.Mathlib.Omega.{arith}
use lib.Dec.{eqb}
use lib.ListN.{length, drop, length-drop}
use Rattle.utf8.specs.Scalar.{encoding}
use Rattle.text.proofs.Cases.{on-cond}
use Rattle.utf8.proofs.Chars.{char_len_le}
use Rattle.unescape_codes.specs.Codes.{simple_of}
use Rattle.unescape_codes.proofs.Cases.{on-option}
use Rattle.unescape_pieces.specs.Meaning.{Meaning, part, bytes, refused, written, scalar_in, Mode, plain, escape, brace, closed, quoted}
use Rattle.unescape_pieces.specs.Pieces.{meaning_from}
use Rattle.unescape_pieces.specs.declared.fault.Fault.{Fault}
use Rattle.unescape_pieces.specs.declared.fault.Fault.TheVariants.{InvalidEscape, EscapeAtEnd, ExtraCharacters, UnclosedQuotes}
use Rattle.unescape_pieces.specs.declared.pieces.Spot.{Spot}
use Rattle.unescape_pieces.specs.declared.pieces.Spot.TheVariants.{Quotes, FirstLine, LaterLine, Break}
use Rattle.unescape_pieces.specs.Cursor.{Shows}

-- no part, and an invalid escape that ends within k bytes
abbrev pub Ends : ℕ → Meaning → Type 0
Ends k (part a e) = ⊥
Ends k (bytes w) = Unit {0}
Ends k (refused f) = Shows k f

pub shows_more : (k j : ℕ) (f : Fault) → j ≤ k → Shows j f → Shows k f
shows_more k j (InvalidEscape p) h x = (omega arith, omega arith)
shows_more k j EscapeAtEnd h x = tt
shows_more k j ExtraCharacters h x = tt
shows_more k j UnclosedQuotes h x = tt

written-ends : (k j : ℕ) (w : List ℕ) (m : Meaning) → j ≤ k → Ends j m → Ends k (written w m)
written-ends k j w (part a e) h x = x
written-ends k j w (bytes l) h x = tt
written-ends k j w (refused f) h x = shows_more k j f h x

ends_more : (k j : ℕ) (m : Meaning) → j ≤ k → Ends j m → Ends k m
ends_more k j (part a e) h x = x
ends_more k j (bytes l) h x = tt
ends_more k j (refused f) h x = shows_more k j f h x

closed-ends : (k : ℕ) (r : List ℕ) → Ends k (closed r)
closed-ends k [] = tt
closed-ends k (b ∷ r) = tt

-- the backslash of an escape stands before n
abbrev pub Before : Mode → ℕ → Type 0
Before plain n = Unit {0}
Before (escape s) n = s ≤ n
Before (brace s h) n = s ≤ n

pub quoted-ends : (r : List ℕ) (d : Mode) (n : ℕ) → Before d n → Ends (n + length r) (quoted r d n)
unfolding quoted
quoted-ends [] plain n h = tt
quoted-ends [] (escape s) n h = tt
quoted-ends [] (brace s l) n h = (omega arith, omega arith)
quoted-ends (b ∷ r) plain n h =
    let k = n + length (b ∷ r) in
    on-cond (Ends k) (eqb b 34) (λ _. closed-ends k r)
    (λ _. on-cond (Ends k) (eqb b 92)
    (λ _. ends_more k (n + 1 + length r) (quoted r (escape n) (n + 1)) (omega arith) (quoted-ends r (escape n) (n + 1) (omega arith)))
    (λ _. written-ends k (n + 1 + length r) (b ∷ []) (quoted r plain (n + 1)) (omega arith) (quoted-ends r plain (n + 1) tt)))
quoted-ends (b ∷ r) (escape s) n h =
    let k = n + length (b ∷ r) in
    on-cond (Ends k) (eqb b 123)
    (λ _. ends_more k (n + 1 + length r) (quoted r (brace s []) (n + 1)) (omega arith) (quoted-ends r (brace s []) (n + 1) (omega arith)))
    (λ _. on-option (Ends k) (simple_of b)
    (λ v _. written-ends k (n + 1 + length r) (v ∷ []) (quoted r plain (n + 1)) (omega arith) (quoted-ends r plain (n + 1) tt))
    (λ _. (omega arith, omega (arith, char_len_le (b ∷ r)))))
quoted-ends (b ∷ r) (brace s l) n h =
    let k = n + length (b ∷ r) in
    on-cond (Ends k) (eqb b 125)
    (λ _. on-option (Ends k) (scalar_in l)
    (λ v _. written-ends k (n + 1 + length r) (encoding v) (quoted r plain (n + 1)) (omega arith) (quoted-ends r plain (n + 1) tt))
    (λ _. (omega arith, omega arith)))
    (λ _. on-cond (Ends k) (eqb b 34)
    (λ _. (omega arith, omega arith))
    (λ _. ends_more k (n + 1 + length r) (quoted r (brace s (l ++ b ∷ [])) (n + 1)) (omega arith) (quoted-ends r (brace s (l ++ b ∷ [])) (n + 1) (omega arith))))

pub pieces_end : (spot : Spot) (indent s : List ℕ) (n : ℕ) → n ≤ length s → Ends (length s) (meaning_from spot indent (drop n s) n)
unfolding meaning_from
pieces_end Quotes indent s n h =
    ends_more (length s) (n + length (drop n s)) (quoted (drop n s) plain n) (rw length-drop (omega arith)) (quoted-ends (drop n s) plain n tt)
pieces_end FirstLine indent s n h = tt
pieces_end LaterLine indent s n h = tt
pieces_end Break indent s n h = tt
