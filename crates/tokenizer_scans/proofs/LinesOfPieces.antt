-- The lines of a text by its breaks and by its pieces are the same: a byte that is no break changes neither count but for the
-- first piece, which it makes no lone LF.
use Prim.Native.Nat.{ℕ}
use mathlib.Core.Path.{◌≡◌, refl, sym, ◌∙◌}
use mathlib.Core.List.{List, [], ◌∷◌}
use mathlib.Core.Bool.{Bool, true, false}
use native.Mathlib.Omega.{arith}
use lib.Dec.{eqb}
use borrow.Author.Tests.{eqb-true}
use Rattle.text.specs.Bytes.{is_break}
use Rattle.text.proofs.Cases.{by_bool}
use Rattle.tokenizer_scans.specs.Scans.{breaks_after, is_lf, ends_in_cr, ends_in_break, line_count}
use Rattle.tokenizer_scans.specs.Claims.{on_first, pieces, piece_lines, LinesOfPieces}
use Rattle.tokenizer_scans.proofs.Pieces.{lines_after}

-- there is a first piece, and it has a byte
abbrev Some : List (List ℕ) → Type 0
Some [] = ⊥
Some ([] ∷ ps) = ⊥
Some ((c ∷ p) ∷ ps) = Unit {0}

first_some : (b : ℕ) (ps : List (List ℕ)) → Some (on_first b ps)
first_some b [] = tt
first_some b (p ∷ ps) = tt

some : (b : ℕ) (r : List ℕ) → Some (pieces (b ∷ r))
unfolding pieces
some b r = by_bool (is_break b) (λ e. rw e tt) (λ e. rw e (first_some b (pieces r)))

-- a byte before a first piece
before : (b : ℕ) (ps : List (List ℕ)) (cr : Bool) → Some ps → eqb b 13 ≡ false → piece_lines cr (on_first b ps) ≡ piece_lines false ps
unfolding piece_lines is_lf ends_in_cr
before b [] cr h e = absurd h
before b ([] ∷ ps) cr h e = absurd h
before b ((c ∷ p) ∷ ps) true h e = refl
before b ((c ∷ p) ∷ ps) false h e = refl

-- behind a byte that is no break
other : (b : ℕ) (r : List ℕ) (cr : Bool) → eqb b 13 ≡ false → eqb b 10 ≡ false → lines_after false r ≡ piece_lines false (pieces r)
    → lines_after cr (b ∷ r) ≡ piece_lines cr (pieces (b ∷ r))
unfolding lines_after breaks_after ends_in_break pieces piece_lines is_lf ends_in_cr is_break
other b [] true e f h = rw (e, f) (rw f)
other b [] false e f h = rw (e, f)
other b (c ∷ r) cr e f h = rw (e, f) (h ∙ sym (before b (pieces (c ∷ r)) cr (some c r) e))

lines : (s : List ℕ) (cr : Bool) → lines_after cr s ≡ piece_lines cr (pieces s)
unfolding lines_after breaks_after ends_in_break pieces piece_lines is_lf ends_in_cr is_break
lines [] cr = refl
lines (b ∷ r) cr =
    by_bool (eqb b 13)
    (λ e. rw (eqb-true b 13 e) (by_bool cr (λ z. rw z (omega (arith, lines r true))) (λ z. rw z (omega (arith, lines r true)))))
    (λ e. by_bool (eqb b 10)
    (λ f. rw (eqb-true b 10 f) (by_bool cr (λ z. rw z (lines r false)) (λ z. rw z (omega (arith, lines r false)))))
    (λ f. other b r cr e f (lines r false)))

pub lines-of-pieces : LinesOfPieces
unfolding line_count lines_after
lines-of-pieces s = lines s false
