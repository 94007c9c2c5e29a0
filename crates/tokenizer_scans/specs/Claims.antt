-- Law: document 01, 'Tokenizer', on a multiline value: the lines that a multiline value adds, counted piece by piece in its words. `line_count`, by which
-- the rules go, is this count.
use Rattle.std.specs.Prelude.{ℕ, suc, ◌≡◌, List, [], ◌∷◌, Bool, false, cond, ◌&&◌}
use Rattle.text.specs.Bytes.{is_break}
use Rattle.tokenizer_scans.specs.Scans.{is_lf, ends_in_cr, line_count}

-- a byte before the first piece
abbrev pub on_first : ℕ → List (List ℕ) → List (List ℕ)
on_first b [] = (b ∷ []) ∷ []
on_first b (p ∷ ps) = (b ∷ p) ∷ ps

-- a text, cut after each CR and each LF
unfoldable pub pieces : List ℕ → List (List ℕ)
pieces [] = []
pieces (b ∷ r) = let ps = pieces r in cond (is_break b) ((b ∷ []) ∷ ps) (on_first b ps)

-- each piece adds a line, except a lone LF right after a piece that ends in CR; cr: the piece before ends in CR
unfoldable pub piece_lines : Bool → List (List ℕ) → ℕ
piece_lines cr [] = 0
piece_lines cr (p ∷ ps) = let n = piece_lines (ends_in_cr false p) ps in cond (cr && is_lf p) n (suc n)

abbrev pub LinesOfPieces : Type 0
LinesOfPieces = (s : List ℕ) → line_count s ≡ piece_lines false (pieces s)
