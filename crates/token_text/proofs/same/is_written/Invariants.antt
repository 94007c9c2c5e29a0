-- `is_written` compares piece by piece (proofs/Matching). Invariant: the text from the cursor on is compared with the bytes that
-- are left.
use mathlib.Core.Path.{◌≡◌}
use Rattle.unescape_pieces.specs.Cursor.{meaning_of}
use Rattle.token_text.specs.Written.{is_written}
use Rattle.token_text.proofs.same.is_written.Given as goal

abbrev pub invariant-loop-piece : goal.invariant-loop-piece
invariant-loop-piece l = is_written (meaning_of l.cursor) l.wanted ≡ is_written (meaning_of l.piece-iterator) l.left
