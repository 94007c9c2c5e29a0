-- `write` puts the pieces one behind the other (proofs/Filling). Invariant: the first `len` bytes of the buffer and what is written from
-- the cursor on, which fits, make up the whole.
use lib.ListN.{length}
use Rattle.unescape_pieces.specs.Cursor.{meaning_of}
use Rattle.unescape.specs.Walk.{buffer_after}
use Rattle.unescape.proofs.Filling.{Wrote}
use Rattle.unescape.proofs.walk.write.Given as goal

abbrev pub invariant-loop-piece : goal.invariant-loop-piece
invariant-loop-piece l = Wrote (buffer_after (meaning_of l.cursor) l.initial.out) (length l.initial.out) (meaning_of l.piece-iterator) l.len l.out
