-- `measure` adds up the pieces. Invariant: `len` bytes and those of the text from the cursor on make up the whole,
-- and they are at most four for each byte that is passed, so that the count has room.
use Prim.Native.Nat.{ℕ, ◌+◌, ◌*◌, ◌≤◌}
use mathlib.Core.Path.{◌≡◌}
use Rattle.unescape_pieces.specs.Cursor.{meaning_of, left}
use Rattle.std.specs.Prelude.{Result, Ok, Err}
use Rattle.unescape_pieces.specs.declared.fault.Fault.{Fault}
use Rattle.unescape.specs.Walk.{measured_of}
use Rattle.unescape.proofs.walk.measure.Given as goal

-- n bytes and then as many as that
abbrev pub more : ℕ → Result ℕ Fault → Result ℕ Fault
more n (Ok k) = Ok (n + k)
more n (Err f) = Err f

abbrev pub invariant-loop-piece : goal.invariant-loop-piece
invariant-loop-piece l = record {
  adds_up : measured_of (meaning_of l.cursor) ≡ more l.len (measured_of (meaning_of l.piece-iterator));
  few : l.len + 4 * left l.piece-iterator ≤ 4 * left l.cursor;
}
