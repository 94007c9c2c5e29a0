-- One step of a cursor: what the pieces say at a place (proofs/Walking, proofs/Turns), said of the cursor.
use Prim.Native.Nat.{ℕ, ◌+◌, ◌-◌, ◌*◌, ◌≤◌, ◌<◌}
use mathlib.Core.Path.{◌≡◌}
use mathlib.Core.List.{List, []}
use native.Mathlib.Omega.{arith}
use lib.ListN.{length, take, drop, length-drop, drop_of_length-le}
use lib.Seq.{length-take-le, drop-drop}
use Rattle.std.specs.Prelude.{Option, Some, None, Ok, Err}
use Rattle.text.specs.Bytes.{break_size}
use Rattle.text.proofs.Front.{from}
use Rattle.utf8.proofs.Encodings.{encoding-le}
use Rattle.unescape_pieces.specs.Meaning.{bytes, refused, later_lines}
use Rattle.unescape_pieces.specs.Pieces.{next_of, fault_at, opened_by, meaning_from}
use Rattle.unescape_pieces.specs.Cursor.{meaning_of, weight, size, slice_of, piece_bytes, Skips, Shows, Passes}
use Rattle.unescape_pieces.specs.declared.fault.Fault.{Fault}
use Rattle.unescape_pieces.specs.declared.pieces.Spot.{Spot}
use Rattle.unescape_pieces.specs.declared.pieces.Spot.TheVariants.{Quotes, FirstLine, LaterLine, Break}
use Rattle.unescape_pieces.specs.declared.pieces.Next.{Next}
use Rattle.unescape_pieces.specs.declared.pieces.Piece.{Piece}
use Rattle.unescape_pieces.specs.declared.pieces.Piece.TheVariants.{Run, Scalar}
use Rattle.unescape_pieces.specs.declared.cursor.Cursor.{Cursor}
use Rattle.unescape_pieces.specs.declared.cursor.Bytes.{Bytes}
use Rattle.unescape_pieces.proofs.Walking.{Found, Steps}
use Rattle.unescape_pieces.proofs.Turns.{meant, stepped, moves}

module _ (c : Cursor) where
  abbrev pub found : Found
  found = next_of c.spot c.indent.now (drop c.at c.text.now)

  pub no-meaning : {f : Fault} → Err f ≡ found → meaning_of c ≡ refused (fault_at c.at f)
  no-meaning q = meant c.indent.now c.text.now c.at c.spot q

  pub shows : {f : Fault} → Err f ≡ found → Shows (length (drop c.at c.text.now)) f
  shows q = stepped c.indent.now c.text.now c.at c.spot q

  -- a fault is found in quotes alone
  pub still : {f : Fault} → Err f ≡ found → 0 < weight c.spot
  unfolding next_of
  still {f} q = at c.spot q
    where
      at : (spot : Spot) → Err f ≡ next_of spot c.indent.now (drop c.at c.text.now) → 0 < weight spot
      at Quotes e = omega arith
      at FirstLine e = omega arith
      at LaterLine e = omega arith
      at Break e = absurd cc

  pub none-after : (n : ℕ) → meaning_from Break c.indent.now (drop (length c.text.now) c.text.now) n ≡ bytes []
  unfolding meaning_from opened_by break_size later_lines
  none-after n = rw (drop_of_length-le c.text.now {i = length c.text.now} (omega arith))

  pub no-more : Ok None ≡ found → meaning_of c ≡ bytes []
  no-more q = meant c.indent.now c.text.now c.at c.spot q

  -- the piece x, as the code comes to it
  pub came : {r : Found} {o : Option Next} {x : Next} → r ≡ Ok o → o ≡ Some x
      → r ≡ next_of c.spot c.indent.now (take (length c.text.now - c.at) (drop c.at c.text.now)) → Ok (Some x) ≡ found
  came e f g = rw (e, f, from) at g

  module _ {x : Next} (q : Ok (Some x) ≡ found) (h : c.at ≤ length c.text.now) where
    abbrev passed : List ℕ
    passed = take x.pass (drop c.at c.text.now)

    pub within : c.at + x.pass ≤ length c.text.now
    within = (moves c.indent.now c.text.now c.at c.spot h q).within

    pub nearer : 2 * (length c.text.now - (c.at + x.pass)) + weight x.spot < size c
    nearer = (moves c.indent.now c.text.now c.at c.spot h q).falls

    passed-length : length passed ≡ x.pass
    passed-length = length-take-le x.pass (drop c.at c.text.now) (rw length-drop (omega (arith, within)))

    pub skips : Skips x.piece passed
    skips = by x.piece (stepped c.indent.now c.text.now c.at c.spot q)
      where
        by : (p : Piece) → Steps p c.spot (drop c.at c.text.now) x.pass x.spot → Skips p passed
        by (Run k) m = omega (arith, passed-length)
        by (Scalar v) m = tt

    few : length (piece_bytes x.piece passed) ≤ 4 * x.pass
    few = by x.piece (stepped c.indent.now c.text.now c.at c.spot q)
      where
        by : (p : Piece) → Steps p c.spot (drop c.at c.text.now) x.pass x.spot → length (piece_bytes p passed) ≤ 4 * x.pass
        by (Run k) m = rw length-drop (omega (arith, passed-length))
        by (Scalar v) m = omega (arith, encoding-le v)

    -- d being the cursor that stands after it
    pub passes : (d : Cursor) (p : Bytes) → d.text.now ≡ c.text.now → d.indent.now ≡ c.indent.now → d.at ≡ c.at + x.pass → d.spot ≡ x.spot
        → slice_of p ≡ piece_bytes x.piece passed → Passes c d p
    passes d p t i a s e = record {
      means = rw (t, i, a, s, e) (rw drop-drop at (meant c.indent.now c.text.now c.at c.spot q));
      falls = rw (t, a, s) nearer;
      few = rw (t, a, e) (omega (arith, few, within));
    }
