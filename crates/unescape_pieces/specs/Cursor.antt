-- Intermediate: a text that is read piece by piece, as the law has it: what it means from a cursor on.
use Rattle.std.specs.Prelude.{ℕ, ◌+◌, ◌-◌, ◌*◌, ◌≤◌, ◌<◌, ◌≡◌, List, [], length, take, drop, Option, Some, None, Result, Ok, Err}
use Rattle.utf8.specs.Scalar.{encoding_of}
use Rattle.unescape_pieces.specs.Meaning.{Meaning, bytes, refused, written}
use Rattle.unescape_pieces.specs.Pieces.{meaning_from}
use Rattle.unescape_pieces.specs.declared.fault.Fault.{Fault}
use Rattle.unescape_pieces.specs.declared.fault.Fault.TheVariants.{InvalidEscape, EscapeAtEnd, ExtraCharacters, UnclosedQuotes}
use Rattle.unescape_pieces.specs.declared.pieces.Spot.{Spot}
use Rattle.unescape_pieces.specs.declared.pieces.Spot.TheVariants.{Quotes, FirstLine, LaterLine, Break}
use Rattle.unescape_pieces.specs.declared.pieces.Piece.{Piece}
use Rattle.unescape_pieces.specs.declared.pieces.Piece.TheVariants.{Run, Scalar}
use Rattle.unescape_pieces.specs.declared.cursor.Cursor.{Cursor}
use Rattle.unescape_pieces.specs.declared.cursor.Bytes.{Bytes}
use Rattle.unescape_pieces.specs.declared.cursor.Bytes.TheVariants.{AsTheyStand, Encoded}

-- the meaning of the text from a cursor on
abbrev pub meaning_of : Cursor → Meaning
meaning_of c = meaning_from c.spot c.indent.now (drop c.at c.text.now) c.at

-- how many bytes are left
abbrev pub left : Cursor → ℕ
left c = length c.text.now - c.at

-- what falls from item to item: twice the bytes left, and one more but behind a line
abbrev pub weight : Spot → ℕ
weight Quotes = 1
weight FirstLine = 1
weight LaterLine = 1
weight Break = 0

abbrev pub size : Cursor → ℕ
size c = 2 * left c + weight c.spot

-- the bytes that a piece comes to
abbrev pub slice_of : Bytes → List ℕ
slice_of (AsTheyStand s) = s.now
slice_of (Encoded e) = take e.len e.bytes

-- the same of a piece, l being the bytes passed with it, as many as are skipped or more
abbrev pub piece_bytes : Piece → List ℕ → List ℕ
piece_bytes (Run k) l = drop k l
piece_bytes (Scalar v) l = encoding_of v

abbrev pub Skips : Piece → List ℕ → Type 0
Skips (Run k) l = k ≤ length l
Skips (Scalar v) l = Unit {0}

-- an invalid escape that is shown ends within n bytes
abbrev pub Shows : ℕ → Fault → Type 0
Shows n (InvalidEscape p) = (p.start ≤ n) × (p.end ≤ n)
Shows n EscapeAtEnd = Unit {0}
Shows n ExtraCharacters = Unit {0}
Shows n UnclosedQuotes = Unit {0}

-- from one cursor to the next, over a piece of at most four bytes for each that is passed
pub record Passes (c d : Cursor) (p : Bytes) : Type 0 where
  pub means : meaning_of c ≡ written (slice_of p) (meaning_of d)
  pub falls : size d < size c
  pub few : length (slice_of p) + 4 * left d ≤ 4 * left c

-- what comes at a cursor c, d being the cursor after it: a piece, or why the text means nothing, which is the last, or the end
abbrev pub Comes : Cursor → Option (Result Bytes Fault) → Cursor → Type 0
Comes c (Some (Ok p)) d = Passes c d p
Comes c (Some (Err f)) d = (meaning_of c ≡ refused f) × (meaning_of d ≡ bytes [])
Comes c None d = meaning_of c ≡ bytes []
