-- Intermediate: document 01's 'Unescaping' piece by piece, as the code is written: what stands at a cursor of a text,
-- how many bytes are passed with it, and what stands after them. proofs/Starts and proofs/Walking show that the pieces
-- together are the meaning.
use Rattle.std.specs.Prelude.{ℕ, ◌+◌, ◌≤◌, List, [], ◌∷◌, ◌++◌, Bool, true, false, cond, not, ◌&&◌, ◌||◌, eqb, ltb, length, take, drop, get_or, Option, Some, None, Result, Ok, Err}
use Rattle.std.specs.Option.{option_map, option_map_or}
use Prim.Native.Char.{code as byte}
use Rattle.text.specs.Bytes.{line_end, break_size, starts_with, part as part_of, shifted_by}
use Rattle.std.specs.List.{prefix_len}
use Rattle.utf8.specs.Utf8.{char_len}
use Rattle.unescape_codes.specs.Codes.{simple_of}
use Rattle.unescape_pieces.specs.Meaning.{Meaning, part, bytes, is_literal, scalar_in, plain, quoted, is_empty, lines_in, without, later_lines, joined_lines}
use Rattle.unescape_pieces.specs.declared.pieces.Spot.{Spot}
use Rattle.unescape_pieces.specs.declared.pieces.Spot.TheVariants.{Quotes, FirstLine, LaterLine, Break}
use Rattle.unescape_pieces.specs.declared.pieces.Piece.{Piece}
use Rattle.unescape_pieces.specs.declared.pieces.Piece.TheVariants.{Run, Scalar}
use Rattle.unescape_pieces.specs.declared.fault.Fault.{Fault}
use Rattle.unescape_pieces.specs.declared.fault.Fault.TheVariants.{InvalidEscape, EscapeAtEnd, ExtraCharacters, UnclosedQuotes}
use Rattle.unescape_pieces.specs.declared.pieces.Next.{Next}
use Rattle.unescape_pieces.specs.declared.start.Style.{Style}
use Rattle.unescape_pieces.specs.declared.start.Style.TheVariants.{AsIs, Entry, Block}
use Rattle.unescape_pieces.specs.declared.start.Start.{Start}
use Rattle.unescape_pieces.specs.declared.start.Start.TheVariants.{Plain, Pieces}

-- neither `"` nor the byte c
abbrev pub is_before : ℕ → ℕ → Bool
is_before c b = not (eqb b (byte "\"") || eqb b c)

-- a brace stops at `}` or `"`
abbrev pub in_brace : ℕ → Bool
in_brace b = is_before (byte "}") b

-- What is found is a piece, the end of the text, or why it means nothing.
abbrev pub passing : Piece → ℕ → Spot → Next
passing p n w = record { piece = p; pass = n; spot = w }

-- an invalid escape, of which n bytes are shown
abbrev pub invalid : ℕ → Result (Option Next) Fault
invalid n = Err (InvalidEscape (part_of 0 n))

-- a fault of a text that begins at n
abbrev pub fault_at : ℕ → Fault → Fault
fault_at n (InvalidEscape p) = InvalidEscape (shifted_by n p)
fault_at n EscapeAtEnd = EscapeAtEnd
fault_at n ExtraCharacters = ExtraCharacters
fault_at n UnclosedQuotes = UnclosedQuotes

-- the scalar value v for n bytes
abbrev pub escaped : ℕ → ℕ → Result (Option Next) Fault
escaped v n = Ok (Some (passing (Scalar v) n Quotes))

-- after `\{`: n bytes up to `}`, `"` or the end
abbrev pub braced : List ℕ → ℕ → Result (Option Next) Fault
braced r n =
    cond (eqb (get_or r n 0) (byte "}"))
    (option_map_or (λ v. escaped v (n + 3)) (scalar_in (take n r)) (invalid (n + 3)))
    (invalid (n + 2))

unfoldable pub brace_next : List ℕ → Result (Option Next) Fault
brace_next r = braced r (prefix_len in_brace r)

-- after a backslash
unfoldable pub escape_next : List ℕ → Result (Option Next) Fault
escape_next [] = Err EscapeAtEnd
escape_next (b ∷ r) =
    cond (eqb b (byte "{")) (brace_next r) (option_map_or (λ v. escaped v 2) (simple_of b) (invalid (1 + char_len (b ∷ r))))

-- in quotes
unfoldable pub quoted_next : List ℕ → Result (Option Next) Fault
quoted_next [] = Err UnclosedQuotes
quoted_next (b ∷ r) =
    cond (eqb b (byte "\"")) (cond (is_empty r) (Ok None) (Err ExtraCharacters))
    (cond (eqb b (byte "\\")) (escape_next r) (Ok (Some (passing (Run 0) (prefix_len is_literal (b ∷ r)) Quotes))))

-- a line of a multiline value
abbrev pub skipped : Bool → List ℕ → List ℕ → ℕ
skipped later indent l = cond (starts_with indent l) (length indent) (cond later (length l) 0)

unfoldable pub line_next : Bool → List ℕ → List ℕ → Next
line_next later indent s = passing (Run (skipped later indent (take (line_end s) s))) (line_end s) Break

-- the size of the break in front, where it opens a line
unfoldable pub opened_by : List ℕ → Option ℕ
opened_by s =
    cond (eqb (break_size s) 0) None
    (cond (ltb (break_size s) (length s)) (Some (break_size s))
    (cond (eqb (break_size s) 1 && eqb (get_or s 0 0) (byte "\r")) (Some 1) None))

unfoldable pub break_next : List ℕ → Option Next
break_next s = option_map (λ n. passing (Scalar (byte "\n")) n LaterLine) (opened_by s)

unfoldable pub next_of : Spot → List ℕ → List ℕ → Result (Option Next) Fault
next_of Quotes indent s = quoted_next s
next_of FirstLine indent s = Ok (Some (line_next false indent s))
next_of LaterLine indent s = Ok (Some (line_next true indent s))
next_of Break indent s = Ok (break_next s)

-- the lines after the break in front
abbrev pub lines_after : List ℕ → List (List ℕ)
lines_after s = option_map_or (λ n. lines_in (drop n s)) (opened_by s) []

-- a later line and those after it, the LF before it passed
unfoldable pub later_from : List ℕ → List (List ℕ) → List ℕ
later_from indent [] = []
later_from indent (l ∷ ls) = without indent l [] ++ later_lines indent ls

-- the meaning of a text from a cursor on, n being its place
unfoldable pub meaning_from : Spot → List ℕ → List ℕ → ℕ → Meaning
meaning_from Quotes indent s n = quoted s plain n
meaning_from FirstLine indent s n = bytes (joined_lines indent (lines_in s))
meaning_from LaterLine indent s n = bytes (later_from indent (lines_in s))
meaning_from Break indent s n = bytes (later_lines indent (lines_after s))

-- what the reading of a text begins with: a key or a value
unfoldable pub entry_start : List ℕ → Start
entry_start [] = Plain (part_of 0 0)
entry_start (b ∷ r) =
    let n = prefix_len is_literal r in
    cond (eqb b (byte "\""))
    (cond (eqb (n + 1) (length r) && eqb (get_or r n 0) (byte "\"")) (Plain (part_of 1 (n + 1))) (Pieces 1 Quotes))
    (Plain (part_of 0 (length (b ∷ r))))

unfoldable pub block_start : List ℕ → Start
block_start s = cond (eqb (line_end s) (length s)) (Plain (part_of 0 (length s))) (Pieces 0 FirstLine)

unfoldable pub start_of : Style → List ℕ → Start
start_of AsIs s = Plain (part_of 0 (length s))
start_of Entry s = entry_start s
start_of Block s = block_start s

-- the meaning that it begins
abbrev pub begun : Start → List ℕ → List ℕ → Meaning
begun (Plain p) indent s = part p.start p.end
begun (Pieces n spot) indent s = meaning_from spot indent (drop n s) n

-- both ends of a plain part, and the place of the first piece, lie within the text
abbrev pub Lies : Start → List ℕ → Type 0
Lies (Plain p) s = (p.start ≤ p.end) × (p.end ≤ length s)
Lies (Pieces n spot) s = n ≤ length s
