-- Law: document 01, 'Unescaping': what a text means, given how it is to be read, its bytes and its indentation's bytes.
-- Places here are counted from the start of the text.
use Rattle.std.specs.Prelude.{ℕ, ◌+◌, ◌-◌, List, [], ◌∷◌, ◌++◌, Bool, true, false, cond, not, ◌&&◌, ◌||◌, eqb, leb, length, take, drop, get_or, Option, Some, None}
use Rattle.std.specs.Option.{option_and_then, option_map_or}
use Prim.Native.Char.{code as byte}
use Rattle.text.specs.Bytes.{not_break, starts_with, shifted_by}
use Rattle.std.specs.List.{list_all, prefix_len}
use Rattle.text.specs.declared.bytes.Part.{Part}
use Rattle.utf8.specs.Utf8.{char_len}
use Rattle.utf8.specs.Scalar.{is_scalar, encoding}
use Rattle.text.specs.declared.refusals.Refusal.{Refusal}
use Rattle.text.specs.declared.refusals.Refusal.TheVariants as refusal
use Rattle.unescape_codes.specs.Codes.{code_of, simple_of}
use Rattle.unescape_pieces.specs.declared.fault.Fault.{Fault}
use Rattle.unescape_pieces.specs.declared.fault.Fault.TheVariants.{InvalidEscape, EscapeAtEnd, ExtraCharacters, UnclosedQuotes}
use Rattle.unescape_pieces.specs.declared.start.Style.{Style}
use Rattle.unescape_pieces.specs.declared.start.Style.TheVariants.{AsIs, Entry, Block}

-- the refusal of a text that means nothing
abbrev pub refusal_of : Fault → Refusal
refusal_of (InvalidEscape p) = refusal.InvalidEscape
refusal_of EscapeAtEnd = refusal.EscapeAtEnd
refusal_of ExtraCharacters = refusal.ExtraCharacters
refusal_of UnclosedQuotes = refusal.UnclosedQuotes

-- the part that its message shows, n being where the text starts; the empty one at 0 where none is shown
abbrev pub shown_from : ℕ → Fault → Part
shown_from n (InvalidEscape p) = shifted_by n p
shown_from n EscapeAtEnd = record { start = 0; end = 0 }
shown_from n ExtraCharacters = record { start = 0; end = 0 }
shown_from n UnclosedQuotes = record { start = 0; end = 0 }

-- a part of the text, the bytes that are written, or why it means nothing
pub data Meaning : Type 0 where
  part : ℕ → ℕ → Meaning
  bytes : List ℕ → Meaning
  refused : Fault → Meaning

-- an invalid escape code, with the part that is shown
abbrev pub code : ℕ → ℕ → Meaning
code a e = refused (InvalidEscape (record { start = a; end = e }))

-- one more byte, or several, in front of what is written
abbrev pub written : List ℕ → Meaning → Meaning
written w (part a e) = part a e
written w (bytes l) = bytes (w ++ l)
written w (refused f) = refused f

-- where a quoted text is being read: outside an escape, after a backslash at s, or in a brace whose backslash is at s
pub data Mode : Type 0 where
  plain : Mode
  escape : ℕ → Mode
  brace : ℕ → List ℕ → Mode

-- after the closing quote nothing may come
abbrev pub closed : List ℕ → Meaning
closed [] = bytes []
closed (b ∷ r) = refused ExtraCharacters

-- The part that 8 shows starts at the backslash. Where it ends, n being the place of the next byte: before what stops the
-- brace, through the character there, which begins s, or through the `}` there
abbrev pub before_stop : ℕ → ℕ
before_stop n = n

abbrev pub through_char : List ℕ → ℕ → ℕ
through_char s n = n + char_len s

abbrev pub through_brace : ℕ → ℕ
through_brace n = n + 1

-- the number that the bytes of a brace name, where it is a scalar value
abbrev pub scalar_in : List ℕ → Option ℕ
scalar_in h = option_and_then (λ n. cond (is_scalar n) (Some n) None) (code_of h)

-- The characters after the first quote, up to the closing one; n is the place of the next byte.
unfoldable pub quoted : List ℕ → Mode → ℕ → Meaning
quoted [] plain n = refused UnclosedQuotes
quoted [] (escape s) n = refused EscapeAtEnd
quoted [] (brace s h) n = code s (before_stop n)
quoted (b ∷ r) plain n =
    let e = quoted r (escape n) (n + 1) in
    let c = written (b ∷ []) (quoted r plain (n + 1)) in
    cond (eqb b (byte "\"")) (closed r) (cond (eqb b (byte "\\")) e c)
quoted (b ∷ r) (escape s) n =
    let o = quoted r (brace s []) (n + 1) in
    cond (eqb b (byte "{")) o
    (option_map_or (λ v. written (v ∷ []) (quoted r plain (n + 1))) (simple_of b) (code s (through_char (b ∷ r) n)))
quoted (b ∷ r) (brace s h) n =
    let m = quoted r (brace s (h ++ b ∷ [])) (n + 1) in
    cond (eqb b (byte "}"))
    (option_map_or (λ v. written (encoding v) (quoted r plain (n + 1))) (scalar_in h) (code s (through_brace n)))
    (cond (eqb b (byte "\"")) (code s (before_stop n)) m)

-- a byte in quotes that is neither `"` nor `\`
abbrev pub is_literal : ℕ → Bool
is_literal b = not (eqb b (byte "\"") || eqb b (byte "\\"))

-- the bytes between the first and the last
abbrev pub inside : List ℕ → List ℕ
inside s = take (length s - 2) (drop 1 s)

-- two or more bytes, quoted at both ends, with no `"` or `\` between
unfoldable pub simply_quoted : List ℕ → Bool
simply_quoted s = leb 2 (length s) && (eqb (get_or s 0 0) (byte "\"") && (eqb (get_or s (length s - 1) 0) (byte "\"") && list_all is_literal (inside s)))

-- a key or a value
unfoldable pub entry_meaning : List ℕ → Meaning
entry_meaning [] = part 0 0
entry_meaning (b ∷ r) =
    let q = quoted r plain 1 in
    cond (eqb b (byte "\"")) (cond (simply_quoted (b ∷ r)) (part 1 (length r)) q) (part 0 (length (b ∷ r)))

-- the lines of a multiline value: cut at CR LF, CR and LF; a final LF, or CR LF, opens no line, a final lone CR an empty one
abbrev pub on_first : (List ℕ → List ℕ) → List (List ℕ) → List (List ℕ)
on_first f [] = f [] ∷ []
on_first f (l ∷ ls) = f l ∷ ls

unfoldable pub is_empty : List ℕ → Bool
is_empty [] = true
is_empty (b ∷ r) = false

unfoldable pub lines_in : List ℕ → List (List ℕ)
lines_in [] = [] ∷ []
lines_in (b ∷ []) = cond (eqb b (byte "\n")) ([] ∷ []) (cond (eqb b (byte "\r")) ([] ∷ [] ∷ []) ((b ∷ []) ∷ []))
lines_in (b ∷ c ∷ r) =
    let here = [] ∷ lines_in (c ∷ r) in
    let two = cond (is_empty r) ([] ∷ []) ([] ∷ lines_in r) in
    let on = on_first (λ l. b ∷ l) (lines_in (c ∷ r)) in
    cond (eqb b (byte "\n")) here (cond (eqb b (byte "\r")) (cond (eqb c (byte "\n")) two here) on)

-- a line without the indentation, where it begins with it
abbrev pub without : List ℕ → List ℕ → List ℕ → List ℕ
without indent l other = cond (starts_with indent l) (drop (length indent) l) other

-- later lines, each behind an LF; one that lacks the indentation becomes empty
unfoldable pub later_lines : List ℕ → List (List ℕ) → List ℕ
later_lines indent [] = []
later_lines indent (l ∷ ls) = byte "\n" ∷ (without indent l [] ++ later_lines indent ls)

-- lines joined by LF; a first line lacking the indentation stays
unfoldable pub joined_lines : List ℕ → List (List ℕ) → List ℕ
joined_lines indent [] = []
joined_lines indent (l ∷ ls) = without indent l l ++ later_lines indent ls

-- a multiline value: without CR or LF, the plain part
unfoldable pub block_meaning : List ℕ → List ℕ → Meaning
block_meaning indent s =
    let w = bytes (joined_lines indent (lines_in s)) in
    cond (eqb (prefix_len not_break s) (length s)) (part 0 (length s)) w

-- a text as its kind is read
unfoldable pub meaning : Style → List ℕ → List ℕ → Meaning
meaning AsIs s i = part 0 (length s)
meaning Entry s i = entry_meaning s
meaning Block s i = block_meaning i s
