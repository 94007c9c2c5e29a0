-- Law: document 01, 'Tokenizer': the scans of its token readers (key, value, hint, multiline value), over the rest of a
-- document from somewhere on.
use Rattle.std.specs.Prelude.{ℕ, suc, ◌+◌, Option, Some, None, List, [], ◌∷◌, Bool, true, false, cond, not, ◌&&◌, ◌||◌, length, take, drop, eqb}
use Prim.Native.Char.{code as byte}
use Rattle.text.specs.Ascii.{ascii}
use Rattle.text.specs.Bytes.{is_break, starts_with}
use Rattle.std.specs.List.{prefix_len}
use Rattle.text.specs.Trimming.{dropped, trimmed}
use Rattle.utf8.specs.Utf8.{utf8}
use Rattle.text.specs.declared.bytes.Part.{Part}
use Rattle.text.specs.declared.trimming.Dropped.{Dropped}
use Rattle.text.specs.declared.trimming.Dropped.TheVariants.{Blanks, BlanksAndBreaks}
use Rattle.tokenizer_scans.specs.declared.readers.Relation.{Relation}
use Rattle.tokenizer_scans.specs.declared.readers.Relation.TheVariants.{Equal, Deeper, Other}
use Rattle.tokenizer_scans.specs.declared.readers.Lines.{Lines}

-- how many blanks stand in front
unfoldable pub blanks : List ℕ → ℕ
blanks s = prefix_len (dropped Blanks) s

-- an indentation against the innermost open one: equal, deeper (longer, beginning with it), or neither
unfoldable pub relation_of : List ℕ → List ℕ → Relation
relation_of [] [] = Equal
relation_of [] (b ∷ t) = Deeper
relation_of (a ∷ s) [] = Other
relation_of (a ∷ s) (b ∷ t) = let r = relation_of s t in cond (eqb a b) r Other

-- what ends a text outside quotes: CR, LF, `;`, and also `=` in a key
unfoldable pub stops : ℕ → ℕ → Bool
stops also b = is_break b || (eqb b (byte ";") || eqb b also)

-- how many bytes stand before that
unfoldable pub plain_end : ℕ → List ℕ → ℕ
plain_end also s = prefix_len (λ b. not (stops also b)) s

-- inside quotes: through the `"` that no backslash escapes, or up to CR, LF or the end; an escaped backslash escapes nothing
unfoldable pub closing : Bool → List ℕ → ℕ
closing escaped [] = 0
closing escaped (b ∷ r) =
    let n = suc (closing (eqb b (byte "\\") && not escaped) r) in
    cond (is_break b) 0 (cond (eqb b (byte "\"") && not escaped) 1 n)

-- the quotes that a text begins with
unfoldable pub quotes_end : List ℕ → ℕ
quotes_end [] = 0
quotes_end (b ∷ r) = let n = suc (closing false r) in cond (eqb b (byte "\"")) n 0

-- a key's or a value's text: its quotes, then up to what ends it
unfoldable pub text_end : ℕ → List ℕ → ℕ
text_end also s = quotes_end s + plain_end also (drop (quotes_end s) s)

-- a text that was read: trimmed, if it is UTF-8
unfoldable pub checked_of : Dropped → List ℕ → Option Part
checked_of which s = cond (utf8 s) (Some (trimmed (dropped which) s)) None

-- three quotes in front
unfoldable pub begins_hint : List ℕ → Bool
begins_hint s = starts_with (ascii "\"\"\"") s

-- 1 where `=` stands in front
unfoldable pub eq_size : List ℕ → ℕ
eq_size [] = 0
eq_size (b ∷ r) = cond (eqb b (byte "=")) 1 0

-- the first piece: through the first CR or LF, or all
unfoldable pub piece : List ℕ → List ℕ
piece [] = []
piece (b ∷ r) = let t = piece r in b ∷ cond (is_break b) [] t

unfoldable pub piece_len : List ℕ → ℕ
piece_len s = length (piece s)

-- only blanks and breaks
unfoldable pub is_void : List ℕ → Bool
is_void s = eqb (prefix_len (dropped BlanksAndBreaks) s) (length s)

-- the piece begins with the indentation, or has only blanks and breaks
unfoldable pub belongs_to : List ℕ → List ℕ → Bool
belongs_to indent p = starts_with indent p || is_void p

-- the bytes of a multiline value, piece by piece; inside: not at the start of a piece
unfoldable pub multiline_end : List ℕ → Bool → List ℕ → ℕ
multiline_end indent inside [] = 0
multiline_end indent inside (b ∷ r) =
    let n = suc (multiline_end indent (not (is_break b)) r) in
    cond (inside || belongs_to indent (piece (b ∷ r))) n 0

-- the line breaks, CR LF being one; cr: a CR stands before
unfoldable pub breaks_after : Bool → List ℕ → ℕ
breaks_after cr [] = 0
breaks_after cr (b ∷ r) =
    let c = suc (breaks_after true r) in
    let n = breaks_after false r in
    cond (eqb b (byte "\r")) c (cond (eqb b (byte "\n")) (cond cr n (suc n)) n)

abbrev pub breaks : List ℕ → ℕ
breaks s = breaks_after false s

-- the text is a lone LF
unfoldable pub is_lf : List ℕ → Bool
is_lf [] = false
is_lf (b ∷ []) = eqb b (byte "\n")
is_lf (b ∷ c ∷ r) = false

-- the text ends in CR; of an empty one, what is given
unfoldable pub ends_in_cr : Bool → List ℕ → Bool
ends_in_cr before [] = before
ends_in_cr before (b ∷ r) = ends_in_cr (eqb b (byte "\r")) r

-- the text ends in CR or LF; of an empty one, what is given
unfoldable pub ends_in_break : Bool → List ℕ → Bool
ends_in_break before [] = before
ends_in_break before (b ∷ r) = ends_in_break (is_break b) r

-- the lines that the pieces of a text add: one each, a last one without a break too, but none for the LF of a CR LF
unfoldable pub line_count : List ℕ → ℕ
line_count s = breaks s + cond (ends_in_break true s) 0 1

-- a multiline value of that indentation: its bytes and the lines that it adds
unfoldable pub lines_of : List ℕ → List ℕ → Lines
lines_of indent s = record { len = multiline_end indent false s; count = line_count (take (multiline_end indent false s) s) }
