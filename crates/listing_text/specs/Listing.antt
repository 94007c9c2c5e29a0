-- Law: document 01, 'Look-up and listing': a header of names, then a row for each answer of the parser.
use Rattle.std.specs.Prelude.{Some, None, Ok, Err, ℕ, ◌-◌, List, [], ◌∷◌, ◌++◌, Bool, true, false, cond, leb, ltb, length, get_or}
use Rattle.tokenizer.specs.Token.{Answer, Values, token_values}
use Rattle.text.specs.Numbers.{error, number_of}
use Rattle.text.specs.declared.refusals.Refusal.TheVariants.{TooLong}
use Prim.Native.Char.{code as byte}
use Rattle.text.specs.Ascii.{ascii}
use Rattle.parser.specs.Lists.{parse}
use Rattle.listing_text.specs.Text.{decimal}

-- the longest document that is listed, in bytes
abbrev pub max_listed : ℕ
max_listed = 65_536

abbrev pub header : List ℕ
header = ascii "line kind start end\n"

-- a refusal's kind is R and its number
unfoldable pub kind_text : Bool → ℕ → List ℕ
kind_text true n = byte "R" ∷ decimal n
kind_text false n = decimal n

-- line, kind, start and end, with spaces between and LF behind
unfoldable pub row_text : ℕ → List ℕ → ℕ → ℕ → List ℕ
row_text l k a e = decimal l ++ ascii " " ++ k ++ ascii " " ++ decimal a ++ ascii " " ++ decimal e ++ ascii "\n"

abbrev pub token_text : Values → List ℕ
token_text v = row_text v.line (kind_text false v.number) v.start v.end

unfoldable pub answer_text : Answer → List ℕ
answer_text None = []
answer_text (Some (Ok t)) = token_text (token_values t)
answer_text (Some (Err e)) = row_text e.line (kind_text true (number_of e.refusal)) 0 0

-- the kind of an answer's row, in which a refusal's number is 256 more
unfoldable pub kind_in : ℕ → List ℕ
kind_in n = cond (leb 256 n) (kind_text true (n - 256)) (kind_text false n)

-- the same by the answer's row; End has none
unfoldable pub line_text : List ℕ → List ℕ
line_text r = row_text (get_or r 1 0) (kind_in (get_or r 0 0)) (get_or r 2 0) (get_or r 3 0)

unfoldable pub rows_text : List Answer → List ℕ
rows_text [] = []
rows_text (a ∷ l) = answer_text a ++ rows_text l

-- the listing of a document; of one that is too long it is the header and the row of refusal 12
unfoldable pub listing_of : List ℕ → List ℕ
listing_of d = header ++ cond (ltb max_listed (length d)) (answer_text (Some (Err (error TooLong 0)))) (rows_text (parse d))
