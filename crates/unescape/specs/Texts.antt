-- The port's own: unescaping given bytes, with no token and no document. A text or an indentation over a document's limit
-- is 12 on line 0, since no document has it; then come 8 to 11, then 14, on the line that is given. Places are counted
-- from the text's start. There is no 13: every text has a meaning, UTF-8 or not.
use Rattle.std.specs.Prelude.{ℕ, List, cond, ◌||◌, eqb, ltb, length}
use Rattle.text.specs.Numbers.{max_document}
use Rattle.text.specs.declared.refusals.Refusal.TheVariants.{TooLong}
use Rattle.unescape_pieces.specs.Meaning.{meaning}
use Rattle.unescape_pieces.specs.declared.start.Style.{Style}
use Rattle.unescape_pieces.specs.declared.start.Style.TheVariants.{AsIs, Entry, Block}
use Rattle.tokenizer.specs.Step.{no_part}
use Rattle.unescape.specs.Unescape.{Unescaped, kept_buffer, refused_at, delivered}

-- how the text of a token of kind k is read: a key's or a value's, a multiline value's, any other
unfoldable pub style_of : ℕ → Style
style_of k = cond (eqb k 6 || eqb k 7) Entry (cond (eqb k 9) Block AsIs)

-- the text s with the indentation i, read as r on line l
unfoldable pub unescape_text_of : Style → List ℕ → List ℕ → ℕ → List ℕ → Unescaped
unescape_text_of r s i l o =
    cond (ltb max_document (length s) || ltb max_document (length i)) (kept_buffer (refused_at TooLong 0 no_part) o) (delivered (meaning r s i) 0 l o)
