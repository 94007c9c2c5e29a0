-- The port's own: unescaping given bytes over lent words. A token's kind says how they are read; the answer is five words,
-- as for a token of a document, with places counted from the text's start.
use Rattle.std.specs.Prelude.{ℕ, List, ◌&&◌, leb, length}
use Rattle.unescape.specs.Texts.{style_of, unescape_text_of}
use Rattle.answer_words.specs.Texts.{answer_size, is_kind, Texts, answered}

-- the text s of a token of kind k on line l with the indentation i, the buffer o, and w for the answer
unfoldable pub given_text_of : ℕ → ℕ → List ℕ → List ℕ → List ℕ → List ℕ → Texts
given_text_of k l s i o w = answered (unescape_text_of (style_of k) s i l o) (is_kind k && leb answer_size (length w)) o w
