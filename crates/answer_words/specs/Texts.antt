-- The port's own: the law's unescaping over lent words. The token is a row, and the answer is five words: 0 for the
-- plain part, 1 for a text that was written, 2 for a refusal; a refusal's number and line; start and end of the plain
-- part or of the part shown, 0 and the length of the written text.
use Rattle.std.specs.Prelude.{ℕ, List, [], ◌∷◌, ◌++◌, Bool, cond, ◌&&◌, ◌||◌, leb, ltb, length, get_or, drop, Result, Ok, Err}
use Rattle.text.specs.Numbers.{max_document, number_of}
use Rattle.tokenizer_rows.specs.Rows.{token_in}
use Rattle.unescape.specs.Unescape.{Unescaped, unescape_of}
use Rattle.unescape.specs.declared.answer.Answer.{Answer}
use Rattle.unescape.specs.declared.answer.Answer.TheVariants.{Plain, Written}
use Rattle.unescape.specs.declared.answer.Error.{Error}

-- how many words an answer has, here and in the look-up
abbrev pub answer_size : ℕ
answer_size = 5

unfoldable pub answer_words : Result Answer Error → List ℕ
answer_words (Ok (Plain p)) = 0 ∷ 0 ∷ 0 ∷ p.start ∷ p.end ∷ []
answer_words (Ok (Written n)) = 1 ∷ 0 ∷ 0 ∷ 0 ∷ n ∷ []
answer_words (Err e) = 2 ∷ number_of e.error.refusal ∷ e.error.line ∷ e.shown.start ∷ e.shown.end ∷ []

-- a token's kind
abbrev pub is_kind : ℕ → Bool
is_kind k = leb 1 k && leb k 10

-- a token's row: six words or more, of which the first is a token's kind
unfoldable pub is_token : List ℕ → Bool
is_token w = leb 6 (length w) && is_kind (get_or w 0 0)

-- over the limit every row has an answer, 12; else a token's row has
abbrev pub has_answer : List ℕ → List ℕ → Bool
has_answer d r = ltb max_document (length d) || is_token r

-- whether there is an answer and room for it, the buffer, and the words of the answer
pub record Texts : Type 0 where
  pub result : Bool
  pub buffer : List ℕ
  pub words : List ℕ

abbrev pub answered : Unescaped → Bool → List ℕ → List ℕ → Texts
answered u fits o w = record {
  result = fits;
  buffer = cond fits u.buffer o;
  words = cond fits (answer_words u.answer ++ drop answer_size w) w;
}

-- the token of row r in the document d, with the buffer o and w for the answer; over the limit any row will do, since
-- every token is 12
unfoldable pub text_of : List ℕ → List ℕ → List ℕ → List ℕ → Texts
text_of d r o w = answered (unescape_of d (token_in r) o) (has_answer d r && leb answer_size (length w)) o w
