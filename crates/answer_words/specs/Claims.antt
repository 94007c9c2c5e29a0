-- Claims about the words of answers: a token's row is unescaped as the token is, over the limit 12 comes first, and
-- distinct answers have distinct words, in the order of include/conl.h. proofs/Claimed proves them.
use Rattle.std.specs.Prelude.{ℕ, ◌≤◌, ◌<◌, ◌≡◌, List, [], ◌∷◌, ◌++◌, true, false, length, take, drop, Result, Ok}
use Rattle.text.specs.Bytes.{part}
use Rattle.text.specs.Numbers.{max_document, too_long}
use Rattle.text.specs.declared.refusals.Refusal.TheVariants.{InvalidEscape}
use Rattle.tokenizer.specs.Token.{token_values}
use Rattle.tokenizer.specs.declared.token.Token.{Token}
use Rattle.tokenizer_rows.specs.Rows.{row_of}
use Rattle.unescape.specs.Unescape.{refused_at, unescape_of}
use Rattle.unescape.specs.declared.answer.Answer.{Answer}
use Rattle.unescape.specs.declared.answer.Answer.TheVariants as answer
use Rattle.unescape.specs.declared.answer.Error.{Error}
use Rattle.answer_words.specs.Texts.{answer_size, answer_words, is_token, text_of}

-- a token's row, with its last word or without it, is unescaped as the token is, with every buffer
abbrev pub RowsUnescaped : Type 0
RowsUnescaped =
    (d : List ℕ) (t : Token) (r o w : List ℕ) → answer_size ≤ length w
    → text_of d (take 6 (row_of (token_values t)) ++ r) o w ≡ record {
      result = true;
      buffer = (unescape_of d t o).buffer;
      words = answer_words (unescape_of d t o).answer ++ drop answer_size w;
    }

-- over the limit 12 on line 0, whatever the row, and the buffer as it was
abbrev pub TextsOver : Type 0
TextsOver =
    (d r o w : List ℕ) → max_document < length d → answer_size ≤ length w
    → text_of d r o w ≡ record { result = true; buffer = o; words = 2 ∷ too_long ∷ 0 ∷ 0 ∷ 0 ∷ drop answer_size w }

-- nothing is written where there is no room for an answer, or, within the limit, where the row is no token's
abbrev pub NoRoom : Type 0
NoRoom = (d r o w : List ℕ) → length w < answer_size → text_of d r o w ≡ record { result = false; buffer = o; words = w }

abbrev pub NoToken : Type 0
NoToken =
    (d r o w : List ℕ) → length d ≤ max_document → is_token r ≡ false → text_of d r o w ≡ record { result = false; buffer = o; words = w }

-- distinct answers have distinct words
abbrev pub AnswersTold : Type 0
AnswersTold = (a b : Result Answer Error) → answer_words a ≡ answer_words b → a ≡ b

pub record Layout : Type 0 where
  pub plain : answer_words (Ok (answer.Plain (part 3 9))) ≡ 0 ∷ 0 ∷ 0 ∷ 3 ∷ 9 ∷ []
  pub written : answer_words (Ok (answer.Written 7)) ≡ 1 ∷ 0 ∷ 0 ∷ 0 ∷ 7 ∷ []
  pub refused : answer_words (refused_at InvalidEscape 4 (part 3 9)) ≡ 2 ∷ 8 ∷ 4 ∷ 3 ∷ 9 ∷ []
