-- Claims about the rows: a token is read back from its row, distinct answers have distinct rows, and the words of a row
-- stand in this order, without which two halves that are wrong alike would do. proofs/Claimed proves them, and
-- proofs/Back that a token is read back.
use Rattle.std.specs.Prelude.{Some, Err, ℕ, ◌≡◌, List, [], ◌∷◌, ◌++◌, map}
use Rattle.tokenizer.specs.Token.{Answer, token_values, values_of}
use Rattle.text.specs.Numbers.{error}
use Rattle.text.specs.declared.refusals.Refusal.TheVariants.{TooManyOpen}
use Rattle.text.specs.Bytes.{part}
use Rattle.tokenizer.specs.Step.{no_part}
use Rattle.tokenizer.specs.declared.token.Token.{Token}
use Rattle.tokenizer.specs.declared.token.Token.TheVariants as token
use Rattle.tokenizer_rows.specs.Rows.{row_of, rows_of, token_in}

-- a token is read back from its row
abbrev pub TokensBack : Type 0
TokensBack = (t : Token) (r : List ℕ) → token_in (row_of (token_values t) ++ r) ≡ t

-- distinct answers have distinct rows, and distinct lists distinct rows one after the other
abbrev pub AnswerRows : Type 0
AnswerRows = (a b : Answer) → row_of (values_of a) ≡ row_of (values_of b) → a ≡ b

abbrev pub AnswerLists : Type 0
AnswerLists = (l m : List Answer) → rows_of (map values_of l) ≡ rows_of (map values_of m) → l ≡ m

-- The order of a row's words, by a row in which no two of them are alike, and the numbers of the kinds

-- a token of each kind, in the order of their numbers
abbrev pub tokens_by_kind : List Token
tokens_by_kind =
    token.Newline 1
    ∷ token.Comment 1 no_part
    ∷ token.Indent 1
    ∷ token.Outdent 1 0
    ∷ token.ListItem 1
    ∷ token.MapKey 1 no_part
    ∷ token.Value 1 no_part
    ∷ token.MultilineHint 1 no_part
    ∷ token.MultilineValue 1 no_part no_part
    ∷ token.NoValue 1
    ∷ []

pub record RowLayout : Type 0 where
  pub row : row_of (token_values (token.MultilineValue 5 (part 11 13) (part 17 29))) ≡ 9 ∷ 5 ∷ 17 ∷ 29 ∷ 11 ∷ 13 ∷ 0 ∷ []
  pub refusal : row_of (values_of (Some (Err (error TooManyOpen 5)))) ≡ 259 ∷ 5 ∷ 0 ∷ 0 ∷ 0 ∷ 0 ∷ 0 ∷ []
  pub kinds : map (λ t. (token_values t).number) tokens_by_kind ≡ 1 ∷ 2 ∷ 3 ∷ 4 ∷ 5 ∷ 6 ∷ 7 ∷ 8 ∷ 9 ∷ 10 ∷ []
