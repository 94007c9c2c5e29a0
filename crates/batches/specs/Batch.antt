-- The port's own: a batch of steps, which are the law's, over lent slices: a row for each answer before the batch stops, and
-- the state after them.
use Rattle.std.specs.Prelude.{ℕ, zero, suc, ◌+◌, ◌/◌, ◌^◌, List, [], ◌∷◌, ◌++◌, Bool, cond, not, ◌&&◌, ltb, length, drop}
use Rattle.text.specs.Numbers.{max_document, too_long, unfit_state}
use Rattle.tokenizer.specs.Token.{Values, values_of}
use Rattle.tokenizer.specs.Step.{fit, step_of as token_step}
use Rattle.tokenizer.specs.Lists.{is_end}
use Rattle.tokenizer.specs.declared.state.State.{State as Tokenizer}
use Rattle.parser.specs.Step.{step_of}
use Rattle.parser.specs.declared.state.State.{State}
use Rattle.tokenizer_rows.specs.Rows.{row_size, rows_in}
use Rattle.tokenizer_words.specs.Words.{tokenizer_size, words_of, state_in, readable}
use Rattle.parser_words.specs.ParserWords.{parser_size, parser_words, parser_in, parser_readable}
use Rattle.parser_words.specs.Stops.{is_unfit, is_stop}

-- steps over a document: the answer at a state, the state after it, and whether a batch stops before it
pub record Steps (S : Type 0) : Type 0 where
  pub says : S → Values
  pub next : S → S
  pub stops : S → Bool

-- answers, and the state after them
pub record Taken (S : Type 0) : Type 0 where
  pub answers : List Values
  pub state : S

abbrev pub taken_more : {S : Type 0} → Values → Taken S → Taken S
taken_more v t = record { answers = v ∷ t.answers; state = t.state }

-- at most n answers from a state on; the one that stops, and what comes with it, is not taken
unfoldable pub taken : {S : Type 0} → Steps S → ℕ → S → Taken S
taken m zero s = record { answers = []; state = s }
taken m (suc n) s =
    let t = taken_more (m.says s) (taken m n (m.next s)) in
    cond (m.stops s) (record { answers = []; state = s }) t

-- what a batch returns and leaves in the lent slices
pub record Batch : Type 0 where
  pub result : ℕ
  pub words : List ℕ
  pub rows : List ℕ

-- a refusal: its number above any count of rows, and nothing written
abbrev pub refused_batch : ℕ → List ℕ → List ℕ → Batch
refused_batch n w rows = record { result = 2 ^ 63 + n; words = w; rows = rows }

-- the answers' rows, and the words w of the state after them
abbrev pub taken_batch : List Values → List ℕ → List ℕ → Batch
taken_batch l w rows = record { result = length l; words = w; rows = rows_in l rows }

-- 12, then 15 where the words are no fit state's, before the first step
unfoldable pub batch_by : List ℕ → Bool → Batch → List ℕ → List ℕ → Batch
batch_by d fits b w rows = cond (ltb max_document (length d)) (refused_batch too_long w rows) (cond fits b (refused_batch unfit_state w rows))

-- the tokenizer's steps stop at End
abbrev pub tokenizing : List ℕ → Steps Tokenizer
tokenizing d = record {
  says = λ s. values_of (token_step d s).answer;
  next = λ s. (token_step d s).state;
  stops = λ s. is_end (token_step d s).answer;
}

-- as many of the tokenizer's steps as there is room for rows
unfoldable pub batch_of : List ℕ → List ℕ → List ℕ → Batch
batch_of d w rows =
    let t = taken (tokenizing d) (length rows / row_size) (state_in w) in
    batch_by d (readable w && fit (length d) (state_in w)) (taken_batch t.answers (words_of t.state ++ drop tokenizer_size w) rows) w rows

-- the parser's steps stop at End and at 15: the batch stops before that 15, and the next one is refused by it
abbrev pub parsing : List ℕ → Steps State
parsing d = record {
  says = λ s. values_of (step_of d s).answer;
  next = λ s. (step_of d s).state;
  stops = λ s. is_stop (step_of d s).answer;
}

-- as many of the parser's steps as there is room for rows
unfoldable pub parse_batch_of : List ℕ → List ℕ → List ℕ → Batch
parse_batch_of d w rows =
    let s = parser_in w in
    let t = taken (parsing d) (length rows / row_size) s in
    batch_by d (parser_readable w && not (is_unfit (step_of d s).answer)) (taken_batch t.answers (parser_words t.state ++ drop parser_size w) rows) w rows
