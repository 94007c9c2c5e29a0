-- Claims: what the step in words is, of the words of a fit state: the tokenizer's step, or the parser's. proofs/Laws proves them.
use Rattle.parser_words.specs.Claims.{KeepsNone}
use Rattle.std.specs.Prelude.{ℕ, ◌≤◌, ◌≡◌, List, ◌++◌, true, cond, length, drop}
use Rattle.text.specs.Numbers.{max_document}
use Rattle.tokenizer.specs.Token.{values_of}
use Rattle.tokenizer.specs.Step.{fit, step_of as token_step}
use Rattle.tokenizer.specs.Said.{said_by}
use Rattle.tokenizer.specs.Lists.{is_end}
use Rattle.parser.specs.Step.{step_of, fresh}
use Rattle.parser.specs.declared.state.State.{State}
use Rattle.tokenizer_words.specs.Words.{tokenizer_size, words_of, state_in}
use Rattle.parser_words.specs.ParserWords.{parser_size, parser_words, parser_in, fresh_parser_in}
use Rattle.parser_words.specs.Stops.{is_stop}
use Rattle.step_words.specs.Stepping.{stays, step_in}
use Rattle.step_words.specs.declared.step.Layer.TheVariants.{Tokenizer, Parser}

-- a state with its 64 slots and 65 sections (the code's arrays have no other lengths) that keeps what is the tokenizer's and is fit
-- for the document
pub record Whole (d : List ℕ) (s : State) : Type 0 where
  pub slots : length s.tokenizer.indents ≡ 64
  pub sections : length s.sections ≡ 65
  pub keeps : KeepsNone s.kept
  pub fits : fit (length d) s.tokenizer ≡ true

-- the words of a reading of d: those of such a state
pub record Reading (d w : List ℕ) : Type 0 where
  pub words : w ≡ parser_words (parser_in w)
  pub whole : Whole d (parser_in w)

-- a walk begins with the fresh words
abbrev pub FreshReads : Type 0
FreshReads = (d w : List ℕ) → length w ≡ parser_size → (parser_in (fresh_parser_in w) ≡ fresh) × Reading d (fresh_parser_in w)

-- the tokenizer's: End changes nothing, and anything else is said, with the state after it in the words
abbrev pub TokenizerSteps : Type 0
TokenizerSteps =
    (d w : List ℕ) → length d ≤ max_document → tokenizer_size ≤ length w → fit (length d) (state_in w) ≡ true → let t = token_step d (state_in w) in
    step_in Tokenizer d w
    ≡ cond (is_end t.answer) (stays 0 w) (record { said = said_by (values_of t.answer); words = words_of t.state ++ drop tokenizer_size w })

-- the parser's: the same of End and 15, r being the words behind
abbrev pub ParserSteps : Type 0
ParserSteps =
    (d : List ℕ) (s : State) (r : List ℕ) → length d ≤ max_document → Whole d s → let t = step_of d s in let w = parser_words s ++ r in
    step_in Parser d w
    ≡ cond (is_stop t.answer) (stays (values_of t.answer).number w) (record { said = said_by (values_of t.answer); words = parser_words t.state ++ r })
