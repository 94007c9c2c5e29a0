-- The law that ties `next` to the parser's step: what the walks inside the library go by. proofs/Walking proves it.
use Rattle.tokenizer.specs.Token.{values_of}
use Rattle.std.specs.Prelude.{ℕ, ◌≡◌, List}
use Rattle.tokenizer.specs.Said.{said_by}
use Rattle.parser.specs.Step.{step_of}
use Rattle.parser_words.specs.ParserWords.{parser_in}
use Rattle.step_words.specs.Claims.{Reading}
use Rattle.step_words.specs.Stepping.{Gone}
use Rattle.batches.specs.Walks.{next_of}

-- what is said is what the parser's step of the state in the words says, and the words after it are those of the state after it
pub record ParserStep (d w : List ℕ) (g : Gone) : Type 0 where
  pub said : g.said ≡ said_by (values_of (step_of d (parser_in w)).answer)
  pub state : parser_in g.words ≡ (step_of d (parser_in w)).state
  pub reading : Reading d g.words

-- of the words of a reading, `next` is the parser's step
abbrev pub NextSteps : Type 0
NextSteps = (d w : List ℕ) → Reading d w → ParserStep d w (next_of d w)
