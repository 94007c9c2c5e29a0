-- One answer for each variant.
use Rattle.tokenizer_words.specs.Words.{held_words}
use Rattle.tokenizer_words.proofs.words.held_words.Goals as goal

pub returns-in-None : goal.returns-in-None
unfolding held_words
returns-in-None c = rw c.in-None.is

pub returns-in-Some : goal.returns-in-Some
unfolding held_words
returns-in-Some c = rw c.in-Some.is
