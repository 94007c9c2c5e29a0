-- `is_readable` tests what `readable` does; the words are read only where there are 137.
use borrow.Author.Tests.{lt-leb, le-leb}
use Rattle.tokenizer_words.specs.Words.{readable}
use Rattle.tokenizer_words.proofs.words.is_readable.Goals as goal

pub returns-then-w-lt137 : goal.returns-then-w-lt137
unfolding readable
returns-then-w-lt137 c = rw (lt-leb _ _ c.if-w-lt137.true)

pub returns : goal.returns
unfolding readable
returns c =
    rw (le-leb _ _ c.if-w-lt137.false)
