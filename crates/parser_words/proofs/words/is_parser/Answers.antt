-- `is_parser` tests what `parser_readable` does; the words are read only where there are 278.
use borrow.Author.Tests.{lt-leb, le-leb}
use Rattle.parser_words.specs.ParserWords.{parser_readable}
use Rattle.parser_words.proofs.words.is_parser.Goals as goal

pub returns-then-w-lt278 : goal.returns-then-w-lt278
unfolding parser_readable
returns-then-w-lt278 c = rw (lt-leb _ _ c.if-w-lt278.true)

pub returns : goal.returns
unfolding parser_readable
returns c =
    rw (le-leb _ _ c.if-w-lt278.false, c.is_readable-front.ensures, c.are_sorts-sorts.ensures)
