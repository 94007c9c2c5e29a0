-- `fresh_parser` stores the fresh state, or nothing where there is no room for it.
use Rattle.parser_words.specs.ParserWords.{parser_stored_in, fresh_parser_in}
use Rattle.parser_words.proofs.words.fresh_parser.Goals as goal

pub returns : goal.returns
unfolding fresh_parser_in parser_stored_in
returns c = record { value = c.store_parser.ensures.value; state_after = rw c.new.ensures at c.store_parser.ensures.words_after }
