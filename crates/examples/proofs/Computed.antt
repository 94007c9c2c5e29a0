-- The rows marked P hold: each was computed from the rules in the crate of the rules.
use Rattle.tokenizer.proofs.Examples as tokenizer
use Rattle.parser.proofs.Examples as parser
use Rattle.unescape.proofs.Examples as unescape
use Rattle.listing_text.proofs.Examples as rows
use Rattle.examples.specs.Examples.{Examples}

pub computed : Examples
computed = record {
  no_tokens = tokenizer.empty;
  no_answers = parser.empty;
  listing_answers = parser.listing;
  listing_bytes = rows.listed;
  four_quotes = tokenizer.four_quotes;
  hint_tokens = tokenizer.hint-then-comment;
  hint_answers = parser.hint-then-comment;
  space_tokens = tokenizer.space-a;
  space_answers = parser.space-a;
  outdent_on_line_four = tokenizer.outdent_on_line_four;
  last_scalar = unescape.last_scalar;
  past_last = unescape.past_last;
  nine_digits = unescape.nine_digits;
  unclosed = unescape.unclosed;
  extra = unescape.extra;
  four_lines = unescape.four_lines;
}
