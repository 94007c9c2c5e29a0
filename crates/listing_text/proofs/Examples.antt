-- Document 01's example of a listing, computed from the rule.
use mathlib.Core.Path.{◌≡◌, refl}
use mathlib.Core.List.{◌++◌}
use Rattle.text.specs.Ascii.{ascii}
use Rattle.tokenizer.specs.Token.{token_values}
use Rattle.parser.proofs.Examples.{rules}
use Rattle.listing_text.specs.Text.{digits_in, decimal}
use Rattle.listing_text.specs.Listing.{kind_text, row_text, answer_text, rows_text, listing_of}

-- `a` LF `  = "x"` LF: the header, and a row for each of seven answers
pub listed : listing_of (ascii "a\n  = \"x\"\n")
    ≡ ascii "line kind start end\n"
    ++ ascii "1 6 0 1\n"
    ++ ascii "1 1 0 0\n"
    ++ ascii "2 3 0 0\n"
    ++ ascii "2 5 0 0\n"
    ++ ascii "2 7 6 9\n"
    ++ ascii "2 1 0 0\n"
    ++ ascii "3 4 0 0\n"
unfolding rules token_values digits_in decimal kind_text row_text answer_text rows_text listing_of
listed = refl
