-- Invariant: the words are those of a reading, and the rows so far are written (proofs/Turns). The measure is how many answers are
-- left.
use mathlib.Core.Path.{◌≡◌}
use lib.ListN.{length}
use Rattle.parser_words.specs.ParserWords.{parser_in}
use Rattle.parser_claims.specs.Rests.{rest}
use Rattle.step_words.specs.Claims.{Reading}
use Rattle.listing_text.proofs.Turns.{Turn}
use Rattle.listing_text.proofs.lines.listing.Given as goal

abbrev pub invariant-loop-row : goal.invariant-loop-row
invariant-loop-row l =
    Reading l.doc l.words
    × Turn l.doc l.initial.text.len l.text.len l.initial.text.out.now l.text.out.now (parser_in l.words)
    × (l.text.out.ghost_name ≡ l.initial.text.out.ghost_name)

abbrev pub decreases-loop-row : goal.decreases-loop-row
decreases-loop-row l = length (rest l.doc (parser_in l.words))
