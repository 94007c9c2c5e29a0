-- One pass over the parsing. Invariant: the words are those of a reading, and the search finds in what is left what the look-up finds
-- (proofs/Searching). Measure: what is left.
use lib.ListN.{length}
use Rattle.parser_words.specs.ParserWords.{parser_in}
use Rattle.parser_claims.specs.Rests.{rest}
use Rattle.step_words.specs.Claims.{Reading}
use Rattle.look_up.proofs.Searching.{Searching}
use Rattle.look_up.proofs.search.look_up.Given as goal

abbrev pub invariant-loop-found : goal.invariant-loop-found
invariant-loop-found l = Reading l.doc l.words × Searching l.doc l.wanted (parser_in l.words) l.search

abbrev pub decreases-loop-found : goal.decreases-loop-found
decreases-loop-found l = length (rest l.doc (parser_in l.words))
