-- All top-level entries of an accepted document are of one sort: the parser went on to its end, and its answers run over the
-- sections from the top level to the top level.
use mathlib.Core.Path.{sym, ◌∙◌}
use lib.Dec.{ltb}
use lib.ListN.{length}
use borrow.Author.Tests.{ltb-false}
use Rattle.text.proofs.Cases.{by_bool, clash}
use Rattle.tokenizer.specs.Lists.{tokens}
use Rattle.parser.specs.Lists.{fresh_stand, parse, refused_in}
use Rattle.joining_claims.specs.TopSort.{OneSort}
use Rattle.joining_claims.proofs.Feeding.{fed}
use Rattle.joining_claims.proofs.Tops.{top-sorts}
use Rattle.joining_claims.proofs.Ending.{stopped, went}

pub one-sort : OneSort
unfolding parse refused_in
one-sort d f =
    by_bool (ltb 16777216 (length d))
    (λ e. absurd (clash (rw e at f)))
    (λ e.
    let h = ltb-false _ _ e in
    by_bool (fed fresh_stand (tokens d)).goes_on
    (λ g. let o = went d h g in top-sorts (o.runs (sym o.refused ∙ f)))
    (λ g. absurd (clash (sym (stopped d h g).refused ∙ f))))
