-- All sorts in their order (proofs/Sections).
use mathlib.Core.Path.{refl, ◌∙◌}
use lib.Dec.{leb}
use lib.ListN.{get_or}
use Prim.Native.Nat.{◌+◌, ◌*◌}
use Rattle.std.proofs.Common.{rules, tests}
use Rattle.std.proofs.lemmas.Iterator.{YieldsList-from_range}
use Rattle.std.proofs.lemmas.Iterator.Search.{all_from_yields_List}
use Rattle.parser_words.proofs.Sections.{sorts_all}
use Rattle.parser_words.proofs.words.are_sorts.Goals as goal

pub returns : goal.returns
returns c =
    let w = c.args.w.now in
    all_from_yields_List (λ i. leb (get_or w (148 + 2 * i) 0) 2) _ _ _ c.all.ensures.ran
    (YieldsList-from_range 0 65 65 refl refl) (λ x b q k. search (rules, tests))
    ∙ sorts_all w 65 0
