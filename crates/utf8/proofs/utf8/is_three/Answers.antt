-- `is_three` tests the first three bytes: they tell whether the character has three (proofs/Wide).
use Rattle.utf8.proofs.Wide.{least, most, three}
use lib.ListN.{get_or}
use borrow.Author.Tests.{eq-eqb, ne_eqb}
use mathlib.Core.Path.{◌≡◌, ◌∙◌}
use Rattle.utf8.proofs.utf8.is_three.Goals as goal
use Rattle.utf8.proofs.utf8.is_three.Goals.{then-s, else-s, then-s-2, else-s-2}

-- the range of the second byte, where the arms have met
pub returns : goal.returns
returns c =
    let first = get_or c.args.s.now 0 0 in
    let low : c.if-s.low ≡ least first =
    elim c.if-s.branch [ then-s w ↦ w.low-is ∙ rw (eq-eqb _ _ w.if-s.true) | else-s w ↦ w.low-is ∙ rw (ne_eqb _ _ w.if-s.false) ] in
    let high : c.if-s-2.high ≡ most first =
    elim c.if-s-2.branch [ then-s-2 w ↦ w.high-is ∙ rw (eq-eqb _ _ w.if-s-2.true) | else-s-2 w ↦ w.high-is ∙ rw (ne_eqb _ _ w.if-s-2.false) ] in
    rw (c.is_within.ensures, c.is_within-2.ensures, c.is_within-3.ensures, low, high) (three _ c.if-s-lt3.false)
