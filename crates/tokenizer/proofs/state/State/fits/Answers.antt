-- What the front tells, and then the open indentations.
use mathlib.Core.Path.{sym, ◌∙◌}
use native.Mathlib.Omega.{arith}
use lib.ListN.{take}
use Rattle.std.proofs.Common.{rules, tests}
use Rattle.std.proofs.lemmas.Iterator.{YieldsList-from_slice}
use Rattle.std.proofs.lemmas.Iterator.Search.{all_from_yields_List}
use Rattle.tokenizer.specs.Step.{fit_part}
use Rattle.tokenizer.proofs.Fitness.{fit_parts, front-fitness, all_open}
use Rattle.tokenizer.proofs.state.State.fits.Goals as goal

pub returns-then-not-fits : goal.returns-then-not-fits
returns-then-not-fits c = rw (fit_parts c.args.n c.args.self, ← c.front.ensures, ← c.fits.ensures, c.if-not-fits.true)

pub shared_ref_as_front-iter : goal.shared_ref_as_front-iter
shared_ref_as_front-iter c = (front-fitness _ _ (rw c.front.ensures at (sym c.fits.ensures ∙ c.if-not-fits.false))).depth

pub returns : goal.returns
returns c =
    let s = c.args.self in
    let n = c.args.n in
    let h = rw c.front.ensures at (sym c.fits.ensures ∙ c.if-not-fits.false) in
    all_from_yields_List (fit_part n) _ _ _ c.all.ensures.ran (YieldsList-from_slice (take s.depth s.indents) c.iter.ensures.rest) (λ x b q k. search (rules, tests))
    ∙ all_open n s.indents s.depth (omega (arith, (front-fitness _ _ h).depth))
    ∙ sym (rw h at (fit_parts n s))
