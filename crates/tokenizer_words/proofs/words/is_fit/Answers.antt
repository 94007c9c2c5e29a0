-- Readable, then what the front tells, and then the open indentations.
use Prim.Native.Nat.{◌≤◌}
use mathlib.Core.Path.{refl, sym, ap, ◌∙◌}
use native.Mathlib.Omega.{arith}
use lib.ListN.{length}
use Rattle.std.proofs.Common.{rules, tests}
use Rattle.std.proofs.iter.Serving.{serving}
use Rattle.std.proofs.lemmas.Iterator.{YieldsList-from_range}
use Rattle.std.proofs.lemmas.Iterator.Search.{all_from_yields_List}
use Rattle.tokenizer.specs.Step.{fit_part, fit_open}
use Rattle.tokenizer.specs.declared.front.Front.{Front}
use Rattle.tokenizer.proofs.Fitness.{fit_parts, front-fitness}
use Rattle.tokenizer_words.specs.Words.{state_in}
use Rattle.tokenizer_words.proofs.Storing.{has-137}
use Rattle.tokenizer_words.proofs.Restoring.{slot, slots_fit}
use Rattle.tokenizer_words.proofs.words.is_fit.Goals as goal

pub returns-then-not-fits : goal.returns-then-not-fits
returns-then-not-fits c =
    rw (
      sym c.is_readable.ensures ∙ c.if-not-is_readable.false,
      fit_parts c.args.n (state_in c.args.w.now),
      rw c.front_in-front.ensures at (sym c.fits.ensures ∙ c.if-not-fits.true),
    )

pub all-requires-clause-callable : goal.all-requires-clause-callable
all-requires-clause-callable c =
    let long : 137 ≤ length c.args.w.now = has-137 _ (sym c.is_readable.ensures ∙ c.if-not-is_readable.false) in
    let deep : c.front_in-front.result.depth ≤ 64 = (front-fitness _ _ (sym c.fits.ensures ∙ c.if-not-fits.false)).depth in
    grind serving

pub returns : goal.returns
returns c =
    let n = c.args.n in
    let w = c.args.w.now in
    let s = state_in w in
    let r = sym c.is_readable.ensures ∙ c.if-not-is_readable.false in
    let f = rw c.front_in-front.ensures at (sym c.fits.ensures ∙ c.if-not-fits.false) in
    let d = c.front_in-front.result.depth in
    let deep = (front-fitness n _ (sym c.fits.ensures ∙ c.if-not-fits.false)).depth in
    rw (r, fit_parts n s, f)
    (all_from_yields_List (λ i. fit_part n (slot w i)) _ _ _ c.all.ensures.ran
    (YieldsList-from_range 0 d d refl (omega arith)) (λ x b q k. search (rules, tests))
    ∙ slots_fit n w d deep
    ∙ ap (λ (x : Front). fit_open n s.indents x.depth) c.front_in-front.ensures)
