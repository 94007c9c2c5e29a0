-- 12, then 15, then the front's step, which is the step of a fit state (proofs/Advancing).
use mathlib.Core.Path.{sym, ◌∙◌}
use native.Mathlib.Omega.{arith}
use Rattle.tokenizer.proofs.Fitness.{fitness}
use Rattle.tokenizer.proofs.Kept.{step-fit}
use Rattle.tokenizer.proofs.Steps.{over, unfit}
use Rattle.tokenizer.proofs.Advancing.{step-depth, steps}
use Rattle.tokenizer.proofs.state.State.step.Goals as goal

pub returns-then-doc-gt-MAX_DOCUMENT : goal.returns-then-doc-gt-MAX_DOCUMENT
returns-then-doc-gt-MAX_DOCUMENT c = c.refused.ensures ∙ sym (over _ _ c.if-doc-gt-MAX_DOCUMENT.true)

pub returns-then-not-fits : goal.returns-then-not-fits
returns-then-not-fits c =
    c.refused-then-not-fits.ensures ∙ sym (unfit _ _ c.if-doc-gt-MAX_DOCUMENT.false (sym c.fits.ensures ∙ c.if-not-fits.true))

pub innermost-requires : goal.innermost-requires
innermost-requires c = (fitness _ _ (sym c.fits.ensures ∙ c.if-not-fits.false)).depth

pub after-state-requires : goal.after-state-requires
after-state-requires c =
    let f = sym c.fits.ensures ∙ c.if-not-fits.false in
    let d = c.args.doc.now in
    let s = c.args.self in
    let l = c.if-doc-gt-MAX_DOCUMENT.false in
    let m = rw (c.front.ensures, c.innermost.ensures) at c.advance-m.ensures in
    rw m (omega (arith, step-depth d s l f, (fitness _ _ (step-fit d s l f)).depth))

pub returns : goal.returns
returns c =
    rw (c.after-state.ensures, c.answer-answer.ensures, c.advance-m.ensures, c.front.ensures, c.innermost.ensures)
    (steps c.args.doc.now c.args.self c.if-doc-gt-MAX_DOCUMENT.false (sym c.fits.ensures ∙ c.if-not-fits.false))
