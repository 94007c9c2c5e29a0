-- One law for each of the code's branches (proofs/Steps).
use mathlib.Core.Path.{sym, ◌∙◌}
use Rattle.parser.proofs.Steps.{over, unfit, ended, goes_on}
use Rattle.parser.proofs.state.State.step.Goals as goal

pub returns-then-doc-gt-MAX_DOCUMENT : goal.returns-then-doc-gt-MAX_DOCUMENT
returns-then-doc-gt-MAX_DOCUMENT c = c.refused.ensures ∙ sym (over _ _ c.if-doc-gt-MAX_DOCUMENT.true)

pub returns-then-not-fits : goal.returns-then-not-fits
returns-then-not-fits c =
    c.refused-then-not-fits.ensures ∙ sym (unfit _ _ c.if-doc-gt-MAX_DOCUMENT.false (sym c.fits.ensures ∙ c.if-not-fits.true))

pub returns-then-self : goal.returns-then-self
returns-then-self c = c.ended.ensures ∙ sym (ended _ _ c.if-doc-gt-MAX_DOCUMENT.false (sym c.fits.ensures ∙ c.if-not-fits.false) c.if-self.true)

pub returns : goal.returns
returns c =
    c.step_kept.ensures ∙ sym (goes_on _ _ c.if-doc-gt-MAX_DOCUMENT.false (sym c.fits.ensures ∙ c.if-not-fits.false) c.if-self.false)
