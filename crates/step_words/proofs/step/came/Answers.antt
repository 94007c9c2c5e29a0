use mathlib.Core.Path.{ap, ◌∙◌}
use lib.ListN.{drop}
use borrow.Author.Tests.{eq-eqb, ne_eqb}
use Rattle.tokenizer.specs.Step.{inner_of}
use Rattle.tokenizer.specs.Front.{advanced_of}
use Rattle.tokenizer.specs.declared.front.Front.{Front}
use Rattle.tokenizer_words.specs.Words.{parts_in, state_in}
use Rattle.step_words.specs.Stepping.{came_in}
use Rattle.step_words.proofs.step.came.Goals as goal

pub returns-then-kept_number-eq-END : goal.returns-then-kept_number-eq-END
unfolding came_in state_in
returns-then-kept_number-eq-END c =
    rw (← c.kept_number.ensures, eq-eqb _ _ c.if-kept_number-eq-END.true)
    (c.advance-m.ensures ∙ ap (advanced_of c.args.doc.now c.front_in-front.result) c.inner_in-inner.ensures
    ∙ ap (λ (f : Front). advanced_of c.args.doc.now f (inner_of (parts_in 64 (drop 9 c.args.w.now)) f.depth)) c.front_in-front.ensures)

pub returns : goal.returns
unfolding came_in
returns c =
    rw (c.unmoved.ensures, ← c.kept_number.ensures, ne_eqb _ _ c.if-kept_number-eq-END.false, c.kept_said-said.ensures, c.front_in-front.ensures)
