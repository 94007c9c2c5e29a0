-- By cases on the ruling, which asks of the record of sections no more than it has (proofs/Sections).
use mathlib.Core.Path.{sym, subst, ◌∙◌}
use Rattle.parser.specs.Step.{step_with}
use Rattle.parser.proofs.Sections.{Asks, asks-no-more}
use Rattle.parser.proofs.state.State.step_with.Goals as goal

pub after-state-requires : goal.after-state-requires
after-state-requires c =
    subst (Asks c.args.self.count) (sym c.rule.ensures ∙ c.in-Says.is)
    (rw c.innermost.ensures (asks-no-more c.args.self.sections c.args.self.count c.args.self.awaited c.args.came))

pub returns-in-Says : goal.returns-in-Says
unfolding step_with
returns-in-Says c =
    rw (c.after-state.ensures, ← c.innermost.ensures, sym c.rule.ensures ∙ c.in-Says.is)

pub returns-in-End : goal.returns-in-End
unfolding step_with
returns-in-End c =
    rw (c.ended.ensures, ← c.innermost.ensures, sym c.rule.ensures ∙ c.in-End.is)

pub returns-in-Unfit : goal.returns-in-Unfit
unfolding step_with
returns-in-Unfit c =
    rw (c.refused.ensures, ← c.innermost.ensures, sym c.rule.ensures ∙ c.in-Unfit.is)
