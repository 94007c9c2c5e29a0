-- One law for each of the code's tests (proofs/Sections).
use mathlib.Core.Path.{sym}
use Rattle.parser.specs.Step.{innermost_of}
use Rattle.parser.proofs.Sections.{inner-past, inner_last}
use Rattle.parser.proofs.state.State.innermost.Goals as goal

pub returns-then-self-eq0 : goal.returns-then-self-eq0
unfolding innermost_of
returns-then-self-eq0 c = rw c.if-self-eq0.true

pub returns-then-self-gt65 : goal.returns-then-self-gt65
returns-then-self-gt65 c = sym (inner-past _ _ c.if-self-gt65.true)

pub returns : goal.returns
returns c = sym (inner_last _ _ c.if-self-eq0.false c.if-self-gt65.false)
