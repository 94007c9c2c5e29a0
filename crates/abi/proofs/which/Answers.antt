-- `which` is its definition.
use Rattle.abi.specs.Lent.{which_of}
use Rattle.abi.proofs.which.Goals as goal

pub returns-then-breaks : goal.returns-then-breaks
unfolding which_of
returns-then-breaks c = rw c.if-breaks.true

pub returns-else-breaks : goal.returns-else-breaks
unfolding which_of
returns-else-breaks c = rw c.if-breaks.false
