-- Only an indentation that opens has its slot written, and only one of the 64.
use borrow.Author.Tests.{lt-ltb, le-ltb}
use Rattle.front_words.specs.Fronts.{slot_in}
use Rattle.front_words.proofs.Fronts.{not-open}
use Rattle.front_words.proofs.front.put_slot.Goals as goal

pub returns-then-depth-lt-MAX_OPEN : goal.returns-then-depth-lt-MAX_OPEN
unfolding slot_in
returns-then-depth-lt-MAX_OPEN c = rw (c.in-Open.is, lt-ltb _ _ c.if-depth-lt-MAX_OPEN.true) c.paste.ensures

pub returns-else-depth-lt-MAX_OPEN : goal.returns-else-depth-lt-MAX_OPEN
unfolding slot_in
returns-else-depth-lt-MAX_OPEN c = rw (c.in-Open.is, le-ltb _ _ c.if-depth-lt-MAX_OPEN.false)

pub returns-in_default : goal.returns-in_default
returns-in_default c = not-open c.args.change c.args.indent c.args.depth c.args.w.now c.in_default.not-Open
