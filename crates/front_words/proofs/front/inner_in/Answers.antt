-- The slot by its two words; empty where nothing is open, and past the slots.
use Rattle.front_words.proofs.Fronts.{inner-at, inner-past}
use Rattle.front_words.proofs.front.inner_in.Goals as goal

pub returns-then-depth-gt-MAX_OPEN : goal.returns-then-depth-gt-MAX_OPEN
returns-then-depth-gt-MAX_OPEN c = inner-past c.args.w.now c.args.depth c.if-depth-gt-MAX_OPEN.true

pub returns : goal.returns
returns c = inner-at c.args.w.now c.args.depth c.if-depth-eq0.false c.if-depth-gt-MAX_OPEN.false
