-- Invariant: so many steps were taken, the words are those after them, and their rows stand in the rows (proofs/Taking).
use Rattle.batches.specs.Walks.{stepping}
use Rattle.batches.proofs.Taking.{Turn}
use Rattle.batches.proofs.rows.take_rows.Given as goal

abbrev pub invariant-loop-n : goal.invariant-loop-n
invariant-loop-n l = Turn (stepping l.layer l.doc) l.initial.rows l.rows l.room l.n l.initial.w l.w
