-- `multiline_len` goes piece by piece by the laws of proofs/Pieces. Invariant: the bytes passed are pieces that belong, `count` is
-- the lines that they add, no more than the bytes, and `was_cr` says whether they end in CR. Measure: the bytes left.
use Prim.Native.Nat.{◌-◌}
use lib.ListN.{length}
use Rattle.tokenizer_scans.proofs.Pieces.{Passed}
use Rattle.tokenizer_scans.proofs.readers.multiline_len.Given as goal

abbrev pub invariant-loop-len : goal.invariant-loop-len
invariant-loop-len l = Passed l.indent l.s l.len l.count l.was_cr

abbrev pub decreases-loop-len : goal.decreases-loop-len
decreases-loop-len l = length l.s - l.len
