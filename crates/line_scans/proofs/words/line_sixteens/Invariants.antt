-- `line_sixteens` counts by pairs of words. Invariant: no byte before the next pair is CR or LF.
use Prim.Native.Nat.{◌*◌}
use Rattle.line_scans.specs.Words.{in_line}
use Rattle.line_scans.proofs.Places.{Clean}
use Rattle.line_scans.proofs.words.line_sixteens.Given as goal

abbrev pub invariant-loop-k : goal.invariant-loop-k
invariant-loop-k l = Clean in_line l.s (16 * l.k)
