-- `space_eights` counts by words. Invariant: every byte before the next word is a space.
use Prim.Native.Nat.{◌*◌}
use Rattle.line_scans.specs.Words.{is_space}
use Rattle.line_scans.proofs.Places.{Clean}
use Rattle.line_scans.proofs.words.space_eights.Given as goal

abbrev pub invariant-loop-k : goal.invariant-loop-k
invariant-loop-k l = Clean is_space l.s (8 * l.k)
