-- `copy` goes byte by byte. Invariant: the first i bytes are those of s, the others as they were.
use mathlib.Core.Path.{◌≡◌}
use mathlib.Core.List.{◌++◌}
use lib.ListN.{take, drop}
use Rattle.unescape.proofs.walk.copy.Given as goal

abbrev pub invariant-loop-i : goal.invariant-loop-i
invariant-loop-i l = l.out ≡ take l.i l.s ++ drop l.i l.initial.out
