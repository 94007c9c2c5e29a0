-- `is_utf8` passes one character a turn. Invariant: the text is well-formed exactly where the rest is (proofs/Chars); it
-- holds where the eights of bytes below 80 end (proofs/Skipped). Measure: the bytes left, which fall because a character
-- has at least one.
use Rattle.utf8.specs.Utf8.{utf8}
use lib.ListN.{length}
use mathlib.Core.Path.{◌≡◌}
use Rattle.utf8.proofs.utf8.is_utf8.Given as goal

abbrev pub invariant-loop-b : goal.invariant-loop-b
invariant-loop-b l = utf8 l.fn.s ≡ utf8 l.rest

abbrev pub decreases-loop-b : goal.decreases-loop-b
decreases-loop-b l = length l.rest
