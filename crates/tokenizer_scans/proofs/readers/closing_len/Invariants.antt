-- `closing_len` goes through the quotes by the laws of `closing` (proofs/Quotes). Invariant: what is passed and what `closing` says
-- from there on, with the same `escaped`, make up the quotes.
use Prim.Native.Nat.{◌+◌}
use mathlib.Core.Path.{◌≡◌}
use mathlib.Core.Bool.{false}
use lib.ListN.{drop}
use Rattle.tokenizer_scans.specs.Scans.{closing}
use Rattle.tokenizer_scans.proofs.readers.closing_len.Given as goal

abbrev pub invariant-loop-i : goal.invariant-loop-i
invariant-loop-i l = closing false l.s ≡ l.i + closing l.escaped (drop l.i l.s)
