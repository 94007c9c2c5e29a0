-- `digits_value` reads from the left. Invariant: n is below 16^i after i digits, and with the digits left makes the whole number.
use Prim.Native.Nat.{◌^◌, ◌<◌}
use mathlib.Core.Path.{◌≡◌}
use lib.ListN.{drop}
use Rattle.unescape_codes.specs.Codes.{digits_from}
use Rattle.unescape_codes.proofs.codes.digits_value.Given as goal

abbrev pub invariant-loop-b : goal.invariant-loop-b
invariant-loop-b l = (l.n < 16 ^ l.b-index) × (digits_from 0 l.h ≡ digits_from l.n (drop l.b-index l.h))
