-- Invariant: the bytes so far are placed.
use Prim.Native.Nat.{◌+◌}
use mathlib.Core.Path.{◌≡◌}
use lib.ListN.{take}
use Rattle.listing_text.specs.Text.{placed}
use Rattle.listing_text.proofs.writing.Text.put.Given as goal

abbrev pub invariant-loop-b : goal.invariant-loop-b
invariant-loop-b l = record {
  same : l.self.out.ghost_name ≡ l.initial.self.out.ghost_name;
  len : l.self.len ≡ l.initial.self.len + l.b-index;
  out : l.self.out.now ≡ placed (take l.b-index l.s) l.initial.self.len l.initial.self.out.now;
}
