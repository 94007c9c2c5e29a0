-- `next` takes the piece at the cursor (proofs/Readings).
use Prim.Native.Nat.{◌+◌, ◌≤◌}
use mathlib.Core.Path.{◌≡◌, sym, refl, ◌∙◌}
use native.Mathlib.Omega.{arith}
use lib.ListN.{length, length-drop}
use lib.Seq.{length-take-le}
use Rattle.std.specs.Prelude.{Some, Ok}
use Rattle.text.proofs.Front.{from}
use Rattle.unescape_pieces.proofs.Ends.{shows_more}
use Rattle.unescape_pieces.proofs.Readings.{found, no-meaning, shows, still, none-after, no-more, came, within, nearer, skips, passes}
use Rattle.unescape_pieces.proofs.reading.CursorIterator.next.Goals as goal
use Rattle.unescape_pieces.proofs.reading.CursorIterator.next.Goals.{In_ok-next}

pub placed-requires : goal.placed-requires
placed-requires c =
    shows_more _ _ _ (omega (arith, length-drop c.args.self.now.at c.args.self.now.text.now)) (shows c.args.self.now (sym c.in-Err.is ∙ rw from at c.next_piece.ensures))

pub returns-in-Err-clause-steps : goal.returns-in-Err-clause-steps
returns-in-Err-clause-steps c =
    (rw c.placed.ensures (no-meaning c.args.self.now (sym c.in-Err.is ∙ rw from at c.next_piece.ensures)), none-after c.args.self.now _)

pub returns-in-Err-clause-goes : goal.returns-in-Err-clause-goes
returns-in-Err-clause-goes c =
    let h = still c.args.self.now (sym c.in-Err.is ∙ rw from at c.next_piece.ensures) in
    record { on = λ _. (tt, tt, omega arith); keeps = tt; rests = λ _. tt }

pub returns-in_err-next-clause-steps : goal.returns-in_err-next-clause-steps
returns-in_err-next-clause-steps c =
    rw c.from_residual.ensures (no-more c.args.self.now (rw c.in_err-next.was at (sym c.in-Ok.is ∙ rw from at c.next_piece.ensures)))

-- the piece that comes, and that it lies within the text
came-here : (c : In_ok-next) → Ok (Some c.in_ok-next.next) ≡ found c.args.self.now
came-here c = came c.args.self.now c.in-Ok.is c.in_ok-next.was c.next_piece.ensures

within-here : (c : In_ok-next) → c.args.self.now.at + c.in_ok-next.next.pass ≤ length c.args.self.now.text.now
within-here c = within c.args.self.now (came-here c) c.args.self.now.within

pub slice_bounds-passed-end : goal.slice_bounds-passed-end
slice_bounds-passed-end c = let w = within-here c in rw from (sym (length-take-le _ _ (rw length-drop (omega arith))))

pub overflow_add-self : goal.overflow_add-self
overflow_add-self c = omega (arith, within-here (goal.at.overflow_add-self c).In_ok-next)

pub invariant_of-self-2 : goal.invariant_of-self-2
invariant_of-self-2 c = record { within = within-here (goal.at.invariant_of-self-2 c).In_ok-next }

pub bytes_of-requires : goal.bytes_of-requires
bytes_of-requires c = rw from (skips c.args.self.now (came-here (goal.at.bytes_of-requires c).In_ok-next) c.args.self.now.within)

pub returns-clause-steps : goal.returns-clause-steps
returns-clause-steps c =
    passes c.args.self.now (came-here (goal.at.returns-clause-steps c).In_ok-next) c.args.self.now.within _ _ refl refl refl refl (rw from at c.bytes_of.ensures)

pub returns-clause-goes : goal.returns-clause-goes
returns-clause-goes c =
    record {
      on = λ _. (tt, tt, nearer c.args.self.now (came-here (goal.at.returns-clause-goes c).In_ok-next) c.args.self.now.within);
      keeps = tt;
      rests = λ _. tt;
    }
