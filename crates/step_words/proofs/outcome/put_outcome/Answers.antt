-- By cases on the change: the count after it, and the words with its section.
use Prim.Native.Nat.{ℕ}
use mathlib.Core.Path.{◌≡◌}
use mathlib.Core.List.{List}
use Rattle.parser.specs.Step.{count_after}
use Rattle.step_words.specs.Outcomes.{section_put, outcome_in}
use Rattle.step_words.proofs.outcome.put_outcome.Goals as goal
use Rattle.step_words.proofs.outcome.put_outcome.Goals.{in-Keep, in-Fix, in-Open, in-Close}

pub returns : goal.returns
unfolding outcome_in section_put count_after
returns c =
    let o = c.args.o in
    let both : (c.match-o.after ≡ count_after o.change c.args.count) × (◌≡◌ {A = List ℕ} c.match-o.w (section_put o.change c.args.count c.args.w.now)) =
    elim c.match-o.branch [
      | in-Keep b ↦ rw b.in-Keep.is (b.after-is, b.w-is)
      | in-Fix b ↦ rw (b.in-Fix.is, ← b.from.ensures) (b.after-is, b.w-is)
      | in-Open b ↦ rw b.in-Open.is (b.after-is, b.w-is)
      | in-Close b ↦ rw b.in-Close.is (b.after-is, b.w-is)
    ] in
    rw (c.paste.ensures, c.middle_by-middle.ensures, both.0, both.1)
