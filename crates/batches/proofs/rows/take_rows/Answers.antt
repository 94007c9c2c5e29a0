use Prim.Native.Nat.{◌+◌, ◌*◌, ◌/◌, ◌≤◌}
use lib.ListN.{length}
use mathlib.Core.Path.{◌≡◌, sym, ap, ◌∙◌}
use mathlib.Core.Bool.{true, false}
use native.Mathlib.Omega.{arith}
use Rattle.step_words.specs.Stepping.{stops_at, Gone, step_in}
use Rattle.step_words.proofs.Branches.{stop-stays, stop_some}
use Rattle.tokenizer_rows.specs.Rows.{row_by}
use Rattle.batches.proofs.Taking.{lent-stays, lent-row, start, next, at-end, full, last-stop, last-full}
use Rattle.batches.proofs.rows.take_rows.Goals as goal

pub loop-n-init : goal.loop-n-init
loop-n-init c = start _ _ _ _

pub returns-then-is_some : goal.returns-then-is_some
returns-then-is_some c =
    let g = step_in c.args.layer c.args.doc.now c.loop-n.w in
    let step = c.step_in-last.ensures in
    let e : stops_at g.said.number ≡ true = stop_some _ step.value c.is_some.ensures ∙ c.if-is_some.true in
    let d = at-end _ _ _ _ c.loop-n.invariant e in
    record {
      rows_value = d.0;
      last_value = rw e at step.value ∙ sym (last-stop _ _ _ _ c.loop-n.invariant c.loop-n-test.true d);
      w_after = step.w_after ∙ ap (λ (x : Gone). x.words) (stop-stays c.args.layer c.args.doc.now c.loop-n.w e) ∙ d.1.0;
      rows_after = lent-stays c.loop-n.rows _ _ (rw e at step.row_after) ∙ d.1.1;
    }

pub loop-n-preserved : goal.loop-n-preserved
loop-n-preserved c =
    let g = step_in c.args.layer c.args.doc.now c.loop-n.w in
    let step = c.step_in-last.ensures in
    let e : stops_at g.said.number ≡ false = stop_some _ step.value c.is_some.ensures ∙ c.if-is_some.false in
    let within : 7 * c.loop-n.n + 7 ≤ length c.loop-n.rows = omega (arith, c.loop-n-test.true) in
    next _ _ _ _ c.loop-n.invariant c.loop-n-test.true within e
    (lent-row c.loop-n.rows _ _ (row_by g.said) (omega arith) within (rw e at step.row_after)) step.w_after

pub returns : goal.returns
returns c =
    let d = full _ _ _ _ c.loop-n.invariant c.loop-n-test.false in
    let e : length c.args.rows.now / 7 ≡ c.loop-n.n = omega (arith, c.loop-n-test.false, c.loop-n.invariant.bound) in
    record { rows_value = e ∙ d.0; last_value = sym (last-full _ _ _ _ c.loop-n.invariant c.loop-n-test.false d); w_after = d.1.0; rows_after = d.1.1 }
