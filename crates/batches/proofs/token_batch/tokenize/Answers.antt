-- `tokenize` takes the branches of `batch_of` (proofs/Batching).
use mathlib.Core.Path.{sym, ap, ◌∙◌}
use mathlib.Core.Bool.{cond}
use native.Mathlib.Omega.{arith}
use lib.Seq.{length-take-le}
use Rattle.tokenizer_words.specs.Words.{stored_in, state_in}
use Rattle.batches.specs.Batch.{batch_of}
use Rattle.batches.proofs.Branching.{over, unfit, promised}
use Rattle.batches.proofs.Batching.{tokens-done}
use Rattle.batches.proofs.token_batch.tokenize.Goals as goal

pub returns-then-doc-gt-MAX_DOCUMENT : goal.returns-then-doc-gt-MAX_DOCUMENT
unfolding batch_of
returns-then-doc-gt-MAX_DOCUMENT c =
    let all = promised (over _ _ _ _ _ c.if-doc-gt-MAX_DOCUMENT.true) in
    record { value = all.0; state_after = all.1.0; rows_after = all.1.1 }

pub returns-then-not-restore : goal.returns-then-not-restore
unfolding batch_of
returns-then-not-restore c =
    let all =
    promised
    (unfit _ _ _ _ _ c.if-doc-gt-MAX_DOCUMENT.false (sym c.restore.ensures.value ∙ c.if-not-restore.true)) in
    record { value = all.0; state_after = all.1.0; rows_after = all.1.1 }

pub slice_bounds-paste-end : goal.slice_bounds-paste-end
slice_bounds-paste-end c = sym (length-take-le 137 c.take_rows-t.new.w (omega (arith, c.take_rows-t.array_long)))

pub returns : goal.returns
returns c =
    let y = c.if-not-restore.false in
    let g = c.restore.ensures.dst_after ∙ ap (λ x. cond x (stored_in (state_in c.args.state.now) _) _) y in
    let t = c.take_rows-t.ensures in
    let all =
    tokens-done c.args.doc.now c.args.state.now c.args.rows.now _ _ c.if-doc-gt-MAX_DOCUMENT.false (omega arith)
    (sym c.restore.ensures.value ∙ y)
    (rw g at t.rows_value) (rw g at t.w_after) (rw g at t.rows_after) c.paste.ensures in
    record { value = all.0; state_after = all.1.0; rows_after = all.1.1 }
