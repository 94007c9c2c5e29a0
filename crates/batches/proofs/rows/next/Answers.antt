-- A batch of one: its row, or the number that stops it (proofs/Taking).
use mathlib.Core.Path.{sym, ap, ◌∙◌}
use native.Mathlib.Omega.{arith}
use borrow.Author.Tests.{lt-ltb, le-ltb}
use Rattle.tokenizer_rows.specs.Rows.{row_by}
use Rattle.batches.specs.Walks.{next_of}
use Rattle.step_words.specs.declared.step.Layer.TheVariants.{Parser}
use Rattle.batches.proofs.Single.{none-taken, one-taken}
use Rattle.batches.proofs.rows.next.Goals as goal

pub returns-then-doc-gt-MAX_DOCUMENT : goal.returns-then-doc-gt-MAX_DOCUMENT
unfolding next_of
returns-then-doc-gt-MAX_DOCUMENT c =
    let l = lt-ltb _ _ c.if-doc-gt-MAX_DOCUMENT.true in
    record { words_after = rw l; row_after = rw l (c.said_row.ensures ∙ ap row_by c.refused.ensures) }

pub returns-in-Some : goal.returns-in-Some
unfolding next_of
returns-in-Some c =
    let t = c.take_rows-t.ensures in
    let l = le-ltb _ _ c.if-doc-gt-MAX_DOCUMENT.false in
    let g = none-taken Parser c.args.doc.now c.args.words.now c.args.row.now (omega arith) (sym t.last_value ∙ c.in-Some.is) in
    record { words_after = rw l (t.w_after ∙ g.0); row_after = rw l (c.said_row-in-Some.ensures ∙ ap row_by c.bare.ensures ∙ g.1) }

pub returns-in_default : goal.returns-in_default
unfolding next_of
returns-in_default c =
    let t = c.take_rows-t.ensures in
    let l = le-ltb _ _ c.if-doc-gt-MAX_DOCUMENT.false in
    let g = one-taken Parser c.args.doc.now c.args.words.now c.args.row.now (omega arith) (sym t.last_value ∙ c.in_default.is) in
    record { words_after = rw l (t.w_after ∙ g.0); row_after = rw l (t.rows_after ∙ g.1) }
