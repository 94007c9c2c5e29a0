-- The loop of `multiline_len`: one more piece at each turn (proofs/Pieces).
use mathlib.Core.Path.{sym, ◌∙◌}
use native.Mathlib.Nat.{add-zero}
use Rattle.text.proofs.Front.{from}
use Rattle.tokenizer_scans.proofs.Pieces.{again, stop, end}
use Rattle.tokenizer_scans.proofs.readers.multiline_len.Goals as goal
use Rattle.tokenizer_scans.proofs.readers.multiline_len.Goals.{then-was_cr, else-was_cr, then-not-is_lf, else-not-is_lf}

pub returns-then-not-belongs : goal.returns-then-not-belongs
returns-then-not-belongs c =
    sym
    (stop _ _ c.loop-len.invariant (rw from at c.piece_len-n.ensures)
    (sym (rw from at c.belongs.ensures) ∙ c.if-not-belongs.true))

pub loop-len-preserved : goal.loop-len-preserved
loop-len-preserved c =
    again _ _ c.loop-len.invariant c.loop-len-test.true
    (rw from at c.piece_len-n.ensures)
    (sym (rw from at c.belongs.ensures) ∙ c.if-not-belongs.false)
    (elim c.if-was_cr.branch [ then-was_cr w ↦ w.value-is ∙ rw from at w.is_lf.ensures ∙ rw w.if-was_cr.true | else-was_cr w ↦ w.value-is ∙ rw w.if-was_cr.false ])
    (elim c.if-not-is_lf.branch [ then-not-is_lf w ↦ w.count-is ∙ rw w.if-not-is_lf.true | else-not-is_lf w ↦ w.count-is ∙ rw (w.if-not-is_lf.false, add-zero) ])
    (rw from at c.ends_in_cr-was_cr.ensures)

pub returns : goal.returns
returns c = sym (end _ _ c.loop-len.invariant c.loop-len-test.false)
