use Rattle.std.specs.Prelude.{Some, Err}
use Rattle.text.specs.Numbers.{error}
use Rattle.text.specs.declared.refusals.Refusal.TheVariants.{TooLong}
use Rattle.std.proofs.Common.{rules}
use mathlib.Core.Path.{refl, sym, ap, ◌∙◌}
use native.Mathlib.Omega.{arith}
use lib.ListN.{replicate}
use Rattle.tokenizer_rows.specs.Rows.{row_by}
use Rattle.step_words.proofs.Laws.{fresh-reads}
use Rattle.batches.proofs.Walking.{called}
use Rattle.listing_text.specs.Listing.{header, line_text, answer_text}
use Rattle.listing_text.proofs.Placing.{wrote, both}
use Rattle.listing_text.proofs.Turns.{end-zero, not-zero, line-is, too-long, start, ended, fewer, row_fits, next, over, listed}
use Rattle.listing_text.proofs.lines.listing.Goals as goal

pub returns-then-doc-gt-MAX_LISTED : goal.returns-then-doc-gt-MAX_LISTED
unfolding answer_text
returns-then-doc-gt-MAX_LISTED c =
    let h = wrote header 0 _ c.put.ensures.len c.put.ensures.out in
    let row = c.said_row.ensures ∙ ap row_by c.refused.ensures in
    let line = ap line_text row ∙ too-long in
    let all =
    over _ c.if-doc-gt-MAX_LISTED.true
    (both h (wrote (answer_text (Some (Err (error TooLong 0)))) _ _ (rw line at c.put_row.ensures.len) (rw line at c.put_row.ensures.out))) in
    let h = all.1 in
    let same = c.put_row.ensures.same_reference ∙ c.put.ensures.same_reference in
    record { value = all.0; out_after = search rules }

pub loop-row-init : goal.loop-row-init
loop-row-init c =
    let f = fresh-reads c.args.doc.now (replicate 278 0) refl in
    rw c.fresh_parser.ensures.state_after (f.1, start _ _ _ f.0 c.if-doc-gt-MAX_LISTED.false (omega arith), refl)

pub returns-then-row-eq-END : goal.returns-then-row-eq-END
returns-then-row-eq-END c =
    let h = wrote header 0 _ c.put.ensures.len c.put.ensures.out in
    let k = called c.args.doc.now c.loop-row.words c.loop-row.invariant.0 c.next.ensures.words_after c.next.ensures.row_after in
    let e = end-zero _ (sym k.number ∙ c.if-row-eq-END.true) in
    let all = listed _ c.if-doc-gt-MAX_LISTED.false (both h (ended _ _ _ c.loop-row.invariant.1 e)) in
    let h = all.1 in
    let same = c.loop-row.invariant.2 ∙ c.put.ensures.same_reference in
    record { value = all.0; out_after = search rules }

pub put_row-requires-in-loop-row : goal.put_row-requires-in-loop-row
put_row-requires-in-loop-row c =
    let k = called c.args.doc.now c.loop-row.words c.loop-row.invariant.0 c.next.ensures.words_after c.next.ensures.row_after in
    row_fits _ _ _ c.loop-row.invariant.1 (not-zero _ (λ e. c.if-row-eq-END.false (k.number ∙ e)))

pub loop-row-smaller : goal.loop-row-smaller
loop-row-smaller c =
    let k = called c.args.doc.now c.loop-row.words c.loop-row.invariant.0 c.next.ensures.words_after c.next.ensures.row_after in
    fewer _ _ _ c.loop-row.invariant.1 (not-zero _ (λ e. c.if-row-eq-END.false (k.number ∙ e))) k.stepped

pub loop-row-preserved : goal.loop-row-preserved
loop-row-preserved c =
    let k = called c.args.doc.now c.loop-row.words c.loop-row.invariant.0 c.next.ensures.words_after c.next.ensures.row_after in
    let onward = not-zero _ (λ e. c.if-row-eq-END.false (k.number ∙ e)) in
    let line = line-is _ onward in
    let p = c.put_row-in-loop-row.ensures in (
      k.reading,
      next _ _ _ c.loop-row.invariant.1 onward k.stepped p.upper_bound
          (wrote _ _ _ (rw (k.rowed, line) at p.len) (rw (k.rowed, line) at p.out)),
      p.same_reference ∙ c.loop-row.invariant.2,
    )
