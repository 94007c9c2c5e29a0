use mathlib.Core.Path.{refl}
use lib.ListN.{replicate}
use Rattle.step_words.proofs.Laws.{fresh-reads}
use Rattle.batches.proofs.Walking.{called}
use Rattle.look_up.proofs.Searching.{begins, finds, falls, goes_on}
use Rattle.look_up.proofs.search.look_up.Goals as goal

pub loop-found-init : goal.loop-found-init
loop-found-init c =
    let f = fresh-reads c.args.doc.now (replicate 278 0) refl in
    rw c.fresh_parser.ensures.state_after (f.1, rw f.0 (begins _ _ c.in_ok-within_limit.ensures.within))

pub returns-in-Break : goal.returns-in-Break
returns-in-Break c =
    let k = called c.args.doc.now c.loop-found.words c.loop-found.invariant.0 c.next.ensures.words_after c.next.ensures.row_after in
    finds _ _ _ _ c.loop-found.invariant.1 k.rowed c.on_row.ensures c.in-Break.is

pub loop-found-smaller : goal.loop-found-smaller
loop-found-smaller c =
    let k = called c.args.doc.now c.loop-found.words c.loop-found.invariant.0 c.next.ensures.words_after c.next.ensures.row_after in
    falls _ _ _ _ c.loop-found.invariant.1 k.rowed c.on_row.ensures k.stepped c.in-Continue.is

pub loop-found-preserved : goal.loop-found-preserved
loop-found-preserved c =
    let k = called c.args.doc.now c.loop-found.words c.loop-found.invariant.0 c.next.ensures.words_after c.next.ensures.row_after in
    (k.reading, goes_on _ _ _ _ c.loop-found.invariant.1 k.rowed c.on_row.ensures k.stepped c.in-Continue.is)
