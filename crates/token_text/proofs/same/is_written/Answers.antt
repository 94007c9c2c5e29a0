use mathlib.Core.Path.{sym, ◌∙◌}
use native.Mathlib.Omega.{arith}
use Rattle.text.proofs.Front.{from}
use Rattle.text.proofs.Same.{starts-le}
use Rattle.token_text.proofs.Matching.{piece-same, piece-differs, at-end}
use Rattle.token_text.proofs.same.is_written.Goals as goal

pub returns-then-not-starts_with : goal.returns-then-not-starts_with
returns-then-not-starts_with c =
    sym (c.loop-piece.invariant ∙ piece-differs (rw c.in-Ok.is at c.in-Some.ensures.steps) _ (rw c.as_slice-bytes.ensures at c.starts_with.ensures) c.if-not-starts_with.true)

pub slice_bounds-left-count : goal.slice_bounds-left-count
slice_bounds-left-count c = starts-le _ _ (sym c.starts_with.ensures ∙ c.if-not-starts_with.false)

pub slice_bounds-left-start : goal.slice_bounds-left-start
slice_bounds-left-start c = omega (arith, starts-le _ _ (sym c.starts_with.ensures ∙ c.if-not-starts_with.false))

pub loop-piece-preserved : goal.loop-piece-preserved
loop-piece-preserved c =
    c.loop-piece.invariant
    ∙ piece-same (rw c.in-Ok.is at c.in-Some.ensures.steps) _ (rw c.as_slice-bytes.ensures at c.starts_with.ensures) c.if-not-starts_with.false
    ∙ rw (from, c.as_slice-bytes.ensures)

pub returns : goal.returns
returns c = at-end _ _ c.in-None.ensures.steps c.is_empty.ensures ∙ sym c.loop-piece.invariant
