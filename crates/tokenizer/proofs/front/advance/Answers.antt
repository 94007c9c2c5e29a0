-- 12, then 15, then the plan, whose bounds are those of a document within the limit.
use Rattle.std.proofs.Common.{rules}
use mathlib.Core.Path.{◌≡◌, sym, ◌∙◌}
use Rattle.text.proofs.Front.{from}
use Rattle.tokenizer.specs.Front.{advance_with, advance_rule}
use Rattle.tokenizer.proofs.Kept.{indent-fit}
use Rattle.tokenizer.proofs.Advancing.{near-front, near-inner, room, over, far, advances}
use Rattle.tokenizer.proofs.front.advance.Goals as goal

pub returns-then-doc-gt-MAX_DOCUMENT : goal.returns-then-doc-gt-MAX_DOCUMENT
returns-then-doc-gt-MAX_DOCUMENT c = c.stays.ensures ∙ sym (over _ _ _ c.if-doc-gt-MAX_DOCUMENT.true)

pub returns-then-not-is_near : goal.returns-then-not-is_near
returns-then-not-is_near c =
    c.stays-then-not-is_near.ensures ∙ sym (far _ _ _ c.if-doc-gt-MAX_DOCUMENT.false (sym c.is_near.ensures ∙ c.if-not-is_near.true))

pub slice_bounds-indent_at-count : goal.slice_bounds-indent_at-count
slice_bounds-indent_at-count c = (near-front _ _ _ (sym c.is_near.ensures ∙ c.if-not-is_near.false)).place

pub slice_bounds-indent_at-start : goal.slice_bounds-indent_at-start
slice_bounds-indent_at-start c =
    let h = (near-front _ _ _ (sym c.is_near.ensures ∙ c.if-not-is_near.false)).place in search rules

pub planned-p-requires : goal.planned-p-requires
planned-p-requires c =
    let near = sym c.is_near.ensures ∙ c.if-not-is_near.false in
    let f = near-front _ _ _ near in
    let i = rw from at c.indent_at-i.ensures.part_value in
    record {
      place_in_bounds = f.place;
      inner_fits = near-inner _ _ _ near;
      indent_fits = rw i (indent-fit c.args.doc.now c.args.f.place c.args.f.held f.place f.held);
    }

pub carried_out-requires : goal.carried_out-requires
carried_out-requires c =
    let f = near-front _ _ _ (sym c.is_near.ensures ∙ c.if-not-is_near.false) in
    let r = room _ _ _ _ _ c.if-doc-gt-MAX_DOCUMENT.false f c.planned-p.ensures in
    record { depth_le_max_open = r.depth; pass_bound = r.place; lines_bound = r.line; says_bound = r.text }

pub returns : goal.returns
unfolding advance_rule advance_with
returns c =
    let near = sym c.is_near.ensures ∙ c.if-not-is_near.false in
    let part = rw from at c.indent_at-i.ensures.part_value in
    let size = rw from at c.indent_at-i.ensures.size_value in
    let made : c.carried_out.result ≡ advance_with c.args.doc.now c.args.f c.args.inner c.indent_at-i.result.part c.indent_at-i.result.size =
    rw (c.carried_out.ensures, c.planned-p.ensures) in
    made
    ∙ (λ j. advance_with c.args.doc.now c.args.f c.args.inner (part j) (size j))
    ∙ sym (advances _ _ _ c.if-doc-gt-MAX_DOCUMENT.false near)
