-- The text stands three bytes further on; the multiline mark goes by whether it was read.
use mathlib.Core.Path.{sym, ◌∙◌}
use lib.Seq.{drop-drop}
use Rattle.tokenizer_rules.specs.Plan.{plan_hint}
use Rattle.tokenizer_rules.proofs.Plans.{unread, hint_read}
use Rattle.tokenizer_rules.proofs.plan.consume_multiline_hint.Goals as goal

pub returns-then-starts_with : goal.returns-then-starts_with
unfolding plan_hint
returns-then-starts_with c =
    let h = rw (c.text.ensures, c.after-r.ensures.at, c.after-r.ensures.rest) at (sym c.starts_with.ensures ∙ c.if-starts_with.true) in
    rw (drop-drop 3 _ _, h) c.kept.ensures

pub returns-in_default : goal.returns-in_default
unfolding plan_hint
returns-in_default c =
    let h = rw (c.text.ensures, c.after-r.ensures.at, c.after-r.ensures.rest) at (sym c.starts_with.ensures ∙ c.if-starts_with.false) in
    rw (drop-drop 3 _ _, h)
    (c.kept-in_default.ensures
    ∙ unread _ _ _ c.read.ensures _ _ c.in_default.is
    ∙ rw (c.plain_len-n.ensures, c.text-2.ensures, c.after-r.ensures.at, c.after-r.ensures.rest))

pub returns : goal.returns
unfolding plan_hint
returns c =
    let h = rw (c.text.ensures, c.after-r.ensures.at, c.after-r.ensures.rest) at (sym c.starts_with.ensures ∙ c.if-starts_with.false) in
    rw (drop-drop 3 _ _, h)
    (c.kept-2.ensures
    ∙ hint_read _ _ _ c.read.ensures _ c.args.m _ c.in-Some.is
    ∙ rw (c.plain_len-n.ensures, c.text-2.ensures, c.after-r.ensures.at, c.after-r.ensures.rest))
