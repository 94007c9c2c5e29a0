-- What stands behind the indentation decides by its first byte (proofs/Plans).
use mathlib.Core.Path.{sym, ◌∙◌}
use native.Mathlib.Nat.{le_of_lt}
use lib.ListN.{drop_of_length-le}
use Rattle.tokenizer_rules.specs.Plan.{plan_on, plan_at}
use Rattle.tokenizer_rules.proofs.Plans.{at_byte}
use Rattle.tokenizer_rules.proofs.plan.plan_at.Goals as goal

pub returns-then-rest-k : goal.returns-then-rest-k
unfolding plan_at plan_on
returns-then-rest-k c = rw (drop_of_length-le _ (le_of_lt c.if-rest-k.true)) c.end.ensures

pub returns-then-is_comment : goal.returns-then-is_comment
unfolding plan_at
returns-then-is_comment c =
    let none = rw (c.newline_size.ensures, c.text.ensures) at c.if-newline_size-gt0.false in
    let first = rw (c.in-Some.is, c.text-2.ensures) at c.first.ensures.value in
    rw (at_byte _ _ _ _ _ _ _ _ none first, sym c.is_comment.ensures ∙ c.if-is_comment.true) c.consume_comment.ensures

pub returns : goal.returns
unfolding plan_at
returns c =
    let no-break = rw (c.newline_size.ensures, c.text.ensures) at c.if-newline_size-gt0.false in
    let first = rw (c.in-Some.is, c.text-2.ensures) at c.first.ensures.value in
    rw (at_byte _ _ _ _ _ _ _ _ no-break first, sym c.is_comment.ensures ∙ c.if-is_comment.false) c.content.ensures
