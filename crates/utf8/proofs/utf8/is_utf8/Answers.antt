use Rattle.utf8.proofs.Chars.{past_char}
use Rattle.text.proofs.Front.{from}
use Rattle.utf8.proofs.Skipped.{ascii}
use native.Mathlib.Omega.{arith}
use mathlib.Core.Path.{◌∙◌}
use Rattle.utf8.proofs.utf8.is_utf8.Goals as goal

pub loop-b-init : goal.loop-b-init
loop-b-init c = rw from (ascii _ _ c.ascii_len.ensures.value).1

pub loop-b-preserved : goal.loop-b-preserved
loop-b-preserved c =
    c.loop-b.invariant ∙ past_char _ (omega (arith, c.in-Some.ensures.cases.1)) (λ z. c.if-n-eq0.false (c.char_len-n.ensures.value ∙ z))
    ∙ rw (from, c.char_len-n.ensures.value)
