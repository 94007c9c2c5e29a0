use native.Mathlib.Numerals.{add-one}
use mathlib.Core.Path.{sym, ◌∙◌}
use Rattle.text_scans.proofs.Passing.{reaches, within, halt, over}
use Rattle.text_scans.proofs.scans.passing.Goals as goal

pub loop-i-init : goal.loop-i-init
loop-i-init g c = λ t f. within t c.args.n _ (c.eights-i.ensures.value t f)

pub returns-then-not-test-clause-value : goal.returns-then-not-test-clause-value
returns-then-not-test-clause-value g c = λ t f.
    halt t c.args.n _ (c.loop-i.invariant t f) (sym (f _ _ c.loop-i-test.true c.test.ensures) ∙ c.if-not-test.true)

pub loop-i-preserved : goal.loop-i-preserved
loop-i-preserved g c = λ t f.
    rw add-one (reaches t c.args.n _ c.loop-i-test.true (c.loop-i.invariant t f) (sym (f _ _ c.loop-i-test.true c.test.ensures) ∙ c.if-not-test.false))

pub returns-clause-value : goal.returns-clause-value
returns-clause-value g c = λ t f. over t c.args.n _ (c.loop-i.invariant t f) c.loop-i-test.false
