use native.Mathlib.Omega.{arith}
use Rattle.text_scans.proofs.Passing.{go, stop, end}
use mathlib.Core.Path.{sym, ◌∙◌}
use Rattle.text_scans.proofs.scans.eights.Goals as goal

pub loop-k-preserved : goal.loop-k-preserved
loop-k-preserved g c = λ t f.
    go t c.args.n _ (c.loop-k.invariant t f) (omega (arith, c.loop-k-test.true))
    (sym (c.eight.ensures t (λ j r l p. f j r (omega (arith, c.loop-k-test.true)) p)) ∙ c.if-not-eight.false)

pub returns-then-not-eight : goal.returns-then-not-eight
returns-then-not-eight g c = record {
  value = λ t f.
      stop t c.args.n _ (c.loop-k.invariant t f)
      (sym (c.eight.ensures t (λ j r l p. f j r (omega (arith, c.loop-k-test.true)) p)) ∙ c.if-not-eight.true);
  within = omega (arith, c.loop-k-test.true);
}

pub returns : goal.returns
returns g c = record { value = λ t f. end t c.args.n _ (c.loop-k.invariant t f) c.loop-k-test.false; within = omega arith }
