use Prim.Native.Nat.{◌+◌, ◌*◌, ◌≤◌}
use lib.ListN.{length}
use lib.Bits.{xor_lt}
use native.Mathlib.Omega.{arith}
use Rattle.line_scans.specs.Words.{each}
use Rattle.line_scans.proofs.Places.{found-one, passed-one, found-other}
use Rattle.line_scans.proofs.words.space_eights.Goals as goal

pub returns-then-others-ne0-clause-value : goal.returns-then-others-ne0-clause-value
unfolding each
returns-then-others-ne0-clause-value c =
    let k = c.loop-k.k in
    let l : 8 * k + 8 ≤ length c.args.s.now = omega (arith, c.loop-k-test.true, c.as_chunks.ensures.front_len) in
    let e = found-other _ k c.as_chunks.ensures.front (λ i. (c.type_inv.s i).fits) l c.from_le_bytes-others.ensures in
    found-one k c.loop-k.invariant l _ e (xor_lt 64 _ _ c.from_le_bytes-others.type_inv (omega arith)) c.if-others-ne0.true

pub loop-k-preserved : goal.loop-k-preserved
unfolding each
loop-k-preserved c =
    let k = c.loop-k.k in
    let l : 8 * k + 8 ≤ length c.args.s.now = omega (arith, c.loop-k-test.true, c.as_chunks.ensures.front_len) in
    let e = found-other _ k c.as_chunks.ensures.front (λ i. (c.type_inv.s i).fits) l c.from_le_bytes-others.ensures in
    passed-one k c.loop-k.invariant l _ e c.if-others-ne0.false
