use Prim.Native.Nat.{ℕ, ◌+◌, ◌*◌, ◌^◌, ◌≤◌, ◌<◌}
use mathlib.Core.Path.{ap, ◌∙◌}
use lib.ListN.{length, get_or}
use native.Mathlib.Omega.{arith}
use Rattle.line_scans.specs.Words.{hits_of}
use Rattle.line_scans.proofs.Chunks.{paired}
use Rattle.line_scans.proofs.Hits.{first-break}
use Rattle.line_scans.proofs.Places.{found, passed}
use Rattle.line_scans.proofs.words.line_sixteens.Goals as goal

pub returns-then-low-high-ne0 : goal.returns-then-low-high-ne0
returns-then-low-high-ne0 c =
    let k = c.loop-k.k in
    let s = c.args.s.now in
    let l : 16 * k + 16 ≤ length s = omega (arith, c.loop-k-test.true, c.as_chunks.ensures.front_len, c.as_chunks-2.ensures.front_len) in
    let known : (i : ℕ) → get_or s i 0 < 2 ^ 8 = λ i. (c.type_inv.s i).fits in
    let pair = paired s _ _ c.as_chunks.ensures.front c.as_chunks.ensures.front_len c.as_chunks-2.ensures.front k l in
    let low = first-break s (16 * k) known (c.hits-low.ensures ∙ ap (hits_of 8) (c.from_le_bytes.ensures ∙ pair 0 (16 * k) (omega arith) (omega arith))) in
    let high = first-break s (16 * k + 8) known (c.hits-high.ensures ∙ ap (hits_of 8) (c.from_le_bytes-in-loop-k.ensures ∙ pair 1 (16 * k + 8) (omega arith) (omega arith))) in
    record {
      value = rw c.first_hit.ensures.value (found k c.loop-k.invariant l _ _ low high c.hits-low.type_inv c.hits-high.type_inv c.if-low-high-ne0.true);
      within = omega (arith, l, c.first_hit.ensures.at_most);
    }

pub loop-k-preserved : goal.loop-k-preserved
loop-k-preserved c =
    let k = c.loop-k.k in
    let s = c.args.s.now in
    let l : 16 * k + 16 ≤ length s = omega (arith, c.loop-k-test.true, c.as_chunks.ensures.front_len, c.as_chunks-2.ensures.front_len) in
    let known : (i : ℕ) → get_or s i 0 < 2 ^ 8 = λ i. (c.type_inv.s i).fits in
    let pair = paired s _ _ c.as_chunks.ensures.front c.as_chunks.ensures.front_len c.as_chunks-2.ensures.front k l in
    let low = first-break s (16 * k) known (c.hits-low.ensures ∙ ap (hits_of 8) (c.from_le_bytes.ensures ∙ pair 0 (16 * k) (omega arith) (omega arith))) in
    let high = first-break s (16 * k + 8) known (c.hits-high.ensures ∙ ap (hits_of 8) (c.from_le_bytes-in-loop-k.ensures ∙ pair 1 (16 * k + 8) (omega arith) (omega arith))) in
    passed k c.loop-k.invariant l _ _ low high c.if-low-high-ne0.false
