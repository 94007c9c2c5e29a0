-- The last of the open sections has its two words behind those below it; none where the record counts over 65.
use Rattle.std.specs.Prelude.{Some, None}
use Prim.Native.Nat.{ℕ, zero, suc, ◌+◌, ◌*◌, ◌≤◌, ◌<◌}
use mathlib.Core.Path.{◌≡◌, refl}
use mathlib.Core.List.{List}
use native.Mathlib.Omega.{arith}
use lib.ListN.{get_or}
use borrow.Author.Tests.{lt-ltb, le-ltb}
use Rattle.step_words.specs.Stepping.{innermost_in}
use Rattle.step_words.proofs.outcome.innermost_in.Goals as goal

past : (n : ℕ) (w : List ℕ) → 65 < n → None ≡ innermost_in n w
unfolding innermost_in
past zero w h = refl
past (suc n) w h = rw (le-ltb n 65 (omega arith))

last : (n : ℕ) (w : List ℕ) → (n ≡ 0 → ⊥) → n ≤ 65
    → Some (record { sort = get_or w (146 + 2 * n) 0; line = get_or w (147 + 2 * n) 0 }) ≡ innermost_in n w
unfolding innermost_in
last zero w e h = absurd (e refl)
last (suc n) w e h =
    let i : 146 + 2 * suc n ≡ 148 + 2 * n = omega arith in
    let j : 147 + 2 * suc n ≡ 149 + 2 * n = omega arith in
    rw (lt-ltb n 65 (omega arith), i, j)

pub returns-then-count-eq0 : goal.returns-then-count-eq0
unfolding innermost_in
returns-then-count-eq0 c = rw c.if-count-eq0.true

pub returns-then-count-gt65 : goal.returns-then-count-gt65
returns-then-count-gt65 c = past _ _ c.if-count-gt65.true

pub returns : goal.returns
returns c = last _ _ c.if-count-eq0.false c.if-count-gt65.false
