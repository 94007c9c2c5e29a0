-- The range of the scalar values.
use Prim.Native.Nat.{ℕ, ◌≤◌}
use mathlib.Core.Path.{◌≡◌}
use mathlib.Core.Bool.{true}
use native.Mathlib.Omega.{arith}
use lib.Dec.{ltb, leb}
use borrow.Author.Tests.{ltb-true, leb-true}
use Rattle.utf8.specs.Scalar.{is_scalar}
use Rattle.text.proofs.Cases.{by_bool, and_right}

pub scalar_le : (n : ℕ) → is_scalar n ≡ true → n ≤ 0x10FFFF
unfolding is_scalar
scalar_le n e =
    by_bool (ltb n 0xD800)
    (λ t. omega (arith, ltb-true n 0xD800 t))
    (λ t. leb-true n 0x10FFFF (and_right (ltb 0xDFFF n) (leb n 0x10FFFF) (rw t at e)))
