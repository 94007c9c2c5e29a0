-- Going by cases on a test, with the test's value as an equation.
use mathlib.Core.Path.{◌≡◌, refl}
use mathlib.Core.Bool.{Bool, true, false, cond, ◌&&◌}
use Prim.Native.Nat.{ℕ}
use native.Mathlib.Omega.{arith}

pub by_bool {ℓ} : {G : Type ℓ} (t : Bool) → (t ≡ true → G) → (t ≡ false → G) → G
by_bool true f g = f refl
by_bool false f g = g refl

-- a fact of each branch is a fact of the choice
pub on-cond {ℓ κ} : {A : Type ℓ} (P : A → Type κ) (t : Bool) {x y : A} → (t ≡ true → P x) → (t ≡ false → P y) → P (cond t x y)
on-cond P true f g = f refl
on-cond P false f g = g refl

pub and_left : (a b : Bool) → (a && b) ≡ true → a ≡ true
and_left true b e = refl
and_left false b e = e

pub and_right : (a b : Bool) → (a && b) ≡ true → b ≡ true
and_right true b e = e
and_right false b e = let z : ◌≡◌ {A = ℕ} 0 1 = cc in absurd (omega arith)

pub clash : true ≡ false → ⊥
clash e = let z : ◌≡◌ {A = ℕ} 0 1 = cc in absurd (omega arith)
