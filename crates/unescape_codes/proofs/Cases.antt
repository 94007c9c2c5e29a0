-- Going by cases on an `Option`, with its value as an equation.
use mathlib.Core.Path.{◌≡◌, refl}
use Rattle.std.specs.Prelude.{Option, Some, None}
use Rattle.std.specs.Option.{option_map_or}

pub by_option {ℓ} : {A : Type 0} {G : Type ℓ} (o : Option A) → ((v : A) → o ≡ Some v → G) → (o ≡ None → G) → G
by_option (Some v) f g = f v refl
by_option None f g = g refl

-- a fact of the value's branch and of the other is a fact of the choice
pub on-option {ℓ} : {A B : Type 0} (P : B → Type ℓ) (o : Option A) {f : A → B} {d : B} → ((v : A) → o ≡ Some v → P (f v)) → (o ≡ None → P d)
    → P (option_map_or f o d)
on-option P (Some v) f g = f v refl
on-option P None f g = g refl
