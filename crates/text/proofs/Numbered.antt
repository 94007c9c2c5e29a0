-- A refusal and its number are read back from each other.
use Prim.Native.Nat.{ℕ, zero, suc, ◌+◌}
use mathlib.Core.Path.{◌≡◌, refl, ap}
use mathlib.Core.List.{List, [], ◌∷◌}
use native.Mathlib.Omega.{arith}
use lib.ListN.{get_or}
use Rattle.std.proofs.Common.{rules}
use Rattle.std.specs.Prelude.{Result, Ok, Err}
use Rattle.text.specs.Numbers.{number_of}
use Rattle.text.specs.Refusals.{by_number, RefusalsBack, NumbersBack}
use Rattle.text.specs.declared.refusals.NoRefusal.{NoRefusal}
use Rattle.text.specs.declared.refusals.Refusal.{Refusal}
use Rattle.text.specs.declared.refusals.Refusal.TheVariants as refusal

-- the last line is checked at each of the fourteen others
pub refusals-back : RefusalsBack
refusals-back refusal.InvalidUtf8 = refl
refusals-back r = refl

-- the refusals of a list have the numbers of their places, from i on
abbrev Placed : ℕ → List (Result Refusal NoRefusal) → Type 0
Placed i [] = Unit {0}
Placed i (Ok r ∷ l) = (number_of r ≡ i) × Placed (suc i) l
Placed i (Err e ∷ l) = Placed (suc i) l

refused : {e : NoRefusal} {r : Refusal} → ◌≡◌ {A = Result Refusal NoRefusal} (Err e) (Ok r) → ⊥
refused h = cc

placed : (e : NoRefusal) (l : List (Result Refusal NoRefusal)) (i n : ℕ) {r : Refusal} → Placed i l → get_or l n (Err e) ≡ Ok r → number_of r ≡ i + n
placed e [] i n p h = absurd (refused h)
placed e (Ok q ∷ l) i zero {r} p h = let k : q ≡ r = cc in omega (arith, ap number_of k)
placed e (Err q ∷ l) i zero p h = absurd (refused h)
placed e (Ok q ∷ l) i (suc n) p h = omega (arith, placed e l (suc i) n p.1 h)
placed e (Err q ∷ l) i (suc n) p h = omega (arith, placed e l (suc i) n p h)

pub numbers-back : NumbersBack
numbers-back n r e =
    let none : NoRefusal = record { number = n } in
    let p : Placed 0 (by_number none) = search rules in
    omega (arith, placed none (by_number none) 0 n p e)
