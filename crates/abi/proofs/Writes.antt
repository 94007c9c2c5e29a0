-- What the stores of `conl_trim` make of the lent slice.
use Prim.Native.Nat.{ℕ, ◌≤◌, ◌<◌}
use mathlib.Core.Path.{◌≡◌, refl}
use mathlib.Core.List.{List, [], ◌∷◌}
use native.Mathlib.Omega.{arith}
use lib.ListN.{length, set}
use Rattle.text.specs.declared.bytes.Part.{Part}
use Rattle.abi.specs.Lent.{part_in}

pub kept : (p : Part) (l : List ℕ) → length l < 2 → l ≡ part_in p l
unfolding part_in
kept p [] h = refl
kept p (a ∷ []) h = refl
kept p (a ∷ b ∷ r) h = absurd (omega arith)

pub stored : (p : Part) (l : List ℕ) → 2 ≤ length l → set (set l 0 p.start) 1 p.end ≡ part_in p l
unfolding part_in
stored p [] h = absurd (omega arith)
stored p (a ∷ []) h = absurd (omega arith)
stored p (a ∷ b ∷ r) h = refl
