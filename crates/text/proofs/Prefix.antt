-- Laws of `starts_with`: where the texts' lengths decide.
use Prim.Native.Nat.{ℕ, ◌<◌}
use mathlib.Core.Path.{◌≡◌, refl}
use mathlib.Core.List.{List, [], ◌∷◌}
use mathlib.Core.Bool.{false, and-false}
use native.Mathlib.Omega.{arith}
use lib.ListN.{length}
use Rattle.text.specs.Bytes.{starts_with}

-- a text that is shorter than p does not begin with it
pub short : (p s : List ℕ) → length s < length p → starts_with p s ≡ false
unfolding starts_with
short [] s h = absurd (omega arith)
short (a ∷ p) [] h = refl
short (a ∷ p) (b ∷ s) h = rw (short p s (omega arith), and-false)
