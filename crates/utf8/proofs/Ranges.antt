-- Laws of `within`.
use Prim.Native.Nat.{ℕ, ◌≤◌, ◌<◌}
use mathlib.Core.Path.{◌≡◌}
use mathlib.Core.Bool.{true, false, and-false, and-eq-true_iff}
use lib.Dec.{leb}
use borrow.Author.Tests.{le-leb, lt-leb, leb-true}
use Rattle.utf8.specs.Utf8.{within}

pub below : (low high b : ℕ) → b < low → within low high b ≡ false
unfolding within
below low high b h = rw (lt-leb low b h)

pub above : (low high b : ℕ) → high < b → within low high b ≡ false
unfolding within
above low high b h = rw (lt-leb b high h, and-false)

pub inside : (low high b : ℕ) → low ≤ b → b ≤ high → within low high b ≡ true
unfolding within
inside low high b l h = rw (le-leb low b l, le-leb b high h)

pub within-bounds : (low high b : ℕ) → within low high b ≡ true → (low ≤ b) × (b ≤ high)
unfolding within
within-bounds low high b e =
    let h = (and-eq-true_iff (leb low b) (leb b high)).0 e in
    (leb-true low b h.0, leb-true b high h.1)
