-- One turn of a loop over the pieces of a text: the place moves on within the text, and the text from there on means the rest.
use Prim.Native.Nat.{ℕ, ◌+◌, ◌-◌, ◌*◌, ◌≤◌, ◌<◌}
use mathlib.Core.Path.{◌≡◌, sym, ap, subst, ◌∙◌}
use mathlib.Core.List.{List}
use native.Mathlib.Omega.{arith}
use lib.ListN.{length, take, drop, length-drop}
use lib.Seq.{drop-drop, take-take}
use Rattle.std.specs.Prelude.{Some, Ok}
use Rattle.std.proofs.lemmas.List.{drop-take}
use Rattle.unescape_pieces.specs.Pieces.{next_of, meaning_from}
use Rattle.unescape_pieces.specs.Cursor.{weight}
use Rattle.unescape_pieces.specs.declared.pieces.Spot.{Spot}
use Rattle.unescape_pieces.specs.declared.pieces.Piece.{Piece}
use Rattle.unescape_pieces.specs.declared.pieces.Piece.TheVariants.{Run, Scalar}
use Rattle.unescape_pieces.specs.declared.pieces.Next.{Next}
use Rattle.unescape_pieces.proofs.Walking.{Found, after, law, Steps, Stepped, steps}

-- The text from the place on, and the piece x that stands there

-- the place that comes next
pub record Moved (s : List ℕ) (at : ℕ) (spot : Spot) (x : Next) : Type 0 where
  pub within : at + x.pass ≤ length s
  pub falls : 2 * (length s - (at + x.pass)) + weight x.spot < 2 * (length s - at) + weight spot

module _ (indent s : List ℕ) (at : ℕ) (spot : Spot) where
  pub meant : {r : Found} → r ≡ next_of spot indent (drop at s) → meaning_from spot indent (drop at s) at ≡ after indent r (drop at s) at
  meant q = law indent spot (drop at s) at ∙ rw (← q)

  pub stepped : {r : Found} → r ≡ next_of spot indent (drop at s) → Stepped spot (drop at s) r
  stepped q = subst (λ y. Stepped spot (drop at s) y) (sym q) (steps spot indent (drop at s))

  module _ (h : at ≤ length s) where
    pub moves : {x : Next} → Ok (Some x) ≡ next_of spot indent (drop at s) → Moved s at spot x
    moves {x} q = moved x.piece (stepped q)
      where
        moved : (p : Piece) → Steps p spot (drop at s) x.pass x.spot → Moved s at spot x
        moved (Run k) m = let d = length-drop at s in record { within = omega arith; falls = omega arith }
        moved (Scalar c) m = let d = length-drop at s in record { within = omega arith; falls = omega arith }

-- a part of a part, as a part of the document
pub nested-part : (d : List ℕ) (n m a e : ℕ) → a ≤ e → e ≤ m → take (n + e - (n + a)) (drop (n + a) d) ≡ take (e - a) (drop a (take m (drop n d)))
nested-part d n m a e h k =
    let z : n + e - (n + a) ≡ e - a = omega arith in
    let y : m ≡ a + (m - a) = omega arith in
    let x : drop a (take m (drop n d)) ≡ take (m - a) (drop a (drop n d)) = ap (λ i. drop a (take i (drop n d))) y ∙ drop-take a (m - a) (drop n d) in
    rw (z, x, drop-drop, take-take (e - a) (m - a) (drop (n + a) d) (omega arith))
