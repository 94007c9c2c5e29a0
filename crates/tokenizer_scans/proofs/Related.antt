-- `relation_of` from what the code tests: how many bytes the two begin with in common, and their lengths.
use Prim.Native.Nat.{ℕ, suc, ◌≤◌, ◌<◌, min}
use mathlib.Core.Path.{◌≡◌, refl, ap}
use mathlib.Core.List.{List, [], ◌∷◌}
use mathlib.Core.Bool.{cond}
use native.Mathlib.Nat.{suc-min-suc, min-le_right}
use native.Mathlib.Omega.{arith}
use lib.Dec.{eqb}
use lib.ListN.{length}
use Rattle.text.proofs.Cases.{by_bool}
use Rattle.text_scans.specs.Eights.{passing, same_at}
use Rattle.text_scans.proofs.Passing.{passing-le}
use Rattle.tokenizer_scans.specs.Scans.{relation_of}
use Rattle.tokenizer_scans.specs.declared.readers.Relation.TheVariants.{Equal, Deeper, Other}

abbrev common : List ℕ → List ℕ → ℕ
common s t = passing (same_at s t) (min (length s) (length t))

-- one byte more in front of both
more : (a b : ℕ) (s t : List ℕ) → common (a ∷ s) (b ∷ t) ≡ cond (eqb a b) (suc (common s t)) 0
unfolding passing
more a b s t = rw suc-min-suc refl

pub other : (inner indent : List ℕ) → common inner indent < length inner → relation_of inner indent ≡ Other
unfolding relation_of
other [] t h = absurd (omega arith)
other (a ∷ s) [] h = refl
other (a ∷ s) (b ∷ t) h = by_bool (eqb a b) (λ q. rw q (other s t (let k = rw (more, q) at h in omega arith))) (λ q. rw q)

pub shorter : (inner indent : List ℕ) → length indent < length inner → relation_of inner indent ≡ Other
shorter s t h = other s t (omega (arith, h, passing-le (same_at s t) (min (length s) (length t)), min-le_right (length s) (length t)))

pub equal : (inner indent : List ℕ) → length inner ≤ common inner indent → length indent ≡ length inner → relation_of inner indent ≡ Equal
unfolding relation_of
equal [] [] h e = refl
equal [] (b ∷ t) h e = absurd (omega arith)
equal (a ∷ s) [] h e = absurd (omega arith)
equal (a ∷ s) (b ∷ t) h e =
    by_bool (eqb a b) (λ q. rw q (equal s t (let k = rw (more, q) at h in omega arith) (omega arith))) (λ q. absurd (let k = rw (more, q) at h in omega arith))

pub deeper : (inner indent : List ℕ) → length inner ≤ common inner indent → (length indent ≡ length inner → ⊥) → relation_of inner indent ≡ Deeper
unfolding relation_of
deeper [] [] h e = absurd (e refl)
deeper [] (b ∷ t) h e = refl
deeper (a ∷ s) [] h e = absurd (let k = passing-le (same_at (a ∷ s) []) (min (suc (length s)) 0) in omega (arith, h, k, min-le_right (suc (length s)) 0))
deeper (a ∷ s) (b ∷ t) h e =
    by_bool (eqb a b) (λ q. rw q (deeper s t (let k = rw (more, q) at h in omega arith) (λ r. e (ap suc r)))) (λ q. absurd (let k = rw (more, q) at h in omega arith))
