-- `kept_end` by the bytes that are dropped at the end.
use Prim.Native.Nat.{ℕ, suc, ◌-◌}
use mathlib.Core.Path.{◌≡◌, refl, ap, ◌∙◌}
use mathlib.Core.List.{List, [], ◌∷◌, ◌++◌, reverse}
use mathlib.Core.Bool.{Bool, true, false, cond}
use native.Mathlib.Omega.{arith}
use lib.ListN.{length}
use Rattle.std.specs.List.{prefix_len, suffix_len}
use Rattle.std.proofs.lemmas.List.{reverse-reverse, length-reverse}
use Rattle.std.proofs.lemmas.Grind.{reverse_onto}
use Rattle.text.specs.Trimming.{kept_end, keep_more}
use Rattle.text.proofs.Cases.{by_bool}

keep-nil : (t : Bool) → keep_more t 0 ≡ cond t 0 1
keep-nil true = refl
keep-nil false = refl

keep-cond : (t u : Bool) (m n : ℕ) → keep_more t (cond u m (suc n)) ≡ cond u (keep_more t m) (suc (suc n))
keep-cond t true m n = refl
keep-cond t false m n = refl

-- a last byte: dropped where it passes, else all is kept
snoc : (p : ℕ → Bool) (s : List ℕ) (b : ℕ) → kept_end p (s ++ (b ∷ [])) ≡ cond (p b) (kept_end p s) (suc (length s))
unfolding kept_end
snoc p [] b = keep-nil (p b)
snoc p (a ∷ s) b = ap (keep_more (p a)) (snoc p s b) ∙ keep-cond (p a) (p b) (kept_end p s) (length s)

-- what is kept is all but the dropped bytes at the end
kept-reverse : (p : ℕ → Bool) (r : List ℕ) → kept_end p (reverse r) ≡ length r - prefix_len p r
unfolding kept_end
kept-reverse p [] = refl
kept-reverse p (b ∷ r) =
    rw (reverse_onto r b [], snoc p (reverse r) b, length-reverse)
    (by_bool (p b) (λ e. rw e (kept-reverse p r ∙ omega arith)) (λ e. rw e (omega arith)))

pub kept : (p : ℕ → Bool) (s : List ℕ) → kept_end p s ≡ length s - suffix_len p s
kept p s = rw (reverse-reverse, length-reverse) at (kept-reverse p (reverse s))
