-- Texts compared: one begins with two others one behind the other, and two are the same where one begins with the other and they
-- are as long as each other.
use Prim.Native.Nat.{ℕ, ◌≤◌}
use mathlib.Core.Path.{◌≡◌, refl, sym, ◌∙◌}
use mathlib.Core.List.{List, [], ◌∷◌, ◌++◌}
use mathlib.Core.Bool.{true, ◌&&◌}
use lib.Dec.{eqb, ltb, eqb-suc-suc, eqb-zero-suc}
use lib.ListN.{length, drop}
use borrow.Author.Tests.{ltb-true, ltb-false}
use Rattle.std.specs.Cmp.Lexicographic.{same_text}
use Rattle.text.specs.Bytes.{starts_with, is_same}
use Rattle.text.proofs.Cases.{by_bool, clash}
use Rattle.text.proofs.Prefix.{short}

pub starts-append : (a b s : List ℕ) → starts_with (a ++ b) s ≡ starts_with a s && starts_with b (drop (length a) s)
unfolding starts_with
starts-append [] b s = refl
starts-append (x ∷ a) b [] = refl
starts-append (x ∷ a) b (y ∷ s) = by_bool (eqb x y) (λ e. rw e (starts-append a b s)) (λ e. rw e)

pub starts-le : (a s : List ℕ) → starts_with a s ≡ true → length a ≤ length s
starts-le a s e = by_bool (ltb (length s) (length a)) (λ t. absurd (clash (sym e ∙ short a s (ltb-true _ _ t)))) (λ t. ltb-false _ _ t)

pub same-starts : (a s : List ℕ) → is_same a s ≡ starts_with a s && eqb (length a) (length s)
unfolding is_same starts_with
same-starts [] [] = refl
same-starts [] (y ∷ s) = sym (eqb-zero-suc (length s))
same-starts (x ∷ a) [] = refl
same-starts (x ∷ a) (y ∷ s) = by_bool (eqb x y) (λ e. rw (e, eqb-suc-suc) (same-starts a s)) (λ e. rw e)

pub same-is : (a s : List ℕ) → is_same a s ≡ true → a ≡ s
unfolding is_same
same-is a s e = same_text a s (sym e)
