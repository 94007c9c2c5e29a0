-- What stands at the front of a text, by its first bytes' positions: the code tests lengths and reads positions, the
-- definitions match on the list.
use Prim.Native.Nat.{ℕ, suc, ◌-◌, ◌≤◌, ◌<◌}
use mathlib.Core.Path.{◌≡◌, refl, sym}
use mathlib.Core.List.{List, [], ◌∷◌}
use mathlib.Core.Bool.{true, false, cond, ◌&&◌, and-false, and-true}
use native.Mathlib.Omega.{arith}
use lib.Dec.{eqb}
use lib.ListN.{length, drop, take, length-drop}
use lib.Seq.{take_all}
use borrow.Author.Tests.{ne_eqb, eq-eqb, eqb-true, eqb-false}
use Rattle.text.specs.Bytes.{is_break, break_size}
use Rattle.std.specs.List.{slice_get}
use Rattle.std.proofs.Common.{Some, None}
use lib.Pointwise.{pointwise}
use Rattle.text.proofs.Cases.{on-cond, by_bool}

eqb-sym : (a b : ℕ) → eqb a b ≡ eqb b a
eqb-sym a b = by_bool (eqb a b) (λ e. rw (e, eq-eqb b a (sym (eqb-true a b e)))) (λ e. rw (e, ne_eqb b a (λ q. eqb-false a b e (sym q))))

-- the slice `&s[a..]`
pub from : (a : ℕ) (s : List ℕ) → take (length s - a) (drop a s) ≡ drop a s
from a s = take_all (length s - a) (drop a s) (rw length-drop (omega arith))

-- The break that a text begins with, by what `s.first()` answers.
pub unbroken : (s : List ℕ) → slice_get s 0 ≡ None → break_size s ≡ 0
unfolding break_size
unbroken [] e = refl
unbroken (a ∷ r) e = let z : ◌≡◌ {A = ℕ} 0 1 = cc in absurd (omega arith)

pub bare : (s : List ℕ) (b : ℕ) → slice_get s 0 ≡ Some b → is_break b ≡ false → break_size s ≡ 0
unfolding break_size
bare [] b e f = refl
bare (a ∷ []) b e f = let q : a ≡ b = cc in rw (q, f)
bare (a ∷ c ∷ r) b e f = let q : a ≡ b = cc in rw (q, f)

-- CR LF decides
pub broken : (s : List ℕ) (b : ℕ) → slice_get s 0 ≡ Some b → is_break b ≡ true
    → break_size s ≡ cond (pointwise eqb (13 ∷ 10 ∷ []) (take 2 s)) 2 1
unfolding break_size
broken [] b e f = let z : ◌≡◌ {A = ℕ} 0 1 = cc in absurd (omega arith)
broken (a ∷ []) b e f = let q : a ≡ b = cc in rw (q, f, and-false)
broken (a ∷ c ∷ r) b e f = let q : a ≡ b = cc in rw (q, f, and-true, eqb-sym b 13, eqb-sym c 10)

-- the break lies within the text, and has a byte
pub break-le : (s : List ℕ) → break_size s ≤ length s
unfolding break_size
break-le [] = omega arith
break-le (b ∷ []) = on-cond (λ n. n ≤ 1) (is_break b) (λ e. omega arith) (λ e. omega arith)
break-le (b ∷ c ∷ r) =
    on-cond (λ n. n ≤ suc (suc (length r))) (is_break b)
    (λ e. on-cond (λ n. n ≤ suc (suc (length r))) (eqb b 13 && eqb c 10) (λ t. omega arith) (λ t. omega arith))
    (λ e. omega arith)

pub break-pos : (b : ℕ) (r : List ℕ) → is_break b ≡ true → 0 < break_size (b ∷ r)
unfolding break_size
break-pos b [] e = rw e (omega arith)
break-pos b (c ∷ r) e = rw e (on-cond (λ n. 0 < n) (eqb b 13 && eqb c 10) (λ t. omega arith) (λ t. omega arith))
