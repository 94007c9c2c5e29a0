-- A batch of one, with room for its one row: what it takes is the step.
use Prim.Native.Nat.{ℕ, ◌/◌}
use mathlib.Core.Path.{◌≡◌, refl, sym, ap, ◌∙◌}
use mathlib.Core.List.{List, [], ◌∷◌}
use mathlib.Core.Bool.{Bool, true, false, ◌||◌}
use native.Mathlib.Omega.{arith}
use Rattle.std.specs.Prelude.{Some, None}
use lib.Dec.{eqb}
use lib.ListN.{length, drop, length-drop}
use Rattle.text.proofs.Cases.{by_bool}
use Rattle.tokenizer.specs.Token.{bare}
use Rattle.tokenizer_rows.specs.Rows.{row_of, row_by, rows_of, rows_in}
use Rattle.batches.specs.Batch.{taken}
use Rattle.step_words.specs.Stepping.{stops_at, Gone, step_in}
use Rattle.batches.specs.Walks.{stepping, last_of}
use Rattle.step_words.specs.declared.step.Layer.{Layer}
use Rattle.step_words.proofs.Branches.{stop-stays}
use Rattle.batches.proofs.Taking.{one-stop, one_on}

-- what does not stop is not 15
or_right : (a b : Bool) → (a || b) ≡ false → b ≡ false
or_right true b e = let z : ◌≡◌ {A = ℕ} 0 1 = cc in absurd (omega arith)
or_right false b e = e

pub not-unfit : (n : ℕ) → stops_at n ≡ false → eqb n 271 ≡ false
unfolding stops_at
not-unfit n e = or_right (eqb n 0) (eqb n 271) e

none_left : (l : List ℕ) → length l ≡ 0 → l ≡ []
none_left [] e = refl
none_left (a ∷ l) e = absurd (omega arith)

-- the number that stopped it is one, and there is one or none
same_number : {x y : ℕ} → Some x ≡ Some y → x ≡ y
same_number e = cc

no_number : {x : ℕ} → None ≡ Some x → ⊥
no_number e = cc

module _ (layer : Layer) (d w row : List ℕ) (h : length row ≡ 7) where
  one : length row / 7 ≡ 1
  one = rw h

  pub none-taken : {x : ℕ} → last_of (stepping layer d) (length row / 7) w ≡ Some x
      → ((taken (stepping layer d) (length row / 7) w).state ≡ (step_in layer d w).words) × (row_of (bare x 0) ≡ row_by (step_in layer d w).said)
  unfolding last_of
  none-taken z =
      by_bool (stops_at (step_in layer d w).said.number)
      (λ e. let s = stop-stays layer d w e in
      let n = same_number (rw (one, one-stop (stepping layer d) w e) at z) in
      rw (one, one-stop (stepping layer d) w e) (sym (ap (λ (g : Gone). g.words) s), ap (λ x. row_of (bare x 0)) (sym n) ∙ sym (ap (λ (g : Gone). row_by g.said) s)))
      (λ e. absurd (no_number (rw (one, one_on (stepping layer d) w e) at z)))

  pub one-taken : last_of (stepping layer d) (length row / 7) w ≡ None
      → ((taken (stepping layer d) (length row / 7) w).state ≡ (step_in layer d w).words)
      × (rows_in (taken (stepping layer d) (length row / 7) w).answers row ≡ row_by (step_in layer d w).said)
  unfolding last_of rows_in rows_of
  one-taken z =
      by_bool (stops_at (step_in layer d w).said.number)
      (λ e. absurd (no_number (sym (rw (one, one-stop (stepping layer d) w e) at z))))
      (λ e. rw (one, one_on (stepping layer d) w e, none_left (drop 7 row) (omega (arith, length-drop 7 row, h))) (refl, refl))
