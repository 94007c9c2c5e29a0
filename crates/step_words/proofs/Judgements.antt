-- A judgement asks no more of the record of sections than it has, and refuses by a small number, whatever the words say.
use Prim.Native.Nat.{ℕ, zero, suc, ◌≤◌, ◌<◌}
use mathlib.Core.Path.{◌≡◌}
use mathlib.Core.List.{List}
use mathlib.Core.Bool.{false}
use native.Mathlib.Omega.{arith}
use lib.Dec.{eqb, leb, ltb}
use lib.ListN.{get_or}
use borrow.Author.Tests.{ltb-true, leb-false}
use Rattle.text.proofs.Cases.{by_bool, on-cond, clash}
use Rattle.tokenizer.specs.declared.said.Said.{Said}
use Rattle.text.specs.Numbers.{number_of}
use Rattle.parser_rules.specs.Judging.{outdent_by, item_by, key_by, settled_by, after_entry_by, after_hint_by, judged_by}
use Rattle.parser_rules.specs.declared.judging.Judged.{Judged}
use Rattle.parser_rules.specs.declared.judging.Judged.TheVariants.{
  GivesOn,
  NoValue,
  Opens,
  Closes,
  Map,
  List as Listed,
  Hint,
  Value,
  Passes,
  Refuses,
  RefusesEntry,
  End,
  Unfit,
}
use Rattle.parser.specs.Step.{ChangeFits}
use Rattle.step_words.specs.Outcomes.{outcome_by}
use Rattle.step_words.specs.Stepping.{innermost_in, sort_at, judged_in, outcome_for}

-- what it asks of n open sections
abbrev pub Sound : ℕ → Judged → Type 0
Sound n GivesOn = Unit {0}
Sound n NoValue = Unit {0}
Sound n Opens = n < 65
Sound n Closes = 0 < n
Sound n Map = (0 < n) × (n ≤ 65)
Sound n Listed = (0 < n) × (n ≤ 65)
Sound n Hint = Unit {0}
Sound n Value = Unit {0}
Sound n Passes = Unit {0}
Sound n (Refuses r) = number_of r ≤ 7
Sound n RefusesEntry = Unit {0}
Sound n End = Unit {0}
Sound n Unfit = Unit {0}

-- a sort other than 3 is that of a section
has-sort : (n : ℕ) (w : List ℕ) → eqb (sort_at n w) 3 ≡ false → (0 < n) × (n ≤ 65)
unfolding innermost_in
has-sort zero w e = absurd (clash e)
has-sort (suc k) w e =
    by_bool (ltb k 65) (λ q. let h = ltb-true k 65 q in (omega arith, omega arith)) (λ q. absurd (clash (rw q at e)))

module _ (n : ℕ) (w : List ℕ) where
  at_rest : (k : ℕ) → Sound n (settled_by k (sort_at n w))
  unfolding settled_by outdent_by item_by key_by
  at_rest k =
      on-cond (Sound n) (eqb k 0) (λ _. tt) (λ _. on-cond (Sound n) (eqb k 1) (λ _. tt) (λ _. on-cond (Sound n) (eqb k 2) (λ _. tt)
      (λ _. on-cond (Sound n) (eqb k 3) (λ _. omega arith)
      (λ _. on-cond (Sound n) (eqb k 4) (λ _. on-cond (Sound n) (eqb (sort_at n w) 3) (λ _. tt) (λ e. (has-sort n w e).0))
      (λ _. on-cond (Sound n) (eqb k 5)
      (λ _. on-cond (Sound n) (eqb (sort_at n w) 1) (λ _. omega arith) (λ _. on-cond (Sound n) (eqb (sort_at n w) 3) (λ _. tt) (λ e. has-sort n w e)))
      (λ _. on-cond (Sound n) (eqb k 6)
      (λ _. on-cond (Sound n) (eqb (sort_at n w) 2) (λ _. omega arith) (λ _. on-cond (Sound n) (eqb (sort_at n w) 3) (λ _. tt) (λ e. has-sort n w e)))
      (λ _. tt)))))))

  after-key : (k : ℕ) → Sound n (after_entry_by k (leb 65 n))
  unfolding after_entry_by
  after-key k =
      on-cond (Sound n) (eqb k 1) (λ _. tt) (λ _. on-cond (Sound n) (eqb k 2) (λ _. tt)
      (λ _. on-cond (Sound n) (eqb k 3) (λ _. on-cond (Sound n) (leb 65 n) (λ _. tt) (λ e. leb-false 65 n e))
      (λ _. on-cond (Sound n) (eqb k 7) (λ _. tt) (λ _. on-cond (Sound n) (eqb k 8) (λ _. tt) (λ _. tt)))))

  after-hint : (k : ℕ) → Sound n (after_hint_by k)
  unfolding after_hint_by
  after-hint k =
      on-cond (Sound n) (eqb k 1) (λ _. tt) (λ _. on-cond (Sound n) (eqb k 2) (λ _. tt) (λ _. on-cond (Sound n) (eqb k 9) (λ _. tt) (λ _. tt)))

pub sound : (k : ℕ) (w : List ℕ) → Sound (get_or w 147 0) (judged_in k w)
unfolding judged_in judged_by
sound k w =
    let n = get_or w 147 0 in
    on-cond (Sound n) (leb 256 k) (λ _. tt)
    (λ _. on-cond (Sound n) (eqb (get_or w 138 0) 1) (λ _. after-key n w k)
    (λ _. on-cond (Sound n) (eqb (get_or w 138 0) 2) (λ _. after-hint n w k) (λ _. at_rest n w k)))

-- what it leaves fits the record
pub change-fits : (n : ℕ) (v : Judged) (s : Said) (a l o : ℕ) → Sound n v → ChangeFits (outcome_by v s a l o).change n
unfolding outcome_by
change-fits n GivesOn s a l o h = tt
change-fits n NoValue s a l o h = tt
change-fits n Opens s a l o h = h
change-fits n Closes s a l o h = h
change-fits n Map s a l o h = h
change-fits n Listed s a l o h = h
change-fits n Hint s a l o h = tt
change-fits n Value s a l o h = tt
change-fits n Passes s a l o h = tt
change-fits n (Refuses k) s a l o h = tt
change-fits n RefusesEntry s a l o h = tt
change-fits n End s a l o h = tt
change-fits n Unfit s a l o h = tt

pub outcome_fits : (s : Said) (w : List ℕ) → ChangeFits (outcome_for s w).change (get_or w 147 0)
outcome_fits s w = change-fits _ _ s _ _ _ (sound s.number w)
