-- Rows tell their answers apart.
use Prim.Native.Nat.{ℕ}
use mathlib.Core.Path.{◌≡◌, refl, ap}
use mathlib.Core.List.{List, [], ◌∷◌, map}
use native.Mathlib.Omega.{arith}
use lib.ListN.{take, drop, get_or}
use Rattle.tokenizer.specs.Token.{Values, token_values, values_of}
use Rattle.tokenizer.proofs.Valued.{values-injective}
use Rattle.tokenizer_rows.specs.Rows.{row_of, rows_of}
use Rattle.tokenizer_rows.specs.Claims.{AnswerRows, AnswerLists, RowLayout}

-- the values in a row
abbrev values_in : List ℕ → Values
values_in w = record {
  number = get_or w 0 0;
  line = get_or w 1 0;
  start = get_or w 2 0;
  end = get_or w 3 0;
  from = get_or w 4 0;
  to = get_or w 5 0;
  opened = get_or w 6 0;
}

-- of answers that their values tell apart, rows do
module _ {A : Type 0} (values : A → Values) (told : (a b : A) → values a ≡ values b → a ≡ b) where
  pub rows_tell : (a b : A) → row_of (values a) ≡ row_of (values b) → a ≡ b
  rows_tell a b e = told a b (ap values_in e)

  pub lists-tell : (l m : List A) → rows_of (map values l) ≡ rows_of (map values m) → l ≡ m
  unfolding rows_of
  lists-tell [] [] e = refl
  lists-tell [] (b ∷ m) e = let z : ◌≡◌ {A = ℕ} 0 1 = cc in absurd (omega arith)
  lists-tell (a ∷ l) [] e = let z : ◌≡◌ {A = ℕ} 0 1 = cc in absurd (omega arith)
  lists-tell (a ∷ l) (b ∷ m) e =
      let x : a ≡ b = rows_tell a b (ap (take 7) e) in
      let y : l ≡ m = lists-tell l m (ap (drop 7) e) in
      cc

pub answer-rows : AnswerRows
answer-rows = rows_tell values_of values-injective

pub answer-lists : AnswerLists
answer-lists = lists-tell values_of values-injective

pub layout : RowLayout
unfolding token_values values_of
layout = record { row = refl; refusal = refl; kinds = refl }
