-- Laws of `closing` at a position of a text, for the loop of `quotes_len`; what `quotes_end` and `eq_size` are by the first byte; and
-- the bounds: no scan of a key's or a value's text passes the end of what it reads.
use Prim.Native.Nat.{ℕ, suc, ◌+◌, ◌-◌, ◌≤◌, ◌<◌}
use denote.Ref.{Bor}
use mathlib.Core.Path.{◌≡◌, refl, sym, ◌∙◌}
use mathlib.Core.List.{List, [], ◌∷◌}
use mathlib.Core.Bool.{Bool, true, false, cond, not, ◌&&◌}
use native.Mathlib.Nat.{add-zero, add-suc, suc-add}
use native.Mathlib.Numerals.{add-one, one-add}
use native.Mathlib.Omega.{arith}
use lib.Dec.{eqb, ltb}
use lib.ListN.{length, get_or, take, drop, length-drop, drop_of_length-le}
use lib.Seq.{drop-cons}
use borrow.Author.Tests.{ltb-true, ltb-false}
use Rattle.std.specs.Prelude.{Option, Some, None, slice_get}
use Rattle.std.specs.Option.{option_eq, option_copied}
use Rattle.text.specs.Bytes.{is_break}
use Rattle.text.proofs.Cases.{by_bool, on-cond, clash}
use Rattle.text.proofs.Front.{from}
use Rattle.text.proofs.Prefix.{short}
use Rattle.std.proofs.lemmas.List.Sums.{prefix_len-le-length}
use Rattle.tokenizer_scans.specs.Scans.{stops, plain_end, closing, quotes_end, text_end, begins_hint, eq_size}

module _ (escaped : Bool) (s : List ℕ) (i : ℕ) where
  -- CR or LF at i ends them
  pub at_break : i < length s → is_break (get_or s i 0) ≡ true → i + closing escaped (drop i s) ≡ i
  unfolding closing
  at_break h t = rw (drop-cons s i 0 h, t, add-zero)

  -- the byte at i closes them
  pub close : i < length s → is_break (get_or s i 0) ≡ false → (eqb (get_or s i 0) 34 && not escaped) ≡ true → i + closing escaped (drop i s) ≡ i + 1
  unfolding closing
  close h t q = rw (drop-cons s i 0 h, t, q)

  -- they go on after the byte at i
  pub more : i < length s → is_break (get_or s i 0) ≡ false → (eqb (get_or s i 0) 34 && not escaped) ≡ false
      → {next : Bool} → next ≡ (eqb (get_or s i 0) 92 && not escaped) → i + closing escaped (drop i s) ≡ i + 1 + closing next (drop (i + 1) s)
  unfolding closing
  more h t q e = rw (e, drop-cons s i 0 h, t, q, add-one, add-suc, suc-add)

  -- nothing is left
  pub end : length s ≤ i → i + closing escaped (drop i s) ≡ i
  unfolding closing
  end h = rw (drop_of_length-le s h, add-zero)

-- A byte that is read, or none, compared with a given one.
pub read : (r : Option (Bor ℕ)) {o : Option ℕ} (q : Bor ℕ) {t : Bool} → option_copied r ≡ o → t ≡ option_eq (λ x y. eqb x.now y.now) r (Some q)
    → t ≡ option_eq eqb o (Some q.now)
read None q e f = rw (← e) f
read (Some x) q e f = rw (← e) f

-- By the first byte.
pub quotes_first : (s : List ℕ)
    → quotes_end s ≡ cond (option_eq eqb (slice_get s 0) (Some 34)) (1 + closing false (take (length s - 1) (drop 1 s))) 0
unfolding quotes_end
quotes_first [] = refl
quotes_first (b ∷ r) = rw (from, one-add)

pub eq_first : (s : List ℕ) → eq_size s ≡ cond (option_eq eqb (slice_get s 0) (Some 61)) 1 0
unfolding eq_size
eq_first [] = refl
eq_first (b ∷ r) = refl

-- The bounds.
pub closing_le : (escaped : Bool) (s : List ℕ) → closing escaped s ≤ length s
unfolding closing
closing_le escaped [] = omega arith
closing_le escaped (b ∷ r) =
    let i = closing_le (eqb b 92 && not escaped) r in
    on-cond (λ n. n ≤ suc (length r)) (is_break b) (λ _. omega arith)
    (λ _. on-cond (λ n. n ≤ suc (length r)) (eqb b 34 && not escaped) (λ _. omega arith) (λ _. omega arith))

pub quotes_le : (s : List ℕ) → quotes_end s ≤ length s
unfolding quotes_end
quotes_le [] = omega arith
quotes_le (b ∷ r) = on-cond (λ n. n ≤ suc (length r)) (eqb b 34) (λ _. omega (arith, closing_le false r)) (λ _. omega arith)

pub plain-le : (also : ℕ) (s : List ℕ) → plain_end also s ≤ length s
unfolding plain_end
plain-le also s = prefix_len-le-length (λ b. not (stops also b)) s

pub text_le : (also : ℕ) (s : List ℕ) → text_end also s ≤ length s
unfolding text_end
text_le also s = omega (arith, quotes_le s, plain-le also (drop (quotes_end s) s), length-drop (quotes_end s) s)

eq-length : (s : List ℕ) → eq_size s ≤ length s
unfolding eq_size
eq-length [] = omega arith
eq-length (b ∷ r) = on-cond (λ n. n ≤ suc (length r)) (eqb b 61) (λ _. omega arith) (λ _. omega arith)

pub eq-le : (n : ℕ) (s : List ℕ) → eq_size (drop n s) ≤ length s - n
eq-le n s = omega (arith, eq-length (drop n s), length-drop n s)

-- three quotes are three bytes
pub hint_le : (s : List ℕ) → begins_hint s ≡ true → 3 ≤ length s
unfolding begins_hint
hint_le s e = by_bool (ltb (length s) 3) (λ t. absurd (clash (sym e ∙ short _ s (ltb-true _ _ t)))) (ltb-false _ _)
