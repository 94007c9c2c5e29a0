-- The batch's loop, of any steps: what was taken so far, and then what is still to be taken, is what is taken.
use Prim.Native.Nat.{ℕ, zero, suc, ◌+◌, ◌-◌, ◌*◌, ◌≤◌, ◌<◌}
use mathlib.Core.Path.{◌≡◌, refl, sym, subst, ◌∙◌}
use mathlib.Core.List.{List, [], ◌∷◌, ◌++◌, append-nil, append_assoc}
use mathlib.Core.Bool.{true, false, ◌&&◌}
use native.Mathlib.Nat.{sub-zero}
use native.Mathlib.Omega.{arith}
use Rattle.std.specs.Prelude.{Some, None}
use Rattle.std.specs.Option.{option_eq}
use lib.Dec.{eqb, ltb, eqb-suc-zero}
use lib.ListN.{length, take, drop, length-append, length-drop, take-append-drop}
use lib.Seq.{drop-length, length-take-le}
use borrow.Author.Tests.{lt-ltb, le-ltb}
use Rattle.text.proofs.Cases.{by_bool}
use Rattle.tokenizer.specs.Token.{Values}
use Rattle.tokenizer_rows.specs.Rows.{row_of, rows_of, rows_in}
use Rattle.tokenizer_words.specs.Words.{pasted, pasted_in}
use Rattle.batches.specs.Batch.{Steps, Taken, taken}
use Rattle.tokenizer_rows.proofs.RowLists.{rows_append, rows-length}
use Rattle.tokenizer_words.proofs.Pasting.{pasted-room, pasted-front, pasted-after, copied_over}
use Rattle.batches.specs.Walks.{last_of}

-- one row more
row_more : (l : List Values) (v : Values) (w : List ℕ) → pasted (row_of v) (7 * length l) (rows_in l w) ≡ rows_in (l ++ (v ∷ [])) w
unfolding rows_in rows_of
row_more l v w =
    let k : 7 * length (l ++ (v ∷ [])) ≡ 7 * length l + 7 = rw length-append (omega arith) in
    rw (k, pasted-after (rows_of l) (row_of v) w (7 * length l) (rows-length l), rows_append l (v ∷ []))

-- the k words from the nth on are lent, and come back as p: as they were, or as a row of their length
module _ (w : List ℕ) (n k : ℕ) {p : List ℕ} where
  pub lent-stays : p ≡ take k (drop n w) → take n w ++ (p ++ drop k (drop n w)) ≡ w
  lent-stays e = rw (e, take-append-drop, take-append-drop)

  pub lent-row : (r : List ℕ) → k ≡ length r → n + length r ≤ length w → p ≡ pasted_in r 0 (take k (drop n w))
      → take n w ++ (p ++ drop k (drop n w)) ≡ pasted_in r n w
  lent-row r l h e =
      let part = take k (drop n w) in
      let long : length part ≡ length r = length-take-le k (drop n w) (omega (arith, length-drop n w)) ∙ l in
      let none : drop (length r) part ≡ [] = subst (λ m. drop m part ≡ []) long (drop-length part) in
      copied_over r w p n k (e ∙ pasted-room r part 0 (omega arith) ∙ pasted-front r part ∙ rw (none, append-nil)) l h

-- answers, and then what is taken after them
abbrev after : {S : Type 0} → List Values → Taken S → Taken S
after l t = record { answers = l ++ t.answers; state = t.state }

-- n of at most `room` answers from s₀ on were taken: their rows stand in w, and s is the state after them
pub record Turn {S : Type 0} (m : Steps S) (w₀ w : List ℕ) (room n : ℕ) (s₀ s : S) : Type 0 where
  pub bound : n ≤ room
  pub answers : List Values
  pub count : length answers ≡ n
  pub rows : w ≡ rows_in answers w₀
  pub left : taken m room s₀ ≡ after answers (taken m (room - n) s)

-- all were taken
abbrev pub All : {S : Type 0} → Steps S → List ℕ → List ℕ → ℕ → ℕ → S → S → Type 0
All m w₀ w room n s₀ s =
    (n ≡ length (taken m room s₀).answers) × ((s ≡ (taken m room s₀).state) × (w ≡ rows_in (taken m room s₀).answers w₀))

module _ {S : Type 0} (m : Steps S) where
  taken-end : (n : ℕ) (s : S) → m.stops s ≡ true → taken m n s ≡ record { answers = []; state = s }
  unfolding taken
  taken-end zero s e = refl
  taken-end (suc n) s e = rw e

  taken_more-left : (n : ℕ) (s : S) (l : List Values) → m.stops s ≡ false
      → after l (taken m (suc n) s) ≡ after (l ++ (m.says s ∷ [])) (taken m n (m.next s))
  unfolding taken
  taken_more-left n s l e = rw (e, append_assoc)

  module _ (w₀ : List ℕ) (room : ℕ) (s₀ : S) where
    pub start : Turn m w₀ w₀ room 0 s₀ s₀
    unfolding rows_in rows_of
    start = record { bound = omega arith; answers = []; count = refl; rows = refl; left = rw sub-zero }

    module _ {w : List ℕ} {n : ℕ} {s : S} (t : Turn m w₀ w room n s₀ s) where
      pub next : {v : List ℕ} {u : S} → n < room → 7 * n + 7 ≤ length w → m.stops s ≡ false
          → v ≡ pasted_in (row_of (m.says s)) (7 * n) w → u ≡ m.next s → Turn m w₀ v room (n + 1) s₀ u
      next h l e r q =
          let k : room - n ≡ suc (room - (n + 1)) = omega arith in
          record {
            bound = omega arith;
            answers = t.answers ++ (m.says s ∷ []);
            count = rw (length-append, t.count);
            rows = rw (r, pasted-room (row_of (m.says s)) w (7 * n) l, t.rows, ← t.count) (row_more t.answers (m.says s) w₀);
            left = rw q (rw (k, taken_more-left (room - (n + 1)) s t.answers e) at t.left);
          }

      -- nothing is left to be taken
      ended : taken m (room - n) s ≡ record { answers = []; state = s } → All m w₀ w room n s₀ s
      ended e =
          let f : taken m room s₀ ≡ record { answers = t.answers; state = s } = rw (e, append-nil) at t.left in
          (rw f (sym t.count), (rw f, rw f t.rows))

      pub at-end : m.stops s ≡ true → All m w₀ w room n s₀ s
      at-end e = ended (taken-end (room - n) s e)

      pub full : room ≤ n → All m w₀ w room n s₀ s
      unfolding taken
      full h = let k : room - n ≡ 0 = omega arith in ended (rw k)

      -- the number that stopped
      pub last-stop : n < room → All m w₀ w room n s₀ s → last_of m room s₀ ≡ Some (m.says s).number
      unfolding last_of
      last-stop h a = rw (← a.0, lt-ltb n room h, ← a.1.0)

      pub last-full : room ≤ n → All m w₀ w room n s₀ s → last_of m room s₀ ≡ None
      unfolding last_of
      last-full h a = rw (← a.0, le-ltb n room h)

-- at most one answer, and the number that stops it
module _ {S : Type 0} (m : Steps S) (s : S) where
  pub one-stop : m.stops s ≡ true → taken m 1 s ≡ record { answers = []; state = s }
  unfolding taken
  one-stop e = rw e

  pub one_on : m.stops s ≡ false → taken m 1 s ≡ record { answers = m.says s ∷ []; state = m.next s }
  unfolding taken
  one_on e = rw e

  module _ (h : m.stops s ≡ false → eqb (m.says s).number 271 ≡ false) where
    -- a batch of one stops by 15 if the step is 15
    pub last_one : option_eq eqb (last_of m 1 s) (Some 271) ≡ eqb (m.says s).number 271
    unfolding last_of
    last_one = by_bool (m.stops s) (λ e. rw (one-stop e)) (λ e. rw (one_on e, h e))

    -- and a batch of n that takes none
    pub last_none : (n : ℕ) → (eqb (length (taken m n s).answers) 0 && option_eq eqb (last_of m n s) (Some 271)) ≡ (ltb 0 n && eqb (m.says s).number 271)
    unfolding last_of taken
    last_none zero = refl
    last_none (suc n) =
        by_bool (m.stops s) (λ e. rw (e, lt-ltb 0 (suc n) (omega arith))) (λ e. rw (e, eqb-suc-zero, lt-ltb 0 (suc n) (omega arith), h e))
