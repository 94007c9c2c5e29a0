-- Calls of any batch, where a call at words from which l is still to come gives as much of l as there is room for, and leaves words
-- from which the rest comes.
use Prim.Native.Nat.{ℕ, zero, suc, ◌+◌, ◌*◌, ◌^◌, ◌≤◌, ◌<◌}
use mathlib.Core.Path.{◌≡◌, refl, sym, ap, ◌∙◌, subst}
use mathlib.Core.List.{List, [], ◌∷◌, ◌++◌}
use native.Mathlib.Nat.{le-div_iff_mul-le}
use native.Mathlib.Omega.{arith}
use lib.Dec.{ltb}
use lib.ListN.{length, take, drop, length-drop, length-take, take-append-drop}
use lib.Seq.{take_all, take_at, length-take-le, drop-drop}
use borrow.Author.Tests.{ltb-true, ltb-false}
use Rattle.text.proofs.Cases.{by_bool}
use Rattle.tokenizer.specs.Token.{Values}
use Rattle.tokenizer_rows.specs.Rows.{rows_of, rows_in}
use Rattle.batches.specs.Batch.{Batch}
use Rattle.tokenizer_rows.proofs.RowLists.{rows_append, rows-length}
use Rattle.words_claims.specs.Calls.{room_in, given, Calls, last, more, Gives, Gave, Reached, start, next, Serves, NeverRefuses}
use Rattle.words_claims.specs.Batches.{Room}

room : (rows : List ℕ) → 7 ≤ length rows → 1 ≤ room_in rows
room rows h = (le-div_iff_mul-le {k = 7} (omega arith)).1 h

given-rows : {b : Batch} {l : List Values} {lent : List ℕ} → Gave b l lent → given b ≡ rows_of l
unfolding rows_in
given-rows {l = l} {lent = lent} g =
    rw (g.result, g.rows) (take_at (rows_of l) (drop (7 * length l) lent) (7 * length l) (rows-length l))

-- what is left where k were to be taken
drop-taken : (k : ℕ) (l : List Values) → drop (length (take k l)) l ≡ drop k l
drop-taken zero l = refl
drop-taken (suc k) [] = refl
drop-taken (suc k) (v ∷ l) = drop-taken k l

-- what a call at words from which l is to come does, and what is to come after it
pub record Called (Stands : List Values → List ℕ → Type 0) (b : Batch) (l : List Values) (lent : List ℕ) : Type 0 where
  pub gave : Gave b (take (room_in lent) l) lent
  pub next : Stands (drop (room_in lent) l) b.words

-- from the words w on, l is still to come
module _ {batch : List ℕ → List ℕ → Batch} (Stands : List Values → List ℕ → Type 0)
    (call : (l : List Values) (w rows : List ℕ) → Stands l w → Called Stands (batch w rows) l rows) where
  -- a call's rows, and those of the rest
  joined : {b : Batch} {lent : List ℕ} (l : List Values) → Called Stands b l lent → given b ++ rows_of (drop (room_in lent) l) ≡ rows_of l
  joined {lent = lent} l c =
      let n = room_in lent in
      rw (given-rows c.gave) (sym (rows_append (take n l) (drop n l)) ∙ ap rows_of (take-append-drop n l))

  only : {lent : ℕ → List ℕ} {w : List ℕ} {n : ℕ} {rows : List ℕ} → Calls batch lent w n rows → (l : List Values) → Stands l w
      → rows ≡ rows_of l
  only (last {lent = lent} {w = w} h) l s =
      let g = call l w (lent 0) s in
      let k : length l ≤ room_in (lent 0) = omega (arith, g.gave.result, length-take (room_in (lent 0)) l) in
      given-rows g.gave ∙ ap rows_of (take_all (room_in (lent 0)) l k)
  only (more {lent = lent} {w = w} h c) l s =
      let g = call l w (lent 0) s in
      rw (only c (drop (room_in (lent 0)) l) g.next) (joined l g)

  pub serves : (l : List Values) (w : List ℕ) → Stands l w → Serves batch w l
  serves l w s v n r rows = (call (drop n l) v rows (reached r)).gave
    where
      reached : {v : List ℕ} {n : ℕ} → Reached batch w v n → Stands (drop n l) v
      reached start = s
      reached (next {v = v} {n = n} r rows) =
          let c = call (drop n l) v rows (reached r) in
          let e : drop (n + (batch v rows).result) l ≡ drop (room_in rows) (drop n l) =
          rw (c.gave.result, ← drop-drop (length (take (room_in rows) (drop n l))) n l) (drop-taken (room_in rows) (drop n l)) in
          rw e c.next

  pub never-refuses : (l : List Values) (w : List ℕ) → Stands l w → length l < 2 ^ 63 → NeverRefuses batch w
  never-refuses l w s h v n r rows =
      let g = serves l w s v n r rows in
      omega (arith, g.result, length-take (room_in rows) (drop n l), length-drop n l)

  -- the last call, and one before it
  ending : (l : List Values) (lent : ℕ → List ℕ) (w : List ℕ) → Stands l w → length l < room_in (lent 0) → Calls batch lent w 1 (rows_of l)
  ending l lent w s h =
      let n = room_in (lent 0) in
      let g = call l w (lent 0) s in
      let e = take_all n l (omega arith) in
      subst (Calls batch lent w 1) (given-rows g.gave ∙ ap rows_of e) (last (omega (arith, g.gave.result, ap length e)))

  going : (l : List Values) (lent : ℕ → List ℕ) (w : List ℕ) (s : Stands l w) (k : ℕ) → room_in (lent 0) ≤ length l
      → Calls batch (λ i. lent (suc i)) (batch w (lent 0)).words k (rows_of (drop (room_in (lent 0)) l))
      → Calls batch lent w (suc k) (rows_of l)
  going l lent w s k h c =
      let g = call l w (lent 0) s in
      subst (Calls batch lent w (suc k)) (joined l g) (more (g.gave.result ∙ length-take-le (room_in (lent 0)) l h) c)

  -- a number of calls that is within the bound, and the calls
  record Ended (l : List Values) (lent : ℕ → List ℕ) (w : List ℕ) : Type 0 where
    calls : ℕ
    ends : Calls batch lent w calls (rows_of l)
    bound : calls ≤ length l + 1

  ended : (k : ℕ) (l : List Values) (lent : ℕ → List ℕ) (w : List ℕ) → length l ≤ k → Room lent → Stands l w → Ended l lent w
  ended zero l lent w h r s = record { calls = 1; ends = ending l lent w s (omega (arith, room (lent 0) (r 0))); bound = omega arith }
  ended (suc k) l lent w h r s =
      by_bool (ltb (length l) (room_in (lent 0)))
      (λ e. record { calls = 1; ends = ending l lent w s (ltb-true (length l) (room_in (lent 0)) e); bound = omega arith })
      (λ e. let n = room_in (lent 0) in
      let m : n ≤ length l = ltb-false (length l) n e in
      let p = room (lent 0) (r 0) in
      let j = length-drop n l in
      let i = ended k (drop n l) (λ i. lent (suc i)) (batch w (lent 0)).words (omega arith) (λ i. r (suc i)) (call l w (lent 0) s).next in
      record { calls = suc i.calls; ends = going l lent w s i.calls m i.ends; bound = omega (arith, i.bound) })

  pub gives : (l : List Values) (lent : ℕ → List ℕ) (w : List ℕ) → Room lent → Stands l w → Gives batch lent w l
  gives l lent w r s =
      let e = ended (length l) l lent w (omega arith) r s in
      record { calls = e.calls; ends = e.ends; bound = e.bound; only = λ c. only c l s }
