-- The tokenizer's batches give the tokenizer's list: at each call the words are those of a state of the reading.
use Rattle.tokenizer.specs.Token.{Answer, Values, values_of}
use Prim.Native.Nat.{ℕ, zero, suc, ◌≤◌}
use mathlib.Core.Path.{◌≡◌, refl, ap}
use mathlib.Core.List.{List, [], ◌∷◌, ◌++◌, map}
use mathlib.Core.Bool.{true}
use native.Mathlib.Omega.{arith}
use lib.ListN.{length, take, drop, length-map}
use Rattle.tokenizer.specs.Step.{fresh}
use Rattle.tokenizer.specs.Lists.{is_end, Reads, ends, says, tokens}
use Rattle.tokenizer.specs.declared.state.State.{State}
use Rattle.tokenizer_claims.proofs.Sound.{Sound, fresh-sound, sound-fit}
use Rattle.tokenizer_claims.proofs.Claimed.{sound-kept}
use Rattle.tokenizer_claims.proofs.Claimed as claimed
use Rattle.tokenizer_words.specs.Words.{words_of, state_in, readable, fresh_in}
use Rattle.batches.specs.Batch.{Taken, taken, taken_batch, batch_of, tokenizing}
use Rattle.tokenizer_words.specs.Claims.{Slots}
use Rattle.tokenizer_words.proofs.Storing.{stored-137}
use Rattle.batches.proofs.Branching.{over, took}
use Rattle.tokenizer_words.proofs.Slotted.{slotted}
use Rattle.tokenizer_words.proofs.Claimed.{states-back}
use Rattle.words_claims.specs.Calls.{room_in}
use Rattle.words_claims.specs.Batches.{TokenRows, TokensServed, TokensUnrefused, TokensOver}
use Rattle.words_claims.proofs.Calling.{Called, gives, serves, never-refuses}

-- a state of a reading, from which these answers come
record Here (d : List ℕ) (l : List Values) (s : State) : Type 0 where
  slots : Slots s
  sound : Sound d s
  answers : List Answer
  last : State
  reads : Reads d s answers last
  says : map values_of answers ≡ l

-- words with such a state at their front
record Stands (d : List ℕ) (l : List Values) (w : List ℕ) : Type 0 where
  state : State
  rest : List ℕ
  words : w ≡ words_of state ++ rest
  here : Here d l state

-- what was taken is the front of what comes, n answers if there are so many, and the rest comes after it
record Took (d : List ℕ) (n : ℕ) (l : List Values) (t : Taken State) : Type 0 where
  answers : t.answers ≡ take n l
  here : Here d (drop n l) t.state

module _ (d : List ℕ) (h : length d ≤ 16777216) where
  reading : (n : ℕ) {s u : State} {l : List Answer} → Reads d s l u → Slots s → Sound d s
      → Took d n (map values_of l) (taken (tokenizing d) n s)
  unfolding taken is_end
  reading zero {u = u} {l = l} r k o =
      record { answers = refl; here = record { slots = k; sound = o; answers = l; last = u; reads = r; says = refl } }
  reading (suc n) (ends {s = s} e) k o =
      rw e (record { answers = refl; here = record { slots = k; sound = o; answers = []; last = s; reads = ends e; says = refl } })
  reading (suc n) (says {s = s} {a = a} q f r) k o =
      let t = reading n r (rw q at (slotted.steps d s k)) (rw q at (sound-kept d h s o)) in
      rw (q, f) (record { answers = ap (◌∷◌ (values_of a)) t.answers; here = t.here })

  here-taken : (n : ℕ) (l : List Values) (s : State) → Here d l s → Took d n l (taken (tokenizing d) n s)
  here-taken n l s x = rw x.says at (reading n x.reads x.slots x.sound)

  batch-taken : {l : List Values} {w : List ℕ} (rows : List ℕ) (x : Stands d l w)
      → let t = taken (tokenizing d) (room_in rows) x.state in
      batch_of d w rows ≡ taken_batch t.answers (words_of t.state ++ drop 137 w) rows
  unfolding batch_of
  batch-taken {w = w} rows x =
      let b = states-back x.state x.rest x.here.slots in
      let e : state_in w ≡ x.state = rw x.words b.state in
      let f : readable w ≡ true = rw x.words b.reads in
      rw e (took d _ w rows h f (sound-fit d x.state x.here.sound))

  call : (l : List Values) (w rows : List ℕ) → Stands d l w → Called (Stands d) (batch_of d w rows) l rows
  call l w rows x =
      let t = taken (tokenizing d) (room_in rows) x.state in
      let k = here-taken (room_in rows) l x.state x.here in
      rw (batch-taken rows x, k.answers) (record {
        gave = record { result = refl; rows = refl };
        next = record { state = t.state; rest = drop 137 w; words = refl; here = k.here };
      })

  fresh-stands : (w : List ℕ) → 137 ≤ length w → Stands d (map values_of (tokens d)) (fresh_in w)
  fresh-stands w k =
      let e = claimed.ends d h in
      record {
        state = fresh;
        rest = drop 137 w;
        words = stored-137 fresh w k;
        here = record { slots = slotted.begins; sound = fresh-sound d; answers = tokens d; last = e.last; reads = e.reads; says = refl };
      }

pub token-rows : TokenRows
token-rows d w lent h k r = gives (Stands d) (call d h) (map values_of (tokens d)) lent (fresh_in w) r (fresh-stands d h w k)

pub tokens-served : TokensServed
tokens-served d w h k = serves (Stands d) (call d h) (map values_of (tokens d)) (fresh_in w) (fresh-stands d h w k)

pub tokens-unrefused : TokensUnrefused
tokens-unrefused d w h k =
    let e = (claimed.ends d h).bound in
    let m = length-map (tokens d) values_of in
    never-refuses (Stands d) (call d h) (map values_of (tokens d)) (fresh_in w) (fresh-stands d h w k) (omega arith)

pub tokens-over : TokensOver
unfolding batch_of
tokens-over d w rows h = over d _ w rows _ h
