-- The parser's batches give the parser's list: at each call the words are those of a state of the parsing.
use Rattle.text.specs.Numbers.{number_of}
use Rattle.std.specs.Prelude.{Some, None, Ok, Err}
use Rattle.tokenizer.specs.Token.{Answer, values_of, Values}
use Prim.Native.Nat.{ℕ, zero, suc, ◌≤◌}
use mathlib.Core.Path.{◌≡◌, refl, ap}
use mathlib.Core.List.{List, [], ◌∷◌, ◌++◌, map}
use mathlib.Core.Bool.{true, false}
use native.Mathlib.Omega.{arith}
use lib.ListN.{length, take, drop, length-map}
use borrow.Author.Tests.{le-leb, ne_eqb}
use Rattle.parser.specs.Step.{step_of, fresh}
use Rattle.parser.specs.Lists.{Parses, ends, says, parse}
use Rattle.parser.specs.declared.state.State.{State}
use Rattle.parser_claims.specs.Claims.{Fits, All}
use Rattle.parser_claims.proofs.Claimed as claimed
use Rattle.batches.specs.Batch.{Taken, taken, taken_batch, parsing, parse_batch_of}
use Rattle.batches.proofs.Branching.{over, took}
use Rattle.parser_words.specs.ParserWords.{parser_words, parser_in, parser_readable, fresh_parser_in}
use Rattle.parser_words.specs.Stops.{is_unfit, is_stop}
use Rattle.parser_words.specs.Claims.{Slots}
use Rattle.parser_words.proofs.Slotted.{slotted}
use Rattle.parser_words.proofs.Claimed.{states-back}
use Rattle.words_claims.specs.Calls.{room_in}
use Rattle.words_claims.specs.Batches.{ParseRows, ParsesServed, ParsesUnrefused, ParsesOver}
use Rattle.words_claims.proofs.Calling.{Called, gives, serves, never-refuses}

-- a state of a parsing, from which these answers come
record Here (d : List ℕ) (l : List Values) (s : State) : Type 0 where
  slots : Slots s
  answers : List Answer
  last : State
  parses : Parses d s answers last
  fits : All (Fits d) answers
  says : map values_of answers ≡ l

-- words with such a state at their front
record Stands (d : List ℕ) (l : List Values) (w : List ℕ) : Type 0 where
  state : State
  rest : List ℕ
  words : w ≡ parser_words state ++ rest
  here : Here d l state

-- what was taken is the front of what comes, n answers if there are so many, and the rest comes after it
record Took (d : List ℕ) (n : ℕ) (l : List Values) (t : Taken State) : Type 0 where
  answers : t.answers ≡ take n l
  here : Here d (drop n l) t.state

module _ (d : List ℕ) where
  -- an answer of a parsing does not stop a batch
  goes_on : (a : Answer) → Fits d a → is_stop a ≡ false
  unfolding is_stop
  goes_on None f = absurd f
  goes_on (Some (Ok t)) f = refl
  goes_on (Some (Err x)) f = ne_eqb (number_of x.refusal) 15 (λ e. absurd (omega arith))

  never-unfit : (a : Answer) → Fits d a → is_unfit a ≡ false
  unfolding is_unfit
  never-unfit None f = absurd f
  never-unfit (Some (Ok t)) f = refl
  never-unfit (Some (Err x)) f = ne_eqb (number_of x.refusal) 15 (λ e. absurd (omega arith))

  parsing-fit : {s u : State} {l : List Answer} → Parses d s l u → All (Fits d) l → is_unfit (step_of d s).answer ≡ false
  unfolding is_unfit
  parsing-fit (ends e) f = rw e
  parsing-fit (says {a = a} q i r) f = rw q (never-unfit a f.0)

  parsed : (n : ℕ) {s u : State} {l : List Answer} → Parses d s l u → Slots s → All (Fits d) l
      → Took d n (map values_of l) (taken (parsing d) n s)
  unfolding taken is_stop
  parsed zero {u = u} {l = l} r k f =
      record { answers = refl; here = record { slots = k; answers = l; last = u; parses = r; fits = f; says = refl } }
  parsed (suc n) (ends {s = s} e) k f =
      rw e (record { answers = refl; here = record { slots = k; answers = []; last = s; parses = ends e; fits = tt; says = refl } })
  parsed (suc n) (says {s = s} {a = a} q i r) k f =
      let t = parsed n r (rw q at (slotted.steps d s k)) f.1 in
      rw (q, goes_on a f.0) (record { answers = ap (◌∷◌ (values_of a)) t.answers; here = t.here })

  here-taken : (n : ℕ) (l : List Values) (s : State) → Here d l s → Took d n l (taken (parsing d) n s)
  here-taken n l s x = rw x.says at (parsed n x.parses x.slots x.fits)

  module _ (h : length d ≤ 16777216) where
    batch-taken : {l : List Values} {w : List ℕ} (rows : List ℕ) (x : Stands d l w)
        → let t = taken (parsing d) (room_in rows) x.state in
        parse_batch_of d w rows ≡ taken_batch t.answers (parser_words t.state ++ drop 278 w) rows
    unfolding parse_batch_of
    batch-taken {w = w} rows x =
        let b = states-back x.state x.rest x.here.slots in
        let e : parser_in w ≡ x.state = rw x.words b.state in
        let f : parser_readable w ≡ true = rw x.words b.reads in
        rw e (took d _ w rows h f (rw (parsing-fit x.here.parses x.here.fits)))

    call : (l : List Values) (w rows : List ℕ) → Stands d l w
        → Called (Stands d) (parse_batch_of d w rows) l rows
    call l w rows x =
        let t = taken (parsing d) (room_in rows) x.state in
        let k = here-taken (room_in rows) l x.state x.here in
        rw (batch-taken rows x, k.answers) (record {
          gave = record { result = refl; rows = refl };
          next = record { state = t.state; rest = drop 278 w; words = refl; here = k.here };
        })

    fresh-stands : (w : List ℕ) → 278 ≤ length w → Stands d (map values_of (parse d)) (fresh_parser_in w)
    unfolding fresh_parser_in
    fresh-stands w k =
        let e = claimed.ends d h in
        record {
          state = fresh;
          rest = drop 278 w;
          words = rw (le-leb 278 (length w) k);
          here = record {
            slots = slotted.begins;
            answers = parse d;
            last = e.last;
            parses = e.parses;
            fits = claimed.fit d h;
            says = refl;
          };
        }

pub parse-rows : ParseRows
parse-rows d w lent h k r = gives (Stands d) (call d h) (map values_of (parse d)) lent (fresh_parser_in w) r (fresh-stands d h w k)

pub parses-served : ParsesServed
parses-served d w h k = serves (Stands d) (call d h) (map values_of (parse d)) (fresh_parser_in w) (fresh-stands d h w k)

pub parses-unrefused : ParsesUnrefused
parses-unrefused d w h k =
    let e = (claimed.ends d h).bound in
    let m = length-map (parse d) values_of in
    never-refuses (Stands d) (call d h) (map values_of (parse d)) (fresh_parser_in w) (fresh-stands d h w k) (omega arith)

pub parses-over : ParsesOver
unfolding parse_batch_of
parses-over d w rows h = over d _ w rows _ h
