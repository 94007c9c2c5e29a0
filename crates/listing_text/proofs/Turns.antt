-- The listing's loop: the rows written so far, and then the rows of what is left, are the rows of the parser's list.
use Rattle.std.specs.Prelude.{Some, None, Ok, Err}
use Rattle.tokenizer.specs.Token.{Answer, values_of, bare, token_values}
use Rattle.text.specs.Numbers.{error, number_of}
use Rattle.text.specs.declared.refusals.Refusal.TheVariants.{TooLong}
use Prim.Native.Nat.{ℕ, ◌+◌, ◌-◌, ◌*◌, ◌^◌, ◌≤◌, ◌<◌}
use mathlib.Core.Path.{◌≡◌, refl, sym, ap, ◌∙◌}
use mathlib.Core.List.{List, [], ◌∷◌, ◌++◌, append-nil, append_assoc}
use mathlib.Core.Bool.{true, false}
use native.Mathlib.Omega.{arith}
use lib.ListN.{length}
use borrow.Author.Tests.{lt-ltb, le-ltb, le-leb}
use Rattle.text.proofs.Cases.{clash}
use Rattle.parser.specs.Step.{step_of, fresh}
use Rattle.parser.specs.Lists.{parse}
use Rattle.tokenizer.specs.Lists.{is_end}
use Rattle.tokenizer.specs.declared.token.Token.TheVariants as token
use Rattle.tokenizer_rows.specs.Rows.{row_of}
use Rattle.parser.specs.declared.state.State.{State}
use Rattle.parser_claims.specs.Rests.{rest, Stands}
use Rattle.parser_claims.proofs.Rests.{fresh-stands, rest_end, rest-step, step-stands}
use Rattle.listing_text.specs.Text.{placed, filled}
use Rattle.listing_text.specs.Listing.{header, answer_text, kind_in, line_text, rows_text, listing_of}
use Rattle.listing_text.proofs.Placing.{Wrote, both, placed-filled}

-- End is the answer whose number is 0
pub end-zero : (a : Answer) → (values_of a).number ≡ 0 → is_end a ≡ true
unfolding values_of token_values is_end
end-zero None e = refl
end-zero (Some (Ok (token.Newline l))) e = absurd (omega arith)
end-zero (Some (Ok (token.Comment l p))) e = absurd (omega arith)
end-zero (Some (Ok (token.Indent l))) e = absurd (omega arith)
end-zero (Some (Ok (token.Outdent l o))) e = absurd (omega arith)
end-zero (Some (Ok (token.ListItem l))) e = absurd (omega arith)
end-zero (Some (Ok (token.MapKey l p))) e = absurd (omega arith)
end-zero (Some (Ok (token.Value l p))) e = absurd (omega arith)
end-zero (Some (Ok (token.MultilineHint l p))) e = absurd (omega arith)
end-zero (Some (Ok (token.MultilineValue l i p))) e = absurd (omega arith)
end-zero (Some (Ok (token.NoValue l))) e = absurd (omega arith)
end-zero (Some (Err x)) e = absurd (omega arith)

pub not-zero : (a : Answer) → ((values_of a).number ≡ 0 → ⊥) → is_end a ≡ false
unfolding values_of is_end
not-zero None z = absurd (z refl)
not-zero (Some (Ok t)) z = refl
not-zero (Some (Err e)) z = refl

-- the line of a row is that of its answer
pub line-is : (a : Answer) → is_end a ≡ false → line_text (row_of (values_of a)) ≡ answer_text a
unfolding line_text kind_in answer_text values_of token_values is_end
line-is None e = absurd (clash e)
line-is (Some (Ok (token.Newline l))) e = refl
line-is (Some (Ok (token.Comment l p))) e = refl
line-is (Some (Ok (token.Indent l))) e = refl
line-is (Some (Ok (token.Outdent l o))) e = refl
line-is (Some (Ok (token.ListItem l))) e = refl
line-is (Some (Ok (token.MapKey l p))) e = refl
line-is (Some (Ok (token.Value l p))) e = refl
line-is (Some (Ok (token.MultilineHint l p))) e = refl
line-is (Some (Ok (token.MultilineValue l i p))) e = refl
line-is (Some (Ok (token.NoValue l))) e = refl
line-is (Some (Err x)) e =
    let n = number_of x.refusal in let k : 256 + n - 256 ≡ n = omega arith in rw (le-leb 256 (256 + n) (omega arith), k)

-- as of the refusal of a document that is too long
pub too-long : line_text (row_of (bare 268 0)) ≡ answer_text (Some (Err (error TooLong 0)))
unfolding values_of is_end
too-long = line-is (Some (Err (error TooLong 0))) refl

-- the loop began at the place n of the buffer o, and has come to the place m of the buffer p, and to a state of the parsing; a row
-- has at most 85 bytes, and there are at most 2 * 65,536
pub record Turn (d : List ℕ) (n m : ℕ) (o p : List ℕ) (s : State) : Type 0 where
  pub stands : Stands d s
  pub text : List ℕ
  pub wrote : Wrote text n m o p
  pub left : rows_text (parse d) ≡ text ++ rows_text (rest d s)
  pub room : m + 85 * length (rest d s) ≤ 20 + 85 * 131072

module _ (d : List ℕ) (n : ℕ) (o : List ℕ) where
  pub start : {s : State} → s ≡ fresh → length d ≤ 65536 → n ≤ 20 → Turn d n n o o s
  unfolding placed
  start e h l =
      let f = fresh-stands d (omega arith) in
      let b = f.1.bound in
      rw e
      (record {
        stands = f.1;
        text = [];
        wrote = record { place = omega arith; buffer = refl };
        left = ap rows_text (sym f.0);
        room = omega arith;
      })

  module _ {m : ℕ} {p : List ℕ} {s : State} (t : Turn d n m o p s) where
    pub ended : is_end (step_of d s).answer ≡ true → Wrote (rows_text (parse d)) n m o p
    unfolding rows_text
    ended e = let f : rows_text (parse d) ≡ t.text = rw (rest_end d s e, append-nil) at t.left in rw f t.wrote

    module _ (e : is_end (step_of d s).answer ≡ false) where
      step : rest d s ≡ (step_of d s).answer ∷ rest d (step_of d s).state
      step = rest-step d s t.stands e

      pub fewer : {u : State} → u ≡ (step_of d s).state → length (rest d u) < length (rest d s)
      fewer f = rw f (omega (arith, ap length step))

      pub row_fits : m + 85 < 2 ^ 64
      row_fits = omega (arith, ap length step, t.room)

      pub next : {k : ℕ} {q : List ℕ} {u : State} → u ≡ (step_of d s).state → k ≤ m + 85 → Wrote (answer_text (step_of d s).answer) m k p q
          → Turn d n k o q u
      unfolding rows_text
      next f l w =
          rw f
          (record {
            stands = step-stands d s t.stands e;
            text = t.text ++ answer_text (step_of d s).answer;
            wrote = both t.wrote w;
            left = rw append_assoc (rw step at t.left);
            room = omega (arith, ap length step, t.room);
          })

-- the whole listing, from the first place on
whole : (s : List ℕ) {m : ℕ} {o p : List ℕ} → Wrote s 0 m o p → (m ≡ length s) × (p ≡ filled s o)
whole s {o = o} w = (omega (arith, w.place), w.buffer ∙ placed-filled s o)

module _ (d : List ℕ) {m : ℕ} {o p : List ℕ} where
  pub over : 65536 < length d → Wrote (header ++ answer_text (Some (Err (error TooLong 0)))) 0 m o p → (m ≡ length (listing_of d)) × (p ≡ filled (listing_of d) o)
  unfolding listing_of
  over h w = rw (lt-ltb 65536 (length d) h) (whole _ w)

  pub listed : length d ≤ 65536 → Wrote (header ++ rows_text (parse d)) 0 m o p → (m ≡ length (listing_of d)) × (p ≡ filled (listing_of d) o)
  unfolding listing_of
  listed h w = rw (le-ltb 65536 (length d) h) (whole _ w)
