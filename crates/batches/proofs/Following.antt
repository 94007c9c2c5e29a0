-- A batch of steps in words follows the steps of the states that stand in them.
use Prim.Native.Nat.{ℕ, zero, suc, ◌≤◌}
use mathlib.Core.Path.{◌≡◌, refl, ap, ◌∙◌}
use mathlib.Core.List.{List, ◌++◌}
use mathlib.Core.Bool.{true, false}
use native.Mathlib.Omega.{arith}
use lib.ListN.{length, drop, length-append}
use lib.Seq.{drop_at}
use borrow.Author.Tests.{ne_eqb}
use Rattle.text.proofs.Cases.{by_bool, on-cond}
use Rattle.tokenizer.specs.Token.{values_of}
use Rattle.tokenizer.specs.Step.{fit, step_of as token_step}
use Rattle.tokenizer.specs.Lists.{is_end}
use Rattle.tokenizer.specs.declared.state.State.{State as Tokenizer}
use Rattle.tokenizer.proofs.Kept.{step-fit}
use Rattle.tokenizer.proofs.Valued.{end-number}
use Rattle.tokenizer.proofs.Advancing.{step-number}
use Rattle.parser.specs.Step.{step_of}
use Rattle.parser.specs.declared.state.State.{State}
use Rattle.tokenizer_words.specs.Words.{words_of, state_in}
use Rattle.batches.specs.Batch.{Steps, Taken, taken, tokenizing, parsing}
use Rattle.tokenizer_words.proofs.Slots.{words-137}
use Rattle.tokenizer_words.proofs.Standing.{state-back}
use Rattle.parser_words.specs.ParserWords.{parser_words}
use Rattle.parser_words.specs.Stops.{is_stop}
use Rattle.tokenizer_words.proofs.Slotted.{step-slots}
use Rattle.step_words.specs.Stepping.{stops_at, Gone}
use Rattle.batches.specs.Walks.{values_by, stepping}
use Rattle.step_words.specs.Claims.{Whole}
use Rattle.step_words.specs.declared.step.Layer.TheVariants.{Tokenizer as Tokens, Parser as Parses}
use Rattle.step_words.proofs.Going.{stop_is}
use Rattle.step_words.proofs.Whole.{step-whole}
use Rattle.step_words.proofs.Laws.{tokenizer-steps, parser-steps}

-- of any steps: k over words does what m does over the states that they encode
module _ {S : Type 0} (m : Steps S) (k : Steps (List ℕ)) (encode : S → List ℕ) (P : S → Type 0) where
  -- one step does
  pub record Follows (s : S) : Type 0 where
    pub stops : k.stops (encode s) ≡ m.stops s
    pub says : m.stops s ≡ false → k.says (encode s) ≡ m.says s
    pub next : m.stops s ≡ false → k.next (encode s) ≡ encode (m.next s)
    pub after : P (m.next s)

  module _ (one : (s : S) → P s → Follows s) where
    pub follows : (n : ℕ) (s : S) → P s → taken k n (encode s) ≡ record { answers = (taken m n s).answers; state = encode (taken m n s).state }
    unfolding taken
    follows zero s p = refl
    follows (suc n) s p =
        let o = one s p in
        by_bool (m.stops s) (λ e. rw (o.stops, e)) (λ e. rw (o.stops, e, o.says e, o.next e, follows n (m.next s) o.after))

    pub held_after : (n : ℕ) (s : S) → P s → P (taken m n s).state
    unfolding taken
    held_after zero s p = p
    held_after (suc n) s p = on-cond (λ (t : Taken S). P t.state) (m.stops s) (λ _. p) (λ _. held_after n (m.next s) (one s p).after)

-- the tokenizer's
abbrev pub Slotted : List ℕ → Tokenizer → Type 0
Slotted d s = (length s.indents ≡ 64) × (fit (length d) s ≡ true)

module _ (d r : List ℕ) (l : length d ≤ 16777216) where
  token-follows : (s : Tokenizer) → Slotted d s → Follows (tokenizing d) (stepping Tokens d) (λ x. words_of x ++ r) (Slotted d) s
  unfolding stops_at
  token-follows s p =
      let w = words_of s ++ r in
      let t = token_step d s in
      let b : state_in w ≡ s = state-back s r p.0 in
      let n = words-137 s p.0 in
      let c : drop 137 w ≡ r = drop_at (words_of s) r 137 n in
      let q = rw (b, c) at (tokenizer-steps d w l (omega (arith, n, length-append (words_of s) r)) (rw b p.1)) in
      record {
        stops = by_bool (is_end t.answer)
            (λ e. rw e (rw (rw e at q)))
            (λ e. rw e (rw (rw e at q) (rw (end-number t.answer ∙ e, ne_eqb (values_of t.answer).number 271 (λ z. omega (arith, step-number d s l p.1))))));
        says = λ e. ap (λ (g : Gone). values_by g.said) (rw e at q);
        next = λ e. ap (λ (g : Gone). g.words) (rw e at q);
        after = (step-slots d s ∙ p.0, step-fit d s l p.1);
      }

  pub tokens-follow : (n : ℕ) (s : Tokenizer) → Slotted d s
      → taken (stepping Tokens d) n (words_of s ++ r)
      ≡ record { answers = (taken (tokenizing d) n s).answers; state = words_of (taken (tokenizing d) n s).state ++ r }
  tokens-follow = follows (tokenizing d) (stepping Tokens d) (λ x. words_of x ++ r) (Slotted d) token-follows

  pub tokens-slotted : (n : ℕ) (s : Tokenizer) → Slotted d s → Slotted d (taken (tokenizing d) n s).state
  tokens-slotted = held_after (tokenizing d) (stepping Tokens d) (λ x. words_of x ++ r) (Slotted d) token-follows

  -- the parser's
  parse-follows : (s : State) → Whole d s → Follows (parsing d) (stepping Parses d) (λ x. parser_words x ++ r) (Whole d) s
  parse-follows s p =
      let t = step_of d s in
      let q = parser-steps d s r l p in
      record {
        stops = by_bool (is_stop t.answer)
            (λ e. rw (rw e at q) (stop_is t.answer))
            (λ e. rw (rw e at q) (stop_is t.answer));
        says = λ e. ap (λ (g : Gone). values_by g.said) (rw e at q);
        next = λ e. ap (λ (g : Gone). g.words) (rw e at q);
        after = step-whole d s p;
      }

  pub parses-follow : (n : ℕ) (s : State) → Whole d s
      → taken (stepping Parses d) n (parser_words s ++ r)
      ≡ record { answers = (taken (parsing d) n s).answers; state = parser_words (taken (parsing d) n s).state ++ r }
  parses-follow = follows (parsing d) (stepping Parses d) (λ x. parser_words x ++ r) (Whole d) parse-follows

  pub parses-whole : (n : ℕ) (s : State) → Whole d s → Whole d (taken (parsing d) n s).state
  parses-whole = held_after (parsing d) (stepping Parses d) (λ x. parser_words x ++ r) (Whole d) parse-follows
