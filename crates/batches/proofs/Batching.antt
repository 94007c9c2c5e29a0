-- The batches: what was taken in words is what the rules take. Before that, 15 by its number.
use Rattle.parser_words.proofs.Back.{reads-none}
use Rattle.std.specs.Prelude.{Some, None, Ok, Err}
use Rattle.tokenizer.specs.Token.{Answer, values_of, Values, token_values}
use Rattle.text.specs.Numbers.{number_of}
use Prim.Native.Nat.{ℕ, ◌+◌, ◌/◌, ◌^◌, ◌≤◌}
use mathlib.Core.Path.{◌≡◌, refl, sym, ap, ◌∙◌}
use mathlib.Core.List.{List, [], ◌∷◌, ◌++◌}
use mathlib.Core.Bool.{true, false, not, ◌&&◌, and-false}
use native.Mathlib.Omega.{arith}
use lib.Dec.{eqb, ltb}
use lib.ListN.{length, take, drop}
use lib.Seq.{take-append_seam}
use borrow.Author.Tests.{eq-eqb, ne_eqb, eqb-true, lt-ltb, ltb-false}
use Rattle.text.proofs.Cases.{by_bool, and_left, and_right, clash}
use Rattle.tokenizer.specs.Step.{fit}
use Rattle.parser.specs.Step.{step_of}
use Rattle.parser.specs.declared.state.State.{State}
use Rattle.parser.proofs.Steps.{unfit as no-fit}
use Rattle.tokenizer_rows.specs.Rows.{rows_of, rows_in}
use Rattle.tokenizer_rows.proofs.Back.{kinds}
use Rattle.tokenizer_words.specs.Words.{pasted_in, words_of, stored_in, state_in, readable}
use Rattle.batches.specs.Batch.{Taken, taken, Batch, tokenizing, batch_of, parsing, parse_batch_of}
use Rattle.tokenizer_words.proofs.Pasting.{pasted-room, pasted-front}
use Rattle.tokenizer_words.proofs.Slots.{words-137}
use Rattle.tokenizer_words.proofs.Standing.{slots-64}
use Rattle.tokenizer_words.proofs.Storing.{has-137, stored-137}
use Rattle.batches.proofs.Branching.{unfit, took, promised}
use Rattle.parser_words.specs.ParserWords.{parser_words, parser_in, parser_readable, parser_stored_in}
use Rattle.parser_words.specs.Stops.{is_unfit, is_stop}
use Rattle.parser_words.proofs.Tests.{has-278, stored-278}
use Rattle.step_words.specs.Stepping.{Gone, step_in}
use Rattle.std.specs.Option.{option_eq}
use Rattle.batches.specs.Walks.{stepping, last_of}
use Rattle.step_words.specs.Claims.{Whole}
use Rattle.step_words.specs.declared.step.Layer.TheVariants.{Tokenizer as Tokens, Parser as Parses}
use Rattle.step_words.proofs.Going.{sections-65, slots-in}
use Rattle.batches.proofs.Taking.{last_none}
use Rattle.batches.proofs.Single.{not-unfit}
use Rattle.step_words.proofs.Whole.{words-278}
use Rattle.step_words.proofs.Laws.{parser-steps}
use Rattle.batches.proofs.Following.{Slotted, tokens-follow, tokens-slotted, parses-follow, parses-whole}

-- 15, by its number
pub unfit-is : (a : Answer) → eqb (values_of a).number 271 ≡ is_unfit a
unfolding values_of is_unfit
unfit-is None = refl
unfit-is (Some (Ok t)) = ne_eqb (token_values t).number 271 (λ e. let k = (kinds t).1 in omega arith)
unfit-is (Some (Err x)) =
    let n = number_of x.refusal in
    by_bool (eqb n 15)
    (λ e. let k : n ≡ 15 = eqb-true n 15 e in rw k)
    (λ e. rw (e, ne_eqb (256 + n) 271 (λ q. let k : n ≡ 15 = omega arith in clash (sym (eq-eqb n 15 k) ∙ e))))

-- the first n words, pasted at the front
pasted-first : (a r w : List ℕ) (n : ℕ) → length a ≡ n → n ≤ length w → pasted_in (take n (a ++ r)) 0 w ≡ a ++ drop n w
pasted-first a r w n e h =
    rw (← e, take-append_seam) (pasted-room a w 0 (omega arith) ∙ pasted-front a w)

-- no answer has no row
rows_none : (l : List Values) (rows : List ℕ) → length l ≡ 0 → rows_in l rows ≡ rows
unfolding rows_in rows_of
rows_none [] rows e = refl
rows_none (a ∷ l) rows e = absurd (omega arith)

-- what a batch returns and leaves
abbrev pub Leaves : Batch → ℕ → List ℕ → List ℕ → Type 0
Leaves b n w rows = (n ≡ b.result) × ((w ≡ b.words) × (rows ≡ b.rows))

-- z are the words in which the state of w was stored, v those after the steps
module _ (d w rows z v : List ℕ) (l : length d ≤ 16777216) where
  abbrev room : ℕ
  room = length rows / 7

  pub tokens-done : {n : ℕ} {w' rows' : List ℕ} → 137 ≤ length z → (readable w && fit (length d) (state_in w)) ≡ true
      → let t = taken (stepping Tokens d) room (stored_in (state_in w) z) in
      n ≡ length t.answers → v ≡ t.state → rows' ≡ rows_in t.answers rows → w' ≡ pasted_in (take 137 v) 0 w → Leaves (batch_of d w rows) n w' rows'
  unfolding batch_of
  tokens-done h e p q r u =
      let s = state_in w in
      let k = and_left (readable w) (fit (length d) s) e in
      let f : Slotted d s = (slots-64 w, and_right (readable w) (fit (length d) s) e) in
      let t = taken (tokenizing d) room s in
      let g = ap (λ x. taken (stepping Tokens d) room x) (stored-137 s z h) ∙ tokens-follow d (drop 137 z) l room s f in
      let b = promised (took _ _ _ _ l k f.1) in
      let m : pasted_in (take 137 v) 0 w ≡ words_of t.state ++ drop 137 w =
      ap (λ x. pasted_in (take 137 x) 0 w) (q ∙ ap (λ (x : Taken (List ℕ)). x.state) g)
      ∙ pasted-first (words_of t.state) (drop 137 z) w 137 (words-137 t.state (tokens-slotted d (drop 137 z) l room s f).0) (has-137 w k) in
      (p ∙ ap (λ (x : Taken (List ℕ)). length x.answers) g ∙ b.0, (u ∙ m ∙ b.1.0, r ∙ ap (λ (x : Taken (List ℕ)). rows_in x.answers rows) g ∙ b.1.1))

  pub unread : (parser_readable w && fit (length d) (parser_in w).tokenizer) ≡ false → Leaves (parse_batch_of d w rows) (2 ^ 63 + 15) w rows
  unfolding parse_batch_of is_unfit
  unread e =
      promised (unfit _ _ _ _ _ l (by_bool (parser_readable w)
      (λ r. let f : fit (length d) (parser_in w).tokenizer ≡ false = rw r at e in rw (no-fit d (parser_in w) l f, and-false))
      (λ r. rw r)))

  -- the parser's: the state is read, and fit
  module _ (h : 278 ≤ length z) (k : parser_readable w ≡ true) (f : fit (length d) (parser_in w).tokenizer ≡ true) where
    abbrev s : State
    s = parser_in w

    whole : Whole d s
    whole = record { slots = slots-in w; sections = sections-65 w; keeps = reads-none w; fits = f }

    -- the first step is 15
    first : eqb (step_in Parses d (parser_stored_in s z)).said.number 271 ≡ is_unfit (step_of d s).answer
    first =
        let q = parser-steps d s (drop 278 z) l whole in
        let n : (step_in Parses d (parser_words s ++ drop 278 z)).said.number ≡ (values_of (step_of d s).answer).number =
        by_bool (is_stop (step_of d s).answer) (λ e. ap (λ (g : Gone). g.said.number) (rw e at q)) (λ e. ap (λ (g : Gone). g.said.number) (rw e at q)) in
        rw (stored-278 s z h) (ap (λ x. eqb x 271) n ∙ unfit-is (step_of d s).answer)

    pub starts-unfit : {rows' : List ℕ} → rows' ≡ rows → eqb (step_in Parses d (parser_stored_in s z)).said.number 271 ≡ true → Leaves (parse_batch_of d w rows) (2 ^ 63 + 15) w rows'
    unfolding parse_batch_of
    starts-unfit o e = let b : Leaves (parse_batch_of d w rows) (2 ^ 63 + 15) w rows = promised (unfit _ _ _ _ _ l (rw (sym first ∙ e, and-false))) in (b.0, (b.1.0, o ∙ b.1.1))

    -- the first step is not: either it was tried, or it would have stopped the batch
    fair : (ltb (length rows) 7 && is_unfit (step_of d s).answer) ≡ false → (ltb 0 room && is_unfit (step_of d s).answer) ≡ false → is_unfit (step_of d s).answer ≡ false
    fair a b =
        by_bool (ltb (length rows) 7)
        (λ e. rw e at a)
        (λ e. let i : 7 ≤ length rows = ltb-false (length rows) 7 e in rw (lt-ltb 0 room (omega (arith, i))) at b)

    none-unfit : eqb (length (taken (stepping Parses d) room (parser_stored_in s z)).answers) 0 && option_eq eqb (last_of (stepping Parses d) room (parser_stored_in s z)) (Some 271)
        ≡ (ltb 0 room && eqb (step_in Parses d (parser_stored_in s z)).said.number 271)
    none-unfit = last_none (stepping Parses d) (parser_stored_in s z) (not-unfit _) room

    -- a batch that takes none for 15
    pub none-starts : {rows' : List ℕ} → let x = parser_stored_in s z in let t = taken (stepping Parses d) room x in
        (eqb (length t.answers) 0 && option_eq eqb (last_of (stepping Parses d) room x) (Some 271)) ≡ true → rows' ≡ rows_in t.answers rows → Leaves (parse_batch_of d w rows) (2 ^ 63 + 15) w rows'
    none-starts e r =
        let x = parser_stored_in s z in
        let a = (taken (stepping Parses d) room x).answers in
        starts-unfit (r ∙ rows_none a rows (eqb-true (length a) 0 (and_left (eqb (length a) 0) _ e))) (and_right (ltb 0 room) _ (sym none-unfit ∙ e))

    pub parses-done : {n : ℕ} {w' rows' : List ℕ} → let x = parser_stored_in s z in let t = taken (stepping Parses d) room x in
        (ltb (length rows) 7 && eqb (step_in Parses d x).said.number 271) ≡ false
        → (eqb (length t.answers) 0 && option_eq eqb (last_of (stepping Parses d) room x) (Some 271)) ≡ false
        → n ≡ length t.answers → v ≡ t.state → rows' ≡ rows_in t.answers rows → w' ≡ pasted_in (take 278 v) 0 w → Leaves (parse_batch_of d w rows) n w' rows'
    unfolding parse_batch_of
    parses-done a c p q r u =
        let i = fair (rw first at a) (rw (none-unfit, first) at c) in
        let t = taken (parsing d) room s in
        let g = ap (λ x. taken (stepping Parses d) room x) (stored-278 s z h) ∙ parses-follow d (drop 278 z) l room s whole in
        let b = promised (took _ _ _ _ l k (ap not i)) in
        let o = parses-whole d (drop 278 z) l room s whole in
        let m : pasted_in (take 278 v) 0 w ≡ parser_words t.state ++ drop 278 w =
        ap (λ x. pasted_in (take 278 x) 0 w) (q ∙ ap (λ (x : Taken (List ℕ)). x.state) g)
        ∙ pasted-first (parser_words t.state) (drop 278 z) w 278 (words-278 t.state o.slots o.sections) (has-278 w k) in
        (p ∙ ap (λ (x : Taken (List ℕ)). length x.answers) g ∙ b.0, (u ∙ m ∙ b.1.0, r ∙ ap (λ (x : Taken (List ℕ)). rows_in x.answers rows) g ∙ b.1.1))
