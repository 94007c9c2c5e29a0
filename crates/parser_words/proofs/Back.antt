-- A parser's state is read back from its words.
use Rattle.text.proofs.Cases.{on-cond}
use Prim.Native.Nat.{ℕ, zero, suc}
use mathlib.Core.Path.{◌≡◌, refl, ap, ◌∙◌, sym}
use mathlib.Core.List.{List, [], ◌∷◌, ◌++◌, append_assoc}
use mathlib.Core.Bool.{false}
use native.Mathlib.Omega.{arith}
use lib.Dec.{eqb}
use lib.ListN.{length, drop, get_or, take, get_or-eq_default, length-take}
use lib.Seq.{drop_at, get_or-drop, drop-drop}
use borrow.Author.Tests.{ne_eqb}
use Rattle.std.specs.Prelude.{Option, Some, None}
use Rattle.parser_rules.specs.Numbers.{number_of_sort, awaited_number, awaited_line}
use Rattle.tokenizer.specs.Said.{token_of}
use Rattle.tokenizer.specs.declared.said.Said.{Said}
use Rattle.tokenizer_rows.specs.Rows.{row_of, row_by, said_in, token_in}
use Rattle.tokenizer_rows.proofs.Back.{kinds}
use Rattle.parser_words.specs.Claims.{KeepsNone}
use Rattle.tokenizer_words.proofs.Slots.{words-137}
use Rattle.tokenizer_words.proofs.Standing.{eqb-flag, state-back}
use Rattle.tokenizer.specs.Token.{token_values}
use Rattle.tokenizer.specs.declared.token.Token.{Token}
use Rattle.tokenizer.specs.declared.token.Token.TheVariants as token
use Rattle.parser_rules.specs.declared.ruling.Sort.{Sort}
use Rattle.parser_rules.specs.declared.ruling.Sort.TheVariants as sort
use Rattle.parser_rules.specs.declared.ruling.Awaited.{Awaited}
use Rattle.parser_rules.specs.declared.ruling.Awaited.TheVariants as awaited
use Rattle.parser_rules.specs.declared.ruling.Kept.{Kept}
use Rattle.parser_rules.specs.declared.ruling.Kept.TheVariants as kept
use Rattle.parser_rules.specs.declared.ruling.Section.{Section}
use Rattle.parser.specs.declared.state.State.{State}
use Rattle.tokenizer_words.specs.Words.{flag, words_of, state_in}
use Rattle.parser_words.specs.ParserWords.{section_words, said_of, middle_words, parser_words, sort_in, sections_in, awaited_in, kept_in, parser_in}

pub not-0 : (t : Token) → eqb (token_values t).number 0 ≡ false
not-0 t = ne_eqb (token_values t).number 0 (λ e. let k = (kinds t).0 in omega arith)

pub not-11 : (t : Token) → eqb (token_values t).number 11 ≡ false
not-11 t = ne_eqb (token_values t).number 11 (λ e. let k = (kinds t).1 in omega arith)

-- the first six words of its row are enough for a token that carries no line
six-back : (t : Token) → (token_values t).opened ≡ 0 → token_in (take 6 (row_of (token_values t))) ≡ t
unfolding token_in token_of token_values
six-back (token.Newline l) e = refl
six-back (token.Comment l p) e = refl
six-back (token.Indent l) e = refl
six-back (token.Outdent l o) e = ap (token.Outdent l) (sym e)
six-back (token.ListItem l) e = refl
six-back (token.MapKey l p) e = refl
six-back (token.Value l p) e = refl
six-back (token.MultilineHint l p) e = refl
six-back (token.MultilineValue l i p) e = refl
six-back (token.NoValue l) e = refl

-- and what is read from them carries none
by-none : (s : Said) → s.opened ≡ 0 → (token_values (token_of s)).opened ≡ 0
unfolding token_of token_values
by-none s e =
    let None : Token → Type 0 = λ t. (token_values t).opened ≡ 0 in
    let n = s.number in
    on-cond None (eqb n 1) (λ _. refl) (λ _. on-cond None (eqb n 2) (λ _. refl) (λ _. on-cond None (eqb n 3) (λ _. refl)
    (λ _. on-cond None (eqb n 4) (λ _. e) (λ _. on-cond None (eqb n 5) (λ _. refl) (λ _. on-cond None (eqb n 6) (λ _. refl)
    (λ _. on-cond None (eqb n 7) (λ _. refl) (λ _. on-cond None (eqb n 8) (λ _. refl) (λ _. on-cond None (eqb n 9) (λ _. refl) (λ _. refl)))))))))

pub reads-none : (w : List ℕ) → KeepsNone (parser_in w).kept
unfolding parser_in kept_in token_in
reads-none w =
    let x = take 6 (drop 140 w) in
    on-cond KeepsNone (eqb (get_or x 0 0) 0) (λ _. tt) (λ _. on-cond KeepsNone (eqb (get_or x 0 0) 11) (λ _. tt)
    (λ _. by-none (said_in x) (get_or-eq_default x 0 (omega (arith, length-take 6 (drop 140 w))))))

kept_back : (k : Kept) → KeepsNone k → kept_in (take 6 (row_by (said_of k))) ≡ k
unfolding kept_in
kept_back kept.Nothing e = refl
kept_back kept.End e = refl
kept_back (kept.Token t) e = rw (not-0 t, not-11 t) (ap kept.Token (six-back t e))

sort-back : (s : Option Sort) → sort_in (number_of_sort s) ≡ s
unfolding sort_in
sort-back None = refl
sort-back (Some sort.Map) = refl
sort-back (Some sort.List) = refl

pub sections-back : (l : List Section) (r : List ℕ) (n : ℕ) → length l ≡ n → sections_in n (section_words l ++ r) ≡ l
unfolding sections_in section_words
sections-back [] r zero e = refl
sections-back [] r (suc n) e = absurd (omega arith)
sections-back (s ∷ l) r zero e = absurd (omega arith)
sections-back (s ∷ l) r (suc n) e = λ j. record { sort = sort-back s.sort j; line = s.line } ∷ sections-back l r n (omega arith) j

awaited-back : (a : Awaited) → awaited_in (awaited_number a) (awaited_line a) ≡ a
unfolding awaited_in
awaited-back awaited.Nothing = refl
awaited-back (awaited.Value l) = refl
awaited-back (awaited.Multiline l) = refl

module _ (s : State) (r : List ℕ) (e : length s.tokenizer.indents ≡ 64) where
  -- the words of a state, and others behind them
  pub all_words : parser_words s ++ r ≡ words_of s.tokenizer ++ (middle_words s ++ (section_words s.sections ++ r))
  unfolding parser_words
  all_words =
      append_assoc (words_of s.tokenizer ++ middle_words s) (section_words s.sections) r
      ∙ append_assoc (words_of s.tokenizer) (middle_words s) (section_words s.sections ++ r)

  pub behind-137 : drop 137 (parser_words s ++ r) ≡ middle_words s ++ (section_words s.sections ++ r)
  behind-137 = ap (drop 137) all_words ∙ drop_at (words_of s.tokenizer) (middle_words s ++ (section_words s.sections ++ r)) 137 (words-137 s.tokenizer e)

  -- the middle, word by word
  tail : drop 137 (parser_words s ++ r)
      ≡ flag s.refused ∷ awaited_number s.awaited ∷ awaited_line s.awaited ∷ (row_by (said_of s.kept) ++ (s.count ∷ (section_words s.sections ++ r)))
  unfolding middle_words
  tail = behind-137

  pub refused-word : get_or (parser_words s ++ r) 137 0 ≡ flag s.refused
  refused-word = sym (get_or-drop 137 (parser_words s ++ r) 0 0) ∙ ap (λ x. get_or x 0 0) tail

  pub number_at : get_or (parser_words s ++ r) 138 0 ≡ awaited_number s.awaited
  number_at = sym (get_or-drop 137 (parser_words s ++ r) 1 0) ∙ ap (λ x. get_or x 1 0) tail

  pub line_at : get_or (parser_words s ++ r) 139 0 ≡ awaited_line s.awaited
  line_at = sym (get_or-drop 137 (parser_words s ++ r) 2 0) ∙ ap (λ x. get_or x 2 0) tail

  pub kept_at : drop 140 (parser_words s ++ r) ≡ row_by (said_of s.kept) ++ (s.count ∷ (section_words s.sections ++ r))
  kept_at = sym (drop-drop 3 137 (parser_words s ++ r)) ∙ ap (drop 3) tail

  pub count_word : get_or (parser_words s ++ r) 147 0 ≡ s.count
  count_word = sym (get_or-drop 140 (parser_words s ++ r) 7 0) ∙ ap (λ x. get_or x 7 0) kept_at

  pub sections-at : drop 148 (parser_words s ++ r) ≡ section_words s.sections ++ r
  sections-at = sym (drop-drop 8 140 (parser_words s ++ r)) ∙ ap (drop 8) kept_at

  -- the state is read back
  pub parser-back : length s.sections ≡ 65 → KeepsNone s.kept → parser_in (parser_words s ++ r) ≡ s
  unfolding parser_in
  parser-back f q =
      let t : state_in (parser_words s ++ r) ≡ s.tokenizer = ap state_in all_words ∙ state-back s.tokenizer _ e in
      let k : kept_in (take 6 (drop 140 (parser_words s ++ r))) ≡ s.kept = ap (λ x. kept_in (take 6 x)) kept_at ∙ kept_back s.kept q in
      let a : awaited_in (get_or (parser_words s ++ r) 138 0) (get_or (parser_words s ++ r) 139 0) ≡ s.awaited =
      (λ j. awaited_in (number_at j) (line_at j)) ∙ awaited-back s.awaited in
      let b : eqb (get_or (parser_words s ++ r) 137 0) 1 ≡ s.refused = ap (λ x. eqb x 1) refused-word ∙ eqb-flag s.refused in
      let l : sections_in 65 (drop 148 (parser_words s ++ r)) ≡ s.sections = ap (sections_in 65) sections-at ∙ sections-back s.sections r 65 f in
      λ j. record { tokenizer = t j; kept = k j; awaited = a j; refused = b j; sections = l j; count = count_word j }
