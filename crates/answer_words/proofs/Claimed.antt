-- The claims, and an answer read back from its words.
use Prim.Native.Nat.{ℕ, ◌≤◌}
use mathlib.Core.Path.{◌≡◌, refl, sym, ap, ◌∙◌}
use mathlib.Core.List.{List, [], ◌∷◌, ◌++◌}
use mathlib.Core.Bool.{true, and-false, or-true}
use native.Mathlib.Omega.{arith}
use lib.ListN.{length, take, get_or}
use borrow.Author.Tests.{le-leb, lt-leb, lt-ltb, le-ltb}
use Rattle.std.specs.Prelude.{Result, Ok, Err}
use Rattle.text.specs.Numbers.{error}
use Rattle.text.specs.declared.bytes.Part.{Part}
use Rattle.text.specs.declared.refusals.Refusal.{Refusal}
use Rattle.text.specs.declared.refusals.Refusal.TheVariants.{InvalidUtf8}
use Rattle.std.specs.Result.{result_unwrap_or}
use Rattle.text.specs.Refusals.{refusal_of}
use Rattle.text.proofs.Numbered.{refusals-back}
use Rattle.tokenizer.specs.Token.{token_values, line_of}
use Rattle.tokenizer.specs.Said.{token_of}
use Rattle.tokenizer.specs.declared.token.Token.{Token}
use Rattle.tokenizer.specs.declared.token.Token.TheVariants as token
use Rattle.tokenizer_rows.specs.Rows.{row_of, token_in}
use Rattle.tokenizer_rows.proofs.Back.{kinds}
use Rattle.unescape_source.specs.Source.{source_in, source_of}
use Rattle.unescape.specs.Unescape.{unescape_of}
use Rattle.unescape.specs.declared.answer.Answer.{Answer}
use Rattle.unescape.specs.declared.answer.Answer.TheVariants as answer
use Rattle.unescape.specs.declared.answer.Error.{Error}
use Rattle.answer_words.specs.Texts.{answer_words, is_token, text_of}
use Rattle.answer_words.specs.Claims.{RowsUnescaped, TextsOver, NoRoom, NoToken, AnswersTold, Layout}

-- the six words of a token's row, and others behind them: whatever line an Outdent carries, it is unescaped alike
row-alike : (d : List ℕ) (t : Token) (r o : List ℕ) → unescape_of d (token_in (take 6 (row_of (token_values t)) ++ r)) o ≡ unescape_of d t o
unfolding token_in token_of token_values unescape_of source_in source_of line_of
row-alike d (token.Newline l) r o = refl
row-alike d (token.Comment l p) r o = refl
row-alike d (token.Indent l) r o = refl
row-alike d (token.Outdent l z) r o = refl
row-alike d (token.ListItem l) r o = refl
row-alike d (token.MapKey l p) r o = refl
row-alike d (token.Value l p) r o = refl
row-alike d (token.MultilineHint l p) r o = refl
row-alike d (token.MultilineValue l i p) r o = refl
row-alike d (token.NoValue l) r o = refl

module _ (t : Token) (r : List ℕ) where
  abbrev row : List ℕ
  row = take 6 (row_of (token_values t)) ++ r

  row_told : is_token row ≡ true
  unfolding is_token
  row_told =
      let k = kinds t in
      let l : 6 ≤ length row = omega arith in
      rw (le-leb 6 (length row) l, le-leb 1 (token_values t).number k.0, le-leb (token_values t).number 10 k.1)

pub rows-unescaped : RowsUnescaped
unfolding text_of
rows-unescaped d t r o w h = rw (row-alike d t r o, row_told t r, or-true, le-leb 5 (length w) h)

pub texts-over : TextsOver
unfolding text_of unescape_of source_in answer_words
texts-over d r o w l h = rw (lt-ltb 16777216 (length d) l, le-leb 5 (length w) h)

pub no-token : NoToken
unfolding text_of
no-token d r o w l e = rw (le-ltb 16777216 (length d) l, e)

pub no_room : NoRoom
unfolding text_of
no_room d r o w h = rw (lt-leb 5 (length w) h, and-false)

-- An answer is read back by its first word

abbrev part_in : List ℕ → Part
part_in w = record { start = get_or w 3 0; end = get_or w 4 0 }

-- a refusal has its number
abbrev refusal_in : ℕ → Refusal
refusal_in n = result_unwrap_or (refusal_of n) InvalidUtf8

abbrev error_in : List ℕ → Error
error_in w = record { error = error (refusal_in (get_or w 1 0)) (get_or w 2 0); shown = part_in w }

abbrev answer_in : List ℕ → Result Answer Error
answer_in w =
    get_or (Ok (answer.Plain (part_in w)) ∷ Ok (answer.Written (get_or w 4 0)) ∷ Err (error_in w) ∷ []) (get_or w 0 0)
    (Ok (answer.Written 0))

answer_back : (a : Result Answer Error) → answer_in (answer_words a) ≡ a
unfolding answer_words
answer_back (Ok (answer.Plain p)) = refl
answer_back (Ok (answer.Written n)) = refl
answer_back (Err e) = rw (refusals-back e.error.refusal)

pub answers-told : AnswersTold
answers-told a b e = sym (answer_back a) ∙ ap answer_in e ∙ answer_back b

pub layout : Layout
unfolding answer_words
layout = record { plain = refl; written = refl; refused = refl }
