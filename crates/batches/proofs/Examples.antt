-- Batches computed from the rule: words too short for a state, one row, no room for it, and a parse whose last row is the parser's
-- own. Rule and code that agree on something else are refused here.
use Prim.Native.Nat.{ℕ, ◌+◌, ◌^◌}
use mathlib.Core.Path.{◌≡◌, refl}
use mathlib.Core.List.{List, [], ◌∷◌}
use lib.ListN.{drop, replicate}
use Rattle.text.specs.Ascii.{ascii}
use Rattle.tokenizer.specs.Token.{token_values, values_of}
use Rattle.tokenizer.specs.Said.{token_of}
use Rattle.tokenizer.proofs.Examples.{rules as token_rules}
use Rattle.parser.specs.Step.{innermost_of, sections_after, count_after, after_verdict, step_with, step_kept, step_of, fresh}
use Rattle.parser.proofs.Examples.{rules as parsing_rules}
use Rattle.tokenizer_rows.specs.Rows.{rows_of, rows_in, token_in}
use Rattle.tokenizer_words.specs.Words.{flag, held_words, part_words, front_words, words_of, stored_in, parts_in, state_in, readable, fresh_in}
use Rattle.parser_words.specs.ParserWords.{
  section_words,
  middle_words,
  parser_words,
  sort_in,
  sections_in,
  awaited_in,
  kept_in,
  parser_in,
  are_sorts,
  parser_readable,
  fresh_parser_in,
}
use Rattle.parser_words.specs.Stops.{is_unfit, is_stop}
use Rattle.batches.specs.Batch.{Batch, taken, batch_by, batch_of, parse_batch_of}

-- what computing a batch unfolds
unfoldable token_batch : List ℕ → List ℕ → List ℕ → Batch
unfolding token_rules token_values values_of flag held_words part_words front_words words_of stored_in parts_in state_in readable rows_of rows_in taken batch_by batch_of
token_batch d w rows = batch_of d w rows

unfoldable parse_batch : List ℕ → List ℕ → List ℕ → Batch
unfolding
    token_batch
    parsing_rules
    values_of
    innermost_of
    sections_after
    count_after
    after_verdict
    step_with
    step_kept
    step_of
    fresh
    section_words
    middle_words
    parser_words
    sort_in
    sections_in
    awaited_in
    token_of
    token_in
    kept_in
    parser_in
    are_sorts
    parser_readable
    fresh_parser_in
    is_unfit
    is_stop
    parse_batch_of
parse_batch d w rows = parse_batch_of d w rows

-- no words are no state's: 2^63 and 15
pub unread : (batch_of [] [] []).result ≡ 2 ^ 63 + 15
unfolding token_batch
unread = refl

-- the key `a` has room in seven words
pub one-row : (batch_of (ascii "a") (fresh_in (replicate 137 0)) (replicate 7 0)).rows ≡ 6 ∷ 1 ∷ 0 ∷ 1 ∷ 0 ∷ 0 ∷ 0 ∷ []
unfolding token_batch
one-row = refl

-- and none in six
pub no_room : (batch_of (ascii "a") (fresh_in (replicate 137 0)) (replicate 6 0)).result ≡ 0
unfolding token_batch
no_room = refl

-- parsed, it has no value: two rows, and then End
pub two-rows : (parse_batch_of (ascii "a") (fresh_parser_in (replicate 278 0)) (replicate 21 0)).rows
    ≡ 6 ∷ 1 ∷ 0 ∷ 1 ∷ 0 ∷ 0 ∷ 0 ∷ 10 ∷ 1 ∷ 0 ∷ 0 ∷ 0 ∷ 0 ∷ 0 ∷ replicate 7 0
unfolding parse_batch
two-rows = refl

-- `a` LF ` b`: the last of six rows is that of the Outdent, and its last word is the line of `a`
pub closing-row : drop 35 (parse_batch_of (ascii "a\n b") (fresh_parser_in (replicate 278 0)) (replicate 42 0)).rows
    ≡ 4 ∷ 2 ∷ 0 ∷ 0 ∷ 0 ∷ 0 ∷ 1 ∷ []
unfolding parse_batch
closing-row = refl
