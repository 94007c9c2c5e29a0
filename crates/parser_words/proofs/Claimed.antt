-- The claims: a state is read back from its words, which are taken for a state's; rows tell answers apart; the order of the words.
use Rattle.tokenizer.specs.Token.{values_of, token_values}
use Prim.Native.Nat.{ℕ, zero, suc, ◌≤◌}
use mathlib.Core.Path.{◌≡◌, refl, sym, ap, ◌∙◌}
use mathlib.Core.List.{List, [], ◌∷◌, ◌++◌}
use mathlib.Core.Bool.{true}
use native.Mathlib.Omega.{arith}
use lib.Dec.{leb}
use lib.ListN.{length, get_or, length-append, length-drop}
use lib.Seq.{get_or-drop}
use borrow.Author.Tests.{le-leb}
use Rattle.tokenizer.specs.Step.{fresh as fresh_tokenizer}
use Rattle.parser_rules.specs.declared.ruling.Sort.{Sort}
use Rattle.parser_rules.specs.declared.ruling.Sort.TheVariants as sort
use Rattle.parser_rules.specs.declared.ruling.Awaited.{Awaited}
use Rattle.parser_rules.specs.declared.ruling.Awaited.TheVariants as awaited
use Rattle.parser_rules.specs.declared.ruling.Kept.{Kept}
use Rattle.parser_rules.specs.declared.ruling.Kept.TheVariants as kept
use Rattle.parser.specs.Step.{fresh}
use Rattle.parser_rules.specs.declared.ruling.Section.{Section}
use Rattle.parser.specs.declared.state.State.{State}
use Rattle.tokenizer.proofs.Valued.{values-injective}
use Rattle.tokenizer_rows.proofs.Back.{kinds}
use Rattle.tokenizer_rows.proofs.Claimed.{rows_tell, lists-tell}
use Rattle.tokenizer_words.specs.Words.{flag, held_words, part_words, front_words, words_of, readable}
use Rattle.tokenizer_words.proofs.Claimed.{flag-tells, states-back as tokenizers-back}
use Rattle.std.specs.Prelude.{Option, Some, None}
use Rattle.parser_rules.specs.Numbers.{number_of_sort, awaited_number}
use Rattle.parser_words.specs.ParserWords.{section_words, said_of, middle_words, parser_words, are_sorts, parser_readable}
use Rattle.parser_words.specs.Claims.{Slots, StatesBack, AnswerRows, AnswerLists, Layout}
use Rattle.parser_words.proofs.Sections.{section-words-length}
use Rattle.parser_words.proofs.Back.{all_words, refused-word, number_at, kept_at, sections-at, parser-back}

-- Each word that is tested stands for something

kept-tells : (k : Kept) → leb (said_of k).number 11 ≡ true
kept-tells kept.Nothing = refl
kept-tells kept.End = refl
kept-tells (kept.Token t) = let k = (kinds t).1 in le-leb (token_values t).number 11 (omega arith)

sort-tells : (s : Option Sort) → leb (number_of_sort s) 2 ≡ true
sort-tells None = refl
sort-tells (Some sort.Map) = refl
sort-tells (Some sort.List) = refl

sections-tell : (l : List Section) (r : List ℕ) (n : ℕ) → length l ≡ n → are_sorts n (section_words l ++ r) ≡ true
unfolding are_sorts section_words
sections-tell [] r zero e = refl
sections-tell [] r (suc n) e = absurd (omega arith)
sections-tell (s ∷ l) r zero e = absurd (omega arith)
sections-tell (s ∷ l) r (suc n) e = rw (sort-tells s.sort) (sections-tell l r n (omega arith))

awaited-tells : (a : Awaited) → leb (awaited_number a) 2 ≡ true
awaited-tells awaited.Nothing = refl
awaited-tells (awaited.Value l) = refl
awaited-tells (awaited.Multiline l) = refl

module _ (s : State) (r : List ℕ) (h : Slots s) where
  kept_word : get_or (parser_words s ++ r) 140 0 ≡ (said_of s.kept).number
  kept_word = sym (get_or-drop 140 (parser_words s ++ r) 0 0) ∙ ap (λ x. get_or x 0 0) (kept_at s r h.0)

  long : 278 ≤ length (parser_words s ++ r)
  long =
      let l = rw length-drop at (ap length (sections-at s r h.0)) in
      let m : 130 ≤ length (section_words s.sections ++ r) = rw (length-append, section-words-length, h.1.0) (omega arith) in
      omega arith

  parser-reads : parser_readable (parser_words s ++ r) ≡ true
  unfolding parser_readable
  parser-reads =
      rw (
        le-leb 278 (length (parser_words s ++ r)) long,
        ap readable (all_words s r h.0) ∙ (tokenizers-back s.tokenizer _ h.0).reads,
        ap (λ x. leb x 1) (refused-word s r h.0) ∙ flag-tells s.refused,
        ap (λ x. leb x 2) (number_at s r h.0) ∙ awaited-tells s.awaited,
        ap (λ x. leb x 11) kept_word ∙ kept-tells s.kept,
        ap (are_sorts 65) (sections-at s r h.0) ∙ sections-tell s.sections r 65 h.1.0,
      )

pub states-back : StatesBack
states-back s r h = record { state = parser-back s r h.0 h.1.0 h.1.1; reads = parser-reads s r h }

pub answer-rows : AnswerRows
answer-rows = rows_tell values_of values-injective

pub answer-lists : AnswerLists
answer-lists = lists-tell values_of values-injective

pub layout : Layout
unfolding fresh fresh_tokenizer flag held_words part_words front_words words_of section_words middle_words parser_words token_values
layout = record { begins = refl; token_kept = refl; end_kept = refl }
