-- The port's own, not document 01's, and told in include/conl.h: a parser's state in the words of a lent slice. The
-- tokenizer's 137; whether it has refused (0 or 1); what is awaited (0 nothing, 1 a value, 2 a multiline value) with
-- its line; a row for what is kept (number 0 for nothing, 11 for End); the number of open sections, and of each of the
-- 65 its sort (0 unset, 1 map, 2 list) and the line of the key or item that opened it. 278 words. proofs/Back shows
-- that the state is read back from them.
use Rattle.std.specs.Prelude.{Option, Some, None, ℕ, zero, suc, ◌+◌, ◌*◌, List, [], ◌∷◌, ◌++◌, Bool, true, cond, ◌&&◌, eqb, leb, length, get_or, drop, take}
use Rattle.tokenizer.specs.Token.{bare, token_values}
use Rattle.parser.specs.Step.{max_sections, fresh}
use Rattle.parser_rules.specs.Numbers.{number_of_sort, awaited_number, awaited_line}
use Rattle.parser_rules.specs.declared.ruling.Sort.{Sort}
use Rattle.parser_rules.specs.declared.ruling.Sort.TheVariants.{Map, List as Listed}
use Rattle.parser_rules.specs.declared.ruling.Awaited.{Awaited}
use Rattle.parser_rules.specs.declared.ruling.Awaited.TheVariants as awaited
use Rattle.parser_rules.specs.declared.ruling.Kept.{Kept}
use Rattle.parser_rules.specs.declared.ruling.Kept.TheVariants as kept
use Rattle.parser_rules.specs.declared.ruling.Section.{Section}
use Rattle.parser.specs.declared.state.State.{State}
use Rattle.tokenizer.specs.Said.{said_by}
use Rattle.tokenizer.specs.declared.said.Said.{Said}
use Rattle.tokenizer_rows.specs.Rows.{row_by, token_in}
use Rattle.tokenizer_words.specs.Words.{tokenizer_size, flag, words_of, state_in, readable}

-- how many words a parser's state has: the tokenizer's, eleven more, and two for each section, 278
abbrev pub parser_size : ℕ
parser_size = tokenizer_size + 11 + 2 * max_sections

unfoldable pub section_words : List Section → List ℕ
section_words [] = []
section_words (s ∷ l) = number_of_sort s.sort ∷ s.line ∷ section_words l

-- what is kept, as what a step says
abbrev pub said_of : Kept → Said
said_of kept.Nothing = said_by (bare 0 0)
said_of kept.End = said_by (bare 11 0)
said_of (kept.Token t) = said_by (token_values t)

-- between the tokenizer's words and the sections', eleven words: refused or not, the number and the line of what is
-- awaited, what is kept, and how many sections are open
abbrev pub middle_by : Bool → ℕ → ℕ → Said → ℕ → List ℕ
middle_by b a l k n = flag b ∷ a ∷ l ∷ (row_by k ++ (n ∷ []))

unfoldable pub middle_words : State → List ℕ
middle_words s = middle_by s.refused (awaited_number s.awaited) (awaited_line s.awaited) (said_of s.kept) s.count

-- the words of a state
unfoldable pub parser_words : State → List ℕ
parser_words s = words_of s.tokenizer ++ middle_words s ++ section_words s.sections

unfoldable pub sort_in : ℕ → Option Sort
sort_in n = get_or (None ∷ Some Map ∷ Some Listed ∷ []) n None

-- n sections
unfoldable pub sections_in : ℕ → List ℕ → List Section
sections_in zero w = []
sections_in (suc n) w = record { sort = sort_in (get_or w 0 0); line = get_or w 1 0 } ∷ sections_in n (drop 2 w)

unfoldable pub awaited_in : ℕ → ℕ → Awaited
awaited_in n l = cond (eqb n 1) (awaited.Value l) (cond (eqb n 2) (awaited.Multiline l) awaited.Nothing)

-- what a row says is kept
unfoldable pub kept_in : List ℕ → Kept
kept_in w = cond (eqb (get_or w 0 0) 0) kept.Nothing (cond (eqb (get_or w 0 0) 11) kept.End (kept.Token (token_in w)))

-- the state in words; what is kept is the tokenizer's, whose row needs its first six
unfoldable pub parser_in : List ℕ → State
parser_in w = record {
  tokenizer = state_in w;
  kept = kept_in (take 6 (drop 140 w));
  awaited = awaited_in (get_or w 138 0) (get_or w 139 0);
  refused = eqb (get_or w 137 0) 1;
  sections = sections_in max_sections (drop 148 w);
  count = get_or w 147 0;
}

-- the words with the state at their front; unchanged where there are fewer than 278
unfoldable pub parser_stored_in : State → List ℕ → List ℕ
parser_stored_in s w = cond (leb parser_size (length w)) (parser_words s ++ drop parser_size w) w

-- the sorts of n sections are sorts; any number is a line
unfoldable pub are_sorts : ℕ → List ℕ → Bool
are_sorts zero w = true
are_sorts (suc n) w = leb (get_or w 0 0) 2 && are_sorts n (drop 2 w)

-- the words are a parser's state: there are 278, and each is one that stands for something; else they are an unfit
-- state, 15
unfoldable pub parser_readable : List ℕ → Bool
parser_readable w =
    leb parser_size (length w)
    && (readable w
    && (leb (get_or w 137 0) 1 && (leb (get_or w 138 0) 2 && (leb (get_or w 140 0) 11 && are_sorts max_sections (drop 148 w)))))

-- the words with the fresh state at their front; unchanged where there are fewer than 278
unfoldable pub fresh_parser_in : List ℕ → List ℕ
fresh_parser_in w = cond (leb parser_size (length w)) (parser_words fresh ++ drop parser_size w) w
