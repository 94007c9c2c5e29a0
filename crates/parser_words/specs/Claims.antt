-- Claims about the parser's words and rows: what is written is read back, distinct answers have distinct rows, and the
-- words stand in this order, without which two halves that are wrong alike would do. proofs/Claimed and Slotted prove
-- them.
use Rattle.tokenizer.specs.Token.{Answer, token_values, values_of}
use Rattle.std.specs.Prelude.{Some, ℕ, ◌≡◌, List, ◌∷◌, ◌++◌, map, Bool, true, false, length, replicate}
use Rattle.text.specs.Bytes.{part}
use Rattle.tokenizer.specs.Step.{fresh as fresh_tokenizer}
use Rattle.tokenizer.specs.declared.token.Token.TheVariants.{MultilineValue}
use Rattle.tokenizer.specs.declared.state.State.{State as Tokenizer}
use Rattle.parser_rules.specs.declared.ruling.Sort.TheVariants.{Map, List as Listed}
use Rattle.parser_rules.specs.declared.ruling.Awaited.{Awaited}
use Rattle.parser_rules.specs.declared.ruling.Awaited.TheVariants as awaited
use Rattle.parser_rules.specs.declared.ruling.Kept.{Kept}
use Rattle.parser_rules.specs.declared.ruling.Kept.TheVariants as kept
use Rattle.parser.specs.Step.{max_sections, no_sort, step_of, fresh}
use Rattle.parser.specs.declared.state.State.{State}
use Rattle.tokenizer_rows.specs.Rows.{row_of, rows_of}
use Rattle.tokenizer_words.specs.Words.{words_of}
use Rattle.tokenizer_words.specs.Claims.{standing, Slots as TokenizerSlots}
use Rattle.parser_words.specs.ParserWords.{parser_words, parser_in, parser_readable}

-- what is kept is the tokenizer's: an Outdent that carries no line
abbrev pub KeepsNone : Kept → Type 0
KeepsNone kept.Nothing = Unit {0}
KeepsNone kept.End = Unit {0}
KeepsNone (kept.Token t) = (token_values t).opened ≡ 0

-- a state has its record of sections, keeps what is the tokenizer's, and T holds of its tokenizer's state
abbrev pub Having : (Tokenizer → Type 0) → State → Type 0
Having T s = T s.tokenizer × ((length s.sections ≡ max_sections) × KeepsNone s.kept)

-- it has all its slots: the code's arrays have no other length
abbrev pub Slots : State → Type 0
Slots s = Having TokenizerSlots s

-- a state is read back from its words, whatever words follow, and they are taken for a state's
pub record Back (s : State) (r : List ℕ) : Type 0 where
  pub state : parser_in (parser_words s ++ r) ≡ s
  pub reads : parser_readable (parser_words s ++ r) ≡ true

abbrev pub StatesBack : Type 0
StatesBack = (s : State) (r : List ℕ) → Slots s → Back s r

-- so every state of a parsing is: the fresh one has its slots, and a step keeps them
pub record Slotted : Type 0 where
  pub begins : Slots fresh
  pub steps : (d : List ℕ) (s : State) → Slots s → Slots (step_of d s).state

-- distinct answers have distinct rows, and distinct lists distinct rows one after the other
abbrev pub AnswerRows : Type 0
AnswerRows = (a b : Answer) → row_of (values_of a) ≡ row_of (values_of b) → a ≡ b

abbrev pub AnswerLists : Type 0
AnswerLists = (l m : List Answer) → rows_of (map values_of l) ≡ rows_of (map values_of m) → l ≡ m

-- The order of the words behind the tokenizer's, by states in which no two of them are alike throughout

-- refused or not, with what is awaited and kept, a map's section and a list's open
abbrev pub parsed : Bool → Awaited → Kept → State
parsed b a k = record {
  tokenizer = standing true false;
  kept = k;
  awaited = a;
  refused = b;
  sections = record { sort = Some Map; line = 0 } ∷ record { sort = Some Listed; line = 7 } ∷ replicate 63 no_sort;
  count = 2;
}

pub record Layout : Type 0 where
  pub begins : parser_words fresh ≡ words_of fresh_tokenizer ++ (replicate 10 0 ++ (1 ∷ replicate 130 0))
  pub token_kept : parser_words (parsed false (awaited.Multiline 8) (kept.Token (MultilineValue 10 (part 17 20) (part 21 33))))
      ≡ words_of (standing true false) ++ (0 ∷ 2 ∷ 8 ∷ 9 ∷ 10 ∷ 21 ∷ 33 ∷ 17 ∷ 20 ∷ 0 ∷ 2 ∷ 1 ∷ 0 ∷ 2 ∷ 7 ∷ replicate 126 0)
  pub end_kept : parser_words (parsed true (awaited.Value 6) kept.End)
      ≡ words_of (standing true false) ++ (1 ∷ 1 ∷ 6 ∷ 11 ∷ 0 ∷ 0 ∷ 0 ∷ 0 ∷ 0 ∷ 0 ∷ 2 ∷ 1 ∷ 0 ∷ 2 ∷ 7 ∷ replicate 126 0)
