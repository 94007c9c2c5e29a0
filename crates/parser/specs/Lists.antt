-- Law: document 01, 'Parser': the parser's list for a document holds every answer of its step before the first End;
-- over the size limit it is the one refusal 12. Beside it, the same as a function over the tokenizer's list, which is
-- intermediate: parser_claims, proofs/Claimed, shows that it is this list.
use Rattle.std.specs.Prelude.{Option, Some, None, Ok, Err, ℕ, suc, ◌≤◌, ◌<◌, ◌≡◌, List, [], ◌∷◌, ◌++◌, Bool, true, false, cond, eqb, ltb, length}
use Rattle.std.specs.Result.{is_ok}
use Rattle.tokenizer.specs.Token.{Answer}
use Rattle.text.specs.Numbers.{error, max_document}
use Rattle.text.specs.declared.refusals.Refusal.TheVariants.{TooLong, UnfitState}
use Rattle.tokenizer.specs.Lists.{is_end, tokens}
use Rattle.tokenizer.specs.declared.token.Token.{Token}
use Rattle.tokenizer.specs.declared.token.Token.TheVariants as token
use Rattle.parser_rules.specs.Ruling.{ruling_of}
use Rattle.parser.specs.Step.{unsorted, no_sort, step_of, fresh}
use Rattle.parser_rules.specs.declared.ruling.Sort.{Sort}
use Rattle.parser_rules.specs.declared.ruling.Sort.TheVariants.{Map, List as Listed}
use Rattle.parser_rules.specs.declared.ruling.Awaited.{Awaited}
use Rattle.parser_rules.specs.declared.ruling.Awaited.TheVariants as awaited
use Rattle.parser_rules.specs.declared.ruling.Kept.{Kept}
use Rattle.parser_rules.specs.declared.ruling.Kept.TheVariants as kept
use Rattle.parser_rules.specs.declared.ruling.Change.{Change}
use Rattle.parser_rules.specs.declared.ruling.Change.TheVariants.{Keep, Fix, Open, Close}
use Rattle.parser_rules.specs.declared.ruling.Verdict.{Verdict}
use Rattle.parser_rules.specs.declared.ruling.Ruling.{Ruling}
use Rattle.parser_rules.specs.declared.ruling.Ruling.TheVariants.{Says, End, Unfit}
use Rattle.parser_rules.specs.declared.ruling.Section.{Section}
use Rattle.parser.specs.declared.state.State.{State}

-- from the first state on, the list's answers come one by one, and at the last state End comes next
pub data Parses (d : List ℕ) : State → List Answer → State → Type 0 where
  ends : {s : State} → (step_of d s).answer ≡ None → Parses d s [] s
  says : {s t u : State} {a : Answer} {l : List Answer} → step_of d s ≡ record { answer = a; state = t } → is_end a ≡ false
      → Parses d t l u → Parses d s (a ∷ l) u

-- the parser's list for a document
pub data ParseList (d : List ℕ) : List Answer → Type 0 where
  over : max_document < length d → ParseList d (Some (Err (error TooLong 0)) ∷ [])
  read : {l : List Answer} {u : State} → length d ≤ max_document → Parses d fresh l u → ParseList d l

-- Intermediate, the parser over the tokenizer's list: what is awaited, and the open sections, the innermost first.
pub record Stand : Type 0 where
  pub awaited : Awaited
  pub sections : List Section

abbrev pub innermost : List Section → Option Section
innermost [] = None
innermost (s ∷ l) = Some s

abbrev pub stack_after : Change → List Section → List Section
stack_after Keep l = l
stack_after (Fix s) [] = []
stack_after (Fix s) (r ∷ l) = record { sort = Some s; line = r.line } ∷ l
stack_after (Open o) l = unsorted o ∷ l
stack_after Close [] = []
stack_after Close (r ∷ l) = l

-- what one answer of the tokenizer makes the parser say, where it then stands, and whether it goes on
pub record Fed : Type 0 where
  pub says : List Answer
  pub next : Stand
  pub goes_on : Bool

abbrev pub unfit_fed : Stand → Fed
unfit_fed s = record { says = Some (Err (error UnfitState 0)) ∷ []; next = s; goes_on = false }

abbrev pub stand_after : Stand → Verdict → Stand
stand_after s v = record { awaited = v.awaited; sections = stack_after v.change s.sections }

-- nothing kept: the answer, and on unless refused
abbrev pub fed_once : Stand → Ruling → Fed
fed_once s (Says v) = record { says = Some v.answer ∷ []; next = stand_after s v; goes_on = is_ok v.answer }
fed_once s End = record { says = []; next = s; goes_on = true }
fed_once s Unfit = unfit_fed s

abbrev pub before : Answer → Fed → Fed
before a f = record { says = a ∷ f.says; next = f.next; goes_on = f.goes_on }

abbrev pub ruled : Stand → Answer → Ruling
ruled s c = ruling_of s.awaited (innermost s.sections) false c

-- what was kept comes again
abbrev pub fed_twice : Stand → Kept → Verdict → Fed
fed_twice s kept.Nothing v = fed_once s (Says v)
fed_twice s kept.End v = before (Some v.answer) (fed_once (stand_after s v) (ruled (stand_after s v) None))
fed_twice s (kept.Token t) v = before (Some v.answer) (fed_once (stand_after s v) (ruled (stand_after s v) (Some (Ok t))))

abbrev pub fed_by : Stand → Ruling → Fed
fed_by s (Says v) = fed_twice s v.kept v
fed_by s End = fed_once s End
fed_by s Unfit = fed_once s Unfit

unfoldable pub feed : Stand → Answer → Fed
feed s c = fed_by s (ruled s c)

-- the parser's list from the tokenizer's, whose end comes last
unfoldable pub parsed : Stand → List Answer → List Answer
parsed s [] = (feed s None).says
parsed s (c ∷ l) = let r = parsed (feed s c).next l in (feed s c).says ++ cond (feed s c).goes_on r []

abbrev pub fresh_stand : Stand
fresh_stand = record { awaited = awaited.Nothing; sections = no_sort ∷ [] }

-- The list of a document.
unfoldable pub parse : List ℕ → List Answer
parse d = let r = parsed fresh_stand (tokens d) in cond (ltb max_document (length d)) (Some (Err (error TooLong 0)) ∷ []) r

-- A document is refused where its parser's list has a refusal, else accepted.
unfoldable pub refused_in : List Answer → Bool
refused_in [] = false
refused_in (None ∷ l) = refused_in l
refused_in (Some (Ok t) ∷ l) = refused_in l
refused_in (Some (Err e) ∷ l) = true

abbrev pub Accepted : List ℕ → Type 0
Accepted d = refused_in (parse d) ≡ false

-- A top-level entry is a key or item with as many Outdents as Indents before it in the list; i and o count them.
unfoldable pub top_entries : ℕ → ℕ → List Answer → List Token
top_entries i o [] = []
top_entries i o (None ∷ l) = top_entries i o l
top_entries i o (Some (Err e) ∷ l) = top_entries i o l
top_entries i o (Some (Ok (token.Indent m)) ∷ l) = top_entries (suc i) o l
top_entries i o (Some (Ok (token.Outdent m k)) ∷ l) = top_entries i (suc o) l
top_entries i o (Some (Ok (token.ListItem m)) ∷ l) = let r = top_entries i o l in cond (eqb i o) (token.ListItem m ∷ r) r
top_entries i o (Some (Ok (token.MapKey m p)) ∷ l) = let r = top_entries i o l in cond (eqb i o) (token.MapKey m p ∷ r) r
top_entries i o (Some (Ok (token.Newline m)) ∷ l) = top_entries i o l
top_entries i o (Some (Ok (token.Comment m p)) ∷ l) = top_entries i o l
top_entries i o (Some (Ok (token.Value m p)) ∷ l) = top_entries i o l
top_entries i o (Some (Ok (token.MultilineHint m p)) ∷ l) = top_entries i o l
top_entries i o (Some (Ok (token.MultilineValue m q p)) ∷ l) = top_entries i o l
top_entries i o (Some (Ok (token.NoValue m)) ∷ l) = top_entries i o l

-- the sort that a key or an item is of
abbrev pub entry_sort : Token → Option Sort
entry_sort (token.ListItem m) = Some Listed
entry_sort (token.MapKey m p) = Some Map
entry_sort (token.Newline m) = None
entry_sort (token.Comment m p) = None
entry_sort (token.Indent m) = None
entry_sort (token.Outdent m o) = None
entry_sort (token.Value m p) = None
entry_sort (token.MultilineHint m p) = None
entry_sort (token.MultilineValue m q p) = None
entry_sort (token.NoValue m) = None

-- the sort of the first top-level entry, which is that of all of an accepted document; none where there is no entry
abbrev pub sort_of : List Token → Option Sort
sort_of [] = None
sort_of (t ∷ l) = entry_sort t

abbrev pub top_sort : List Answer → Option Sort
top_sort l = sort_of (top_entries 0 0 l)
