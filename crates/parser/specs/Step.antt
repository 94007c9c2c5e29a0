-- Law: document 01, 'Parser', and document 02, request 5, the line that a section's record keeps: the state, and the
-- step over it. 12, then 15, then End once refused, then the rules.
use Rattle.std.specs.Prelude.{Option, Some, None, Ok, Err, ℕ, zero, suc, ◌+◌, ◌-◌, ◌≤◌, ◌<◌, List, Bool, false, cond, leb, ltb, length, get_or, set, replicate}
use Rattle.std.specs.Result.{is_err}
use Rattle.tokenizer.specs.Token.{Answer as Came}
use Rattle.text.specs.Numbers.{error, max_document, max_open}
use Rattle.text.specs.declared.refusals.Refusal.{Refusal}
use Rattle.text.specs.declared.refusals.Refusal.TheVariants.{TooLong, UnfitState}
use Rattle.tokenizer.specs.Step.{fit, step_of as token_step, fresh as fresh_tokenizer}
use Rattle.tokenizer.specs.declared.state.State.{State as Tokenizer}
use Rattle.parser_rules.specs.Ruling.{ruling_of}
use Rattle.parser_rules.specs.declared.ruling.Awaited.TheVariants as awaited
use Rattle.parser_rules.specs.declared.ruling.Kept.{Kept}
use Rattle.parser_rules.specs.declared.ruling.Kept.TheVariants as kept
use Rattle.parser_rules.specs.declared.ruling.Change.{Change}
use Rattle.parser_rules.specs.declared.ruling.Change.TheVariants.{Keep, Fix, Open, Close}
use Rattle.parser_rules.specs.declared.ruling.Verdict.{Verdict}
use Rattle.parser_rules.specs.declared.ruling.Ruling.{Ruling}
use Rattle.parser_rules.specs.declared.ruling.Ruling.TheVariants.{Says, End, Unfit}
use Rattle.parser_rules.specs.declared.ruling.Section.{Section}
use Rattle.parser.specs.declared.state.State.{State}
use Rattle.tokenizer.specs.declared.state.Step.{Step}

-- the most sections that the record has: the top level, and those above it that may be open
abbrev pub max_sections : ℕ
max_sections = 1 + max_open

-- a section of no sort yet, which the key or item of line l opens
abbrev pub unsorted : ℕ → Section
unsorted l = record { sort = None; line = l }

-- the top level's: no line opens it
abbrev pub no_sort : Section
no_sort = unsorted 0

-- the innermost of the first count sections; an empty record has none, nor has one that counts over 65
unfoldable pub innermost_of : List Section → ℕ → Option Section
innermost_of l zero = None
innermost_of l (suc n) = cond (ltb n max_sections) (Some (get_or l n no_sort)) None

-- no room for one more
abbrev pub full_of : ℕ → Bool
full_of n = leb max_sections n

unfoldable pub sections_after : Change → List Section → ℕ → List Section
sections_after Keep l n = l
sections_after (Fix s) l n = set l (n - 1) (record { sort = Some s; line = (get_or l (n - 1) no_sort).line })
sections_after (Open o) l n = set l n (unsorted o)
sections_after Close l n = l

unfoldable pub count_after : Change → ℕ → ℕ
count_after Keep n = n
count_after (Fix s) n = n
count_after (Open o) n = n + 1
count_after Close n = n - 1

-- the record has what a change needs: a section to fix or to close, room for one to open
abbrev pub ChangeFits : Change → ℕ → Type 0
ChangeFits Keep n = Unit {0}
ChangeFits (Fix s) n = (0 < n) × (n ≤ max_sections)
ChangeFits (Open o) n = n < max_sections
ChangeFits Close n = 0 < n

-- the state after a verdict, t being the tokenizer's
unfoldable pub after_verdict : State → Tokenizer → Verdict → State
after_verdict s t v = record {
  tokenizer = t;
  kept = v.kept;
  awaited = v.awaited;
  refused = is_err v.answer;
  sections = sections_after v.change s.sections s.count;
  count = count_after v.change s.count;
}

-- a refusal that gives the very state back
abbrev pub refusal : Refusal → State → Step State
refusal r s = record { answer = Some (Err (error r 0)); state = s }

abbrev pub on_ruling : Ruling → State → Tokenizer → Step State
on_ruling (Says v) s t = record { answer = Some v.answer; state = after_verdict s t v }
on_ruling End s t = record { answer = None; state = s }
on_ruling Unfit s t = refusal UnfitState s

-- what is made of what came, t being the tokenizer's state after it
unfoldable pub step_with : State → Came → Tokenizer → Step State
step_with s c t = on_ruling (ruling_of s.awaited (innermost_of s.sections s.count) (full_of s.count) c) s t

-- what was kept comes again, else the tokenizer's next answer
abbrev pub came_of : List ℕ → Tokenizer → Kept → Step Tokenizer
came_of d t kept.Nothing = token_step d t
came_of d t kept.End = record { answer = None; state = t }
came_of d t (kept.Token x) = record { answer = Some (Ok x); state = t }

unfoldable pub step_kept : List ℕ → State → Kept → Step State
step_kept d s k = step_with s (came_of d s.tokenizer k).answer (came_of d s.tokenizer k).state

-- the step
unfoldable pub step_of : List ℕ → State → Step State
step_of d s =
    cond (ltb max_document (length d)) (refusal TooLong s)
    (cond (fit (length d) s.tokenizer) (cond s.refused (record { answer = None; state = s }) (step_kept d s s.kept))
    (refusal UnfitState s))

-- the fresh state: the top level is a section of no sort yet
unfoldable pub fresh : State
fresh = record {
  tokenizer = fresh_tokenizer;
  kept = kept.Nothing;
  awaited = awaited.Nothing;
  refused = false;
  sections = replicate max_sections no_sort;
  count = 1;
}
