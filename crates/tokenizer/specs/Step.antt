-- Law: document 01, 'Tokenizer': the state, the step over it, and the numbers 12 and 15 of its 'Numbers by the place
-- where they are checked'.
use Rattle.std.specs.Prelude.{Option, Some, None, Ok, Err, ℕ, zero, suc, ◌+◌, ◌-◌, max, List, Bool, true, false, cond, ◌&&◌, length, take, drop, get_or, set, replicate, leb, ltb}
use Rattle.text.specs.Bytes.{part, shifted_by}
use Rattle.text.specs.Numbers.{max_document, max_open, error}
use Rattle.text.specs.declared.refusals.Refusal.{Refusal}
use Rattle.text.specs.declared.refusals.Refusal.TheVariants.{TooLong, UnfitState}
use Rattle.text.specs.declared.bytes.Part.{Part}
use Rattle.tokenizer_scans.specs.Scans.{blanks}
use Rattle.tokenizer_rules.specs.Plan.{plan_at}
use Rattle.tokenizer_rules.specs.declared.plan.Says.{Says}
use Rattle.tokenizer_rules.specs.declared.plan.Says.TheVariants.{
  End,
  Newline,
  Comment,
  Indent,
  Outdent,
  ListItem,
  MapKey,
  Value,
  MultilineHint,
  MultilineValue,
  Refused,
}
use Rattle.tokenizer_rules.specs.declared.plan.Change.{Change}
use Rattle.tokenizer_rules.specs.declared.plan.Change.TheVariants.{Keep, Open, Close, Hold}
use Rattle.tokenizer_rules.specs.declared.plan.Plan.{Plan}
use Rattle.tokenizer.specs.declared.token.Token.TheVariants as token
use Rattle.tokenizer.specs.Token.{Answer}
use Rattle.tokenizer.specs.declared.state.State.{State}
use Rattle.tokenizer.specs.declared.state.Step.{Step}

-- the bytes of a part of the document
abbrev pub bytes_of : List ℕ → Part → List ℕ
bytes_of d p = take (p.end - p.start) (drop p.start d)

abbrev pub no_part : Part
no_part = part 0 0

-- Rule 1: the held indentation, or the blanks at the place; and how many bytes stand between the place and the rest
abbrev pub indent_of : Option Part → ℕ → List ℕ → Part
indent_of None place rest = part place (place + blanks rest)
indent_of (Some p) place rest = p

abbrev pub size_of : Option Part → List ℕ → ℕ
size_of None rest = blanks rest
size_of (Some p) rest = 0

-- the innermost open indentation, or the empty one
abbrev pub inner_of : List Part → ℕ → Part
inner_of indents zero = no_part
inner_of indents (suc n) = get_or indents n no_part

abbrev pub indents_after : Change → Part → List Part → ℕ → List Part
indents_after Keep i is n = is
indents_after Open i is n = set is n i
indents_after Close i is n = is
indents_after Hold i is n = is

abbrev pub depth_after : Change → ℕ → ℕ
depth_after Keep n = n
depth_after Open n = n + 1
depth_after Close n = n - 1
depth_after Hold n = n - 1

abbrev pub held_after : Change → Part → Option Part
held_after Keep i = None
held_after Open i = None
held_after Close i = None
held_after Hold i = Some i

-- the end of the text that is said, counted from the place; 0 where there is none
abbrev pub reach : Says → ℕ
reach End = 0
reach Newline = 0
reach (Comment p) = max p.start p.end
reach Indent = 0
reach Outdent = 0
reach ListItem = 0
reach (MapKey p) = max p.start p.end
reach (Value p) = max p.start p.end
reach (MultilineHint p) = max p.start p.end
reach (MultilineValue p) = max p.start p.end
reach (Refused n) = 0

-- what is said, with its line and its places
abbrev pub answer_of : Says → ℕ → ℕ → Part → Answer
answer_of End l n i = None
answer_of Newline l n i = Some (Ok (token.Newline l))
answer_of (Comment p) l n i = Some (Ok (token.Comment l (shifted_by n p)))
answer_of Indent l n i = Some (Ok (token.Indent l))
answer_of Outdent l n i = Some (Ok (token.Outdent l 0))
answer_of ListItem l n i = Some (Ok (token.ListItem l))
answer_of (MapKey p) l n i = Some (Ok (token.MapKey l (shifted_by n p)))
answer_of (Value p) l n i = Some (Ok (token.Value l (shifted_by n p)))
answer_of (MultilineHint p) l n i = Some (Ok (token.MultilineHint l (shifted_by n p)))
answer_of (MultilineValue p) l n i = Some (Ok (token.MultilineValue l i (shifted_by n p)))
answer_of (Refused r) l n i = Some (Err (error r l))

-- the plan of a state whose indentation is i, k bytes of it standing at the place
unfoldable pub plan_with : List ℕ → State → Part → ℕ → Plan
plan_with d s i k =
    plan_at s.marks s.depth (bytes_of d (inner_of s.indents s.depth)) (bytes_of d i) (drop s.place d) k

-- the state after a plan
unfoldable pub after_plan : State → Part → Plan → State
after_plan s i p = record {
  place = s.place + p.pass;
  line = s.line + p.lines;
  marks = p.marks;
  held = held_after p.change i;
  indents = indents_after p.change i s.indents s.depth;
  depth = depth_after p.change s.depth;
}

-- Rules 2 to 6 for an indentation
unfoldable pub step_with : List ℕ → State → Part → ℕ → Step State
step_with d s i k =
    let p = plan_with d s i k in
    record { answer = answer_of p.says s.line s.place i; state = after_plan s i p }

-- one step of a fit state
unfoldable pub step_rule : List ℕ → State → Step State
step_rule d s = step_with d s (indent_of s.held s.place (drop s.place d)) (size_of s.held (drop s.place d))

-- an indentation does not end before it starts, nor past the document
abbrev pub fit_part : ℕ → Part → Bool
fit_part n p = leb p.start p.end && leb p.end n

abbrev pub fit_held : ℕ → Option Part → Bool
fit_held n None = true
fit_held n (Some p) = fit_part n p

unfoldable pub fit_open : ℕ → List Part → ℕ → Bool
fit_open n indents zero = true
fit_open n indents (suc k) = fit_part n (get_or indents k no_part) && fit_open n indents k

-- the state fits a document of n bytes: else it is unfit, 15
unfoldable pub fit : ℕ → State → Bool
fit n s =
    leb s.place n && (ltb 0 s.line && (leb s.line (s.place + 1) && (fit_held n s.held && (leb s.depth max_open && fit_open n s.indents s.depth))))

-- a refusal that gives the very state back
abbrev pub refusal : Refusal → State → Step State
refusal r s = record { answer = Some (Err (error r 0)); state = s }

-- the step: 12, then 15, then the rules
unfoldable pub step_of : List ℕ → State → Step State
step_of d s = cond (ltb max_document (length d)) (refusal TooLong s) (cond (fit (length d) s) (step_rule d s) (refusal UnfitState s))

-- the fresh state
unfoldable pub fresh : State
fresh = record {
  place = 0;
  line = 1;
  marks = record { indent = true; value = false; multiline = false };
  held = None;
  indents = replicate max_open no_part;
  depth = 0;
}
