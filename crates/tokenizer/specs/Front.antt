-- Intermediate: a step without the record of the open indentations. It is told the innermost one, and says what becomes
-- of the record; it tests of a state only what it uses. proofs/Advancing shows that of a fit state it is the step.
use Rattle.std.specs.Prelude.{ℕ, ◌+◌, List, Bool, cond, ◌&&◌, length, drop, leb, ltb}
use Rattle.std.specs.Prelude.{Some, Err}
use Rattle.text.specs.Numbers.{max_document, max_open, error}
use Rattle.text.specs.declared.refusals.Refusal.{Refusal}
use Rattle.text.specs.declared.refusals.Refusal.TheVariants.{TooLong, UnfitState}
use Rattle.text.specs.declared.bytes.Part.{Part}
use Rattle.tokenizer_rules.specs.Plan.{plan_at}
use Rattle.tokenizer_rules.specs.declared.plan.Change.TheVariants.{Keep}
use Rattle.tokenizer_rules.specs.declared.plan.Plan.{Plan}
use Rattle.tokenizer.specs.Step.{bytes_of, no_part, inner_of, indent_of, size_of, indents_after, depth_after, held_after, answer_of, fit_part, fit_held}
use Rattle.tokenizer.specs.Token.{values_of}
use Rattle.tokenizer.specs.Said.{said_by}
use Rattle.tokenizer.specs.declared.said.Said.{Said}
use Rattle.tokenizer.specs.declared.state.State.{State}
use Rattle.tokenizer.specs.declared.front.Front.{Front}
use Rattle.tokenizer.specs.declared.front.Advanced.{Advanced}

-- a state but for the open indentations
abbrev pub front_of : State → Front
front_of s = record { place = s.place; line = s.line; marks = s.marks; held = s.held; depth = s.depth }

-- it can be one of a document of n bytes
unfoldable pub front_fit : ℕ → Front → Bool
front_fit n f = leb f.place n && (ltb 0 f.line && (leb f.line (f.place + 1) && (fit_held n f.held && leb f.depth max_open)))

abbrev pub front_after : Front → Part → Plan → Front
front_after f i p = record {
  place = f.place + p.pass;
  line = f.line + p.lines;
  marks = p.marks;
  held = held_after p.change i;
  depth = depth_after p.change f.depth;
}

-- what becomes of a plan
abbrev pub advanced_by : Front → Part → Plan → Advanced
advanced_by f i p = record {
  said = said_by (values_of (answer_of p.says f.line f.place i));
  front = front_after f i p;
  change = p.change;
  indent = i;
}

-- the step with the indentation i, k bytes of it standing at the place
unfoldable pub advance_with : List ℕ → Front → Part → Part → ℕ → Advanced
advance_with d f inner i k = advanced_by f i (plan_at f.marks f.depth (bytes_of d inner) (bytes_of d i) (drop f.place d) k)

-- the step where what it uses is fit
unfoldable pub advance_rule : List ℕ → Front → Part → Advanced
advance_rule d f inner = advance_with d f inner (indent_of f.held f.place (drop f.place d)) (size_of f.held (drop f.place d))

-- what a step uses of a state is fit: all but the open indentations below the innermost
unfoldable pub near : ℕ → Front → Part → Bool
near n f inner = front_fit n f && fit_part n inner

-- what is said, with nothing changed
abbrev pub unmoved : Said → Front → Advanced
unmoved said f = record { said = said; front = f; change = Keep; indent = no_part }

-- a refusal that changes nothing
abbrev pub staying : Front → Refusal → Advanced
staying f r = unmoved (said_by (values_of (Some (Err (error r 0))))) f

-- 12, then 15, then the rules
unfoldable pub advanced_of : List ℕ → Front → Part → Advanced
advanced_of d f inner =
    cond (ltb max_document (length d)) (staying f TooLong) (cond (near (length d) f inner) (advance_rule d f inner) (staying f UnfitState))

-- the same of a state
abbrev pub ahead_of : List ℕ → State → Advanced
ahead_of d s = advanced_of d (front_of s) (inner_of s.indents s.depth)

-- the state with what a step leaves
unfoldable pub state_by : State → Advanced → State
state_by s m = record {
  place = m.front.place;
  line = m.front.line;
  marks = m.front.marks;
  held = m.front.held;
  indents = indents_after m.change m.indent s.indents s.depth;
  depth = m.front.depth;
}
