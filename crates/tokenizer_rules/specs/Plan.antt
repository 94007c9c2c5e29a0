-- Law: document 01, 'Tokenizer': one step, rule by rule, as a plan that is counted from the step's place and knows
-- neither place nor line. Throughout, m are the marks, k is the size of the indentation at the place (0 where it was
-- held), rest the document from the place on, w the rest after the indentation.
use Rattle.std.specs.Prelude.{ℕ, ◌+◌, Option, Some, None, List, [], ◌∷◌, Bool, true, false, cond, not, ◌&&◌, take, drop, eqb, ltb}
use Prim.Native.Char.{code as byte}
use Rattle.text.specs.Ascii.{ascii}
use Rattle.text.specs.Bytes.{is_break, break_size, line_end, starts_with, shifted_by}
use Rattle.text.specs.Numbers.{max_open}
use Rattle.text.specs.declared.bytes.Part.{Part}
use Rattle.text.specs.declared.refusals.Refusal.TheVariants.{InvalidUtf8, CharactersAfterQuotes, TooManyOpen}
use Rattle.text.specs.declared.trimming.Dropped.TheVariants.{Blanks, BlanksAndBreaks}
use Rattle.tokenizer_scans.specs.Scans.{relation_of, plain_end, text_end, checked_of, begins_hint, eq_size, lines_of}
use Rattle.tokenizer_scans.specs.declared.readers.Relation.{Relation}
use Rattle.tokenizer_scans.specs.declared.readers.Relation.TheVariants.{Equal, Deeper, Other}
use Rattle.tokenizer_rules.specs.declared.plan.Marks.{Marks}
use Rattle.tokenizer_rules.specs.declared.plan.Says.{Says}
use Rattle.tokenizer_rules.specs.declared.plan.Says.TheVariants.{
  End,
  Newline,
  Comment,
  Indent,
  Outdent,
  ListItem,
  MapKey,
  Value,
  MultilineHint,
  MultilineValue,
  Refused,
}
use Rattle.tokenizer_rules.specs.declared.plan.Change.TheVariants.{Keep, Open, Close, Hold}
use Rattle.tokenizer_rules.specs.declared.plan.Plan.{Plan}

-- a plan that adds no line and leaves the sections as they are
abbrev pub keeps : Says → ℕ → Marks → Plan
keeps s n m = record { says = s; pass = n; lines = 0; marks = m; change = Keep }

-- a text that was read, as what a step says: refused where it is not UTF-8
abbrev pub said : (Part → Says) → Option Part → Says
said f (Some p) = f p
said f None = Refused InvalidUtf8

abbrev pub with_value : Bool → Marks → Marks
with_value v m = record { indent = m.indent; value = v; multiline = m.multiline }

-- Rule 2: Newline; the break is passed, the indentation mark set, the value mark cleared
unfoldable pub plan_newline : Marks → ℕ → List ℕ → Plan
plan_newline m k w = record {
  says = Newline;
  pass = k + break_size w;
  lines = 1;
  marks = record { indent = true; value = false; multiline = m.multiline };
  change = Keep;
}

-- Rule 3: no first byte is left; an open section closes, or the reading ends
unfoldable pub plan_end : Marks → ℕ → Plan
plan_end m depth =
    cond (ltb 0 depth)
    (record { says = Outdent; pass = 0; lines = 0; marks = m; change = Close })
    (keeps End 0 m)

-- Rule 4: the test, b being the first byte
abbrev pub begins_comment : Marks → ℕ → Bool
begins_comment m b = eqb b (byte ";") && not (m.indent && m.multiline)

-- Rule 4: the comment; r is what stands after the `;`
unfoldable pub plan_comment : Marks → ℕ → List ℕ → Plan
plan_comment m k r = keeps (said (λ p. Comment (shifted_by (k + 1) p)) (checked_of Blanks (take (line_end r) r))) (k + 1 + line_end r) m

-- Rule 6, with no value mark: `=` is an item
unfoldable pub plan_item : Marks → ℕ → Plan
plan_item m k = keeps ListItem (k + 1) (with_value true m)

-- Key: a following `=` is passed
unfoldable pub plan_key : Marks → ℕ → List ℕ → Plan
plan_key m k w =
    keeps (said (λ p. MapKey (shifted_by k p)) (checked_of Blanks (take (text_end (byte "=") w) w)))
    (k + text_end (byte "=") w + eq_size (drop (text_end (byte "=") w) w))
    (with_value true m)

-- Value
unfoldable pub plan_plain : Marks → ℕ → List ℕ → Plan
plan_plain m k w =
    keeps (said (λ p. Value (shifted_by k p)) (checked_of Blanks (take (text_end (byte ";") w) w))) (k + text_end (byte ";") w) m

-- the multiline mark is set where the hint is UTF-8
abbrev pub hint_marks : Option Part → Marks → Marks
hint_marks (Some p) m = record { indent = m.indent; value = m.value; multiline = true }
hint_marks None m = m

-- Hint; r is what stands after the three quotes. A fourth quote is 2, and the place does not move
unfoldable pub plan_hint : Marks → ℕ → List ℕ → Plan
plan_hint m k r =
    let t = checked_of Blanks (take (plain_end (byte ";") r) r) in
    let hint = keeps (said (λ p. MultilineHint (shifted_by (k + 3) p)) t) (k + 3 + plain_end (byte ";") r) (hint_marks t m) in
    cond (starts_with (ascii "\"") r) (keeps (Refused CharactersAfterQuotes) 0 m) hint

-- A value that begins with three quotes is a hint
unfoldable pub plan_value : Marks → ℕ → List ℕ → Plan
plan_value m k w = let hint = plan_hint m k (drop 3 w) in cond (begins_hint w) hint (plan_plain m k w)

-- Rule 6; b is the first byte of w
unfoldable pub plan_entry : Marks → ℕ → ℕ → List ℕ → Plan
plan_entry m k b w = cond m.value (plan_value (with_value false m) k w) (cond (eqb b (byte "=")) (plan_item m k) (plan_key m k w))

-- Multiline value: its bytes are passed, its lines added, the indentation mark set
unfoldable pub plan_multiline : Marks → List ℕ → List ℕ → Plan
plan_multiline m indent rest =
    let n = (lines_of indent rest).len in
    record {
      says = said MultilineValue (checked_of BlanksAndBreaks (take n rest));
      pass = n;
      lines = (lines_of indent rest).count;
      marks = record { indent = true; value = m.value; multiline = false };
      change = Keep;
    }

-- Rule 5, deeper: Indent; with 64 open, 3, and the line is passed up to its break
unfoldable pub plan_open : Marks → ℕ → ℕ → List ℕ → Plan
plan_open m depth k w =
    cond (ltb depth max_open)
    (record { says = Indent; pass = k; lines = 0; marks = m; change = Open })
    (keeps (Refused TooManyOpen) (k + line_end w) m)

-- Rule 5, neither equal nor deeper: Outdent; the indentation is held and its mark set
unfoldable pub plan_outdent : Marks → ℕ → Plan
plan_outdent m k = record {
  says = Outdent;
  pass = k;
  lines = 0;
  marks = record { indent = true; value = m.value; multiline = false };
  change = Hold;
}

abbrev pub on_relation : Relation → Plan → Plan → Plan → Plan
on_relation Equal e d o = e
on_relation Deeper e d o = d
on_relation Other e d o = o

-- the indentation mark and the multiline mark cleared
abbrev pub cleared : Marks → Marks
cleared m = record { indent = false; value = m.value; multiline = false }

-- Rule 5, with the indentation mark
unfoldable pub plan_indented : Marks → ℕ → List ℕ → List ℕ → List ℕ → ℕ → ℕ → List ℕ → Plan
plan_indented m depth inner indent rest k b w =
    on_relation (relation_of inner indent)
    (plan_entry (cleared m) k b w)
    (cond m.multiline (plan_multiline (cleared m) indent rest) (plan_open (cleared m) depth k w))
    (plan_outdent (cleared m) k)

-- Rules 2 to 6, over what stands after the indentation
unfoldable pub plan_on : Marks → ℕ → List ℕ → List ℕ → List ℕ → ℕ → List ℕ → Plan
plan_on m depth inner indent rest k [] = plan_end m depth
plan_on m depth inner indent rest k (b ∷ r) =
    cond (is_break b) (plan_newline m k (b ∷ r))
    (cond (begins_comment m b) (plan_comment m k r)
    (cond m.indent (plan_indented m depth inner indent rest k b (b ∷ r))
    (plan_entry m k b (b ∷ r))))

-- the plan of a step with depth open sections, inner the innermost one's indentation and indent this one
unfoldable pub plan_at : Marks → ℕ → List ℕ → List ℕ → List ℕ → ℕ → Plan
plan_at m depth inner indent rest k = plan_on m depth inner indent rest k (drop k rest)
