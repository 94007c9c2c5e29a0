-- The rows marked P of document 01's 'Layouts on the test strip' that concern the tokenizer, computed from the rules.
use Rattle.std.specs.Prelude.{Some, Ok, Err}
use Rattle.tokenizer.specs.Token.{Answer}
use Rattle.text.specs.Numbers.{error}
use Rattle.text.specs.declared.refusals.Refusal.TheVariants.{CharactersAfterQuotes}
use Prim.Native.Nat.{ℕ}
use mathlib.Core.Path.{◌≡◌, refl}
use mathlib.Core.List.{List, [], ◌∷◌}
use Rattle.text.specs.Ascii.{ascii}
use Rattle.text.specs.Bytes.{is_blank, is_break, break_size, starts_with, part}
use Rattle.text.specs.Trimming.{dropped, kept_end, trimmed}
use Rattle.utf8.specs.Utf8.{within, lead_of, owes, utf8}
use Rattle.tokenizer_scans.specs.Scans.{
  blanks,
  relation_of,
  stops,
  plain_end,
  closing,
  quotes_end,
  text_end,
  checked_of,
  begins_hint,
  eq_size,
  piece,
  is_void,
  belongs_to,
  multiline_end,
  breaks_after,
  ends_in_break,
  line_count,
  lines_of,
}
use Rattle.tokenizer_rules.specs.Plan.{
  plan_newline,
  plan_end,
  plan_comment,
  plan_item,
  plan_key,
  plan_plain,
  plan_hint,
  plan_value,
  plan_entry,
  plan_multiline,
  plan_open,
  plan_outdent,
  plan_indented,
  plan_on,
  plan_at,
}
use Rattle.tokenizer.specs.Step.{plan_with, after_plan, step_with, step_rule, fit_open, fit, step_of, fresh}
use Rattle.tokenizer.specs.Lists.{is_end, run, tokens}
use Rattle.tokenizer.specs.declared.token.Token.TheVariants as token

-- what computing a reading unfolds
unfoldable pub rules : List ℕ → List Answer
unfolding
    is_blank
    is_break
    break_size
    starts_with
    dropped
    kept_end
    trimmed
    within
    lead_of
    owes
    utf8
    blanks
    relation_of
    stops
    plain_end
    closing
    quotes_end
    text_end
    checked_of
    begins_hint
    eq_size
    piece
    is_void
    belongs_to
    multiline_end
    breaks_after
    ends_in_break
    line_count
    lines_of
    plan_newline
    plan_end
    plan_comment
    plan_item
    plan_key
    plan_plain
    plan_hint
    plan_value
    plan_entry
    plan_multiline
    plan_open
    plan_outdent
    plan_indented
    plan_on
    plan_at
    plan_with
    after_plan
    step_with
    step_rule
    fit_open
    fit
    step_of
    fresh
    is_end
    run
    tokens
rules d = tokens d

-- empty: no answers
pub empty : tokens [] ≡ []
unfolding rules
empty = refl

-- `a = """"b`: key, refusal 2, key
pub four_quotes : tokens (ascii "a = \"\"\"\"b") ≡ Some (Ok (token.MapKey 1 (part 0 1))) ∷ Some (Err (error CharactersAfterQuotes 1)) ∷ Some (Ok (token.MapKey 1 (part 4 9))) ∷ []
unfolding rules
four_quotes = refl

-- `a = """` LF `;x`: the empty key before the comment
pub hint-then-comment : tokens (ascii "a = \"\"\"\n;x")
    ≡ Some (Ok (token.MapKey 1 (part 0 1))) ∷ Some (Ok (token.MultilineHint 1 (part 7 7))) ∷ Some (Ok (token.Newline 1)) ∷ Some (Ok (token.MapKey 2 (part 8 8))) ∷ Some (Ok (token.Comment 2 (part 9 10))) ∷ []
unfolding rules
hint-then-comment = refl

-- one space then `a`
pub space-a : tokens (ascii " a") ≡ Some (Ok (token.Indent 1)) ∷ Some (Ok (token.MapKey 1 (part 1 2))) ∷ Some (Ok (token.Outdent 1 0)) ∷ []
unfolding rules
space-a = refl

-- `k` LF ` a = """` LF `  x`: the Outdent is on line 4
pub outdent_on_line_four : tokens (ascii "k\n a = \"\"\"\n  x")
    ≡ Some (Ok (token.MapKey 1 (part 0 1)))
    ∷ Some (Ok (token.Newline 1))
    ∷ Some (Ok (token.Indent 2))
    ∷ Some (Ok (token.MapKey 2 (part 3 4)))
    ∷ Some (Ok (token.MultilineHint 2 (part 10 10)))
    ∷ Some (Ok (token.Newline 2))
    ∷ Some (Ok (token.MultilineValue 3 (part 11 13) (part 13 14)))
    ∷ Some (Ok (token.Outdent 4 0))
    ∷ []
unfolding rules
outdent_on_line_four = refl
