-- Steps of document 01's layouts as plans, computed from the rules: an edit of rule and code alike is refused here.
use Prim.Native.Nat.{ℕ}
use mathlib.Core.Path.{◌≡◌, refl}
use mathlib.Core.List.{List, []}
use mathlib.Core.Bool.{Bool, true, false}
use Rattle.text.specs.Ascii.{ascii}
use Rattle.text.specs.Bytes.{is_blank, is_break, break_size, starts_with, part}
use Rattle.text.specs.declared.refusals.Refusal.TheVariants.{CharactersAfterQuotes, TooManyOpen}
use Rattle.text.specs.Trimming.{dropped, kept_end, trimmed}
use Rattle.utf8.specs.Utf8.{within, lead_of, owes, utf8}
use Rattle.tokenizer_scans.specs.Scans.{
  relation_of,
  stops,
  plain_end,
  closing,
  quotes_end,
  text_end,
  checked_of,
  begins_hint,
  eq_size,
  piece,
  is_void,
  belongs_to,
  multiline_end,
  breaks_after,
  ends_in_break,
  line_count,
  lines_of,
}
use Rattle.tokenizer_rules.specs.Plan.{
  plan_newline,
  plan_end,
  plan_comment,
  plan_item,
  plan_key,
  plan_plain,
  plan_hint,
  plan_value,
  plan_entry,
  plan_multiline,
  plan_open,
  plan_outdent,
  plan_indented,
  plan_on,
  plan_at,
}
use Rattle.tokenizer_rules.specs.declared.plan.Marks.{Marks}
use Rattle.tokenizer_rules.specs.declared.plan.Says.{Says}
use Rattle.tokenizer_rules.specs.declared.plan.Says.TheVariants.{
  End,
  Newline,
  Comment,
  Indent,
  Outdent,
  ListItem,
  MapKey,
  Value,
  MultilineHint,
  MultilineValue,
  Refused,
}
use Rattle.tokenizer_rules.specs.declared.plan.Change.{Change}
use Rattle.tokenizer_rules.specs.declared.plan.Change.TheVariants.{Keep, Open, Close, Hold}
use Rattle.tokenizer_rules.specs.declared.plan.Plan.{Plan}

abbrev marks : Bool → Bool → Bool → Marks
marks i v m = record { indent = i; value = v; multiline = m }

abbrev plan : Says → ℕ → ℕ → Marks → Change → Plan
plan s n l m c = record { says = s; pass = n; lines = l; marks = m; change = c }

-- what computing a plan unfolds; the plan at the line's start, of depth open sections, with the innermost's and this indentation
at : Marks → ℕ → List ℕ → List ℕ → List ℕ → ℕ → Plan
unfolding is_blank is_break break_size starts_with dropped kept_end trimmed within lead_of owes utf8 relation_of stops plain_end closing quotes_end text_end checked_of begins_hint eq_size piece is_void belongs_to multiline_end breaks_after ends_in_break line_count lines_of plan_newline plan_end plan_comment plan_item plan_key plan_plain plan_hint plan_value plan_entry plan_multiline plan_open plan_outdent plan_indented plan_on plan_at
at m depth inner indent rest k = plan_at m depth inner indent rest k

-- Rule 2: a CR LF is passed and adds a line
newline : plan_at (marks false true false) 0 [] [] (ascii "\r\na") 0 ≡ plan Newline 2 1 (marks true false false) Keep
unfolding at
newline = refl

-- Rule 3: the end closes a section, then is End
closes : plan_at (marks true false false) 1 (ascii " ") [] [] 0 ≡ plan Outdent 0 0 (marks true false false) Close
unfolding at
closes = refl

end : plan_at (marks true false false) 0 [] [] [] 0 ≡ plan End 0 0 (marks true false false) Keep
unfolding at
end = refl

-- Rule 4: a comment closes no section
comment : plan_at (marks true false false) 1 (ascii " ") [] (ascii "; a \nb") 0 ≡ plan (Comment (part 2 3)) 4 0 (marks true false false) Keep
unfolding at
comment = refl

-- Rule 5: deeper opens, and is 3 with 64 open; a tab for a space closes
opens : plan_at (marks true false false) 0 [] (ascii " ") (ascii " a") 1 ≡ plan Indent 1 0 (marks false false false) Open
unfolding at
opens = refl

section-65 : plan_at (marks true false false) 64 (ascii " ") (ascii "  ") (ascii "  a\nb") 2 ≡ plan (Refused TooManyOpen) 3 0 (marks false false false) Keep
unfolding at
section-65 = refl

tab-for-space : plan_at (marks true false false) 1 (ascii " ") (ascii "\t") (ascii "\ta") 1 ≡ plan Outdent 1 0 (marks true false false) Hold
unfolding at
tab-for-space = refl

-- Rule 6: an item, and the key of `a = """"b`
item : plan_at (marks true false false) 0 [] [] (ascii "= x") 0 ≡ plan ListItem 1 0 (marks false true false) Keep
unfolding at
item = refl

key : plan_at (marks true false false) 0 [] [] (ascii "a = \"\"\"\"b") 0 ≡ plan (MapKey (part 0 1)) 3 0 (marks false true false) Keep
unfolding at
key = refl

-- its value: a fourth quote is 2, with the place unmoved and the value mark cleared
four_quotes : plan_at (marks false true false) 0 [] [] (ascii " \"\"\"\"b") 1 ≡ plan (Refused CharactersAfterQuotes) 0 0 (marks false false false) Keep
unfolding at
four_quotes = refl

-- a hint sets the multiline mark; a value does not
hint : plan_at (marks false true false) 0 [] [] (ascii " \"\"\"txt\n") 1 ≡ plan (MultilineHint (part 4 7)) 7 0 (marks false false true) Keep
unfolding at
hint = refl

value : plan_at (marks false true false) 0 [] [] (ascii " \"x\"\n") 1 ≡ plan (Value (part 1 4)) 4 0 (marks false false false) Keep
unfolding at
value = refl

-- `  x` behind a hint: a multiline value with its one line
multiline : plan_at (marks true false true) 1 (ascii " ") (ascii "  ") (ascii "  x") 2 ≡ plan (MultilineValue (part 2 3)) 3 1 (marks true false false) Keep
unfolding at
multiline = refl
