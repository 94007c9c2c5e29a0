-- What a judgement leaves in words is what the ruling leaves.
use Rattle.parser_rules.proofs.Law.{by_sort}
use Rattle.parser_rules.specs.declared.ruling.Section.{Section}
use Rattle.text.specs.Numbers.{number_of}
use Rattle.std.specs.Prelude.{Some, None, Ok, Err, Option}
use Rattle.tokenizer.specs.Token.{Answer, bare, line_of, token_values, values_of}
use Prim.Native.Nat.{ℕ, ◌+◌}
use mathlib.Core.Path.{◌≡◌, refl}
use mathlib.Core.Bool.{Bool, true, false}
use native.Mathlib.Omega.{arith}
use lib.Dec.{leb}
use borrow.Author.Tests.{le-leb}
use Rattle.tokenizer.specs.Said.{said_by}
use Rattle.tokenizer.specs.declared.token.Token.TheVariants as token
use Rattle.parser_rules.specs.Ruling.{on_entry, on_outdent, on_indent, settled, after_entry, after_hint, on_token, on_end, ruling_of}
use Rattle.std.specs.Result.{is_err}
use Rattle.parser_rules.specs.Numbers.{awaited_number, awaited_line}
use Rattle.parser_rules.specs.Judging.{sort_number, opened_line, outdent_by, item_by, key_by, settled_by, after_entry_by, after_hint_by, judged_by}
use Rattle.parser_rules.specs.declared.ruling.Awaited.{Awaited}
use Rattle.parser_rules.specs.declared.ruling.Awaited.TheVariants as awaited
use Rattle.parser_rules.specs.declared.ruling.Ruling.{Ruling}
use Rattle.parser_rules.specs.declared.ruling.Ruling.TheVariants.{Says, End, Unfit}
use Rattle.parser_words.specs.ParserWords.{said_of, middle_by}
use Rattle.parser_rules.specs.declared.ruling.Verdict.{Verdict}
use Rattle.step_words.specs.Outcomes.{outcome_by}
use Rattle.step_words.specs.declared.outcome.Outcome.{Outcome}

past : (n : ℕ) → leb 256 (256 + n) ≡ true
past n = le-leb 256 (256 + n) (omega arith)

-- an outcome and a verdict leave the same middle words, whatever the count
abbrev pub SameMiddle : Outcome → Verdict → Type 0
SameMiddle o x =
    (n : ℕ) → middle_by (leb 256 o.answer.number) o.awaited o.line o.kept n
    ≡ middle_by (is_err x.answer) (awaited_number x.awaited) (awaited_line x.awaited) (said_of x.kept) n

-- an outcome says and leaves what a ruling does
abbrev pub Leaves : Outcome → Ruling → Type 0
Leaves o (Says x) =
    (o.answer ≡ said_by (values_of (Some x.answer)))
    × (SameMiddle o x
    × (o.change ≡ x.change))
Leaves o End = o.answer ≡ said_by (bare 0 0)
Leaves o Unfit = o.answer ≡ said_by (bare 271 0)

-- the outcome of c
abbrev Agrees : Awaited → Option Section → Bool → Answer → Type 0
Agrees a i full c =
    Leaves (outcome_by (judged_by (values_of c).number (awaited_number a) (sort_number i) full) (said_by (values_of c)) (awaited_number a) (awaited_line a) (opened_line i))
    (ruling_of a i full c)

at_rest : (i : Option Section) (full : Bool) (c : Answer) → Agrees awaited.Nothing i full c
unfolding ruling_of on_end on_token settled after_entry after_hint on_entry on_outdent on_indent values_of token_values line_of judged_by settled_by after_entry_by after_hint_by outdent_by item_by key_by outcome_by
at_rest i full None = refl
at_rest i full (Some (Ok (token.Newline k))) = (refl, (λ n. refl, refl))
at_rest i full (Some (Ok (token.Comment k p))) = (refl, (λ n. refl, refl))
at_rest i full (Some (Ok (token.Indent k))) = (refl, (λ n. refl, refl))
at_rest None full (Some (Ok (token.Outdent k o))) = refl
at_rest (Some s) full (Some (Ok (token.Outdent k o))) =
    by_sort (λ i. Agrees awaited.Nothing (Some i) full (Some (Ok (token.Outdent k o)))) (λ z. (refl, (λ n. refl, refl))) (λ z. (refl, (λ n. refl, refl))) (λ z. (refl, (λ n. refl, refl))) s
at_rest None full (Some (Ok (token.ListItem k))) = refl
at_rest (Some s) full (Some (Ok (token.ListItem k))) =
    by_sort (λ i. Agrees awaited.Nothing (Some i) full (Some (Ok (token.ListItem k)))) (λ z. (refl, (λ n. refl, refl))) (λ z. (refl, (λ n. refl, refl))) (λ z. (refl, (λ n. refl, refl))) s
at_rest None full (Some (Ok (token.MapKey k p))) = refl
at_rest (Some s) full (Some (Ok (token.MapKey k p))) =
    by_sort (λ i. Agrees awaited.Nothing (Some i) full (Some (Ok (token.MapKey k p)))) (λ z. (refl, (λ n. refl, refl))) (λ z. (refl, (λ n. refl, refl))) (λ z. (refl, (λ n. refl, refl))) s
at_rest i full (Some (Ok (token.Value k p))) = refl
at_rest i full (Some (Ok (token.MultilineHint k p))) = refl
at_rest i full (Some (Ok (token.MultilineValue k q p))) = refl
at_rest i full (Some (Ok (token.NoValue k))) = refl
at_rest i full (Some (Err e)) = rw (past (number_of e.refusal)) (refl, (λ n. rw (past (number_of e.refusal)), refl))

after-key : (l : ℕ) (i : Option Section) (full : Bool) (c : Answer) → Agrees (awaited.Value l) i full c
unfolding ruling_of on_end on_token settled after_entry after_hint on_entry on_outdent on_indent values_of token_values line_of judged_by settled_by after_entry_by after_hint_by outdent_by item_by key_by outcome_by
after-key l i full None = (refl, (λ n. refl, refl))
after-key l i full (Some (Ok (token.Newline k))) = (refl, (λ n. refl, refl))
after-key l i full (Some (Ok (token.Comment k p))) = (refl, (λ n. refl, refl))
after-key l i true (Some (Ok (token.Indent k))) = refl
after-key l i false (Some (Ok (token.Indent k))) = (refl, (λ n. refl, refl))
after-key l i full (Some (Ok (token.Outdent k o))) = (refl, (λ n. refl, refl))
after-key l i full (Some (Ok (token.ListItem k))) = (refl, (λ n. refl, refl))
after-key l i full (Some (Ok (token.MapKey k p))) = (refl, (λ n. refl, refl))
after-key l i full (Some (Ok (token.Value k p))) = (refl, (λ n. refl, refl))
after-key l i full (Some (Ok (token.MultilineHint k p))) = (refl, (λ n. refl, refl))
after-key l i full (Some (Ok (token.MultilineValue k q p))) = (refl, (λ n. refl, refl))
after-key l i full (Some (Ok (token.NoValue k))) = (refl, (λ n. refl, refl))
after-key l i full (Some (Err e)) = rw (past (number_of e.refusal)) (refl, (λ n. rw (past (number_of e.refusal)), refl))

after-hint : (l : ℕ) (i : Option Section) (full : Bool) (c : Answer) → Agrees (awaited.Multiline l) i full c
unfolding ruling_of on_end on_token settled after_entry after_hint on_entry on_outdent on_indent values_of token_values line_of judged_by settled_by after_entry_by after_hint_by outdent_by item_by key_by outcome_by
after-hint l i full None = (refl, (λ n. refl, refl))
after-hint l i full (Some (Ok (token.Newline k))) = (refl, (λ n. refl, refl))
after-hint l i full (Some (Ok (token.Comment k p))) = (refl, (λ n. refl, refl))
after-hint l i full (Some (Ok (token.Indent k))) = (refl, (λ n. refl, refl))
after-hint l i full (Some (Ok (token.Outdent k o))) = (refl, (λ n. refl, refl))
after-hint l i full (Some (Ok (token.ListItem k))) = (refl, (λ n. refl, refl))
after-hint l i full (Some (Ok (token.MapKey k p))) = (refl, (λ n. refl, refl))
after-hint l i full (Some (Ok (token.Value k p))) = (refl, (λ n. refl, refl))
after-hint l i full (Some (Ok (token.MultilineHint k p))) = (refl, (λ n. refl, refl))
after-hint l i full (Some (Ok (token.MultilineValue k q p))) = (refl, (λ n. refl, refl))
after-hint l i full (Some (Ok (token.NoValue k))) = (refl, (λ n. refl, refl))
after-hint l i full (Some (Err e)) = rw (past (number_of e.refusal)) (refl, (λ n. rw (past (number_of e.refusal)), refl))

pub agrees : (a : Awaited) (i : Option Section) (full : Bool) (c : Answer) → Agrees a i full c
agrees awaited.Nothing i full c = at_rest i full c
agrees (awaited.Value l) i full c = after-key l i full c
agrees (awaited.Multiline l) i full c = after-hint l i full c
