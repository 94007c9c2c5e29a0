-- THE LAW: what is judged by the number stands for the ruling.
use Rattle.std.specs.Prelude.{Option, Some, None, Ok, Err}
use Rattle.tokenizer.specs.Token.{Answer as Came, line_of, token_values, values_of}
use Prim.Native.Nat.{ℕ, ◌+◌}
use mathlib.Core.Path.{◌≡◌, refl}
use mathlib.Core.Bool.{Bool, true, false}
use native.Mathlib.Omega.{arith}
use lib.Dec.{leb}
use borrow.Author.Tests.{le-leb}
use Rattle.tokenizer.specs.declared.token.Token.TheVariants as token
use Rattle.parser_rules.specs.Ruling.{on_entry, on_outdent, on_indent, settled, after_entry, after_hint, on_token, on_end, ruling_of}
use Rattle.parser_rules.specs.declared.ruling.Sort.TheVariants as sort
use Rattle.parser_rules.specs.declared.ruling.Awaited.{Awaited}
use Rattle.parser_rules.specs.declared.ruling.Awaited.TheVariants as awaited
use Rattle.parser_rules.specs.declared.ruling.Sort.{Sort}
use Rattle.parser_rules.specs.declared.ruling.Section.{Section}
use Rattle.parser_rules.specs.Numbers.{awaited_number}
use Rattle.parser_rules.specs.Judging.{sort_number, opened_line, outdent_by, item_by, key_by, settled_by, after_entry_by, after_hint_by, judged_by, made_by, ruling_by}

past : (n : ℕ) → leb 256 (256 + n) ≡ true
past n = le-leb 256 (256 + n) (omega arith)

-- what is judged of c stands for the ruling of c
abbrev Stands : Awaited → Option Section → Bool → Came → Type 0
Stands a i full c = ruling_of a i full c ≡ ruling_by (judged_by (values_of c).number (awaited_number a) (sort_number i) full) a (opened_line i) c

-- a section by its sort
pub by_sort : (P : Section → Type 0) → ((o : ℕ) → P (record { sort = None; line = o })) → ((o : ℕ) → P (record { sort = Some sort.Map; line = o }))
    → ((o : ℕ) → P (record { sort = Some sort.List; line = o })) → (s : Section) → P s
by_sort P u m l s = on s.sort
  where
    on : (x : Option Sort) → P (record { sort = x; line = s.line })
    on None = u s.line
    on (Some sort.Map) = m s.line
    on (Some sort.List) = l s.line

at_rest : (i : Option Section) (full : Bool) (c : Came) → Stands awaited.Nothing i full c
unfolding ruling_of on_end on_token settled after_entry after_hint on_entry on_outdent on_indent values_of token_values line_of judged_by settled_by after_entry_by after_hint_by outdent_by item_by key_by made_by
at_rest i full None = refl
at_rest i full (Some (Ok (token.Newline l))) = refl
at_rest i full (Some (Ok (token.Comment l p))) = refl
at_rest i full (Some (Ok (token.Indent l))) = refl
at_rest None full (Some (Ok (token.Outdent l o))) = refl
at_rest (Some s) full (Some (Ok (token.Outdent l o))) =
    by_sort (λ i. Stands awaited.Nothing (Some i) full (Some (Ok (token.Outdent l o)))) (λ k. refl) (λ k. refl) (λ k. refl) s
at_rest None full (Some (Ok (token.ListItem l))) = refl
at_rest (Some s) full (Some (Ok (token.ListItem l))) =
    by_sort (λ i. Stands awaited.Nothing (Some i) full (Some (Ok (token.ListItem l)))) (λ o. refl) (λ o. refl) (λ o. refl) s
at_rest None full (Some (Ok (token.MapKey l p))) = refl
at_rest (Some s) full (Some (Ok (token.MapKey l p))) =
    by_sort (λ i. Stands awaited.Nothing (Some i) full (Some (Ok (token.MapKey l p)))) (λ o. refl) (λ o. refl) (λ o. refl) s
at_rest i full (Some (Ok (token.Value l p))) = refl
at_rest i full (Some (Ok (token.MultilineHint l p))) = refl
at_rest i full (Some (Ok (token.MultilineValue l q p))) = refl
at_rest i full (Some (Ok (token.NoValue l))) = refl
at_rest i full (Some (Err e)) = refl

after-key : (l : ℕ) (i : Option Section) (full : Bool) (c : Came) → Stands (awaited.Value l) i full c
unfolding ruling_of on_end on_token settled after_entry after_hint on_entry on_outdent on_indent values_of token_values line_of judged_by settled_by after_entry_by after_hint_by outdent_by item_by key_by made_by
after-key l i full None = refl
after-key l i full (Some (Ok (token.Newline k))) = refl
after-key l i full (Some (Ok (token.Comment k p))) = refl
after-key l i true (Some (Ok (token.Indent k))) = refl
after-key l i false (Some (Ok (token.Indent k))) = refl
after-key l i full (Some (Ok (token.Outdent k o))) = refl
after-key l i full (Some (Ok (token.ListItem k))) = refl
after-key l i full (Some (Ok (token.MapKey k p))) = refl
after-key l i full (Some (Ok (token.Value k p))) = refl
after-key l i full (Some (Ok (token.MultilineHint k p))) = refl
after-key l i full (Some (Ok (token.MultilineValue k q p))) = refl
after-key l i full (Some (Ok (token.NoValue k))) = refl
after-key l i full (Some (Err e)) = refl

after-hint : (l : ℕ) (i : Option Section) (full : Bool) (c : Came) → Stands (awaited.Multiline l) i full c
unfolding ruling_of on_end on_token settled after_entry after_hint on_entry on_outdent on_indent values_of token_values line_of judged_by settled_by after_entry_by after_hint_by outdent_by item_by key_by made_by
after-hint l i full None = refl
after-hint l i full (Some (Ok (token.Newline k))) = refl
after-hint l i full (Some (Ok (token.Comment k p))) = refl
after-hint l i full (Some (Ok (token.Indent k))) = refl
after-hint l i full (Some (Ok (token.Outdent k o))) = refl
after-hint l i full (Some (Ok (token.ListItem k))) = refl
after-hint l i full (Some (Ok (token.MapKey k p))) = refl
after-hint l i full (Some (Ok (token.Value k p))) = refl
after-hint l i full (Some (Ok (token.MultilineHint k p))) = refl
after-hint l i full (Some (Ok (token.MultilineValue k q p))) = refl
after-hint l i full (Some (Ok (token.NoValue k))) = refl
after-hint l i full (Some (Err e)) = refl

pub stands-for : (a : Awaited) (i : Option Section) (full : Bool) (c : Came) → Stands a i full c
stands-for awaited.Nothing i full c = at_rest i full c
stands-for (awaited.Value l) i full c = after-key l i full c
stands-for (awaited.Multiline l) i full c = after-hint l i full c
