-- The rulings on what the tokenizer answers for some layouts of document 01, computed from the rules: in proofs/Examples of the
-- parser the whole layouts are, over the same rules. Here they stand so that an edit of rule and code alike is refused.
use Rattle.std.specs.Prelude.{Option, Some, None, Ok, Err, [], ◌∷◌, map}
use Rattle.text.specs.Numbers.{error}
use Rattle.text.specs.declared.refusals.Refusal.{Refusal}
use Rattle.text.specs.declared.refusals.Refusal.TheVariants.{MissingMultiline, UnexpectedKey, UnexpectedItem, UnexpectedIndent}
use Prim.Native.Nat.{ℕ}
use mathlib.Core.Path.{◌≡◌, refl}
use mathlib.Core.Bool.{false}
use Rattle.text.specs.Bytes.{part}
use Rattle.tokenizer.specs.declared.token.Token.{Token}
use Rattle.tokenizer.specs.declared.token.Token.TheVariants.{Newline, Indent, Outdent, ListItem, MapKey, Value}
use Rattle.parser_rules.specs.Numbers.{number_of_sort, awaited_number, awaited_line}
use Rattle.parser_rules.specs.Ruling.{on_entry, on_outdent, on_indent, settled, after_entry, after_hint, on_token, on_end, ruling_of}
use Rattle.parser_rules.specs.declared.ruling.Sort.{Sort}
use Rattle.parser_rules.specs.declared.ruling.Sort.TheVariants.{Map, List}
use Rattle.parser_rules.specs.declared.ruling.Awaited.{Awaited}
use Rattle.parser_rules.specs.declared.ruling.Awaited.TheVariants as awaited
use Rattle.parser_rules.specs.declared.ruling.Kept.TheVariants as kept
use Rattle.parser_rules.specs.declared.ruling.Section.{Section}
use Rattle.parser_rules.specs.declared.ruling.Change.{Change}
use Rattle.parser_rules.specs.declared.ruling.Change.TheVariants.{Keep, Fix, Open, Close}
use Rattle.parser_rules.specs.declared.ruling.Ruling.{Ruling}
use Rattle.parser_rules.specs.declared.ruling.Ruling.TheVariants.{Says}

-- the token is given on
abbrev given : Token → Awaited → Change → Ruling
given t a c = Says (record { answer = Ok t; awaited = a; change = c; kept = kept.Nothing })

-- the refusal is given
abbrev refused : Refusal → ℕ → Ruling
refused r l = Says (record { answer = Err (error r l); awaited = awaited.Nothing; change = Keep; kept = kept.Nothing })

abbrev section : Option Sort → ℕ → Section
section s l = record { sort = s; line = l }

-- what computing a ruling unfolds
unfoldable on : Awaited → Option Section → Token → Ruling
unfolding on_entry on_outdent on_indent settled after_entry after_hint on_token on_end ruling_of
on a i t = ruling_of a i false (Some (Ok t))

-- `a` LF `  = "x"` LF, answer by answer
key : on awaited.Nothing (Some (section None 0)) (MapKey 1 (part 0 1)) ≡ given (MapKey 1 (part 0 1)) (awaited.Value 1) (Fix Map)
unfolding on
key = refl

newline : on (awaited.Value 1) (Some (section (Some Map) 0)) (Newline 1) ≡ given (Newline 1) (awaited.Value 1) Keep
unfolding on
newline = refl

indent : on (awaited.Value 1) (Some (section (Some Map) 0)) (Indent 2) ≡ given (Indent 2) awaited.Nothing (Open 1)
unfolding on
indent = refl

item : on awaited.Nothing (Some (section None 1)) (ListItem 2) ≡ given (ListItem 2) (awaited.Value 2) (Fix List)
unfolding on
item = refl

value : on (awaited.Value 2) (Some (section (Some List) 1)) (Value 2 (part 6 9)) ≡ given (Value 2 (part 6 9)) awaited.Nothing Keep
unfolding on
value = refl

outdent : on awaited.Nothing (Some (section (Some List) 1)) (Outdent 3 0) ≡ given (Outdent 3 1) awaited.Nothing Close
unfolding on
outdent = refl

-- one space then `a`: refusal 7 on line 1
space : on awaited.Nothing (Some (section None 0)) (Indent 1) ≡ refused UnexpectedIndent 1
unfolding on
space = refl

-- a key among items is 5, an item among keys 6, and after a hint a key is 4 on the line of the hint's key
key-among-items : on awaited.Nothing (Some (section (Some List) 0)) (MapKey 3 (part 8 9)) ≡ refused UnexpectedKey 3
unfolding on
key-among-items = refl

item-among-keys : on awaited.Nothing (Some (section (Some Map) 0)) (ListItem 2) ≡ refused UnexpectedItem 2
unfolding on
item-among-keys = refl

key-after-hint : on (awaited.Multiline 1) (Some (section (Some Map) 0)) (MapKey 2 (part 8 9)) ≡ refused MissingMultiline 1
unfolding on
key-after-hint = refl

-- the numbers of the sorts, and of what is awaited, with its line
sorts : map number_of_sort (None ∷ Some Map ∷ Some List ∷ []) ≡ 0 ∷ 1 ∷ 2 ∷ []
sorts = refl

awaits : map awaited_number (awaited.Nothing ∷ awaited.Value 7 ∷ awaited.Multiline 7 ∷ []) ≡ 0 ∷ 1 ∷ 2 ∷ []
awaits = refl

lines : map awaited_line (awaited.Nothing ∷ awaited.Value 7 ∷ awaited.Multiline 7 ∷ []) ≡ 0 ∷ 7 ∷ 7 ∷ []
lines = refl
