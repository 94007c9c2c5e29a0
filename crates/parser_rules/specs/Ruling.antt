-- Law: document 01, 'Parser', and document 02, request 5, the line that an Outdent carries: what the parser makes of
-- one answer of the tokenizer, as a ruling that knows neither the document nor the record of sections.
use Rattle.std.specs.Prelude.{Option, Some, None, Ok, Err, ℕ, Bool, true, false, cond}
use Rattle.tokenizer.specs.Token.{Answer as Came}
use Rattle.text.specs.Numbers.{error}
use Rattle.text.specs.declared.refusals.Refusal.{Refusal}
use Rattle.text.specs.declared.refusals.Refusal.TheVariants.{MissingMultiline, UnexpectedKey, UnexpectedItem, UnexpectedIndent}
use Rattle.tokenizer.specs.declared.token.Token.{Token}
use Rattle.tokenizer.specs.declared.token.Token.TheVariants.{
  Newline,
  Comment,
  Indent,
  Outdent,
  ListItem,
  MapKey,
  Value,
  MultilineHint,
  MultilineValue,
  NoValue,
}
use Rattle.parser_rules.specs.declared.ruling.Sort.{Sort}
use Rattle.parser_rules.specs.declared.ruling.Sort.TheVariants.{Map, List}
use Rattle.parser_rules.specs.declared.ruling.Awaited.{Awaited}
use Rattle.parser_rules.specs.declared.ruling.Awaited.TheVariants as awaited
use Rattle.parser_rules.specs.declared.ruling.Kept.{Kept}
use Rattle.parser_rules.specs.declared.ruling.Kept.TheVariants as kept
use Rattle.parser_rules.specs.declared.ruling.Section.{Section}
use Rattle.parser_rules.specs.declared.ruling.Change.{Change}
use Rattle.parser_rules.specs.declared.ruling.Change.TheVariants.{Keep, Fix, Open, Close}
use Rattle.parser_rules.specs.declared.ruling.Ruling.{Ruling}
use Rattle.parser_rules.specs.declared.ruling.Ruling.TheVariants.{Says, End, Unfit}

-- the token is given on
abbrev pub gives : Token → Awaited → Change → Ruling
gives t a c = Says (record { answer = Ok t; awaited = a; change = c; kept = kept.Nothing })

-- a refusal, after which calls give End; the sections stay, and nothing is kept
abbrev pub refuses : Refusal → ℕ → Awaited → Ruling
refuses r l a = Says (record { answer = Err (error r l); awaited = a; change = Keep; kept = kept.Nothing })

-- NoValue with the key's or item's line; what came is kept for the next call
abbrev pub no_value : ℕ → Kept → Ruling
no_value l k = Says (record { answer = Ok (NoValue l); awaited = awaited.Nothing; change = Keep; kept = k })

-- whether a section of the first sort has no room for an entry of the second: the first key or item fixes it
abbrev pub clashes : Option Sort → Sort → Bool
clashes None s = false
clashes (Some Map) Map = false
clashes (Some Map) List = true
clashes (Some List) Map = true
clashes (Some List) List = false

-- the first key or item fixes its section's sort, and the other is the refusal r
unfoldable pub on_entry : Token → ℕ → Sort → Refusal → Option Section → Ruling
on_entry t l s r None = Unfit
on_entry t l s r (Some i) = cond (clashes i.sort s) (refuses r l awaited.Nothing) (gives t (awaited.Value l) (Fix s))

-- Outdent closes, and carries the line of the key or item that opened the section
unfoldable pub on_outdent : ℕ → Option Section → Ruling
on_outdent l None = Unfit
on_outdent l (Some i) = gives (Outdent l i.line) awaited.Nothing Close

-- an Indent after a key or item of line n opens a section of no sort yet, whose record keeps n
unfoldable pub on_indent : Token → ℕ → Bool → Ruling
on_indent t n full = cond full Unfit (gives t awaited.Nothing (Open n))

-- Nothing is awaited: Newline and Comment pass, Indent is 7, a key is 5 or an item 6 where the section is of the other sort; a
-- Value, hint or multiline value is unfit
unfoldable pub settled : Option Section → Token → Ruling
settled i (Newline l) = gives (Newline l) awaited.Nothing Keep
settled i (Comment l p) = gives (Comment l p) awaited.Nothing Keep
settled i (Indent l) = refuses UnexpectedIndent l awaited.Nothing
settled i (Outdent l o) = on_outdent l i
settled i (ListItem l) = on_entry (ListItem l) l List UnexpectedItem i
settled i (MapKey l p) = on_entry (MapKey l p) l Map UnexpectedKey i
settled i (Value l p) = Unfit
settled i (MultilineHint l p) = Unfit
settled i (MultilineValue l q p) = Unfit
settled i (NoValue l) = Unfit

-- After a key or item of line n: hint and Value pass, Indent opens; all else gives NoValue
unfoldable pub after_entry : ℕ → Bool → Token → Ruling
after_entry n full (Newline l) = gives (Newline l) (awaited.Value n) Keep
after_entry n full (Comment l p) = gives (Comment l p) (awaited.Value n) Keep
after_entry n full (Indent l) = on_indent (Indent l) n full
after_entry n full (Outdent l o) = no_value n (kept.Token (Outdent l o))
after_entry n full (ListItem l) = no_value n (kept.Token (ListItem l))
after_entry n full (MapKey l p) = no_value n (kept.Token (MapKey l p))
after_entry n full (Value l p) = gives (Value l p) awaited.Nothing Keep
after_entry n full (MultilineHint l p) = gives (MultilineHint l p) (awaited.Multiline n) Keep
after_entry n full (MultilineValue l q p) = no_value n (kept.Token (MultilineValue l q p))
after_entry n full (NoValue l) = no_value n (kept.Token (NoValue l))

-- After a hint only a multiline value may come, else 4 on the key's or item's line
unfoldable pub after_hint : ℕ → Token → Ruling
after_hint n (Newline l) = gives (Newline l) (awaited.Multiline n) Keep
after_hint n (Comment l p) = gives (Comment l p) (awaited.Multiline n) Keep
after_hint n (Indent l) = refuses MissingMultiline n awaited.Nothing
after_hint n (Outdent l o) = refuses MissingMultiline n awaited.Nothing
after_hint n (ListItem l) = refuses MissingMultiline n awaited.Nothing
after_hint n (MapKey l p) = refuses MissingMultiline n awaited.Nothing
after_hint n (Value l p) = refuses MissingMultiline n awaited.Nothing
after_hint n (MultilineHint l p) = refuses MissingMultiline n awaited.Nothing
after_hint n (MultilineValue l q p) = gives (MultilineValue l q p) awaited.Nothing Keep
after_hint n (NoValue l) = refuses MissingMultiline n awaited.Nothing

unfoldable pub on_token : Awaited → Option Section → Bool → Token → Ruling
on_token awaited.Nothing i full t = settled i t
on_token (awaited.Value l) i full t = after_entry l full t
on_token (awaited.Multiline l) i full t = after_hint l t

-- the end: End changes nothing; a key or item gets NoValue, and a hint is 4
unfoldable pub on_end : Awaited → Ruling
on_end awaited.Nothing = End
on_end (awaited.Value l) = no_value l kept.End
on_end (awaited.Multiline l) = refuses MissingMultiline l awaited.Nothing

-- a tokenizer refusal is given first of all
unfoldable pub ruling_of : Awaited → Option Section → Bool → Came → Ruling
ruling_of a i full None = on_end a
ruling_of a i full (Some (Ok t)) = on_token a i full t
ruling_of a i full (Some (Err e)) = refuses e.refusal e.line a
