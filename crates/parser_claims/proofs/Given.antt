-- What the parser makes of a token that came, as the list goes by it: it gives the token on, or stops, or says NoValue
-- first. And what a token that is given on carries, makes awaited, and does to the sections.
use Rattle.text.specs.declared.refusals.Refusal.TheVariants.{UnexpectedKey, UnexpectedItem}
use Rattle.text.specs.declared.refusals.Refusal.{Refusal}
use Rattle.parser_rules.specs.declared.ruling.Section.{Section}
use Rattle.std.specs.Prelude.{Option, Some, None}
use Prim.Native.Nat.{ℕ, ◌<◌}
use mathlib.Core.Path.{◌≡◌, refl}
use mathlib.Core.Bool.{false}
use Rattle.text.proofs.Cases.{on-cond}
use Rattle.text.specs.declared.bytes.Part.{Part}
use Rattle.tokenizer.specs.declared.token.Token.{Token}
use Rattle.tokenizer.specs.declared.token.Token.TheVariants.{
  Newline,
  Comment,
  Indent,
  Outdent,
  ListItem,
  MapKey,
  Value,
  MultilineHint,
  MultilineValue,
  NoValue,
}
use Rattle.parser_rules.specs.Ruling.{
  gives as giving,
  refuses,
  no_value,
  clashes,
  on_entry,
  on_outdent,
  on_indent,
  settled,
  after_entry,
  after_hint,
  on_token,
}
use Rattle.parser_rules.specs.declared.ruling.Sort.{Sort}
use Rattle.parser_rules.specs.declared.ruling.Sort.TheVariants.{Map, List}
use Rattle.parser_rules.specs.declared.ruling.Awaited.{Awaited}
use Rattle.parser_rules.specs.declared.ruling.Awaited.TheVariants as awaited
use Rattle.parser_rules.specs.declared.ruling.Kept.TheVariants as kept
use Rattle.parser_rules.specs.declared.ruling.Change.{Change}
use Rattle.parser_rules.specs.declared.ruling.Change.TheVariants.{Keep, Fix, Open, Close}
use Rattle.parser_rules.specs.declared.ruling.Ruling.{Ruling}
use Rattle.parser_rules.specs.declared.ruling.Ruling.TheVariants.{Unfit}

-- a token that leaves the sections as they are
pub data Plain : Token → Type 0 where
  newline : {l : ℕ} → Plain (Newline l)
  comment : {l : ℕ} {p : Part} → Plain (Comment l p)
  value : {l : ℕ} {p : Part} → Plain (Value l p)
  hint : {l : ℕ} {p : Part} → Plain (MultilineHint l p)
  multiline : {l : ℕ} {i p : Part} → Plain (MultilineValue l i p)

-- a key or item, its line, and its sort
pub data Entry : Token → ℕ → Sort → Type 0 where
  item : {l : ℕ} → Entry (ListItem l) l List
  key : {l : ℕ} {p : Part} → Entry (MapKey l p) l Map

-- what is awaited is due to a key or item of line k
abbrev pub OfLine : ℕ → Awaited → Type 0
OfLine k awaited.Nothing = Unit {0}
OfLine k (awaited.Value n) = (0 < k) × (n ≡ k)
OfLine k (awaited.Multiline n) = (0 < k) × (n ≡ k)

-- w is awaited before the token, and i is the innermost section; then the token that is given, what is awaited, and the change
pub data Moves (w : Awaited) (i : Option Section) : Token → Token → Awaited → Change → Type 0 where
  passes : {x : Token} {a : Awaited} → Plain x → ((k : ℕ) → OfLine k w → OfLine k a) → Moves w i x x a Keep
  enters : {x : Token} {l : ℕ} {s : Sort} {j : Section} → Entry x l s → i ≡ Some j → clashes j.sort s ≡ false
      → Moves w i x x (awaited.Value l) (Fix s)
  opens : {l n : ℕ} → w ≡ awaited.Value n → Moves w i (Indent l) (Indent l) awaited.Nothing (Open n)
  closes : {l o : ℕ} {j : Section} → i ≡ Some j → Moves w i (Outdent l o) (Outdent l j.line) awaited.Nothing Close

-- a ruling on the token x
pub data Given (w : Awaited) (i : Option Section) (x : Token) : Ruling → Type 0 where
  gives : {y : Token} {a : Awaited} {c : Change} → Moves w i x y a c → Given w i x (giving y a c)
  stops : {r : Refusal} {l : ℕ} {a : Awaited} → Given w i x (refuses r l a)
  unfit : Given w i x Unfit

-- and where NoValue may come first, x being kept
pub data Ruled (w : Awaited) (i : Option Section) (x : Token) : Ruling → Type 0 where
  once : {r : Ruling} → Given w i x r → Ruled w i x r
  keeps : {l : ℕ} → Ruled w i x (no_value l (kept.Token x))

on-entry : {x : Token} {l : ℕ} {s : Sort} → Entry x l s → (r : Refusal) (i : Option Section) → Given awaited.Nothing i x (on_entry x l s r i)
unfolding on_entry
on-entry p r None = unfit
on-entry {s = s} p r (Some j) = on-cond (Given awaited.Nothing (Some j) _) (clashes j.sort s) (λ e. stops) (λ e. gives (enters p refl e))

on-outdent : (l o : ℕ) (i : Option Section) → Given awaited.Nothing i (Outdent l o) (on_outdent l i)
unfolding on_outdent
on-outdent l o None = unfit
on-outdent l o (Some j) = gives (closes refl)

-- what is awaited stays
pass : {w : Awaited} {i : Option Section} {x : Token} → Plain x → Given w i x (giving x w Keep)
pass p = gives (passes p (λ k h. h))

-- nothing more is awaited
last : {w : Awaited} {i : Option Section} {x : Token} → Plain x → Given w i x (giving x awaited.Nothing Keep)
last p = gives (passes p (λ k h. tt))

pub on-settled : (i : Option Section) (x : Token) → Given awaited.Nothing i x (settled i x)
unfolding settled
on-settled i (Newline l) = pass newline
on-settled i (Comment l p) = pass comment
on-settled i (Indent l) = stops
on-settled i (Outdent l o) = on-outdent l o i
on-settled i (ListItem l) = on-entry item UnexpectedItem i
on-settled i (MapKey l p) = on-entry key UnexpectedKey i
on-settled i (Value l p) = unfit
on-settled i (MultilineHint l p) = unfit
on-settled i (MultilineValue l q p) = unfit
on-settled i (NoValue l) = unfit

after-entry : (n : ℕ) (i : Option Section) (x : Token) → Ruled (awaited.Value n) i x (after_entry n false x)
unfolding after_entry on_indent
after-entry n i (Newline l) = once (pass newline)
after-entry n i (Comment l p) = once (pass comment)
after-entry n i (Indent l) = once (gives (opens refl))
after-entry n i (Outdent l o) = keeps
after-entry n i (ListItem l) = keeps
after-entry n i (MapKey l p) = keeps
after-entry n i (Value l p) = once (last value)
after-entry n i (MultilineHint l p) = once (gives (passes hint (λ k h. h)))
after-entry n i (MultilineValue l q p) = keeps
after-entry n i (NoValue l) = keeps

after-hint : (n : ℕ) (i : Option Section) (x : Token) → Given (awaited.Multiline n) i x (after_hint n x)
unfolding after_hint
after-hint n i (Newline l) = pass newline
after-hint n i (Comment l p) = pass comment
after-hint n i (Indent l) = stops
after-hint n i (Outdent l o) = stops
after-hint n i (ListItem l) = stops
after-hint n i (MapKey l p) = stops
after-hint n i (Value l p) = stops
after-hint n i (MultilineHint l p) = stops
after-hint n i (MultilineValue l q p) = last multiline
after-hint n i (NoValue l) = stops

pub on-token : (a : Awaited) (i : Option Section) (x : Token) → Ruled a i x (on_token a i false x)
unfolding on_token
on-token awaited.Nothing i x = once (on-settled i x)
on-token (awaited.Value n) i x = after-entry n i x
on-token (awaited.Multiline n) i x = once (after-hint n i x)
