-- What a ruling says does not stop: it is a token, a refusal by 4 to 7, or the tokenizer's refusal, which is not 15.
use Rattle.text.specs.declared.refusals.Refusal.TheVariants.{UnexpectedKey, UnexpectedItem}
use Rattle.text.specs.declared.refusals.Refusal.{Refusal}
use Rattle.parser_rules.specs.declared.ruling.Section.{Section}
use Rattle.text.specs.Numbers.{number_of}
use Rattle.std.specs.Prelude.{Some, None, Ok, Err, Option}
use Rattle.tokenizer.specs.Token.{Answer}
use Prim.Native.Nat.{ℕ}
use mathlib.Core.Path.{◌≡◌, refl}
use mathlib.Core.Bool.{Bool, false}
use lib.Dec.{eqb}
use Rattle.text.proofs.Cases.{on-cond}
use Rattle.tokenizer.specs.declared.token.Token.{Token}
use Rattle.tokenizer.specs.declared.token.Token.TheVariants as token
use Rattle.parser_rules.specs.Ruling.{clashes, on_entry, on_outdent, on_indent, settled, after_entry, after_hint, on_token, on_end, ruling_of}
use Rattle.parser_rules.specs.declared.ruling.Sort.{Sort}
use Rattle.parser_rules.specs.declared.ruling.Awaited.{Awaited}
use Rattle.parser_rules.specs.declared.ruling.Awaited.TheVariants as awaited
use Rattle.parser_rules.specs.declared.ruling.Ruling.{Ruling}
use Rattle.parser_rules.specs.declared.ruling.Ruling.TheVariants.{Says, End, Unfit}
use Rattle.parser_words.specs.Stops.{is_stop}

-- what it says, if anything, does not stop
abbrev pub GoesOn : Ruling → Type 0
GoesOn (Says v) = is_stop (Some v.answer) ≡ false
GoesOn End = Unit {0}
GoesOn Unfit = Unit {0}

-- what came is not 15
abbrev pub Fair : Answer → Type 0
Fair None = Unit {0}
Fair (Some (Ok t)) = Unit {0}
Fair (Some (Err e)) = eqb (number_of e.refusal) 15 ≡ false

entry : (t : Token) (l : ℕ) (s : Sort) (r : Refusal) (i : Option Section) → eqb (number_of r) 15 ≡ false → GoesOn (on_entry t l s r i)
unfolding on_entry is_stop
entry t l s r None h = tt
entry t l s r (Some i) h = on-cond GoesOn (clashes i.sort s) (λ e. h) (λ e. refl)

outdent : (l : ℕ) (i : Option Section) → GoesOn (on_outdent l i)
unfolding on_outdent is_stop
outdent l None = tt
outdent l (Some i) = refl

at_rest : (i : Option Section) (t : Token) → GoesOn (settled i t)
unfolding settled is_stop
at_rest i (token.Newline l) = refl
at_rest i (token.Comment l p) = refl
at_rest i (token.Indent l) = refl
at_rest i (token.Outdent l o) = outdent l i
at_rest i (token.ListItem l) = entry (token.ListItem l) l _ UnexpectedItem i refl
at_rest i (token.MapKey l p) = entry (token.MapKey l p) l _ UnexpectedKey i refl
at_rest i (token.Value l p) = tt
at_rest i (token.MultilineHint l p) = tt
at_rest i (token.MultilineValue l q p) = tt
at_rest i (token.NoValue l) = tt

after-key : (n : ℕ) (full : Bool) (t : Token) → GoesOn (after_entry n full t)
unfolding after_entry on_indent is_stop
after-key n full (token.Newline l) = refl
after-key n full (token.Comment l p) = refl
after-key n full (token.Indent l) = on-cond GoesOn full (λ e. tt) (λ e. refl)
after-key n full (token.Outdent l o) = refl
after-key n full (token.ListItem l) = refl
after-key n full (token.MapKey l p) = refl
after-key n full (token.Value l p) = refl
after-key n full (token.MultilineHint l p) = refl
after-key n full (token.MultilineValue l q p) = refl
after-key n full (token.NoValue l) = refl

after-hint : (n : ℕ) (t : Token) → GoesOn (after_hint n t)
unfolding after_hint is_stop
after-hint n (token.Newline l) = refl
after-hint n (token.Comment l p) = refl
after-hint n (token.Indent l) = refl
after-hint n (token.Outdent l o) = refl
after-hint n (token.ListItem l) = refl
after-hint n (token.MapKey l p) = refl
after-hint n (token.Value l p) = refl
after-hint n (token.MultilineHint l p) = refl
after-hint n (token.MultilineValue l q p) = refl
after-hint n (token.NoValue l) = refl

pub ruling-goes-on : (a : Awaited) (i : Option Section) (full : Bool) (c : Answer) → Fair c → GoesOn (ruling_of a i full c)
unfolding ruling_of on_token on_end is_stop
ruling-goes-on awaited.Nothing i full None h = tt
ruling-goes-on (awaited.Value l) i full None h = refl
ruling-goes-on (awaited.Multiline l) i full None h = refl
ruling-goes-on awaited.Nothing i full (Some (Ok t)) h = at_rest i t
ruling-goes-on (awaited.Value l) i full (Some (Ok t)) h = after-key l full t
ruling-goes-on (awaited.Multiline l) i full (Some (Ok t)) h = after-hint l t
ruling-goes-on a i full (Some (Err e)) h = h
