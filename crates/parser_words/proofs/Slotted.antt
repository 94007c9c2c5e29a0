-- A step keeps the number of sections, and of the tokenizer's state whatever the tokenizer's steps keep.
use Rattle.tokenizer.specs.declared.token.Token.TheVariants as token
use Rattle.parser_rules.specs.declared.ruling.Awaited.TheVariants as awaited
use Rattle.tokenizer.proofs.Carried.{CarriesNone, step-none}
use Rattle.parser_rules.specs.declared.ruling.Awaited.{Awaited}
use Rattle.parser_rules.specs.declared.ruling.Sort.{Sort}
use Rattle.tokenizer.specs.declared.token.Token.{Token}
use Rattle.text.specs.declared.refusals.Refusal.{Refusal}
use mathlib.Core.Bool.{Bool}
use Rattle.std.specs.Prelude.{Option, Some, None, Ok, Err}
use Rattle.tokenizer.specs.Token.{Answer, token_values, values_of}
use Prim.Native.Nat.{ℕ}
use mathlib.Core.Path.{◌≡◌, refl, ◌∙◌}
use mathlib.Core.List.{List}
use lib.Dec.{ltb}
use lib.ListN.{length, length-set}
use Rattle.text.proofs.Cases.{on-cond}
use Rattle.tokenizer.specs.Step.{fit, step_of as token_step}
use Rattle.tokenizer.specs.declared.state.State.{State as Tokenizer}
use Rattle.parser_rules.specs.Ruling.{ruling_of, clashes, on_entry, on_outdent, on_indent, settled, after_entry, after_hint, on_token, on_end}
use Rattle.parser_rules.specs.declared.ruling.Kept.{Kept}
use Rattle.parser_rules.specs.declared.ruling.Kept.TheVariants as kept
use Rattle.parser_rules.specs.declared.ruling.Change.{Change}
use Rattle.parser_rules.specs.declared.ruling.Change.TheVariants.{Keep, Fix, Open, Close}
use Rattle.parser_rules.specs.declared.ruling.Ruling.{Ruling}
use Rattle.parser_rules.specs.declared.ruling.Ruling.TheVariants.{Says, End, Unfit}
use Rattle.parser.specs.Step.{innermost_of, full_of, sections_after, after_verdict, on_ruling, step_with, step_kept, step_of, fresh}
use Rattle.parser_rules.specs.declared.ruling.Section.{Section}
use Rattle.parser.specs.declared.state.State.{State}
use Rattle.tokenizer_words.proofs.Slotted.{slotted as tokenizer-slotted}
use Rattle.parser_words.specs.Claims.{Having, Slotted, KeepsNone}
use Rattle.tokenizer.specs.declared.state.Step.{Step}

sections-after : (c : Change) (l : List Section) (n : ℕ) → length (sections_after c l n) ≡ length l
unfolding sections_after
sections-after Keep l n = refl
sections-after (Fix s) l n = length-set l _ _
sections-after (Open o) l n = length-set l _ _
sections-after Close l n = refl

-- what a ruling keeps
abbrev KeepsBare : Ruling → Type 0
KeepsBare (Says v) = KeepsNone v.kept
KeepsBare End = Unit {0}
KeepsBare Unfit = Unit {0}

-- only behind a NoValue, and then what came
entry-bare : (t : Token) (l : ℕ) (s : Sort) (r : Refusal) (i : Option Section) → KeepsBare (on_entry t l s r i)
unfolding on_entry
entry-bare t l s r None = tt
entry-bare t l s r (Some i) = on-cond KeepsBare (clashes i.sort s) (λ e. tt) (λ e. tt)

outdent-bare : (l : ℕ) (i : Option Section) → KeepsBare (on_outdent l i)
unfolding on_outdent
outdent-bare l None = tt
outdent-bare l (Some i) = tt

settled-bare : (i : Option Section) (t : Token) → KeepsBare (settled i t)
unfolding settled
settled-bare i (token.Newline l) = tt
settled-bare i (token.Comment l p) = tt
settled-bare i (token.Indent l) = tt
settled-bare i (token.Outdent l o) = outdent-bare l i
settled-bare i (token.ListItem l) = entry-bare _ l _ _ i
settled-bare i (token.MapKey l p) = entry-bare _ l _ _ i
settled-bare i (token.Value l p) = tt
settled-bare i (token.MultilineHint l p) = tt
settled-bare i (token.MultilineValue l q p) = tt
settled-bare i (token.NoValue l) = tt

after-entry-bare : (n : ℕ) (full : Bool) (t : Token) → (token_values t).opened ≡ 0 → KeepsBare (after_entry n full t)
unfolding after_entry on_indent
after-entry-bare n full (token.Newline l) e = tt
after-entry-bare n full (token.Comment l p) e = tt
after-entry-bare n full (token.Indent l) e = on-cond KeepsBare full (λ f. tt) (λ f. tt)
after-entry-bare n full (token.Outdent l o) e = e
after-entry-bare n full (token.ListItem l) e = e
after-entry-bare n full (token.MapKey l p) e = e
after-entry-bare n full (token.Value l p) e = tt
after-entry-bare n full (token.MultilineHint l p) e = tt
after-entry-bare n full (token.MultilineValue l q p) e = e
after-entry-bare n full (token.NoValue l) e = e

after-hint-bare : (n : ℕ) (t : Token) → KeepsBare (after_hint n t)
unfolding after_hint
after-hint-bare n (token.Newline l) = tt
after-hint-bare n (token.Comment l p) = tt
after-hint-bare n (token.Indent l) = tt
after-hint-bare n (token.Outdent l o) = tt
after-hint-bare n (token.ListItem l) = tt
after-hint-bare n (token.MapKey l p) = tt
after-hint-bare n (token.Value l p) = tt
after-hint-bare n (token.MultilineHint l p) = tt
after-hint-bare n (token.MultilineValue l q p) = tt
after-hint-bare n (token.NoValue l) = tt

ruling-bare : (a : Awaited) (i : Option Section) (full : Bool) (c : Answer) → CarriesNone c → KeepsBare (ruling_of a i full c)
unfolding ruling_of on_token on_end values_of
ruling-bare awaited.Nothing i full None e = tt
ruling-bare (awaited.Value l) i full None e = tt
ruling-bare (awaited.Multiline l) i full None e = tt
ruling-bare awaited.Nothing i full (Some (Ok t)) e = settled-bare i t
ruling-bare (awaited.Value l) i full (Some (Ok t)) e = after-entry-bare l full t e
ruling-bare (awaited.Multiline l) i full (Some (Ok t)) e = after-hint-bare l t
ruling-bare a i full (Some (Err x)) e = tt

module _ (d : List ℕ) (T : Tokenizer → Type 0) (steps : (t : Tokenizer) → T t → T (token_step d t).state) (s : State)
    (h : Having T s) where
  ruled : (r : Ruling) (t : Tokenizer) → T t → KeepsBare r → Having T (on_ruling r s t).state
  unfolding after_verdict
  ruled (Says v) t e k = (e, (sections-after v.change s.sections s.count ∙ h.1.0, k))
  ruled End t e k = h
  ruled Unfit t e k = h

  with-came : (c : Answer) (t : Tokenizer) → T t → CarriesNone c → Having T (step_with s c t).state
  unfolding step_with
  with-came c t e n =
      ruled (ruling_of s.awaited (innermost_of s.sections s.count) (full_of s.count) c) t e (ruling-bare _ _ _ c n)

  with-kept : (k : Kept) → KeepsNone k → Having T (step_kept d s k).state
  unfolding step_kept values_of
  with-kept kept.Nothing n = with-came _ _ (steps s.tokenizer h.0) (step-none d s.tokenizer)
  with-kept kept.End n = with-came None _ h.0 refl
  with-kept (kept.Token t) n = with-came (Some (Ok t)) _ h.0 n

  pub step-having : Having T (step_of d s).state
  unfolding step_of
  step-having =
      let After : Step State → Type 0 = λ x. Having T x.state in
      on-cond After (ltb 16777216 (length d)) (λ _. h)
      (λ _. on-cond After (fit (length d) s.tokenizer)
      (λ _. on-cond After s.refused (λ _. h) (λ _. with-kept s.kept h.1.1))
      (λ _. h))

pub slotted : Slotted
unfolding fresh
slotted = record { begins = (tokenizer-slotted.begins, (refl, tt)); steps = λ d s h. step-having d _ (tokenizer-slotted.steps d) s h }
