-- The innermost section by the code's own tests, and that a ruling asks of the record of sections no more than it has: only an
-- innermost section is fixed or closed, and only where there is room does one open.
use Rattle.std.specs.Prelude.{Option, Some, None, Ok, Err}
use Rattle.tokenizer.specs.Token.{Answer as Came}
use Prim.Native.Nat.{ℕ, zero, suc, ◌-◌, ◌≤◌, ◌<◌}
use mathlib.Core.Path.{◌≡◌, refl}
use mathlib.Core.List.{List}
use native.Mathlib.Numerals.{sub-one}
use native.Mathlib.Omega.{arith}
use lib.Dec.{ltb}
use lib.ListN.{get_or}
use borrow.Author.Tests.{lt-ltb, le-ltb, ltb-true, leb-false}
use Rattle.text.proofs.Cases.{on-cond}
use Rattle.text.specs.declared.refusals.Refusal.{Refusal}
use Rattle.text.specs.declared.refusals.Refusal.TheVariants.{UnexpectedKey, UnexpectedItem}
use Rattle.tokenizer.specs.declared.token.Token.{Token}
use Rattle.tokenizer.specs.declared.token.Token.TheVariants as token
use Rattle.parser_rules.specs.Ruling.{clashes, on_entry, on_outdent, on_indent, settled, after_entry, after_hint, on_token, on_end, ruling_of}
use Rattle.parser.specs.Step.{no_sort, innermost_of, full_of, ChangeFits}
use Rattle.parser_rules.specs.declared.ruling.Sort.{Sort}
use Rattle.parser_rules.specs.declared.ruling.Awaited.{Awaited}
use Rattle.parser_rules.specs.declared.ruling.Awaited.TheVariants as awaited
use Rattle.parser_rules.specs.declared.ruling.Ruling.{Ruling}
use Rattle.parser_rules.specs.declared.ruling.Ruling.TheVariants.{Says, End, Unfit}
use Rattle.parser_rules.specs.declared.ruling.Section.{Section}

pub inner-past : (l : List Section) (n : ℕ) → 65 < n → innermost_of l n ≡ None
unfolding innermost_of
inner-past l zero h = refl
inner-past l (suc k) h = rw (le-ltb k 65 (omega arith))

pub inner_last : (l : List Section) (n : ℕ) → (n ≡ 0 → ⊥) → n ≤ 65 → innermost_of l n ≡ Some (get_or l (n - 1) no_sort)
unfolding innermost_of
inner_last l zero z h = absurd (z refl)
inner_last l (suc k) z h = rw (lt-ltb k 65 (omega arith), sub-one)

-- a record that counts n sections has what a ruling asks of it
abbrev pub Asks : ℕ → Ruling → Type 0
Asks n (Says v) = ChangeFits v.change n
Asks n End = Unit {0}
Asks n Unfit = Unit {0}

-- by cases on the innermost section, which is there where 0 < n ≤ 65
by-inner : (P : Option Section → Type 0) (l : List Section) (n : ℕ) → P None → ((s : Section) → 0 < n → n ≤ 65 → P (Some s))
    → P (innermost_of l n)
unfolding innermost_of
by-inner P l zero p q = p
by-inner P l (suc k) p q = on-cond P (ltb k 65) (λ e. let h = ltb-true k 65 e in q _ (omega arith) (omega arith)) (λ e. p)

module _ (l : List Section) (n : ℕ) where
  entry : (t : Token) (line : ℕ) (s : Sort) (k : Refusal) → Asks n (on_entry t line s k (innermost_of l n))
  unfolding on_entry
  entry t line s k = by-inner (λ i. Asks n (on_entry t line s k i)) l n tt (λ i p q. on-cond (Asks n) (clashes i.sort s) (λ e. tt) (λ e. (p, q)))

  outdent : (k : ℕ) → Asks n (on_outdent k (innermost_of l n))
  unfolding on_outdent
  outdent k = by-inner (λ i. Asks n (on_outdent k i)) l n tt (λ i p q. p)

  indent : (t : Token) (k : ℕ) → Asks n (on_indent t k (full_of n))
  unfolding on_indent
  indent t k = on-cond (Asks n) (full_of n) (λ e. tt) (λ e. leb-false 65 n e)

  nothing : (t : Token) → Asks n (settled (innermost_of l n) t)
  unfolding settled
  nothing (token.Newline m) = tt
  nothing (token.Comment m p) = tt
  nothing (token.Indent m) = tt
  nothing (token.Outdent m o) = outdent m
  nothing (token.ListItem m) = entry (token.ListItem m) m _ UnexpectedItem
  nothing (token.MapKey m p) = entry (token.MapKey m p) m _ UnexpectedKey
  nothing (token.Value m p) = tt
  nothing (token.MultilineHint m p) = tt
  nothing (token.MultilineValue m q p) = tt
  nothing (token.NoValue m) = tt

  value : (k : ℕ) (t : Token) → Asks n (after_entry k (full_of n) t)
  unfolding after_entry
  value k (token.Newline m) = tt
  value k (token.Comment m p) = tt
  value k (token.Indent m) = indent (token.Indent m) k
  value k (token.Outdent m o) = tt
  value k (token.ListItem m) = tt
  value k (token.MapKey m p) = tt
  value k (token.Value m p) = tt
  value k (token.MultilineHint m p) = tt
  value k (token.MultilineValue m q p) = tt
  value k (token.NoValue m) = tt

  multiline : (k : ℕ) (t : Token) → Asks n (after_hint k t)
  unfolding after_hint
  multiline k (token.Newline m) = tt
  multiline k (token.Comment m p) = tt
  multiline k (token.Indent m) = tt
  multiline k (token.Outdent m o) = tt
  multiline k (token.ListItem m) = tt
  multiline k (token.MapKey m p) = tt
  multiline k (token.Value m p) = tt
  multiline k (token.MultilineHint m p) = tt
  multiline k (token.MultilineValue m q p) = tt
  multiline k (token.NoValue m) = tt

  pub asks-no-more : (a : Awaited) (c : Came) → Asks n (ruling_of a (innermost_of l n) (full_of n) c)
  unfolding ruling_of on_token on_end
  asks-no-more awaited.Nothing None = tt
  asks-no-more (awaited.Value k) None = tt
  asks-no-more (awaited.Multiline k) None = tt
  asks-no-more awaited.Nothing (Some (Ok t)) = nothing t
  asks-no-more (awaited.Value k) (Some (Ok t)) = value k t
  asks-no-more (awaited.Multiline k) (Some (Ok t)) = multiline k t
  asks-no-more a (Some (Err e)) = tt
