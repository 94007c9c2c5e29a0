-- What the parser rules on an answer of the tokenizer, while the marks fit what is awaited: it gives the token on, or refuses by 1
-- to 7, or says NoValue and then does one of these with what it kept. Nothing is unfit, and each answer is paid for.
use Rattle.text.specs.Numbers.{number_of}
use Rattle.text.specs.declared.refusals.Refusal.TheVariants.{MissingMultiline, UnexpectedKey, UnexpectedItem, UnexpectedIndent}
use Rattle.text.specs.declared.refusals.Refusal.{Refusal}
use Rattle.std.specs.Prelude.{Some, None, Ok, Err, Option}
use Rattle.tokenizer.specs.Token.{Answer as Came}
use Prim.Native.Nat.{ℕ, suc, ◌+◌, ◌≤◌, ◌<◌}
use mathlib.Core.Path.{◌≡◌, refl}
use mathlib.Core.List.{List, [], ◌∷◌}
use mathlib.Core.Bool.{Bool, false}
use native.Mathlib.Omega.{arith}
use lib.ListN.{length}
use Rattle.text.proofs.Cases.{on-cond}
use Rattle.text.specs.declared.bytes.Part.{Part}
use Rattle.tokenizer.specs.Lists.{is_end}
use Rattle.tokenizer.specs.declared.token.Token.{Token}
use Rattle.tokenizer.specs.declared.token.Token.TheVariants.{
  Newline,
  Comment,
  Indent,
  Outdent,
  ListItem,
  MapKey,
  Value,
  MultilineHint,
  MultilineValue,
  NoValue,
}
use Rattle.tokenizer.specs.declared.state.State.{State as Tokenizer}
use Rattle.tokenizer_claims.specs.Claims.{Text, TokenFits as ReadFits}
use Rattle.tokenizer_claims.proofs.Answers.{Vouched}
use Rattle.parser_rules.specs.Ruling.{
  gives as giving,
  refuses,
  no_value,
  clashes,
  on_entry,
  on_outdent,
  on_indent,
  settled,
  after_entry,
  after_hint,
  on_token,
  ruling_of,
}
use Rattle.parser.specs.Lists.{Stand, innermost, stack_after, ruled}
use Rattle.parser_rules.specs.declared.ruling.Sort.{Sort}
use Rattle.parser_rules.specs.declared.ruling.Sort.TheVariants.{Map, List as Listed}
use Rattle.parser_rules.specs.declared.ruling.Awaited.{Awaited}
use Rattle.parser_rules.specs.declared.ruling.Awaited.TheVariants as awaited
use Rattle.parser_rules.specs.declared.ruling.Kept.TheVariants as kept
use Rattle.parser_rules.specs.declared.ruling.Change.{Change}
use Rattle.parser_rules.specs.declared.ruling.Change.TheVariants.{Keep, Fix, Open, Close}
use Rattle.parser_rules.specs.declared.ruling.Ruling.{Ruling}
use Rattle.parser_rules.specs.declared.ruling.Section.{Section}
use Rattle.parser_claims.specs.Claims.{TokenFits}
use Rattle.parser_claims.proofs.Tokens.{Due, MultilineDue, room, Early, Turned, TokenTold, Told}

abbrev pub ValueAwaited : Awaited → Type 0
ValueAwaited awaited.Nothing = ⊥
ValueAwaited (awaited.Value l) = Unit {0}
ValueAwaited (awaited.Multiline l) = ⊥

abbrev pub MultilineAwaited : Awaited → Type 0
MultilineAwaited awaited.Nothing = ⊥
MultilineAwaited (awaited.Value l) = ⊥
MultilineAwaited (awaited.Multiline l) = Unit {0}

abbrev pub stand : Awaited → List Section → Stand
stand a l = record { awaited = a; sections = l }

-- What is due is awaited, and the parser has a section for the top level and for each one that the tokenizer has open.
pub record Tied (d : List ℕ) (t : Tokenizer) (s : Stand) : Type 0 where
  pub value : Due d t → ValueAwaited s.awaited
  pub multiline : MultilineDue t → MultilineAwaited s.awaited
  pub early : Early t
  pub sections : length s.sections ≡ suc t.depth

-- What is awaited may cost an answer of its own, NoValue or refusal 4.
abbrev pub owed : Awaited → ℕ
owed awaited.Nothing = 0
owed (awaited.Value l) = 1
owed (awaited.Multiline l) = 1

-- what a parsing has left to spend
abbrev pub budget : List ℕ → Tokenizer → Awaited → ℕ
budget d t a = room d t + owed a

-- a ruling that keeps nothing, u being the tokenizer's state after it, where b may be spent
pub data Settled (d : List ℕ) (u : Tokenizer) (sections : List Section) (b : ℕ) : Ruling → Type 0 where
  gives : {x : Token} (a : Awaited) (c : Change) → TokenFits d x → Tied d u (stand a (stack_after c sections)) → budget d u a < b
      → Settled d u sections b (giving x a c)
  stops : (r : Refusal) {l : ℕ} {a : Awaited} → (1 ≤ number_of r) × (number_of r ≤ 7) → 0 < b → Settled d u sections b (refuses r l a)

-- a ruling, and the one on what it kept
pub data Outcome (d : List ℕ) (u : Tokenizer) (sections : List Section) (b : ℕ) : Ruling → Type 0 where
  once : {r : Ruling} → Settled d u sections b r → Outcome d u sections b r
  twice : {c l : ℕ} {x : Token} → Settled d u sections c (settled (innermost sections) x) → c < b → Outcome d u sections b (no_value l (kept.Token x))

module _ (d : List ℕ) (t u : Tokenizer) where
  tied : {A B : Type 0} {n k : ℕ} {a : Awaited} {l : List Section} → Turned d t u A B n k → (A → ValueAwaited a) → (B → MultilineAwaited a)
      → length l ≡ suc n → Tied d u (stand a l)
  tied w f g h = record { value = λ x. f (w.value x); multiline = λ x. g (w.multiline x); early = w.early; sections = omega arith }

  -- Outdent, and a key or item that n refuses, where nothing, or no longer a value, is awaited
  module _ (multiline : MultilineDue t → ⊥) where
    on-outdent : (l o : ℕ) (sections : List Section) → length sections ≡ suc t.depth → TokenTold d t (Outdent l o) u
        → Settled d u sections (budget d t awaited.Nothing) (on_outdent l (innermost sections))
    unfolding on_outdent
    on-outdent l o [] h w = absurd (omega arith)
    on-outdent l o (i ∷ sections) h w = gives awaited.Nothing Close tt (tied w.1 (λ x. x) multiline (omega arith)) (omega arith)

    on-entry : (x : Token) (l : ℕ) (e : Sort) (r : Refusal) (sections : List Section) → (1 ≤ number_of r) × (number_of r ≤ 7) → length sections ≡ suc t.depth
        → TokenFits d x → Turned d t u (Unit {0}) (MultilineDue t) t.depth 2
        → Settled d u sections (budget d t awaited.Nothing) (on_entry x l e r (innermost sections))
    unfolding on_entry
    on-entry x l e r [] p h f w = absurd (omega arith)
    on-entry x l e r (i ∷ sections) p h f w =
        on-cond (Settled d u (i ∷ sections) (budget d t awaited.Nothing)) (clashes i.sort e)
        (λ c. stops r p (omega arith))
        (λ c. gives (awaited.Value l) (Fix e) f (tied w (λ x. tt) multiline h) (omega arith))

    on-item : (l : ℕ) (sections : List Section) → length sections ≡ suc t.depth → TokenTold d t (ListItem l) u
        → Settled d u sections (budget d t awaited.Nothing) (settled (innermost sections) (ListItem l))
    unfolding settled
    on-item l sections h w = on-entry (ListItem l) l Listed UnexpectedItem sections (omega arith) h tt w.1

    on-key : (l : ℕ) (p : Part) (sections : List Section) → length sections ≡ suc t.depth → Text d p → TokenTold d t (MapKey l p) u
        → Settled d u sections (budget d t awaited.Nothing) (settled (innermost sections) (MapKey l p))
    unfolding settled
    on-key l p sections h f w = on-entry (MapKey l p) l Map UnexpectedKey sections (omega arith) h f w.1

  module _ (sections : List Section) where
    -- Newline and Comment pass
    passes : (a : Awaited) (x : Token) → Tied d t (stand a sections) → TokenFits d x → Turned d t u (Due d t) (MultilineDue t) t.depth 1
        → Settled d u sections (budget d t a) (giving x a Keep)
    passes a x s f w = gives a Keep f (tied w s.value s.multiline s.sections) (omega arith)

    on-settled : (x : Token) → Tied d t (stand awaited.Nothing sections) → ReadFits d x → TokenTold d t x u
        → Settled d u sections (budget d t awaited.Nothing) (settled (innermost sections) x)
    unfolding settled
    on-settled (Newline l) s f w = passes awaited.Nothing (Newline l) s f w
    on-settled (Comment l p) s f w = passes awaited.Nothing (Comment l p) s f w
    on-settled (Indent l) s f w = stops UnexpectedIndent (omega arith) (omega arith)
    on-settled (Outdent l o) s f w = on-outdent s.multiline l o sections s.sections w
    on-settled (ListItem l) s f w = on-item s.multiline l sections s.sections w
    on-settled (MapKey l p) s f w = on-key s.multiline l p sections s.sections f w
    on-settled (Value l p) s f w = absurd (s.value w.0)
    on-settled (MultilineHint l p) s f w = absurd (s.value w.0)
    on-settled (MultilineValue l i p) s f w = absurd (s.multiline w.0)
    on-settled (NoValue l) s f w = absurd w

    after-entry : (n : ℕ) (x : Token) → Tied d t (stand (awaited.Value n) sections) → ReadFits d x → TokenTold d t x u
        → Outcome d u sections (budget d t (awaited.Value n)) (after_entry n false x)
    unfolding settled after_entry on_indent
    after-entry n (Newline l) s f w = once (passes (awaited.Value n) (Newline l) s f w)
    after-entry n (Comment l p) s f w = once (passes (awaited.Value n) (Comment l p) s f w)
    after-entry n (Indent l) s f w = once (gives awaited.Nothing (Open n) tt (tied w.1 (λ x. x) (λ x. x) (omega arith)) (omega arith))
    after-entry n (Outdent l o) s f w = twice (on-outdent s.multiline l o sections s.sections w) (omega arith)
    after-entry n (ListItem l) s f w = twice (on-item s.multiline l sections s.sections w) (omega arith)
    after-entry n (MapKey l p) s f w = twice (on-key s.multiline l p sections s.sections f w) (omega arith)
    after-entry n (Value l p) s f w = once (gives awaited.Nothing Keep f (tied w.1 (λ x. x) s.multiline s.sections) (omega arith))
    after-entry n (MultilineHint l p) s f w =
        once (gives (awaited.Multiline n) Keep f (tied w.1 (λ x. x) (λ x. x) s.sections) (omega arith))
    after-entry n (MultilineValue l i p) s f w = absurd (s.multiline w.0)
    after-entry n (NoValue l) s f w = absurd w

    refused : (n : ℕ) → Settled d u sections (budget d t (awaited.Multiline n)) (refuses MissingMultiline n awaited.Nothing)
    refused n = stops MissingMultiline (omega arith) (omega arith)

    after-hint : (n : ℕ) (x : Token) → Tied d t (stand (awaited.Multiline n) sections) → ReadFits d x → TokenTold d t x u
        → Settled d u sections (budget d t (awaited.Multiline n)) (after_hint n x)
    unfolding after_hint
    after-hint n (Newline l) s f w = passes (awaited.Multiline n) (Newline l) s f w
    after-hint n (Comment l p) s f w = passes (awaited.Multiline n) (Comment l p) s f w
    after-hint n (Indent l) s f w = refused n
    after-hint n (Outdent l o) s f w = refused n
    after-hint n (ListItem l) s f w = refused n
    after-hint n (MapKey l p) s f w = refused n
    after-hint n (Value l p) s f w = refused n
    after-hint n (MultilineHint l p) s f w = refused n
    after-hint n (MultilineValue l i p) s f w = gives awaited.Nothing Keep f (tied w.1 (λ x. x) (λ x. x) s.sections) (omega arith)
    after-hint n (NoValue l) s f w = refused n

    on-token : (a : Awaited) (x : Token) → Tied d t (stand a sections) → ReadFits d x → TokenTold d t x u
        → Outcome d u sections (budget d t a) (on_token a (innermost sections) false x)
    unfolding on_token
    on-token awaited.Nothing x s f w = once (on-settled x s f w)
    on-token (awaited.Value n) x s f w = after-entry n x s f w
    on-token (awaited.Multiline n) x s f w = once (after-hint n x s f w)

  pub outcome : (s : Stand) (c : Came) → is_end c ≡ false → Tied d t s → Vouched d t c → Told d t c u
      → Outcome d u s.sections (budget d t s.awaited) (ruled s c)
  unfolding ruling_of is_end
  outcome s None e w f v = absurd cc
  outcome s (Some (Ok x)) e w f v = on-token s.sections s.awaited x w f v
  outcome s (Some (Err x)) e w f v = once (stops x.refusal (omega arith) (omega arith))

-- Where a section may still open, the record is not full, so its guard is idle.
module _ (d : List ℕ) (t u : Tokenizer) (full : Bool) (idle : t.depth < 64 → full ≡ false) where
  entry-idle : (n : ℕ) (x : Token) → TokenTold d t x u → after_entry n full x ≡ after_entry n false x
  unfolding after_entry
  entry-idle n (Newline l) w = refl
  entry-idle n (Comment l p) w = refl
  entry-idle n (Indent l) w = rw (idle w.0)
  entry-idle n (Outdent l o) w = refl
  entry-idle n (ListItem l) w = refl
  entry-idle n (MapKey l p) w = refl
  entry-idle n (Value l p) w = refl
  entry-idle n (MultilineHint l p) w = refl
  entry-idle n (MultilineValue l i p) w = refl
  entry-idle n (NoValue l) w = refl

  pub guard-idle : (a : Awaited) (i : Option Section) (c : Came) → Told d t c u → ruling_of a i full c ≡ ruling_of a i false c
  unfolding ruling_of on_token
  guard-idle a i None w = refl
  guard-idle awaited.Nothing i (Some (Ok x)) w = refl
  guard-idle (awaited.Value n) i (Some (Ok x)) w = entry-idle n x w
  guard-idle (awaited.Multiline n) i (Some (Ok x)) w = refl
  guard-idle a i (Some (Err e)) w = refl
