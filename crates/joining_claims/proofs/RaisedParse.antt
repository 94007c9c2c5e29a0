-- The parser over a raised list says what it says of the list, raised: a ruling looks at no line and no place. Of the
-- sections only the top level's keeps its line, 0. Two answers would not be raised: 15, whose line is 0, and an Outdent
-- that closes the top level and so carries 0. So the list is one that has neither.
use Rattle.text.specs.declared.refusals.Refusal.TheVariants.{UnexpectedKey, UnexpectedItem}
use Rattle.text.specs.declared.refusals.Refusal.{Refusal}
use Rattle.text.specs.Numbers.{number_of}
use Rattle.std.specs.Prelude.{Option, Some, None, Result, Ok, Err}
use Rattle.std.specs.Result.{is_ok}
use Rattle.text.specs.declared.refusals.SyntaxError.{SyntaxError}
use Rattle.tokenizer.specs.Token.{Answer as Came, Answer}
use Prim.Native.Nat.{ℕ, ◌+◌, zero, suc, ◌<◌}
use mathlib.Core.Path.{◌≡◌, refl, ap}
use mathlib.Core.List.{List, [], ◌∷◌, ◌++◌, map, map-append}
use mathlib.Core.Bool.{Bool, true, false, cond}
use native.Mathlib.Omega.{arith}
use Rattle.text.proofs.Cases.{by_bool}
use Rattle.tokenizer.specs.declared.token.Token.{Token}
use Rattle.tokenizer.specs.declared.token.Token.TheVariants.{
  Newline,
  Comment,
  Indent,
  Outdent,
  ListItem,
  MapKey,
  Value,
  MultilineHint,
  MultilineValue,
  NoValue,
}
use Rattle.parser_rules.specs.Ruling.{clashes, on_entry, on_outdent, on_indent, settled, after_entry, after_hint, on_token, on_end, ruling_of}
use Rattle.parser.specs.Lists.{Stand, innermost, stack_after, Fed, fed_once, before, ruled, fed_twice, fed_by, feed, parsed}
use Rattle.parser_rules.specs.declared.ruling.Sort.{Sort}
use Rattle.parser_rules.specs.declared.ruling.Awaited.{Awaited}
use Rattle.parser_rules.specs.declared.ruling.Awaited.TheVariants as awaited
use Rattle.parser_rules.specs.declared.ruling.Kept.{Kept}
use Rattle.parser_rules.specs.declared.ruling.Kept.TheVariants as kept
use Rattle.parser_rules.specs.declared.ruling.Change.{Change}
use Rattle.parser_rules.specs.declared.ruling.Change.TheVariants.{Keep, Fix, Open, Close}
use Rattle.parser_rules.specs.declared.ruling.Verdict.{Verdict}
use Rattle.parser_rules.specs.declared.ruling.Ruling.{Ruling}
use Rattle.parser_rules.specs.declared.ruling.Ruling.TheVariants.{Says, End, Unfit}
use Rattle.parser_rules.specs.declared.ruling.Section.{Section}
use Rattle.parser_claims.specs.Claims.{All}
use Rattle.parser_claims.specs.Opened.{Carries}
use Rattle.parser_claims.proofs.Rulings.{stand}
use Rattle.parser_claims.proofs.Given.{Entry, item, key, passes, enters, opens, closes}
use Rattle.joining_claims.specs.Raising.{raise_token, raise_opened, raise_said, raise, raised}
use Rattle.joining_claims.proofs.Tops.{level, Turn, misses, moves}
use Rattle.joining_claims.proofs.Ruled.{Keeps, Turns, ruling-turns}

abbrev raise_awaited : ℕ → Awaited → Awaited
raise_awaited l awaited.Nothing = awaited.Nothing
raise_awaited l (awaited.Value m) = awaited.Value (l + m)
raise_awaited l (awaited.Multiline m) = awaited.Multiline (l + m)

abbrev raise_change : ℕ → Change → Change
raise_change l Keep = Keep
raise_change l (Fix s) = Fix s
raise_change l (Open o) = Open (l + o)
raise_change l Close = Close

abbrev raise_kept : ℕ → ℕ → Kept → Kept
raise_kept l n kept.Nothing = kept.Nothing
raise_kept l n kept.End = kept.End
raise_kept l n (kept.Token t) = kept.Token (raise_token l n t)

abbrev raise_verdict : ℕ → ℕ → Verdict → Verdict
raise_verdict l n v = record {
  answer = raise_said l n v.answer;
  awaited = raise_awaited l v.awaited;
  change = raise_change l v.change;
  kept = raise_kept l n v.kept;
}

-- raised, a refusal is one, and a token
said-raised : (l n : ℕ) (r : Result Token SyntaxError) → is_ok (raise_said l n r) ≡ is_ok r
said-raised l n (Ok t) = refl
said-raised l n (Err e) = refl

abbrev raise_ruling : ℕ → ℕ → Ruling → Ruling
raise_ruling l n (Says v) = Says (raise_verdict l n v)
raise_ruling l n End = End
raise_ruling l n Unfit = Unfit

-- the sections above the top level, raised
pub data Raised (l : ℕ) : List Section → List Section → Type 0 where
  top : {s : Option Sort} → Raised l (level s ∷ []) (level s ∷ [])
  above : {s : Section} {a b : List Section} → Raised l a b
      → Raised l (s ∷ a) (record { sort = s.sort; line = l + s.line } ∷ b)

-- what is awaited, raised, above these sections
abbrev high : ℕ → Awaited → List Section → Stand
high l w b = stand (raise_awaited l w) b

-- an answer to whose lines raising adds
abbrev pub Rises : Answer → Type 0
Rises None = Unit {0}
Rises (Some (Ok t)) = Carries (Some (Ok t))
Rises (Some (Err e)) = number_of e.refusal ≡ 15 → ⊥

abbrev RulingRises : Ruling → Type 0
RulingRises (Says v) = Rises (Some v.answer)
RulingRises End = Unit {0}
RulingRises Unfit = ⊥

-- One ruling

module _ (l n : ℕ) where
  entry-raised : {a b : List Section} {t : Token} {m : ℕ} {s : Sort} → Raised l a b → Entry t m s → (r : Refusal)
      → on_entry (raise_token l n t) (l + m) s r (innermost b) ≡ raise_ruling l n (on_entry t m s r (innermost a))
  unfolding on_entry raise
  entry-raised {s = s} (top {s = j}) e r = by_bool (clashes j s) (λ c. rw c) (λ c. rw c)
  entry-raised {s = s} (above {s = j} x) e r = by_bool (clashes j.sort s) (λ c. rw c) (λ c. rw c)

  opened-raised : (o : ℕ) → 0 < o → l + o ≡ raise_opened l o
  opened-raised zero h = absurd (omega arith)
  opened-raised (suc o) h = refl

  outdent-raised : {a b : List Section} → Raised l a b → (m : ℕ) → RulingRises (on_outdent m (innermost a))
      → on_outdent (l + m) (innermost b) ≡ raise_ruling l n (on_outdent m (innermost a))
  unfolding on_outdent raise_token raise
  outdent-raised top m e = absurd (omega arith)
  outdent-raised (above {s = s} x) m e = rw (opened-raised s.line e)

  settled-raised : {a b : List Section} → Raised l a b → (t : Token) → RulingRises (settled (innermost a) t)
      → settled (innermost b) (raise_token l n t) ≡ raise_ruling l n (settled (innermost a) t)
  unfolding settled raise_token raise
  settled-raised x (Newline m) e = refl
  settled-raised x (Comment m p) e = refl
  settled-raised x (Indent m) e = refl
  settled-raised x (Outdent m o) e = outdent-raised x m e
  settled-raised x (ListItem m) e = entry-raised x item UnexpectedItem
  settled-raised x (MapKey m p) e = entry-raised x key UnexpectedKey
  settled-raised x (Value m p) e = refl
  settled-raised x (MultilineHint m p) e = refl
  settled-raised x (MultilineValue m q p) e = refl
  settled-raised x (NoValue m) e = refl

  entered-raised : (k : ℕ) (t : Token) → after_entry (l + k) false (raise_token l n t) ≡ raise_ruling l n (after_entry k false t)
  unfolding after_entry on_indent raise_token raise
  entered-raised k (Newline m) = refl
  entered-raised k (Comment m p) = refl
  entered-raised k (Indent m) = refl
  entered-raised k (Outdent m o) = refl
  entered-raised k (ListItem m) = refl
  entered-raised k (MapKey m p) = refl
  entered-raised k (Value m p) = refl
  entered-raised k (MultilineHint m p) = refl
  entered-raised k (MultilineValue m q p) = refl
  entered-raised k (NoValue m) = refl

  hinted-raised : (k : ℕ) (t : Token) → after_hint (l + k) (raise_token l n t) ≡ raise_ruling l n (after_hint k t)
  unfolding after_hint raise_token raise
  hinted-raised k (Newline m) = refl
  hinted-raised k (Comment m p) = refl
  hinted-raised k (Indent m) = refl
  hinted-raised k (Outdent m o) = refl
  hinted-raised k (ListItem m) = refl
  hinted-raised k (MapKey m p) = refl
  hinted-raised k (Value m p) = refl
  hinted-raised k (MultilineHint m p) = refl
  hinted-raised k (MultilineValue m q p) = refl
  hinted-raised k (NoValue m) = refl

  ruling-raised : (w : Awaited) {a b : List Section} → Raised l a b → (c : Came) → RulingRises (ruled (stand w a) c)
      → ruled (high l w b) (raise l n c) ≡ raise_ruling l n (ruled (stand w a) c)
  unfolding ruling_of on_token on_end raise raise_token
  ruling-raised awaited.Nothing x None e = refl
  ruling-raised (awaited.Value k) x None e = refl
  ruling-raised (awaited.Multiline k) x None e = refl
  ruling-raised awaited.Nothing x (Some (Ok t)) e = settled-raised x t e
  ruling-raised (awaited.Value k) x (Some (Ok t)) e = entered-raised k t
  ruling-raised (awaited.Multiline k) x (Some (Ok t)) e = hinted-raised k t
  ruling-raised w x (Some (Err y)) e = refl

-- its answer is the first of those that are said
once-rises : (s : Stand) (r : Ruling) → All Rises (fed_once s r).says → RulingRises r
once-rises s (Says v) e = e.0
once-rises s End e = tt
once-rises s Unfit e = e.0 refl

by-rises : (s : Stand) (r : Ruling) → All Rises (fed_by s r).says → RulingRises r
by-rises s (Says v) e = first v.kept e
  where
    first : (k : Kept) → All Rises (fed_twice s k v).says → Rises (Some v.answer)
    first kept.Nothing e = e.0
    first kept.End e = e.0
    first (kept.Token t) e = e.0
by-rises s End e = tt
by-rises s Unfit e = e.0 refl

-- The sections after it

after-raised : {l : ℕ} {a b : List Section} {y : Answer} {c : Change} → Raised l a b → Turn a y c → Rises y
    → Raised l (stack_after c a) (stack_after (raise_change l c) b)
after-raised x misses e = x
after-raised x (moves (passes p f)) e = x
after-raised x (moves (opens q)) e = above x
after-raised top (moves (enters p q c)) e = top
after-raised (above x) (moves (enters p q c)) e = above x
after-raised top (moves (closes {j = j} q)) e = let z : 0 ≡ j.line = cc in absurd (omega arith)
after-raised (above x) (moves (closes q)) e = x

-- One answer of the tokenizer

abbrev raise_fed : ℕ → ℕ → List Section → Fed → Fed
raise_fed l n b f = record {
  says = map (raise l n) f.says;
  next = high l f.next.awaited b;
  goes_on = f.goes_on;
}

record RaisedFed (l n : ℕ) (f g : Fed) : Type 0 where
  sections : List Section
  same : g ≡ raise_fed l n sections f
  raised : f.goes_on ≡ true → Raised l f.next.sections sections

module _ (l n : ℕ) where
  once-raised : (w : Awaited) {a b : List Section} → Raised l a b → (r : Ruling) → Turns a r → RulingRises r
      → RaisedFed l n (fed_once (stand w a) r) (fed_once (high l w b) (raise_ruling l n r))
  unfolding raise
  once-raised w {b = b} x (Says v) t e = record {
    sections = stack_after (raise_change l v.change) b;
    same = λ i. record {
      says = Some (raise_said l n v.answer) ∷ [];
      next = high l v.awaited (stack_after (raise_change l v.change) b);
      goes_on = said-raised l n v.answer i;
    };
    raised = λ g. after-raised x (t.0 g) e;
  }
  once-raised w {b = b} x End t e = record { sections = b; same = refl; raised = λ g. x }
  once-raised w x Unfit t e = absurd e

  -- what was kept comes again, behind the answer y
  again-raised : (w : Awaited) {a b : List Section} → Raised l a b → (y : Answer) (c : Came)
      → All Rises (fed_once (stand w a) (ruled (stand w a) c)).says
      → RaisedFed l n (before y (fed_once (stand w a) (ruled (stand w a) c)))
      (before (raise l n y) (fed_once (high l w b) (ruled (high l w b) (raise l n c))))
  again-raised w {a} x y c e =
      let r = ruled (stand w a) c in
      let i = once-rises (stand w a) r e in
      let h = once-raised w x r (ruling-turns a w c) i in
      rw (ruling-raised l n w x c i)
      (record { sections = h.sections; same = ap (before (raise l n y)) h.same; raised = h.raised })

  twice-raised : (w : Awaited) {a b : List Section} → Raised l a b → (k : Kept) (v : Verdict) → Turns a (Says v) → Keeps k v
      → All Rises (fed_twice (stand w a) k v).says
      → RaisedFed l n (fed_twice (stand w a) k v) (fed_twice (high l w b) (raise_kept l n k) (raise_verdict l n v))
  unfolding raise
  twice-raised w x kept.Nothing v t g e = once-raised w x (Says v) t e.0
  twice-raised w x kept.End v t g e =
      again-raised v.awaited (after-raised x (t.0 g.0) e.0) (Some v.answer) None e.1
  twice-raised w x (kept.Token y) v t g e =
      again-raised v.awaited (after-raised x (t.0 g.0) e.0) (Some v.answer) (Some (Ok y)) e.1

  by-raised : (w : Awaited) {a b : List Section} → Raised l a b → (r : Ruling) → Turns a r → All Rises (fed_by (stand w a) r).says
      → RaisedFed l n (fed_by (stand w a) r) (fed_by (high l w b) (raise_ruling l n r))
  by-raised w x (Says v) t e = twice-raised w x v.kept v t t.1 e
  by-raised w x End t e = once-raised w x End t tt
  by-raised w x Unfit t e = absurd (e.0 refl)

  feed-raised : (w : Awaited) {a b : List Section} → Raised l a b → (c : Came) → All Rises (feed (stand w a) c).says
      → RaisedFed l n (feed (stand w a) c) (feed (high l w b) (raise l n c))
  unfolding feed
  feed-raised w {a} x c e =
      let r = ruled (stand w a) c in
      rw (ruling-raised l n w x c (by-rises (stand w a) r e)) (by-raised w x r (ruling-turns a w c) e)

-- Lists

rises-append : (l m : List Answer) → All Rises (l ++ m) → All Rises l × All Rises m
rises-append [] m e = (tt, e)
rises-append (a ∷ l) m e = let i = rises-append l m e.1 in ((e.0, i.0), i.1)

module _ (l n : ℕ) where
  pub parsed-raised : (w : Awaited) {a b : List Section} → Raised l a b → (cs : List Came) → All Rises (parsed (stand w a) cs)
      → parsed (high l w b) (raised l n cs) ≡ map (raise l n) (parsed (stand w a) cs)
  unfolding parsed raise
  parsed-raised w x [] e = ap (λ (f : Fed). f.says) (feed-raised l n w x None e).same
  parsed-raised w {a} x (c ∷ cs) e =
      let f = feed (stand w a) c in
      let u = rises-append f.says _ e in
      let h = feed-raised l n w x c u.0 in
      rw (h.same, map-append (raise l n) f.says _)
      (ap (λ (m : List Answer). map (raise l n) f.says ++ m)
      (rest f.goes_on _ (λ g. parsed-raised f.next.awaited (h.raised g) cs) u.1))
    where
      rest : (on : Bool) (s : List Answer) {r : List Answer} → (on ≡ true → All Rises s → r ≡ map (raise l n) s)
          → All Rises (cond on s []) → cond on r [] ≡ map (raise l n) (cond on s [])
      rest true s h e = h refl e
      rest false s h e = refl
