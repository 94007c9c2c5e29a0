-- The line that an Outdent carries. Along a reading the sections above the top level keep the lines of the keys and
-- items that opened them; and an Outdent of the tokenizer finds a section open, so that it never closes the top level.
use Rattle.text.specs.declared.refusals.SyntaxError.{SyntaxError}
use Rattle.std.specs.Prelude.{Some, None, Ok, Err}
use Rattle.tokenizer.specs.Token.{Answer as Came, Answer}
use Prim.Native.Nat.{ℕ, suc, ◌≤◌, ◌<◌}
use mathlib.Core.Path.{◌≡◌, refl, sym, ap, ◌∙◌}
use mathlib.Core.List.{List, [], ◌∷◌}
use native.Mathlib.Omega.{arith}
use lib.Dec.{ltb}
use lib.ListN.{length}
use borrow.Author.Tests.{ltb-false}
use Rattle.text.proofs.Cases.{by_bool}
use Rattle.tokenizer.specs.Lists.{is_end, Reads, ends, says}
use Rattle.tokenizer.specs.Step.{fresh}
use Rattle.tokenizer.specs.declared.token.Token.{Token}
use Rattle.tokenizer.specs.declared.token.Token.TheVariants.{Outdent}
use Rattle.tokenizer.specs.declared.state.State.{State as Tokenizer}
use Rattle.tokenizer_claims.proofs.Sound.{Sound, fresh-sound}
use Rattle.tokenizer_claims.proofs.Claimed.{sound-kept, ends as reading-ends}
use Rattle.parser_rules.specs.Ruling.{on_token, on_end, ruling_of}
use Rattle.parser.specs.Lists.{Stand, innermost, stack_after, fed_once, fed_by, feed, parsed, parse}
use Rattle.parser_rules.specs.declared.ruling.Sort.{Sort}
use Rattle.parser_rules.specs.declared.ruling.Awaited.{Awaited}
use Rattle.parser_rules.specs.declared.ruling.Awaited.TheVariants as awaited
use Rattle.parser_rules.specs.declared.ruling.Change.{Change}
use Rattle.parser_rules.specs.declared.ruling.Change.TheVariants.{Fix, Close}
use Rattle.parser_rules.specs.declared.ruling.Ruling.{Ruling}
use Rattle.parser_rules.specs.declared.ruling.Section.{Section}
use Rattle.parser_claims.specs.Claims.{All}
use Rattle.parser_claims.specs.Opened.{Carries, Carried, reopened, Matched}
use Rattle.parser_claims.proofs.Tokens.{Early, Turned, TokenTold, step-told}
use Rattle.parser_claims.proofs.Rulings.{stand}
use Rattle.parser_claims.proofs.Steps.{going}
use Rattle.parser_claims.proofs.Claimed.{parse-within}
use Rattle.parser_claims.proofs.Given.{
  Plain,
  newline,
  comment,
  value,
  hint,
  multiline,
  item,
  key,
  OfLine,
  Moves,
  passes,
  enters,
  opens,
  closes,
  Given,
  gives,
  stops,
  unfit,
  Ruled,
  once,
  keeps,
  on-settled,
  on-token,
}

-- both claims, of a list of answers
record Shown (k : ℕ) (opened : List ℕ) (l : List Answer) : Type 0 where
  carried : All Carries l
  matched : reopened k opened l ≡ l

-- one answer, and those after it
shown : {k j : ℕ} {opened after : List ℕ} {a : Answer} {l : List Answer} → Carries a
    → reopened k opened (a ∷ l) ≡ a ∷ reopened j after l → Shown j after l → Shown k opened (a ∷ l)
shown {a = a} c e r = record { carried = (c, r.carried); matched = e ∙ ap (◌∷◌ a) r.matched }

-- a refusal is the last
refused : {k : ℕ} {opened : List ℕ} {e : SyntaxError} → Shown k opened (Some (Err e) ∷ [])
unfolding reopened
refused = record { carried = (tt, tt); matched = refl }

-- the sections above the top level keep these lines, none of which is 0
data Lined : List ℕ → List Section → Type 0 where
  top : {s : Section} → Lined [] (s ∷ [])
  above : {k : ℕ} {opened : List ℕ} {s : Section} {l : List Section} → 0 < k → s.line ≡ k → Lined opened l
      → Lined (k ∷ opened) (s ∷ l)

fixed : {opened : List ℕ} {l : List Section} (s : Sort) → Lined opened l → Lined opened (stack_after (Fix s) l)
fixed s top = top
fixed s (above h e r) = above h e r

-- where the parser stands when the tokenizer is at t
record At (t : Tokenizer) (k : ℕ) (opened : List ℕ) (s : Stand) : Type 0 where
  early : Early t
  awaits : OfLine k s.awaited
  lined : Lined opened s.sections
  depth : length opened ≡ t.depth

-- a token of the tokenizer, its states before and after it, and the answers that follow
module _ (d : List ℕ) (t u : Tokenizer) (cs : List Came)
    (next : (k : ℕ) (opened : List ℕ) (s : Stand) → At u k opened s → Shown k opened (parsed s cs)) where
  turned : {A B : Type 0} {n j k : ℕ} {opened : List ℕ} (s : Stand) → Turned d t u A B n j → OfLine k s.awaited
      → Lined opened s.sections → length opened ≡ n → Shown k opened (parsed s cs)
  turned s w o r e = next _ _ s (record { early = w.early; awaits = o; lined = r; depth = e ∙ sym w.depth })

  passed : {k : ℕ} {opened : List ℕ} {x : Token} (s : Stand) → Plain x → TokenTold d t x u → OfLine k s.awaited
      → Lined opened s.sections → length opened ≡ t.depth → Shown k opened (Some (Ok x) ∷ parsed s cs)
  unfolding reopened
  passed s newline w o r e = shown tt refl (turned s w o r e)
  passed s comment w o r e = shown tt refl (turned s w o r e)
  passed s value w o r e = shown tt refl (turned s w.1 o r e)
  passed s hint w o r e = shown tt refl (turned s w.1 o r e)
  passed s multiline w o r e = shown tt refl (turned s w.1 o r e)

  closed : {k : ℕ} {opened : List ℕ} {m : ℕ} (o : ℕ) {s : Section} {l : List Section} → Lined opened l → innermost l ≡ Some s
      → length opened ≡ t.depth → TokenTold d t (Outdent m o) u
      → Shown k opened (Some (Ok (Outdent m s.line)) ∷ parsed (stand awaited.Nothing (stack_after Close l)) cs)
  unfolding reopened
  closed o top q z w = absurd (omega arith)
  closed o {s = s} (above {k = j} h e r) q z w =
      let c : s.line ≡ j = cc in
      rw c (shown h refl (turned _ w.1 tt r (omega arith)))

  moved : {k : ℕ} {opened : List ℕ} (s : Stand) {x y : Token} {a : Awaited} {c : Change} → At t k opened s → TokenTold d t x u
      → Moves s.awaited (innermost s.sections) x y a c
      → Shown k opened (Some (Ok y) ∷ parsed (stand a (stack_after c s.sections)) cs)
  unfolding reopened
  moved {k} s y w (passes p f) = passed _ p w (f k y.awaits) y.lined y.depth
  moved s y w (enters item q e) = shown tt refl (turned _ w.1 (w.0, refl) (fixed _ y.lined) y.depth)
  moved s y w (enters key q e) = shown tt refl (turned _ w.1 (w.0, refl) (fixed _ y.lined) y.depth)
  moved s y w (opens q) =
      let o = rw q at y.awaits in
      shown tt refl (turned _ w.1 tt (above o.0 o.1 y.lined) (ap suc y.depth))
  moved s y w (closes {o = o} q) = closed o y.lined q y.depth w

  fed-once : {k : ℕ} {opened : List ℕ} (s : Stand) {x : Token} {r : Ruling} → At t k opened s → TokenTold d t x u
      → Given s.awaited (innermost s.sections) x r → Shown k opened (going (fed_once s r) cs)
  fed-once s y w (gives m) = moved s y w m
  fed-once s y w stops = refused
  fed-once s y w unfit = refused

  fed : {k : ℕ} {opened : List ℕ} (s : Stand) {x : Token} {r : Ruling} → At t k opened s → TokenTold d t x u
      → Ruled s.awaited (innermost s.sections) x r → Shown k opened (going (fed_by s r) cs)
  unfolding ruling_of on_token reopened
  fed s y w (once (gives m)) = moved s y w m
  fed s y w (once stops) = refused
  fed s y w (once unfit) = refused
  fed s {x = x} y w keeps =
      shown tt refl
      (fed-once (stand awaited.Nothing s.sections) (record { early = y.early; awaits = tt; lined = y.lined; depth = y.depth }) w
      (on-settled (innermost s.sections) x))

at-end : {k : ℕ} {opened : List ℕ} (a : Awaited) (sections : List Section) → Shown k opened (parsed (stand a sections) [])
unfolding on_end ruling_of feed parsed reopened
at-end awaited.Nothing sections = record { carried = tt; matched = refl }
at-end (awaited.Value l) sections = record { carried = (tt, tt); matched = refl }
at-end (awaited.Multiline l) sections = refused

module _ (d : List ℕ) (h : length d ≤ 16777216) where
  reads-shown : {t v : Tokenizer} {cs : List Came} → Reads d t cs v → Sound d t
      → (k : ℕ) (opened : List ℕ) (s : Stand) → At t k opened s → Shown k opened (parsed s cs)
  unfolding is_end ruling_of feed parsed
  reads-shown (ends e) o k opened s y = at-end s.awaited s.sections
  reads-shown (says {s = t} {t = u} {a = None} q f r) o k opened s y = absurd cc
  reads-shown (says {s = t} {t = u} {a = Some (Err e)} q f r) o k opened s y = refused
  reads-shown (says {s = t} {t = u} {a = Some (Ok x)} {as₁ = cs} q f r) o k opened s y =
      fed d t u cs (reads-shown r (rw q at (sound-kept d h t o))) s y (rw q at (step-told d t h o y.early))
      (on-token s.awaited (innermost s.sections) x)

  within : Shown 0 [] (parse d)
  unfolding fresh
  within =
      rw (parse-within d h)
      (reads-shown (reading-ends d h).reads (fresh-sound d) 0 [] _
      (record { early = λ x. refl; awaits = tt; lined = top; depth = refl }))

every : (d : List ℕ) → Shown 0 [] (parse d)
unfolding parse
every d = by_bool (ltb 16777216 (length d)) (λ e. rw e refused) (λ e. within d (ltb-false 16777216 (length d) e))

pub carried : Carried
carried d = (every d).carried

pub matched : Matched
matched d = (every d).matched
