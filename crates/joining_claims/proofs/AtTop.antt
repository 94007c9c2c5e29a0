-- Where a document's parsing stands at its end, unless it has refused: at the top level, whose sort is that of the first
-- top-level entry that was said.
use Rattle.std.specs.Prelude.{Option, Some, None, Ok}
use Rattle.std.specs.Result.{is_ok}
use Rattle.tokenizer.specs.Token.{Answer as Came}
use Prim.Native.Nat.{ℕ, suc, ◌≤◌, ◌<◌}
use mathlib.Core.Path.{◌≡◌, sym, ap, ◌∙◌, subst}
use mathlib.Core.List.{List, [], ◌∷◌, ◌++◌}
use mathlib.Core.Bool.{true}
use native.Mathlib.Omega.{arith}
use lib.ListN.{length}
use Rattle.text.proofs.Cases.{by_bool, clash}
use Rattle.tokenizer.specs.Lists.{Reads, ends, says, tokens}
use Rattle.tokenizer.specs.declared.state.State.{State as Tokenizer}
use Rattle.tokenizer_claims.proofs.Sound.{Sound, fresh-sound}
use Rattle.tokenizer_claims.proofs.Claimed.{sound-kept, sound-vouches, ends as reading-ends}
use Rattle.parser_rules.specs.Ruling.{on_token, ruling_of}
use Rattle.parser.specs.Step.{no_sort}
use Rattle.parser.specs.Lists.{Stand, stack_after, Fed, stand_after, fed_once, ruled, fed_twice, fed_by, feed, fresh_stand}
use Rattle.parser_rules.specs.declared.ruling.Sort.{Sort}
use Rattle.parser_rules.specs.declared.ruling.Awaited.TheVariants as awaited
use Rattle.parser_rules.specs.declared.ruling.Kept.{Kept}
use Rattle.parser_rules.specs.declared.ruling.Kept.TheVariants as kept
use Rattle.parser_rules.specs.declared.ruling.Change.TheVariants.{Keep}
use Rattle.parser_rules.specs.declared.ruling.Verdict.{Verdict}
use Rattle.parser_rules.specs.declared.ruling.Ruling.{Ruling}
use Rattle.parser_rules.specs.declared.ruling.Ruling.TheVariants.{Says, End, Unfit}
use Rattle.parser_claims.proofs.Claimed.{fresh-tied}
use Rattle.parser_claims.proofs.Tokens.{step-told}
use Rattle.parser_claims.proofs.Rulings.{stand, Tied, Settled, gives, stops, Outcome, once, twice, outcome}
use Rattle.joining_claims.proofs.Tops.{level, Turn, Runs, done, more, runs_append, top-sort}
use Rattle.joining_claims.proofs.Ruled.{Keeps, Turns, ruling-turns}
use Rattle.joining_claims.proofs.Feeding.{fed, again}
use Rattle.joining_claims.proofs.Behind.{at_top}

-- One answer of the tokenizer, over the list of sections

once_runs : (s : Stand) (r : Ruling) → Turns s.sections r → 0 < length (fed_once s r).next.sections → (fed_once s r).goes_on ≡ true
    → Runs s.sections (fed_once s r).says (fed_once s r).next.sections
once_runs s (Says v) t h g = more (t.0 g) h done
once_runs s End t h g = done
once_runs s Unfit t h g = absurd (clash (sym g))

-- a NoValue, and what was kept behind it
again-runs : (s : Stand) (v : Verdict) (c : Came) → (is_ok v.answer ≡ true → Turn s.sections (Some v.answer) v.change)
    → (is_ok v.answer ≡ true) × (v.change ≡ Keep) → 0 < length s.sections → 0 < length (again s v c).next.sections
    → (again s v c).goes_on ≡ true → Runs s.sections (Some v.answer ∷ (again s v c).says) (again s v c).next.sections
again-runs s v c f k n h g =
    more (f k.0) (subst (λ x. 0 < length (stack_after x s.sections)) (sym k.1) n)
    (once_runs (stand_after s v) (ruled (stand_after s v) c) (ruling-turns (stand_after s v).sections v.awaited c) h g)

twice-runs : (s : Stand) (k : Kept) (v : Verdict) → Turns s.sections (Says v) → Keeps k v → 0 < length s.sections
    → 0 < length (fed_twice s k v).next.sections
    → (fed_twice s k v).goes_on ≡ true → Runs s.sections (fed_twice s k v).says (fed_twice s k v).next.sections
twice-runs s kept.Nothing v t k n h g = once_runs s (Says v) t h g
twice-runs s kept.End v t k n h g = again-runs s v None t.0 k n h g
twice-runs s (kept.Token x) v t k n h g = again-runs s v (Some (Ok x)) t.0 k n h g

feed-runs : (s : Stand) (c : Came) → 0 < length s.sections → 0 < length (feed s c).next.sections → (feed s c).goes_on ≡ true
    → Runs s.sections (feed s c).says (feed s c).next.sections
unfolding feed
feed-runs s c n = by-ruling (ruled s c) (ruling-turns s.sections s.awaited c)
  where
    by-ruling : (r : Ruling) → Turns s.sections r → 0 < length (fed_by s r).next.sections → (fed_by s r).goes_on ≡ true
        → Runs s.sections (fed_by s r).says (fed_by s r).next.sections
    by-ruling (Says v) t h g = twice-runs s v.kept v t t.1 n h g
    by-ruling End t h g = done
    by-ruling Unfit t h g = absurd (clash (sym g))

-- Along a reading the parser's sections keep to the tokenizer's

settled-tied : (d : List ℕ) (u : Tokenizer) (s : Stand) {b : ℕ} {r : Ruling} → Settled d u s.sections b r
    → (fed_once s r).goes_on ≡ true → Tied d u (fed_once s r).next
settled-tied d u s (gives a c f w z) g = w
settled-tied d u s (stops n f z) g = absurd (clash (sym g))

outcome-tied : (d : List ℕ) (u : Tokenizer) (s : Stand) {b : ℕ} {r : Ruling} → Outcome d u s.sections b r
    → (fed_by s r).goes_on ≡ true → Tied d u (fed_by s r).next
unfolding ruling_of on_token
outcome-tied d u s (once (gives a c f w z)) g = w
outcome-tied d u s (once (stops n f z)) g = absurd (clash (sym g))
outcome-tied d u s (twice x z) g = settled-tied d u (stand awaited.Nothing s.sections) x g

-- Where it stands after the reading of a document, having gone on
pub record Stands (d : List ℕ) (u : Tokenizer) (s : Stand) (f : Fed) : Type 0 where
  pub tied : Tied d u f.next
  pub runs : Runs s.sections f.says f.next.sections

more-stands : (d : List ℕ) (u v : Tokenizer) (s : Stand) (c : Came) (cs : List Came) → 0 < length s.sections
    → ((feed s c).goes_on ≡ true → Tied d u (feed s c).next)
    → (Tied d u (feed s c).next → (fed (feed s c).next cs).goes_on ≡ true → Stands d v (feed s c).next (fed (feed s c).next cs))
    → (fed s (c ∷ cs)).goes_on ≡ true → Stands d v s (fed s (c ∷ cs))
unfolding fed
more-stands d u v s c cs n w k g =
    by_bool (feed s c).goes_on
    (λ e. rw e (both e (k (w e) (rw e at g))))
    (λ e. absurd (clash (sym (rw e at g))))
  where
    both : (feed s c).goes_on ≡ true → Stands d v (feed s c).next (fed (feed s c).next cs)
        → Stands d v s (record { says = (feed s c).says ++ (fed (feed s c).next cs).says; next = (fed (feed s c).next cs).next; goes_on = (fed (feed s c).next cs).goes_on })
    both e r = record { tied = r.tied; runs = runs_append (feed-runs s c n (omega (arith, (w e).sections)) e) r.runs }

module _ (d : List ℕ) (h : length d ≤ 16777216) where
  stands : {t v : Tokenizer} {cs : List Came} → Reads d t cs v → Sound d t → (s : Stand) → Tied d t s → (fed s cs).goes_on ≡ true → Stands d v s (fed s cs)
  unfolding fed feed
  stands (ends e) o s w g = record { tied = w; runs = done }
  stands (says {s = t} {t = u} {a = c} {as₁ = cs} q f r) o s w g =
      let next = rw q at (sound-kept d h t o) in
      let told = rw q at (step-told d t h o w.early) in
      let out = outcome d t u s c f w (rw q at (sound-vouches d h t o)) told in
      more-stands d u _ s c cs (omega (arith, w.sections)) (outcome-tied d u s out) (stands r next (feed s c).next) g

-- at the end no section is open but the top level
pub record Topped (f : Fed) : Type 0 where
  pub sort : Option Sort
  pub next : f.next ≡ at_top f.next.awaited sort
  pub runs : Runs (no_sort ∷ []) f.says (level sort ∷ [])

pub stands_at_top : (d : List ℕ) → length d ≤ 16777216 → (fed fresh_stand (tokens d)).goes_on ≡ true → Topped (fed fresh_stand (tokens d))
stands_at_top d h g =
    let e = reading-ends d h in
    let s = stands d h e.reads (fresh-sound d) fresh_stand (fresh-tied d) g in
    let o = top-sort s.runs (s.tied.sections ∙ ap suc e.closed) in
    let w = (fed fresh_stand (tokens d)).next.awaited in
    record { sort = _; next = λ i. record { awaited = w; sections = o i }; runs = rw o at s.runs }
