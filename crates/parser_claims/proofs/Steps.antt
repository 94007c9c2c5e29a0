-- The parser's steps along a reading of the tokenizer: they say the list that the parser makes of the reading's, all of it fits, and
-- it is no longer than what there is to spend. One induction over the reading; each answer goes by its outcome.
use Rattle.std.specs.Prelude.{Some, None, Ok, Err}
use Rattle.tokenizer.specs.Token.{Answer as Came, Answer}
use Prim.Native.Nat.{ℕ, ◌≤◌, ◌<◌}
use mathlib.Core.Path.{◌≡◌, refl, ap, ◌∙◌}
use mathlib.Core.List.{List, [], ◌∷◌, ◌++◌}
use mathlib.Core.Bool.{true, false, cond}
use native.Mathlib.Omega.{arith}
use lib.ListN.{length}
use borrow.Author.Tests.{le-ltb, lt-leb}
use Rattle.tokenizer.specs.Step.{step_of as token_step}
use Rattle.tokenizer.specs.Lists.{Reads, ends, says, is_end}
use Rattle.tokenizer.specs.declared.state.State.{State as Tokenizer}
use Rattle.tokenizer_claims.proofs.Sound.{Sound, sound-fit}
use Rattle.tokenizer_claims.proofs.Claimed.{sound-kept, sound-vouches}
use Rattle.parser_rules.specs.Ruling.{on_token, on_end, ruling_of}
use Rattle.parser.specs.Step.{full_of, sections_after, count_after, after_verdict, on_ruling, step_with, step_kept, step_of}
use Rattle.parser.specs.Lists.{Parses, Stand, innermost, stack_after, Fed, fed_once, fed_by, feed, parsed}
use Rattle.parser.specs.Lists as lists
use Rattle.parser_rules.specs.declared.ruling.Awaited.{Awaited}
use Rattle.parser_rules.specs.declared.ruling.Awaited.TheVariants as awaited
use Rattle.parser_rules.specs.declared.ruling.Kept.TheVariants as kept
use Rattle.parser_rules.specs.declared.ruling.Ruling.{Ruling}
use Rattle.parser_rules.specs.declared.ruling.Section.{Section}
use Rattle.parser.specs.declared.state.State.{State}
use Rattle.parser_claims.specs.Claims.{Fits, All}
use Rattle.parser_claims.proofs.Tokens.{step-told}
use Rattle.parser_claims.proofs.Rulings.{stand, Tied, budget, Settled, gives, stops, Outcome, once, twice, outcome, guard-idle}
use Rattle.parser_claims.proofs.Sections.{Mirrors, shows-count, shows-innermost, mirrors-after}

-- from this state on the list is said, it fits, and it has at most b answers
pub record Comes (d : List ℕ) (p : State) (l : List Answer) (b : ℕ) : Type 0 where
  pub last : State
  pub parses : Parses d p l last
  pub fits : All (Fits d) l
  pub bound : length l ≤ b

-- what fits is not End
fits-goes : (d : List ℕ) (a : Answer) → Fits d a → is_end a ≡ false
unfolding is_end
fits-goes d None f = absurd f
fits-goes d (Some (Ok t)) f = refl
fits-goes d (Some (Err e)) f = refl

-- End, and one answer before what comes next

ending : {d : List ℕ} {p : State} (b : ℕ) → (step_of d p).answer ≡ None → Comes d p [] b
ending {p = p} b e = record { last = p; parses = lists.ends e; fits = tt; bound = omega arith }

saying : {d : List ℕ} {p q : State} {a : Answer} {l : List Answer} {b c : ℕ} → step_of d p ≡ record { answer = a; state = q } → Fits d a
    → Comes d q l c → c < b → Comes d p (a ∷ l) b
saying {d} {a = a} e f r h = record {
  last = r.last;
  parses = lists.says e (fits-goes d a f) r.parses;
  fits = (f, r.fits);
  bound = omega arith;
}

-- what is said of what was fed, and of the answers that follow
abbrev pub going : Fed → List Came → List Answer
going f cs = f.says ++ cond f.goes_on (parsed f.next cs) []

-- a parser that has kept and refused nothing
abbrev pub parser_at : Tokenizer → Awaited → List Section → ℕ → State
parser_at t w a n = record { tokenizer = t; kept = kept.Nothing; awaited = w; refused = false; sections = a; count = n }

-- wherever the parser stands, it says what it makes of the answers cs
abbrev pub Goes : List ℕ → Tokenizer → List Came → Type 0
Goes d t cs =
    (s : Stand) (a : List Section) (n : ℕ) → Mirrors a n s.sections → Tied d t s
    → Comes d (parser_at t s.awaited a n) (parsed s cs) (budget d t s.awaited)

module _ (d : List ℕ) (h : length d ≤ 16777216) where
  step-ruled : (p : State) → Sound d p.tokenizer → p.refused ≡ false → step_of d p ≡ step_kept d p p.kept
  unfolding step_of
  step-ruled p o r = rw (le-ltb 16777216 (length d) h, sound-fit d p.tokenizer o, r)

  step-refused : (p : State) → Sound d p.tokenizer → p.refused ≡ true → (step_of d p).answer ≡ None
  unfolding step_of
  step-refused p o r = rw (le-ltb 16777216 (length d) h, sound-fit d p.tokenizer o, r)

  -- an answer of the tokenizer that is not its last: u is its state after it, and cs are the answers that follow
  module _ {u : Tokenizer} (cs : List Came) (o : Sound d u) (goes : Goes d u cs) where
    on-settled : (s : Stand) (p : State) {b : ℕ} {r : Ruling} → Mirrors p.sections p.count s.sections → Settled d u s.sections b r
        → step_of d p ≡ on_ruling r p u → Comes d p (going (fed_once s r) cs) b
    unfolding after_verdict
    on-settled s p m (gives a c f w z) e =
        saying e f (goes (stand a (stack_after c s.sections)) _ _ (mirrors-after c m (omega (arith, w.sections, o.depth))) w) z
    on-settled s p m (stops n f z) e = saying e f (ending 0 (step-refused _ o refl)) z

    on-outcome : (s : Stand) (p : State) {b : ℕ} {r : Ruling} → Mirrors p.sections p.count s.sections → length s.sections ≤ 65
        → Outcome d u s.sections b r → step_of d p ≡ on_ruling r p u → Comes d p (going (fed_by s r) cs) b
    unfolding ruling_of on_token after_verdict sections_after count_after step_with step_kept
    on-outcome s p m l (once (gives a c f w z)) e = on-settled s p m (gives a c f w z) e
    on-outcome s p m l (once (stops n f z)) e = on-settled s p m (stops n f z) e
    on-outcome s p m l (twice x z) e =
        saying e tt (on-settled (stand awaited.Nothing s.sections) _ m x (step-ruled _ o refl ∙ rw (shows-innermost m.shows l))) z

  -- the end of the reading
  module _ (t : Tokenizer) (o : Sound d t) (e : (token_step d t).answer ≡ None) (a : List Section) (n : ℕ) where
    step_end : (w : Awaited) → step_of d (parser_at t w a n) ≡ on_ruling (on_end w) (parser_at t w a n) (token_step d t).state
    unfolding ruling_of step_with step_kept
    step_end w = step-ruled (parser_at t w a n) o refl ∙ rw e

    on-end : (w : Awaited) (sections : List Section) → Comes d (parser_at t w a n) (parsed (stand w sections) []) (budget d t w)
    unfolding on_end ruling_of feed parsed after_verdict step_with step_kept
    on-end awaited.Nothing sections = ending _ (ap (λ x. x.answer) (step_end awaited.Nothing))
    on-end (awaited.Value l) sections =
        saying (step_end (awaited.Value l)) tt (ending 0 (ap (λ x. x.answer) (step-ruled _ (sound-kept d h t o) refl))) (omega arith)
    on-end (awaited.Multiline l) sections =
        saying (step_end (awaited.Multiline l)) (omega arith) (ending 0 (step-refused _ (sound-kept d h t o) refl)) (omega arith)

  pub comes : {t v : Tokenizer} {cs : List Came} → Reads d t cs v → Sound d t → Goes d t cs
  unfolding feed parsed step_with step_kept
  comes (ends {s = t} e) o s a n m w = on-end t o e a n s.awaited s.sections
  comes (says {s = t} {t = u} {a = c} {as₁ = cs} q f r) o s a n m w =
      let next = rw q at (sound-kept d h t o) in
      let told = rw q at (step-told d t h o w.early) in
      let l : length s.sections ≤ 65 = omega (arith, w.sections, o.depth) in
      let space : t.depth < 64 → full_of n ≡ false = λ z. lt-leb 65 n (omega (arith, w.sections, shows-count m.shows)) in
      let idle = guard-idle d t u (full_of n) space s.awaited (innermost s.sections) c told in
      on-outcome cs next (comes r next) s (parser_at t s.awaited a n) m l (outcome d t u s c f w (rw q at (sound-vouches d h t o)) told)
      (step-ruled (parser_at t s.awaited a n) o refl ∙ rw (q, shows-innermost m.shows l, idle))
