-- In a parser's list a refusal comes last, and the keys come in the order of their starts.
use mathlib.Core.Path.{◌≡◌, refl}
use Rattle.parser_rules.specs.declared.ruling.Change.{Change}
use Rattle.text.specs.declared.refusals.SyntaxError.{SyntaxError}
use Rattle.std.specs.Prelude.{Some, Ok, Err, Option}
use Rattle.tokenizer.specs.Token.{Answer as Came, Answer}
use Prim.Native.Nat.{ℕ, ◌≤◌}
use mathlib.Core.List.{List, [], ◌∷◌}
use native.Mathlib.Nat.{le_refl}
use native.Mathlib.Omega.{arith}
use lib.ListN.{length}
use Rattle.tokenizer.specs.declared.token.Token.{Token}
use Rattle.tokenizer_claims.proofs.Sound.{fresh-sound}
use Rattle.tokenizer_claims.proofs.Claimed.{ends as reading-ends}
use Rattle.tokenizer_claims.proofs.Places.{reached, Placed, reads-placed}
use Rattle.tokenizer_claims.proofs.Places as places
use Rattle.parser_rules.specs.Ruling.{on_token, on_end, ruling_of}
use Rattle.parser.specs.Lists.{Stand, fed_once, fed_by, feed, parsed, parse}
use Rattle.parser_rules.specs.declared.ruling.Section.{Section}
use Rattle.parser_rules.specs.declared.ruling.Awaited.{Awaited}
use Rattle.parser_rules.specs.declared.ruling.Awaited.TheVariants as awaited
use Rattle.parser_rules.specs.declared.ruling.Ruling.{Ruling}
use Rattle.parser_claims.proofs.Rulings.{stand}
use Rattle.parser_claims.proofs.Steps.{going}
use Rattle.parser_claims.proofs.Claimed.{parse-within}
use Rattle.parser_claims.proofs.Given.{Given, gives, stops, unfit, Ruled, once, keeps, on-settled, on-token, Moves, passes, enters, opens, closes}

-- each key starts at n or after, and not before the last one
pub data Ordered : ℕ → List Answer → Type 0 where
  none : {n : ℕ} → Ordered n []
  last : {n : ℕ} {e : SyntaxError} → Ordered n (Some (Err e) ∷ [])
  more : {n : ℕ} {t : Token} {l : List Answer} → n ≤ reached n t → Ordered (reached n t) l → Ordered n (Some (Ok t) ∷ l)

pub tail : {n : ℕ} {a : Answer} {l : List Answer} → Ordered n (a ∷ l) → (m : ℕ) × Ordered m l
tail {n} last = (n, none)
tail (more h r) = (_, r)

-- what is given reaches as far as what came
reaches : {w a : Awaited} {i : Option Section} {x y : Token} {c : Change} → Moves w i x y a c → (n : ℕ) → reached n y ≡ reached n x
reaches (passes p f) n = refl
reaches (enters p e f) n = refl
reaches (opens e) n = refl
reaches (closes e) n = refl

module _ {n : ℕ} {x : Token} (h : n ≤ reached n x) (cs : List Came) (next : (s : Stand) → Ordered (reached n x) (parsed s cs)) where
  given : {w a : Awaited} {i : Option Section} {y : Token} {c : Change} {l : List Answer} → Moves w i x y a c → Ordered (reached n x) l
      → Ordered n (Some (Ok y) ∷ l)
  given m r = let e = reaches m n in more (rw e h) (rw e r)

  fed-once : (s : Stand) {w : Awaited} {i : Option Section} {r : Ruling} → Given w i x r → Ordered n (going (fed_once s r) cs)
  fed-once s (gives m) = given m (next _)
  fed-once s stops = last
  fed-once s unfit = last

  fed : (s : Stand) {w : Awaited} {i : Option Section} {r : Ruling} → Ruled w i x r → Ordered n (going (fed_by s r) cs)
  unfolding ruling_of on_token
  fed s (once (gives m)) = given m (next _)
  fed s (once stops) = last
  fed s (once unfit) = last
  fed s keeps = more (le_refl _) (fed-once _ (on-settled _ x))

at-end : {n : ℕ} (a : Awaited) (sections : List Section) → Ordered n (parsed (stand a sections) [])
unfolding on_end ruling_of feed parsed
at-end awaited.Nothing sections = none
at-end (awaited.Value l) sections = more (le_refl _) none
at-end (awaited.Multiline l) sections = last

parsed-ordered : {n : ℕ} {cs : List Came} → Placed n cs → (s : Stand) → Ordered n (parsed s cs)
unfolding ruling_of feed parsed
parsed-ordered places.none s = at-end s.awaited s.sections
parsed-ordered places.refused s = last
parsed-ordered (places.more {t = x} {as₁ = cs} h r) s = fed h cs (parsed-ordered r) s (on-token s.awaited _ x)

pub parse-ordered : (d : List ℕ) → length d ≤ 16777216 → Ordered 0 (parse d)
parse-ordered d h =
    rw (parse-within d h) (parsed-ordered (reads-placed d h (reading-ends d h).reads (fresh-sound d) 0 (omega arith)) _)
