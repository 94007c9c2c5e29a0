-- Every ruling that says something is a turn of the sections, unless it is a refusal; and what is kept is kept behind a
-- NoValue.
use Rattle.std.specs.Prelude.{Some, None, Ok, Err}
use Rattle.std.specs.Result.{is_ok}
use Rattle.tokenizer.specs.Token.{Answer as Came}
use mathlib.Core.Path.{◌≡◌, refl, sym}
use mathlib.Core.List.{List}
use mathlib.Core.Bool.{true, false}
use Rattle.text.proofs.Cases.{clash}
use Rattle.tokenizer.specs.declared.token.Token.{Token}
use Rattle.parser_rules.specs.Ruling.{on_end, ruling_of}
use Rattle.parser.specs.Lists.{innermost}
use Rattle.parser_rules.specs.declared.ruling.Awaited.{Awaited}
use Rattle.parser_rules.specs.declared.ruling.Awaited.TheVariants as awaited
use Rattle.parser_rules.specs.declared.ruling.Kept.{Kept}
use Rattle.parser_rules.specs.declared.ruling.Kept.TheVariants as kept
use Rattle.parser_rules.specs.declared.ruling.Change.TheVariants.{Keep}
use Rattle.parser_rules.specs.declared.ruling.Verdict.{Verdict}
use Rattle.parser_rules.specs.declared.ruling.Ruling.{Ruling}
use Rattle.parser_rules.specs.declared.ruling.Ruling.TheVariants.{Says, End, Unfit}
use Rattle.parser_rules.specs.declared.ruling.Section.{Section}
use Rattle.parser_claims.proofs.Given.{Given, gives, stops, unfit, Ruled, once, keeps, on-token}
use Rattle.joining_claims.proofs.Tops.{Turn, misses, moves}

-- where something is kept, a token is said and the sections stay
abbrev pub Keeps : Kept → Verdict → Type 0
Keeps kept.Nothing v = Unit {0}
Keeps kept.End v = (is_ok v.answer ≡ true) × (v.change ≡ Keep)
Keeps (kept.Token t) v = (is_ok v.answer ≡ true) × (v.change ≡ Keep)

abbrev pub Turns : List Section → Ruling → Type 0
Turns sections (Says v) = (is_ok v.answer ≡ true → Turn sections (Some v.answer) v.change) × Keeps v.kept v
Turns sections End = Unit {0}
Turns sections Unfit = Unit {0}

-- a refusal turns nothing
stopped : {A : Type 0} → false ≡ true → A
stopped e = absurd (clash (sym e))

module _ (sections : List Section) where
  given-turns : {w : Awaited} {x : Token} {r : Ruling} → Given w (innermost sections) x r → Turns sections r
  given-turns (gives m) = (λ g. moves m, tt)
  given-turns stops = (stopped, tt)
  given-turns unfit = tt

  ruled-turns : {w : Awaited} {x : Token} {r : Ruling} → Ruled w (innermost sections) x r → Turns sections r
  ruled-turns (once g) = given-turns g
  ruled-turns keeps = (λ g. misses, (refl, refl))

  pub ruling-turns : (a : Awaited) (c : Came) → Turns sections (ruling_of a (innermost sections) false c)
  unfolding ruling_of on_end
  ruling-turns awaited.Nothing None = tt
  ruling-turns (awaited.Value k) None = (λ g. misses, (refl, refl))
  ruling-turns (awaited.Multiline k) None = (stopped, tt)
  ruling-turns a (Some (Ok t)) = ruled-turns (on-token a (innermost sections) t)
  ruling-turns a (Some (Err e)) = (stopped, tt)
