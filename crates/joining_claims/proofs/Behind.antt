-- Demand 3, clause 3, over lists: a key or an item after a list that ended at the top level. What is awaited there gets its NoValue or
-- its refusal as at the end of the document; then the entry is refused where the top level is of the other sort, or read as
-- the first of a document is.
use Rattle.joining_claims.specs.Joined.{below_entry}
use Rattle.std.specs.Prelude.{Option, Some, None, Ok}
use Rattle.tokenizer.specs.Token.{Answer as Came}
use Prim.Native.Nat.{ℕ}
use mathlib.Core.Path.{◌≡◌, refl}
use mathlib.Core.List.{List, [], ◌∷◌, ◌++◌}
use mathlib.Core.Bool.{Bool, true, false, cond}
use Rattle.text.proofs.Cases.{by_bool}
use Rattle.tokenizer.specs.declared.token.Token.{Token}
use Rattle.parser_rules.specs.Ruling.{clashes, on_entry, settled, after_entry, after_hint, on_token, on_end, ruling_of}
use Rattle.parser.specs.Lists.{Stand, feed, parsed, fresh_stand}
use Rattle.parser_rules.specs.declared.ruling.Sort.{Sort}
use Rattle.parser_rules.specs.declared.ruling.Sort.TheVariants.{Map, List as Listed}
use Rattle.parser_rules.specs.declared.ruling.Awaited.{Awaited}
use Rattle.parser_rules.specs.declared.ruling.Awaited.TheVariants as awaited
use Rattle.parser_claims.proofs.Given.{Entry, item, key}
use Rattle.joining_claims.proofs.Tops.{level}

-- a stand at the top level
abbrev pub at_top : Awaited → Option Sort → Stand
at_top a s = record { awaited = a; sections = level s ∷ [] }

-- whether a hint awaits its value, which is then missing
abbrev pub hinted : Awaited → Bool
hinted awaited.Nothing = false
hinted (awaited.Value m) = false
hinted (awaited.Multiline m) = true

-- the end of the document first
pub behind : (a : Awaited) (s : Option Sort) (l : List Came) {t : Token} {m : ℕ} {k : Sort} → Entry t m k → parsed (at_top a s) (Some (Ok t) ∷ l)
    ≡ (feed (at_top a s) None).says ++ cond (hinted a) [] (parsed (at_top awaited.Nothing s) (Some (Ok t) ∷ l))
unfolding parsed feed ruling_of on_token on_end settled after_entry after_hint on_entry
behind awaited.Nothing s l e = refl
behind (awaited.Value k) s l item = by_bool (clashes s Listed) (λ e. rw e) (λ e. rw e)
behind (awaited.Value k) s l key = by_bool (clashes s Map) (λ e. rw e) (λ e. rw e)
behind (awaited.Multiline k) s l item = refl
behind (awaited.Multiline k) s l key = refl

-- then the entry, by the sort of the top level
pub entry-after : (s : Option Sort) (l : List Came) {t : Token} {m : ℕ} {k : Sort} → Entry t m k → parsed (at_top awaited.Nothing s) (Some (Ok t) ∷ l)
    ≡ below_entry s (Some k) m (parsed fresh_stand (Some (Ok t) ∷ l))
unfolding parsed feed ruling_of on_token settled on_entry
entry-after s l item = by_bool (clashes s Listed) (λ e. rw e) (λ e. rw e)
entry-after s l key = by_bool (clashes s Map) (λ e. rw e) (λ e. rw e)
