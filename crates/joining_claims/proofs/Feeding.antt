-- The parser over a list in two parts: what the first part makes it say, then the second part from where it then stands, unless
-- it has stopped. It stops exactly where it has refused.
use Rattle.std.specs.Prelude.{Some, None, Result, Ok, Err}
use Rattle.std.specs.Result.{is_ok}
use Rattle.text.specs.declared.refusals.SyntaxError.{SyntaxError}
use Rattle.tokenizer.specs.declared.token.Token.{Token}
use Rattle.tokenizer.specs.Token.{Answer as Came, Answer}
use mathlib.Core.Path.{◌≡◌, refl, sym, ap, ◌∙◌}
use mathlib.Core.List.{List, [], ◌∷◌, ◌++◌, append_assoc, append-nil}
use mathlib.Core.Bool.{true, false, cond, not, ◌||◌}
use Rattle.text.proofs.Cases.{by_bool}
use Rattle.parser.specs.Lists.{Stand, Fed, stand_after, fed_once, ruled, fed_twice, fed_by, feed, parsed, refused_in}
use Rattle.parser_rules.specs.declared.ruling.Kept.{Kept}
use Rattle.parser_rules.specs.declared.ruling.Kept.TheVariants as kept
use Rattle.parser_rules.specs.declared.ruling.Verdict.{Verdict}
use Rattle.parser_rules.specs.declared.ruling.Ruling.{Ruling}
use Rattle.parser_rules.specs.declared.ruling.Ruling.TheVariants.{Says, End, Unfit}
use Rattle.joining_claims.proofs.Ruled.{Keeps, Turns, ruling-turns}

-- what a list makes the parser say, where it then stands, and whether it goes on
unfoldable pub fed : Stand → List Came → Fed
fed s [] = record { says = []; next = s; goes_on = true }
fed s (c ∷ l) =
    let g = fed (feed s c).next l in
    let on : Fed = record { says = (feed s c).says ++ g.says; next = g.next; goes_on = g.goes_on } in
    cond (feed s c).goes_on on (feed s c)

pub parsed-append : (s : Stand) (l m : List Came) → parsed s (l ++ m) ≡ (fed s l).says ++ cond (fed s l).goes_on (parsed (fed s l).next m) []
unfolding fed parsed
parsed-append s [] m = refl
parsed-append s (c ∷ l) m =
    by_bool (feed s c).goes_on
    (λ e. rw e (rw (parsed-append (feed s c).next l m) (sym (append_assoc (feed s c).says (fed (feed s c).next l).says _))))
    (λ e. rw e)

-- a list, and then the end
pub parsed-end : (s : Stand) (l : List Came) → parsed s l ≡ (fed s l).says ++ cond (fed s l).goes_on (feed (fed s l).next None).says []
unfolding parsed
parsed-end s l = ap (parsed s) (sym (append-nil l)) ∙ parsed-append s l []

-- Refusals

pub refused-append : (l m : List Answer) → refused_in (l ++ m) ≡ refused_in l || refused_in m
unfolding refused_in
refused-append [] m = refl
refused-append (None ∷ l) m = refused-append l m
refused-append (Some (Ok t) ∷ l) m = refused-append l m
refused-append (Some (Err e) ∷ l) m = refl

refused-cons : (a : Answer) (l : List Answer) → refused_in (a ∷ []) ≡ false → refused_in (a ∷ l) ≡ refused_in l
refused-cons a l e = refused-append (a ∷ []) l ∙ rw e

-- one answer is a refusal, or a token
refused_one : (r : Result Token SyntaxError) → refused_in (Some r ∷ []) ≡ not (is_ok r)
unfolding refused_in
refused_one (Ok t) = refl
refused_one (Err e) = refl

once-stops : (s : Stand) (r : Ruling) → refused_in (fed_once s r).says ≡ not (fed_once s r).goes_on
unfolding refused_in
once-stops s (Says v) = refused_one v.answer
once-stops s End = refl
once-stops s Unfit = refl

-- what was kept comes again, after the answer of v
abbrev pub again : Stand → Verdict → Came → Fed
again s v c = fed_once (stand_after s v) (ruled (stand_after s v) c)

again-stops : (s : Stand) (v : Verdict) (c : Came) → is_ok v.answer ≡ true
    → refused_in (Some v.answer ∷ (again s v c).says) ≡ not (again s v c).goes_on
again-stops s v c f =
    refused-cons (Some v.answer) _ (refused_one v.answer ∙ ap not f) ∙ once-stops (stand_after s v) (ruled (stand_after s v) c)

twice-stops : (s : Stand) (k : Kept) (v : Verdict) → Keeps k v → refused_in (fed_twice s k v).says ≡ not (fed_twice s k v).goes_on
twice-stops s kept.Nothing v g = refused_one v.answer
twice-stops s kept.End v g = again-stops s v None g.0
twice-stops s (kept.Token t) v g = again-stops s v (Some (Ok t)) g.0

-- one answer of the tokenizer: it stops exactly where it has refused
feed-stops : (s : Stand) (c : Came) → refused_in (feed s c).says ≡ not (feed s c).goes_on
unfolding feed
feed-stops s c = by-ruling (ruled s c) (ruling-turns s.sections s.awaited c)
  where
    by-ruling : (r : Ruling) → Turns s.sections r → refused_in (fed_by s r).says ≡ not (fed_by s r).goes_on
    by-ruling (Says v) t = twice-stops s v.kept v t.1
    by-ruling End t = once-stops s End
    by-ruling Unfit t = once-stops s Unfit

-- a list of them
pub fed-stops : (s : Stand) (l : List Came) → refused_in (fed s l).says ≡ not (fed s l).goes_on
unfolding fed refused_in
fed-stops s [] = refl
fed-stops s (c ∷ l) =
    by_bool (feed s c).goes_on
    (λ e. rw e (refused-append (feed s c).says (fed (feed s c).next l).says ∙ rw (feed-stops s c, e) (fed-stops (feed s c).next l)))
    (λ e. rw e (feed-stops s c ∙ ap not e))
