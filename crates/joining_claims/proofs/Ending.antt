-- How the parsing of a document ends. Where its tokens made the parser stop, they made all of its answers, with a
-- refusal among them; else the document's end comes at the top level.
use Rattle.std.specs.Prelude.{Option, None}
use Prim.Native.Nat.{ℕ, ◌≤◌}
use mathlib.Core.Path.{◌≡◌, refl, ap, ◌∙◌}
use mathlib.Core.List.{List, [], ◌∷◌, ◌++◌, append-nil}
use mathlib.Core.Bool.{Bool, true, false, cond, not}
use native.Mathlib.Omega.{arith}
use lib.ListN.{length}
use Rattle.text.proofs.Cases.{clash}
use Rattle.tokenizer.specs.Lists.{tokens}
use Rattle.parser_rules.specs.Ruling.{ruling_of, on_end}
use Rattle.parser.specs.Step.{no_sort}
use Rattle.parser.specs.Lists.{Stand, Fed, feed, fresh_stand, parse, refused_in}
use Rattle.parser_rules.specs.declared.ruling.Sort.{Sort}
use Rattle.parser_rules.specs.declared.ruling.Awaited.{Awaited}
use Rattle.parser_rules.specs.declared.ruling.Awaited.TheVariants as awaited
use Rattle.parser_claims.proofs.Claimed.{parse-within}
use Rattle.joining_claims.proofs.Feeding.{fed, parsed-end, refused-append, fed-stops}
use Rattle.joining_claims.proofs.Tops.{level, misses, Runs, done, more, runs_append}
use Rattle.joining_claims.proofs.Behind.{at_top, hinted}
use Rattle.joining_claims.proofs.AtTop.{stands_at_top}

-- a hint is refused at the end, and nothing else is
pub end_refused : (a : Awaited) (s : Option Sort) → refused_in (feed (at_top a s) None).says ≡ hinted a
unfolding feed ruling_of on_end refused_in
end_refused awaited.Nothing s = refl
end_refused (awaited.Value m) s = refl
end_refused (awaited.Multiline m) s = refl

-- the sections stay
pub end-runs : (a : Awaited) (s : Option Sort) → hinted a ≡ false
    → Runs (level s ∷ []) (feed (at_top a s) None).says (level s ∷ [])
unfolding feed ruling_of on_end
end-runs awaited.Nothing s e = done
end-runs (awaited.Value m) s e = more {sections = level s ∷ []} misses (omega arith) done
end-runs (awaited.Multiline m) s e = absurd (clash e)

-- f is what the tokens of d made the parser say, and it stopped
pub record Stopped (d : List ℕ) (f : Fed) : Type 0 where
  pub list : parse d ≡ f.says
  pub refused : refused_in (parse d) ≡ true

-- or went on
pub record Went (d : List ℕ) (f : Fed) : Type 0 where
  pub sort : Option Sort
  pub next : f.next ≡ at_top f.next.awaited sort
  pub list : parse d ≡ f.says ++ (feed (at_top f.next.awaited sort) None).says
  pub refused : refused_in (parse d) ≡ hinted f.next.awaited
  pub runs : hinted f.next.awaited ≡ false → Runs (no_sort ∷ []) (parse d) (level sort ∷ [])

module _ (d : List ℕ) (h : length d ≤ 16777216) where
  answers : parse d
      ≡ (fed fresh_stand (tokens d)).says
      ++ cond (fed fresh_stand (tokens d)).goes_on (feed (fed fresh_stand (tokens d)).next None).says []
  answers = parse-within d h ∙ parsed-end fresh_stand (tokens d)

  pub stopped : (fed fresh_stand (tokens d)).goes_on ≡ false → Stopped d (fed fresh_stand (tokens d))
  stopped g =
      let f = fed fresh_stand (tokens d) in
      let a : parse d ≡ f.says =
      answers ∙ ap (λ (on : Bool). f.says ++ cond on (feed f.next None).says []) g ∙ append-nil f.says in
      record { list = a; refused = ap refused_in a ∙ fed-stops fresh_stand (tokens d) ∙ ap not g }

  pub went : (fed fresh_stand (tokens d)).goes_on ≡ true → Went d (fed fresh_stand (tokens d))
  went g =
      let f = fed fresh_stand (tokens d) in
      let w = f.next.awaited in
      let o = stands_at_top d h g in
      let a : parse d ≡ f.says ++ (feed (at_top w o.sort) None).says =
      answers ∙ ap (λ (on : Bool). f.says ++ cond on (feed f.next None).says []) g
      ∙ ap (λ (y : Stand). f.says ++ (feed y None).says) o.next in
      let u : refused_in f.says ≡ false = fed-stops fresh_stand (tokens d) ∙ ap not g in
      record {
        sort = o.sort;
        next = o.next;
        list = a;
        refused =
            ap refused_in a ∙ refused-append f.says (feed (at_top w o.sort) None).says ∙ rw (u, end_refused w o.sort);
        runs = λ e. rw a (runs_append o.runs (end-runs w o.sort e));
      }
