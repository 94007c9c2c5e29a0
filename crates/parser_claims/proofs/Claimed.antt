-- Claims 1 and 2 for the parser, proved: the parser's steps along the reading of a document, from the fresh states; and a state has
-- only one parsing.
use Rattle.tokenizer.specs.Token.{Answer}
use Prim.Native.Nat.{ℕ, ◌*◌, ◌≤◌}
use mathlib.Core.Path.{◌≡◌, refl, sym, ap, ◌∙◌, subst}
use mathlib.Core.List.{List}
use native.Mathlib.Omega.{arith}
use lib.Dec.{ltb}
use lib.ListN.{length}
use borrow.Author.Tests.{ltb-true, ltb-false, lt-ltb, le-ltb}
use Rattle.text.proofs.Cases.{by_bool}
use Rattle.tokenizer.specs.Lists.{tokens}
use Rattle.tokenizer.specs.Step.{fresh as fresh_tokenizer}
use Rattle.tokenizer_claims.proofs.Sound.{fresh-sound}
use Rattle.tokenizer_claims.proofs.Readings.{no_more}
use Rattle.tokenizer_claims.proofs.Claimed.{ends as reading-ends}
use Rattle.parser.specs.Step.{fresh}
use Rattle.parser.specs.Lists.{Parses, ends as at-end, says, ParseList, over, read, parsed, fresh_stand, parse}
use Rattle.parser_rules.specs.declared.ruling.Awaited.TheVariants as awaited
use Rattle.parser.specs.declared.state.State.{State}
use Rattle.parser_claims.specs.Claims.{Ends, Lists, Fit}
use Rattle.parser_claims.proofs.Tokens.{room}
use Rattle.parser_claims.proofs.Rulings.{budget, Tied}
use Rattle.parser_claims.proofs.Sections.{none, one}
use Rattle.parser_claims.proofs.Steps.{Comes, comes}

-- the answers of a parsing are determined
parses-one : {d : List ℕ} {p u v : State} {l m : List Answer} → Parses d p l u → Parses d p m v → l ≡ m
parses-one (at-end e) (at-end f) = refl
parses-one (at-end e) (says q f r) = absurd (no_more e q f)
parses-one (says q f r) (at-end e) = absurd (no_more e q f)
parses-one {d} (says {l = l} q f r) (says {u = v} {l = m} q' f' r') =
    let same = sym q' ∙ q in
    let rest : l ≡ m = parses-one r (subst (λ x. Parses d x m v) (ap (λ x. x.state) same) r') in
    cc (ap (λ x. x.answer) same)

pub fresh-tied : (d : List ℕ) → Tied d fresh_tokenizer fresh_stand
unfolding fresh_tokenizer
fresh-tied d = record {
  value = λ x. cc;
  multiline = λ x. cc;
  early = λ x. refl;
  sections = refl;
}

fresh-room : (d : List ℕ) → budget d fresh_tokenizer awaited.Nothing ≤ 2 * length d
unfolding room fresh_tokenizer
fresh-room d = omega arith

module _ (d : List ℕ) (h : length d ≤ 16777216) where
  pub parse-within : parse d ≡ parsed fresh_stand (tokens d)
  unfolding parse
  parse-within = rw (le-ltb 16777216 (length d) h)

  fresh-comes : Comes d fresh (parse d) (budget d fresh_tokenizer awaited.Nothing)
  unfolding fresh
  fresh-comes =
      rw parse-within
      (comes d h (reading-ends d h).reads (fresh-sound d) fresh_stand _ 1 (record { size = refl; shows = one refl none }) (fresh-tied d))

pub ends : Ends
ends d h = let r = fresh-comes d h in record { last = r.last; parses = r.parses; bound = omega (arith, r.bound, fresh-room d) }

pub lists : Lists
unfolding parse
lists d = record {
  exists =
      by_bool (ltb 16777216 (length d))
      (λ e. rw e (over (ltb-true 16777216 (length d) e)))
      (λ e. let h = ltb-false 16777216 (length d) e in read h (fresh-comes d h).parses);
  unique = only;
}
  where
    only : (l : List Answer) → ParseList d l → l ≡ parse d
    only l (over h) = rw (lt-ltb 16777216 (length d) h)
    only l (read h r) = parses-one r (fresh-comes d h).parses

pub fit : Fit
fit d h = (fresh-comes d h).fits
