-- Demand 3, proved: clause 1 is `tokens-joined`, clause 2 `token-above` and `token-below` over the tokens of a reading, clause 3 the
-- parser over the two lists that clause 1 joins.
use Rattle.parser_rules.specs.declared.ruling.Section.{Section}
use Rattle.std.specs.Prelude.{Some, None, Ok, Err, Option}
use Rattle.tokenizer.specs.Token.{Answer as Came, Answer, line_of}
use Prim.Native.Nat.{ℕ, ◌+◌, ◌≤◌}
use mathlib.Core.Path.{◌≡◌, refl, sym, ap, ◌∙◌}
use mathlib.Core.List.{List, [], ◌∷◌, ◌++◌, map, append_assoc, append-nil}
use mathlib.Core.Bool.{Bool, true, false, cond}
use native.Mathlib.Omega.{arith}
use lib.ListN.{length}
use Rattle.text.proofs.Cases.{by_bool}
use Rattle.tokenizer_scans.specs.Scans.{breaks}
use Rattle.tokenizer.specs.Lists.{tokens}
use Rattle.tokenizer.specs.declared.token.Token.{Token}
use Rattle.tokenizer.specs.declared.token.Token.TheVariants.{
  Newline,
  Comment,
  Indent,
  Outdent,
  ListItem,
  MapKey,
  Value,
  MultilineHint,
  MultilineValue,
  NoValue,
}
use Rattle.tokenizer_claims.proofs.Claimed.{fit as reading-fit}
use Rattle.parser.specs.Lists.{Stand, Fed, innermost, feed, parsed, fresh_stand, parse, entry_sort, top_sort}
use Rattle.parser_rules.specs.declared.ruling.Sort.{Sort}
use Rattle.parser_rules.specs.declared.ruling.Sort.TheVariants.{Map, List as Listed}
use Rattle.parser_rules.specs.declared.ruling.Awaited.TheVariants as awaited
use Rattle.parser_claims.specs.Claims.{Fits, All}
use Rattle.parser_claims.specs.Opened.{Carries}
use Rattle.parser_claims.proofs.Claimed.{parse-within, fit as parsing-fit}
use Rattle.parser_claims.proofs.Given.{Entry, item, key}
use Rattle.parser_claims.proofs.Opened.{carried}
use Rattle.joining_claims.specs.Raising.{raise_token, raise, raised}
use Rattle.joining_claims.specs.Tokens.{Closed, top_level}
use Rattle.joining_claims.specs.Joined.{below, Begins, begins, Demand3}
use Rattle.joining_claims.proofs.Joined.{left_le, right_le, tokens-joined}
use Rattle.joining_claims.proofs.Unescaping.{token-above, token-below, each-token}
use Rattle.joining_claims.proofs.Feeding.{fed, parsed-append}
use Rattle.joining_claims.proofs.RaisedParse.{top, Rises, parsed-raised}
use Rattle.joining_claims.proofs.Tops.{entry-sort, top-sort}
use Rattle.joining_claims.proofs.Behind.{at_top, hinted, behind, entry-after}
use Rattle.joining_claims.proofs.Ending.{stopped, Went, went}

-- a raised entry is one of the same sort, l lines further on
entry-raised : (l n : ℕ) {t : Token} {m : ℕ} {s : Sort} → Entry t m s → Entry (raise_token l n t) (l + m) s
unfolding raise_token
entry-raised l n item = item
entry-raised l n key = key

-- the sort of an innermost section
abbrev innermost_sort : Option Section → Option Sort
innermost_sort None = None
innermost_sort (Some i) = i.sort

-- Clause 3 where P went on to its end
module _ (p : List ℕ) (f : Fed) (o : Went p f) where
  same-sort : hinted f.next.awaited ≡ false → top_sort (parse p) ≡ o.sort
  same-sort e = sym (ap (λ l. innermost_sort (innermost l)) (top-sort (o.runs e) refl))

  module _ (l n : ℕ) (t : Token) {s : Sort} (e : Entry t (line_of t) s) (cs : List Came)
      (u : All Rises (parsed fresh_stand (Some (Ok t) ∷ cs))) where
    entry-joined : hinted f.next.awaited ≡ false
        → parsed (at_top awaited.Nothing o.sort) (raised l n (Some (Ok t) ∷ cs))
        ≡ below (parse p) t l (map (raise l n) (parsed fresh_stand (Some (Ok t) ∷ cs)))
    unfolding raise
    entry-joined h =
        entry-after o.sort (raised l n cs) (entry-raised l n e)
        ∙ rw (o.refused, h, same-sort h, entry-sort e, parsed-raised l n awaited.Nothing top (Some (Ok t) ∷ cs) u)

    list-joined : f.says ++ parsed (at_top f.next.awaited o.sort) (raised l n (Some (Ok t) ∷ cs))
        ≡ parse p ++ below (parse p) t l (map (raise l n) (parsed fresh_stand (Some (Ok t) ∷ cs)))
    unfolding raise
    list-joined =
        let a = f.next.awaited in
        let x = feed (at_top a o.sort) None in
        let y = parsed (at_top awaited.Nothing o.sort) (raised l n (Some (Ok t) ∷ cs)) in
        ap (λ (m : List Answer). f.says ++ m) (behind a o.sort (raised l n cs) (entry-raised l n e))
        ∙ sym (append_assoc f.says x.says _)
        ∙ ap (λ (m : List Answer). m ++ cond (hinted a) [] y) (sym o.list)
        ∙ ap (λ (m : List Answer). parse p ++ m)
        (by_bool (hinted a) (λ h. rw (o.refused, h)) (λ h. rw h (entry-joined h)))

-- every answer of a parsing rises
rises : (d : List ℕ) (l : List Answer) → All (Fits d) l → All Carries l → All Rises l
rises d [] f c = tt
rises d (None ∷ l) f c = absurd f.0
rises d (Some (Ok t) ∷ l) f c = (c.0, rises d l f.1 c.1)
rises d (Some (Err e) ∷ l) f c = (λ e. omega (arith, f.0), rises d l f.1 c.1)

is-entry : (t : Token) → (entry_sort t ≡ None → ⊥) → (s : Sort) × Entry t (line_of t) s
unfolding line_of
is-entry (ListItem m) n = (Listed, item)
is-entry (MapKey m q) n = (Map, key)
is-entry (Newline m) n = absurd (n refl)
is-entry (Comment m q) n = absurd (n refl)
is-entry (Indent m) n = absurd (n refl)
is-entry (Outdent m o) n = absurd (n refl)
is-entry (Value m q) n = absurd (n refl)
is-entry (MultilineHint m q) n = absurd (n refl)
is-entry (MultilineValue m i q) n = absurd (n refl)
is-entry (NoValue m) n = absurd (n refl)

module _ (p s : List ℕ) (c : Closed p) (b : top_level s ≡ true) (h : length (p ++ s) ≤ 16777216) where
  -- the list of P then S, from where P's tokens leave the parser
  parse-both : parse (p ++ s)
      ≡ (fed fresh_stand (tokens p)).says
      ++ cond (fed fresh_stand (tokens p)).goes_on (parsed (fed fresh_stand (tokens p)).next (raised (breaks p) (length p) (tokens s))) []
  parse-both =
      parse-within (p ++ s) h ∙ ap (parsed fresh_stand) (tokens-joined p s c b h)
      ∙ parsed-append fresh_stand (tokens p) (raised (breaks p) (length p) (tokens s))

  -- P is refused: nothing of S is said
  stopped-joined : (t : Token) → (fed fresh_stand (tokens p)).goes_on ≡ false
      → parse (p ++ s) ≡ parse p ++ below (parse p) t (breaks p) (map (raise (breaks p) (length p)) (parse s))
  stopped-joined t g =
      let f = fed fresh_stand (tokens p) in
      let x = stopped p (left_le p s h) g in
      let b : parse (p ++ s) ≡ f.says =
      parse-both ∙ ap (λ (on : Bool). f.says ++ cond on (parsed f.next (raised (breaks p) (length p) (tokens s))) []) g ∙ append-nil f.says in
      rw x.refused (b ∙ sym x.list ∙ sym (append-nil (parse p)))

  -- P went on to its end
  going-joined : (t : Token) (cs : List Came) → tokens s ≡ Some (Ok t) ∷ cs → {r : Sort} → Entry t (line_of t) r
      → (fed fresh_stand (tokens p)).goes_on ≡ true
      → parse (p ++ s) ≡ parse p ++ below (parse p) t (breaks p) (map (raise (breaks p) (length p)) (parse s))
  going-joined t cs q e g =
      let k = right_le p s h in
      let f = fed fresh_stand (tokens p) in
      let o = went p (left_le p s h) g in
      let b : parse (p ++ s) ≡ f.says ++ parsed (at_top f.next.awaited o.sort) (raised (breaks p) (length p) (Some (Ok t) ∷ cs)) =
      parse-both ∙ ap (λ (on : Bool). f.says ++ cond on (parsed f.next (raised (breaks p) (length p) (tokens s))) []) g
      ∙ ap (λ (y : Stand). f.says ++ parsed y (raised (breaks p) (length p) (tokens s))) o.next
      ∙ ap (λ (l : List Came). f.says ++ parsed (at_top f.next.awaited o.sort) (raised (breaks p) (length p) l)) q in
      let d : parse s ≡ parsed fresh_stand (Some (Ok t) ∷ cs) = parse-within s k ∙ ap (parsed fresh_stand) q in
      rw d
      (b
      ∙ list-joined p f o (breaks p) (length p) t e cs (rw d at (rises s (parse s) (parsing-fit s k) (carried s))))

  parse-joined : (l : List Came) → tokens s ≡ l → (t : Token) → Begins l t
      → parse (p ++ s) ≡ parse p ++ below (parse p) t (breaks p) (map (raise (breaks p) (length p)) (parse s))
  parse-joined l q t (begins {as₁ = cs} n) =
      by_bool (fed fresh_stand (tokens p)).goes_on (going-joined t cs q (is-entry t n).1) (stopped-joined t)

pub demand3 : Demand3
demand3 p s c b h = record {
  read = tokens-joined p s c b h;
  above = each-token p _ (token-above p s h) (tokens p) (reading-fit p (left_le p s h));
  from = each-token s _ (token-below p s h (breaks p)) (tokens s) (reading-fit s (right_le p s h));
  parsed = λ t e. parse-joined p s c b h (tokens s) refl t e;
}
