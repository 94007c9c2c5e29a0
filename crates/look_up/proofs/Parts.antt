-- What the look-up finds is a part of the document: the keys lie in it, and none starts before the last one.
use Rattle.tokenizer.specs.Token.{Answer}
use Prim.Native.Nat.{ℕ, suc, ◌≤◌}
use mathlib.Core.Path.{◌≡◌, refl, sym, ◌∙◌}
use Rattle.std.specs.Prelude.{Option, None, Some, Ok, Err}
use mathlib.Core.List.{List, [], ◌∷◌}
use native.Mathlib.Nat.{le_trans}
use native.Mathlib.Omega.{arith}
use lib.Dec.{eqb, ltb}
use lib.ListN.{length}
use borrow.Author.Tests.{ltb-true, ltb-false}
use Rattle.text.specs.declared.refusals.SyntaxError.{SyntaxError}
use Rattle.text.proofs.Cases.{by_bool, on-cond}
use Rattle.tokenizer.specs.Step.{bytes_of}
use Rattle.tokenizer.specs.declared.token.Token.TheVariants as token
use Rattle.tokenizer_claims.specs.Claims.{Within}
use Rattle.parser.specs.Lists.{top_entries}
use Rattle.parser_claims.specs.Claims.{Fits, All}
use Rattle.parser_claims.proofs.Claimed.{fit}
use Rattle.parser_claims.proofs.Ordered.{Ordered, parse-ordered}
use Rattle.parser_claims.proofs.Ordered as ordered
use Rattle.look_up.specs.Entries.{Key, Outcome, keys_of, refusal_in, extent, entries_of, is_named, first_named, missing, look_up, entry_of}
use Rattle.look_up.specs.declared.search.Found.{Found}
use Rattle.look_up.proofs.Searched.{look-up-over}

abbrev FoundWithin : List ℕ → Outcome → Type 0
FoundWithin d (Ok None) = Unit {0}
FoundWithin d (Ok (Some f)) = Within d f.part
FoundWithin d (Err e) = Unit {0}

-- keys in the document that start at n or after, each one not before the last
data KeysFrom (d : List ℕ) : ℕ → List Key → Type 0 where
  none : {n : ℕ} → KeysFrom d n []
  one : {n : ℕ} {k : Key} {ks : List Key} → n ≤ k.text.start → k.text.start ≤ length d → KeysFrom d k.text.start ks
      → KeysFrom d n (k ∷ ks)

sooner : {d : List ℕ} {n m : ℕ} {ks : List Key} → n ≤ m → KeysFrom d m ks → KeysFrom d n ks
sooner h none = none
sooner h (one a b r) = one (le_trans h a) b r

keys_from : (d : List ℕ) {n : ℕ} {l : List Answer} (i o : ℕ) → All (Fits d) l → Ordered n l → KeysFrom d n (keys_of (top_entries i o l))
unfolding top_entries keys_of
keys_from d i o f ordered.none = none
keys_from d i o f ordered.last = none
keys_from d i o f (ordered.more {t = token.Newline m} h r) = keys_from d i o f.1 r
keys_from d i o f (ordered.more {t = token.Comment m p} h r) = keys_from d i o f.1 r
keys_from d i o f (ordered.more {t = token.Indent m} h r) = keys_from d (suc i) o f.1 r
keys_from d i o f (ordered.more {t = token.Outdent m c} h r) = keys_from d i (suc o) f.1 r
keys_from d {n} i o f (ordered.more {t = token.ListItem m} h r) =
    on-cond (λ ts. KeysFrom d n (keys_of ts)) (eqb i o) (λ e. keys_from d i o f.1 r) (λ e. keys_from d i o f.1 r)
keys_from d {n} i o f (ordered.more {t = token.MapKey m p} h r) =
    on-cond (λ ts. KeysFrom d n (keys_of ts)) (eqb i o)
    (λ e. one h (omega (arith, f.0.within.starts, f.0.within.ends)) (keys_from d i o f.1 r))
    (λ e. sooner h (keys_from d i o f.1 r))
keys_from d i o f (ordered.more {t = token.Value m p} h r) = keys_from d i o f.1 r
keys_from d i o f (ordered.more {t = token.MultilineHint m p} h r) = keys_from d i o f.1 r
keys_from d i o f (ordered.more {t = token.MultilineValue m q p} h r) = keys_from d i o f.1 r
keys_from d i o f (ordered.more {t = token.NoValue m} h r) = keys_from d i o f.1 r

module _ (d w : List ℕ) where
  extent-within : (r : Option SyntaxError) (k : Key) {ks : List Key} → k.text.start ≤ length d → KeysFrom d k.text.start ks
      → FoundWithin d (extent (length d) r k ks)
  unfolding extent
  extent-within None k h none = omega arith
  extent-within (Some e) k h none = tt
  extent-within r k h (one a b s) = record { starts = a; ends = b }

  first-within : (r : Option SyntaxError) {n : ℕ} {ks : List Key} → KeysFrom d n ks
      → FoundWithin d (first_named d w (missing r) (entries_of (length d) r ks))
  unfolding entries_of first_named
  first-within None none = tt
  first-within (Some e) none = tt
  first-within r (one {k = k} a b s) =
      on-cond (FoundWithin d) (is_named d w k) (λ e. extent-within r k b s) (λ e. first-within r s)

  found_within : FoundWithin d (look_up d w)
  unfolding look_up
  found_within =
      by_bool (ltb 16777216 (length d))
      (λ e. rw (look-up-over d w (ltb-true 16777216 (length d) e)) tt)
      (λ e. let h = ltb-false 16777216 (length d) e in first-within (refusal_in _) (keys_from d 0 0 (fit d h) (parse-ordered d h)))

  pub part_within : {a : Outcome} {f : Found} → a ≡ look_up d w → a ≡ Ok (Some f) → Within d f.part
  part_within e q = rw (sym e ∙ q) at found_within

pub part_found : (d w : List ℕ) {a : Outcome} {f : Found} → a ≡ look_up d w → a ≡ Ok (Some f) → entry_of d w ≡ bytes_of d f.part
unfolding entry_of
part_found d w e q = rw (sym e ∙ q)

-- whatever else the look-up answers has no bytes
pub none_found : (d w : List ℕ) {a : Outcome} → a ≡ look_up d w → ((f : Found) → a ≡ Ok (Some f) → ⊥) → [] ≡ entry_of d w
unfolding entry_of
none_found d w {a = Ok None} e h = rw (← e)
none_found d w {a = Ok (Some f)} e h = absurd (h f refl)
none_found d w {a = Err x} e h = rw (← e)
