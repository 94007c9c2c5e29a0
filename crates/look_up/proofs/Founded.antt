-- What the look-up finds, over the parser's list: first among the top-level keys, then among the answers that they stand in.
use Rattle.std.specs.Prelude.{Some, None, Ok, Err, Option}
use Rattle.tokenizer.specs.Token.{Answer}
use Prim.Native.Nat.{ℕ, suc, ◌+◌}
use mathlib.Core.Path.{◌≡◌, refl, sym, ap, subst, ◌∙◌}
use mathlib.Core.List.{List, [], ◌∷◌, ◌++◌}
use mathlib.Core.Bool.{true, false}
use native.Mathlib.Nat.{add-zero}
use native.Mathlib.Omega.{arith}
use lib.Dec.{eqb}
use lib.ListN.{length, length-append}
use borrow.Author.Tests.{eqb-true, eqb-false, eq-eqb, ne_eqb}
use Rattle.text.specs.declared.bytes.Part.{Part}
use Rattle.text.specs.declared.refusals.SyntaxError.{SyntaxError}
use Rattle.text.proofs.Cases.{by_bool, clash}
use Rattle.text.proofs.Same.{same-is}
use Rattle.tokenizer.specs.declared.token.Token.TheVariants as token
use Rattle.token_text.specs.Text.{Text, gives, fails, is_text, text_in}
use Rattle.parser.specs.Lists.{top_entries, parse}
use Rattle.look_up.specs.Entries.{Key, Outcome, keys_of, top_keys, refusal_in, extent, entries_of, is_named, first_named, missing, look_up}
use Rattle.look_up.specs.Claims.{NoneNamed, end_before, KeyFound, NothingFound, RefusalFound}
use Rattle.look_up.specs.declared.search.Found.{Found}

-- Among the keys

text-is : (u : Text) (w : List ℕ) → is_text u w ≡ true → u ≡ gives w
text-is (gives s) w e = ap gives (same-is s w e)
text-is (fails n p) w e = absurd (clash (sym e))

-- a refusal is no other answer
different : {x : SyntaxError} {o : Option Found} → ◌≡◌ {A = Outcome} (Err x) (Ok o) → ⊥
different e = cc

-- and what is found is not nothing
found-some : {f : Found} → ◌≡◌ {A = Outcome} (Ok (Some f)) (Ok None) → ⊥
found-some e = cc

found-same : {f g : Found} → ◌≡◌ {A = Outcome} (Ok (Some f)) (Ok (Some g)) → g ≡ f
found-same e = cc

-- the part of a key's entry, found
record Extends (n : ℕ) (k : Key) (ks : List Key) (f : Found) : Type 0 where
  line : f.line ≡ k.line
  starts : f.part.start ≡ k.text.start
  ends : f.part.end ≡ end_before n ks

extends : (n : ℕ) (r : Option SyntaxError) (k : Key) (ks : List Key) {f : Found} → extent n r k ks ≡ Ok (Some f) → Extends n k ks f
unfolding extent
extends n None k [] e =
    let q = found-same e in record { line = ap (λ (g : Found). g.line) q; starts = ap (λ (g : Found). g.part.start) q; ends = ap (λ (g : Found). g.part.end) q }
extends n (Some x) k [] {f} e = absurd (different e)
extends n r k (m ∷ ks) e =
    let q = found-same e in record { line = ap (λ (g : Found). g.line) q; starts = ap (λ (g : Found). g.part.start) q; ends = ap (λ (g : Found). g.part.end) q }

module _ (d w : List ℕ) where
  -- a key of that name on the line of what is found, with none before it
  record AtKey (ks : List Key) (f : Found) : Type 0 where
    text : Part
    above : List Key
    below : List Key
    split : ks ≡ above ++ record { line = f.line; text = text } ∷ below
    named : is_named d w (record { line = f.line; text = text }) ≡ true
    first : NoneNamed d w above
    starts : f.part.start ≡ text.start
    ends : f.part.end ≡ end_before (length d) below

  at_first : (r : Option SyntaxError) (k : Key) (ks : List Key) {f : Found} → is_named d w k ≡ true → extent (length d) r k ks ≡ Ok (Some f) → AtKey (k ∷ ks) f
  at_first r k ks t e =
      let x = extends (length d) r k ks e in
      let z = ap {B = Key} (λ n. record { line = n; text = k.text }) (sym x.line) in
      record {
        text = k.text;
        above = [];
        below = ks;
        split = ap (λ (q : Key). q ∷ ks) z;
        named = subst (λ (q : Key). is_named d w q ≡ true) z t;
        first = tt;
        starts = x.starts;
        ends = x.ends;
      }

  at-later : (k : Key) {ks : List Key} {f : Found} → is_named d w k ≡ false → AtKey ks f → AtKey (k ∷ ks) f
  at-later k e x = record {
    text = x.text;
    above = k ∷ x.above;
    below = x.below;
    split = ap (λ y. k ∷ y) x.split;
    named = x.named;
    first = (e, x.first);
    starts = x.starts;
    ends = x.ends;
  }

  at_key : (r : Option SyntaxError) (ks : List Key) {f : Found} → first_named d w (missing r) (entries_of (length d) r ks) ≡ Ok (Some f) → AtKey ks f
  unfolding entries_of first_named
  at_key None [] e = absurd (found-some (sym e))
  at_key (Some x) [] e = absurd (different e)
  at_key r (k ∷ ks) e = by_bool (is_named d w k) (λ t. at_first r k ks t (rw t at e)) (λ f. at-later k f (at_key r ks (rw f at e)))

  found_nothing : (r : Option SyntaxError) (k : Key) (ks : List Key) → extent (length d) r k ks ≡ Ok None → ⊥
  unfolding extent
  found_nothing None k [] e = found-some e
  found_nothing (Some x) k [] e = different e
  found_nothing r k (m ∷ ks) e = found-some e

  none_named : (r : Option SyntaxError) (ks : List Key) → first_named d w (missing r) (entries_of (length d) r ks) ≡ Ok None → NoneNamed d w ks × (r ≡ None)
  unfolding entries_of first_named
  none_named None [] e = (tt, refl)
  none_named (Some x) [] e = absurd (different e)
  none_named r (k ∷ ks) e =
      by_bool (is_named d w k)
      (λ t. absurd (found_nothing r k ks (rw t at e)))
      (λ f. let x = none_named r ks (rw f at e) in ((f, x.0), x.1))

  found-refusal : (r : Option SyntaxError) (k : Key) (ks : List Key) {x : SyntaxError} → extent (length d) r k ks ≡ Err x → r ≡ Some x
  unfolding extent
  found-refusal None k [] e = absurd (different (sym e))
  found-refusal (Some y) k [] e = cc
  found-refusal r k (m ∷ ks) e = absurd (different (sym e))

  its-refusal : (r : Option SyntaxError) (ks : List Key) {x : SyntaxError} → first_named d w (missing r) (entries_of (length d) r ks) ≡ Err x → r ≡ Some x
  unfolding entries_of first_named
  its-refusal None [] e = absurd (different (sym e))
  its-refusal (Some y) [] e = cc
  its-refusal r (k ∷ ks) e =
      by_bool (is_named d w k) (λ t. found-refusal r k ks (rw t at e)) (λ f. its-refusal r ks (rw f at e))

-- Among the answers

-- counts that are both greater by n make no difference
eqb-above : (n i o : ℕ) → eqb (n + i) (n + o) ≡ eqb i o
eqb-above n i o =
    by_bool (eqb i o)
    (λ e. eq-eqb (n + i) (n + o) (omega (arith, eqb-true i o e)) ∙ sym e)
    (λ e. ne_eqb (n + i) (n + o) (λ q. eqb-false i o e (omega arith)) ∙ sym e)

one-above : (n i : ℕ) → suc (n + i) ≡ n + suc i
one-above n i = omega arith

tops_above : (n i o : ℕ) (l : List Answer) → top_entries (n + i) (n + o) l ≡ top_entries i o l
unfolding top_entries
tops_above n i o [] = refl
tops_above n i o (None ∷ l) = tops_above n i o l
tops_above n i o (Some (Err e) ∷ l) = tops_above n i o l
tops_above n i o (Some (Ok (token.Indent m)) ∷ l) = rw (one-above n i) (tops_above n (suc i) o l)
tops_above n i o (Some (Ok (token.Outdent m c)) ∷ l) = rw (one-above n o) (tops_above n i (suc o) l)
tops_above n i o (Some (Ok (token.ListItem m)) ∷ l) = rw (eqb-above n i o, tops_above n i o l)
tops_above n i o (Some (Ok (token.MapKey m p)) ∷ l) = rw (eqb-above n i o, tops_above n i o l)
tops_above n i o (Some (Ok (token.Newline m)) ∷ l) = tops_above n i o l
tops_above n i o (Some (Ok (token.Comment m p)) ∷ l) = tops_above n i o l
tops_above n i o (Some (Ok (token.Value m p)) ∷ l) = tops_above n i o l
tops_above n i o (Some (Ok (token.MultilineHint m p)) ∷ l) = tops_above n i o l
tops_above n i o (Some (Ok (token.MultilineValue m q p)) ∷ l) = tops_above n i o l
tops_above n i o (Some (Ok (token.NoValue m)) ∷ l) = tops_above n i o l

level : (i o : ℕ) (l : List Answer) → eqb i o ≡ true → top_entries i o l ≡ top_entries 0 0 l
level i o l e = let z = sym (eqb-true i o e) in rw z (rw add-zero at (tops_above i 0 0 l))

-- the answers around a key, i and o Indents and Outdents being before them; a and b are the keys before and after it
record Splits (i o : ℕ) (l : List Answer) (a : List Key) (k : Key) (b : List Key) : Type 0 where
  above : List Answer
  below : List Answer
  split : l ≡ above ++ Some (Ok (token.MapKey k.line k.text)) ∷ below
  upper : keys_of (top_entries i o above) ≡ a
  lower : top_keys below ≡ b

module _ {k : Key} {b : List Key} where
  -- behind an answer that is no top-level key
  behind : {a : List Key} (t : Answer) {i o j q : ℕ} (l : List Answer) → ((m : List Answer) → keys_of (top_entries i o (t ∷ m)) ≡ keys_of (top_entries j q m))
      → (keys_of (top_entries j q l) ≡ a ++ k ∷ b → Splits j q l a k b) → keys_of (top_entries i o (t ∷ l)) ≡ a ++ k ∷ b → Splits i o (t ∷ l) a k b
  behind t l h f e =
      let x = f (sym (h l) ∙ e) in
      record { above = t ∷ x.above; below = x.below; split = ap (λ y. t ∷ y) x.split; upper = h x.above ∙ x.upper; lower = x.lower }

  -- at a top-level key
  at_top : (m : ℕ) (p : Part) (l : List Answer) (i o : ℕ) → eqb i o ≡ true → (c : List Key) → record { line = m; text = p } ∷ keys_of (top_entries i o l) ≡ c ++ k ∷ b
      → ((c : List Key) → keys_of (top_entries i o l) ≡ c ++ k ∷ b → Splits i o l c k b) → Splits i o (Some (Ok (token.MapKey m p)) ∷ l) c k b
  unfolding top_entries keys_of
  at_top m p l i o t [] e f =
      let h : ◌≡◌ {A = Key} (record { line = m; text = p }) k = cc in
      let r : keys_of (top_entries i o l) ≡ b = cc in
      record {
        above = [];
        below = l;
        split = ap (λ (x : Key). Some (Ok (token.MapKey x.line x.text)) ∷ l) h;
        upper = refl;
        lower = ap keys_of (sym (level i o l t)) ∙ r;
      }
  at_top m p l i o t (x ∷ c) e f =
      let h : ◌≡◌ {A = Key} (record { line = m; text = p }) x = cc in
      let s = f c cc in
      record {
        above = Some (Ok (token.MapKey m p)) ∷ s.above;
        below = s.below;
        split = ap (λ y. Some (Ok (token.MapKey m p)) ∷ y) s.split;
        upper = rw (t, h, s.upper);
        lower = s.lower;
      }

splits : (l : List Answer) (i o : ℕ) (a : List Key) (k : Key) (b : List Key) → keys_of (top_entries i o l) ≡ a ++ k ∷ b → Splits i o l a k b
unfolding top_entries keys_of
splits [] i o a k b e = absurd (omega (arith, ap length e, length-append a (k ∷ b)))
splits (None ∷ l) i o a k b e = behind None l (λ m. refl) (splits l i o a k b) e
splits (Some (Err x) ∷ l) i o a k b e = behind (Some (Err x)) l (λ m. refl) (splits l i o a k b) e
splits (Some (Ok (token.Indent n)) ∷ l) i o a k b e = behind (Some (Ok (token.Indent n))) l (λ m. refl) (splits l (suc i) o a k b) e
splits (Some (Ok (token.Outdent n z)) ∷ l) i o a k b e = behind (Some (Ok (token.Outdent n z))) l (λ m. refl) (splits l i (suc o) a k b) e
splits (Some (Ok (token.ListItem n)) ∷ l) i o a k b e =
    behind (Some (Ok (token.ListItem n))) l (λ m. by_bool (eqb i o) (λ t. rw t) (λ f. rw f)) (splits l i o a k b) e
splits (Some (Ok (token.MapKey n p)) ∷ l) i o a k b e =
    by_bool (eqb i o)
    (λ t. at_top n p l i o t a (rw t at e) (λ c. splits l i o c k b))
    (λ f. behind (Some (Ok (token.MapKey n p))) l (λ m. rw f) (splits l i o a k b) e)
splits (Some (Ok (token.Newline n)) ∷ l) i o a k b e = behind (Some (Ok (token.Newline n))) l (λ m. refl) (splits l i o a k b) e
splits (Some (Ok (token.Comment n p)) ∷ l) i o a k b e = behind (Some (Ok (token.Comment n p))) l (λ m. refl) (splits l i o a k b) e
splits (Some (Ok (token.Value n p)) ∷ l) i o a k b e = behind (Some (Ok (token.Value n p))) l (λ m. refl) (splits l i o a k b) e
splits (Some (Ok (token.MultilineHint n p)) ∷ l) i o a k b e = behind (Some (Ok (token.MultilineHint n p))) l (λ m. refl) (splits l i o a k b) e
splits (Some (Ok (token.MultilineValue n q p)) ∷ l) i o a k b e =
    behind (Some (Ok (token.MultilineValue n q p))) l (λ m. refl) (splits l i o a k b) e
splits (Some (Ok (token.NoValue n)) ∷ l) i o a k b e = behind (Some (Ok (token.NoValue n))) l (λ m. refl) (splits l i o a k b) e

-- The claims

pub key-found : KeyFound
unfolding look_up
key-found d w f e =
    let x = at_key d w (refusal_in (parse d)) (top_keys (parse d)) e in
    let s = splits (parse d) 0 0 x.above (record { line = f.line; text = x.text }) x.below x.split in
    record {
      key = x.text;
      above = s.above;
      below = s.below;
      split = s.split;
      top = rw (s.upper, s.lower) x.split;
      named = text-is (text_in d (token.MapKey f.line x.text)) w x.named;
      first = rw s.upper x.first;
      starts = x.starts;
      ends = rw s.lower x.ends;
    }

pub nothing-found : NothingFound
unfolding look_up
nothing-found d w e = none_named d w (refusal_in (parse d)) (top_keys (parse d)) e

pub refusal-found : RefusalFound
unfolding look_up
refusal-found d w x e = its-refusal d w (refusal_in (parse d)) (top_keys (parse d)) e
