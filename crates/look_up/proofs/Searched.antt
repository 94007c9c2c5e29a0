-- What a search still finds in the answers that are left, and that each answer does to the search what the rule asks.
use Rattle.std.specs.Prelude.{Some, Ok}
use Rattle.tokenizer.specs.Token.{Answer}
use Prim.Native.Nat.{ℕ, ◌<◌}
use mathlib.Core.Path.{◌≡◌, refl}
use mathlib.Core.List.{List, [], ◌∷◌}
use native.Mathlib.Numerals.{add-one}
use lib.Dec.{eqb, ltb}
use lib.ListN.{length}
use Rattle.std.proofs.Common.{Option, None, Some, Err, Continue, Break}
use borrow.Author.Tests.{lt-ltb, ltb-true}
use Rattle.text.specs.Numbers.{error}
use Rattle.text.specs.declared.bytes.Part.{Part}
use Rattle.text.specs.declared.refusals.Refusal.TheVariants.{TooLong}
use Rattle.text.specs.declared.refusals.SyntaxError.{SyntaxError}
use Rattle.text.proofs.Cases.{by_bool}
use Rattle.tokenizer.specs.Limit.{within_limit}
use Rattle.tokenizer.specs.declared.token.Token.{Token}
use Rattle.tokenizer.specs.declared.token.Token.TheVariants as token
use Rattle.parser.specs.Lists.{top_entries, parse}
use Rattle.parser_claims.proofs.Ordered.{Ordered, last, more}
use Rattle.look_up.specs.Entries.{Key, Outcome, keys_of, refusal_in, extent, entries_of, is_named, first_named, missing, look_up}
use Rattle.look_up.specs.Search.{Turn, closed_at, on_top_key, on_key, on_token, on_answer}
use Rattle.look_up.specs.declared.search.Hit.{Hit}
use Rattle.look_up.specs.declared.search.Search.{Search}

-- over the limit the list is the one refusal 12, and so is what is found
pub look-up-over : (d w : List ℕ) → 16777216 < length d → look_up d w ≡ Err (record { refusal = TooLong; line = 0 })
unfolding look_up parse refusal_in top_entries keys_of entries_of first_named
look-up-over d w h = rw (lt-ltb 16777216 (length d) h)

-- what the test of the limit refuses
pub limit_over : (d w : List ℕ) {e : SyntaxError} → within_limit d ≡ Err e → Err e ≡ look_up d w
limit_over d w {e} h =
    by_bool (ltb 16777216 (length d))
    (λ l. let k = rw l at h in let m : e ≡ error TooLong 0 = cc in rw (m, look-up-over d w (ltb-true 16777216 (length d) l)))
    (λ l. let k = rw l at h in absurd cc)

abbrev search : ℕ → ℕ → Option Hit → Search
search i o h = record { indents = i; outdents = o; hit = h }

-- a key of that line that starts there; where it ends is forgotten
abbrev key_at : ℕ → ℕ → Key
key_at l a = record { line = l; text = record { start = a; end = a } }

key_at-extent : (n : ℕ) (r : Option SyntaxError) (k : Key) (ks : List Key) → extent n r k ks ≡ extent n r (key_at k.line k.text.start) ks
unfolding extent
key_at-extent n None k [] = refl
key_at-extent n (Some e) k [] = refl
key_at-extent n r k (m ∷ ks) = refl

module _ (d w : List ℕ) where
  -- from a hit on, in the keys that are left, r being the refusal after them
  abbrev pub from_hit : Option Hit → Option SyntaxError → List Key → Outcome
  from_hit None r ks = first_named d w (missing r) (entries_of (length d) r ks)
  from_hit (Some h) r ks = extent (length d) r (key_at h.line h.start) ks

  unfoldable pub searched : Search → List Answer → Outcome
  searched s l = from_hit s.hit (refusal_in l) (keys_of (top_entries s.indents s.outdents l))

  abbrev pub turned : Turn → List Answer → Outcome
  turned (Continue s) l = searched s l
  turned (Break a) l = a

  pub searched-end : (s : Search) → searched s [] ≡ closed_at s.hit (length d)
  unfolding searched refusal_in top_entries keys_of entries_of first_named extent
  searched-end s = from s.hit
    where
      from : (h : Option Hit) → from_hit h None [] ≡ closed_at h (length d)
      from None = refl
      from (Some h) = refl

  refused : (h : Option Hit) (e : SyntaxError) → from_hit h (Some e) [] ≡ Err e
  unfolding entries_of first_named extent
  refused None e = refl
  refused (Some h) e = refl

  on-key : (i o : ℕ) (h : Option Hit) (m : ℕ) (p : Part) (l : List Answer)
      → from_hit h (refusal_in l) (record { line = m; text = p } ∷ keys_of (top_entries i o l)) ≡ turned (on_top_key d w (search i o h) m p h) l
  unfolding searched entries_of first_named extent on_top_key
  on-key i o None m p l =
      by_bool (is_named d w (record { line = m; text = p }))
      (λ s. rw s (key_at-extent (length d) (refusal_in l) (record { line = m; text = p }) (keys_of (top_entries i o l))))
      (λ s. rw s)
  on-key i o (Some h) m p l = refl

  on-token : (i o : ℕ) (h : Option Hit) (t : Token) (l : List Answer)
      → searched (search i o h) (Some (Ok t) ∷ l) ≡ turned (on_token d w (search i o h) t) l
  unfolding searched refusal_in top_entries keys_of on_token on_key
  on-token i o h (token.Newline m) l = refl
  on-token i o h (token.Comment m p) l = refl
  on-token i o h (token.Indent m) l = rw add-one
  on-token i o h (token.Outdent m c) l = rw add-one
  on-token i o h (token.ListItem m) l = by_bool (eqb i o) (λ e. rw e) (λ e. rw e)
  on-token i o h (token.MapKey m p) l = by_bool (eqb i o) (λ e. rw e (on-key i o h m p l)) (λ e. rw e)
  on-token i o h (token.Value m p) l = refl
  on-token i o h (token.MultilineHint m p) l = refl
  on-token i o h (token.MultilineValue m q p) l = refl
  on-token i o h (token.NoValue m) l = refl

  pub searched-step : {n : ℕ} {a : Answer} {l : List Answer} (s : Search) → Ordered n (a ∷ l)
      → searched s (a ∷ l) ≡ turned (on_answer d w s a) l
  unfolding searched refusal_in top_entries keys_of on_answer
  searched-step s last = refused s.hit _
  searched-step s (more {t = t} {l = l} h r) = on-token s.indents s.outdents s.hit t l
