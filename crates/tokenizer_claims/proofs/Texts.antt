-- Parts that are texts, from a part of the document to the document: trimming, taking and dropping keep them. An
-- indentation is a part of blanks only, and so a text.
use Prim.Native.Nat.{ℕ, suc, ◌+◌, ◌-◌, ◌≤◌}
use mathlib.Core.Path.{◌≡◌, refl, sym, ap, ◌∙◌, subst}
use mathlib.Core.List.{List, [], ◌∷◌, ◌++◌}
use mathlib.Core.Bool.{true}
use native.Mathlib.Nat.{add-sub_cancel_left}
use native.Mathlib.Numerals.{one-add}
use native.Mathlib.Omega.{arith}
use lib.ListN.{length, take, drop, length-append, length-drop, take-append-drop}
use lib.Seq.{take-append-le, drop-append-le, drop-drop, drop-length}
use Rattle.text.specs.Bytes.{shifted_by}
use Rattle.text.specs.Trimming.{dropped, trimmed}
use Rattle.utf8.specs.Utf8.{owes, utf8}
use Rattle.text.specs.declared.bytes.Part.{Part}
use Rattle.text.specs.declared.trimming.Dropped.{Dropped}
use Rattle.text.specs.declared.trimming.Dropped.TheVariants.{Blanks}
use Rattle.text.proofs.Cases.{by_bool}
use Rattle.std.proofs.lemmas.List.Sums.{prefix_len-le-length}
use Rattle.text.proofs.Trimmed.{trimmed-le}
use Rattle.utf8.proofs.Trimmed.{utf8-start, dropped-ascii, trimmed-utf8}
use Rattle.tokenizer_scans.specs.Scans.{blanks}
use Rattle.tokenizer.specs.Step.{bytes_of, no_part}
use Rattle.tokenizer_claims.specs.Claims.{Within, Text}

-- Texts

pub text-trimmed : (which : Dropped) (s : List ℕ) → utf8 s ≡ true → Text s (trimmed (dropped which) s)
text-trimmed which s u =
    let l = trimmed-le (dropped which) s in
    record { within = record { starts = l.0; ends = l.1 }; valid = trimmed-utf8 which s u }

pub bytes-append : (s t : List ℕ) (p : Part) → Within s p → bytes_of (s ++ t) p ≡ bytes_of s p
bytes-append s t p w =
    let l : p.start ≤ length s = omega (arith, w.starts, w.ends) in
    let n : p.end - p.start ≤ length (drop p.start s) = omega (arith, w.ends, length-drop p.start s) in
    rw (drop-append-le p.start s t l, take-append-le (p.end - p.start) (drop p.start s) t n)

pub text-append : (s t : List ℕ) (p : Part) → Text s p → Text (s ++ t) p
text-append s t p x = record {
  within = record { starts = x.within.starts; ends = omega (arith, x.within.ends, length-append s t) };
  valid = rw (bytes-append s t p x.within) x.valid;
}

pub text-take : (n : ℕ) (s : List ℕ) (p : Part) → Text (take n s) p → Text s p
text-take n s p x = subst (λ l. Text l p) (take-append-drop n s) (text-append (take n s) (drop n s) p x)

pub text-drop : (n : ℕ) (s : List ℕ) (p : Part) → n ≤ length s → Text (drop n s) p → Text s (shifted_by n p)
text-drop n s p h x = record {
  within = record { starts = omega (arith, x.within.starts); ends = omega (arith, x.within.ends, length-drop n s) };
  valid =
      let l : n + p.end - (n + p.start) ≡ p.end - p.start = omega arith in
      rw (l, ← (drop-drop p.start n s)) x.valid;
}

-- Indentations

pub record Indentation (d : List ℕ) (p : Part) : Type 0 where
  pub within : Within d p
  pub only_blanks : blanks (bytes_of d p) ≡ length (bytes_of d p)

pub indentation-text : (d : List ℕ) (p : Part) → Indentation d p → Text d p
unfolding blanks utf8 owes
indentation-text d p x = record {
  within = x.within;
  valid =
      let s = bytes_of d p in
      sym (utf8-start (dropped Blanks) (dropped-ascii Blanks) s) ∙ ap (λ n. utf8 (drop n s)) x.only_blanks ∙ ap utf8 (drop-length s);
}

pub no-indentation : (d : List ℕ) → Indentation d no_part
unfolding blanks
no-indentation d = record { within = omega arith; only_blanks = refl }

blanks-only : (s : List ℕ) → blanks (take (blanks s) s) ≡ length (take (blanks s) s)
unfolding blanks
blanks-only [] = refl
blanks-only (b ∷ r) = by_bool (dropped Blanks b) (λ e. rw (e, one-add) (rw (e, one-add) (ap suc (blanks-only r)))) (λ e. rw e)

pub blanks-le : (s : List ℕ) → blanks s ≤ length s
unfolding blanks
blanks-le s = prefix_len-le-length (dropped Blanks) s

-- the blanks at a place
pub indentation-at : (d : List ℕ) (n : ℕ) → n ≤ length d → Indentation d (record { start = n; end = n + blanks (drop n d) })
indentation-at d n h = record {
  within = record { starts = omega arith; ends = omega (arith, blanks-le (drop n d), length-drop n d) };
  only_blanks = rw (add-sub_cancel_left n (blanks (drop n d))) (blanks-only (drop n d));
}
