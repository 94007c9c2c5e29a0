-- A text compared piece by piece: a piece that differs decides, and after one that is the same the others decide of the bytes
-- that are left.
use Prim.Native.Nat.{ℕ, suc}
use native.Mathlib.Omega.{arith}
use mathlib.Core.Path.{◌≡◌, refl, sym, ◌∙◌}
use mathlib.Core.List.{List, [], ◌∷◌, ◌++◌}
use mathlib.Core.Bool.{Bool, true, false, ◌&&◌, and-false}
use lib.Dec.{eqb, ltb}
use lib.ListN.{length, drop}
use borrow.Author.Tests.{ne_eqb}
use Rattle.std.specs.Prelude.{Result, Ok, Err, is_ok}
use Rattle.text.specs.Bytes.{starts_with, is_same}
use Rattle.text.specs.declared.refusals.SyntaxError.{SyntaxError}
use Rattle.text.proofs.Cases.{by_bool, clash}
use Rattle.utf8.specs.Utf8.{utf8}
use Rattle.tokenizer.specs.Step.{bytes_of, fit_part}
use Rattle.tokenizer.specs.declared.token.Token.{Token}
use Rattle.unescape_pieces.specs.Meaning.{Meaning, part, bytes, refused, written, meaning}
use Rattle.unescape_pieces.specs.Pieces.{meaning_from, start_of}
use Rattle.unescape_pieces.specs.Cursor.{meaning_of, slice_of, Passes}
use Rattle.unescape_pieces.specs.declared.cursor.Bytes.{Bytes}
use Rattle.unescape_pieces.specs.declared.cursor.Cursor.{Cursor}
use Rattle.unescape_pieces.specs.declared.pieces.Spot.{Spot}
use Rattle.unescape_pieces.specs.declared.start.Style.{Style}
use Rattle.unescape_pieces.specs.declared.start.Start.TheVariants.{Pieces}
use Rattle.unescape_pieces.proofs.Starts.{pieces-mean, pieces-lie}
use Rattle.unescape_pieces.proofs.Ends.{Ends, pieces_end}
use Rattle.unescape_source.specs.Source.{source_of, meaning_in, sound, source_in}
use Rattle.unescape_source.specs.declared.source.Source.{Source}
use Rattle.unescape_source.proofs.Sound.{read}
use Rattle.token_text.specs.Text.{text_by, text_in, is_text}
use Rattle.token_text.specs.Written.{is_written}

-- a piece in front, and then the rest
same-append : (a b s : List ℕ) → is_same (a ++ b) s ≡ starts_with a s && is_same b (drop (length a) s)
unfolding is_same starts_with
same-append [] b s = refl
same-append (x ∷ a) b [] = refl
same-append (x ∷ a) b (y ∷ s) = by_bool (eqb x y) (λ e. rw e (same-append a b s)) (λ e. rw e)

pub in-front : (w : List ℕ) (m : Meaning) (s : List ℕ) → is_written (written w m) s ≡ starts_with w s && is_written m (drop (length w) s)
in-front w (part a e) s = sym (and-false (starts_with w s))
in-front w (bytes l) s = same-append w l s
in-front w (refused f) s = sym (and-false (starts_with w s))

module _ {c d : Cursor} {p : Bytes} (x : Passes c d p) (left : List ℕ) {t : Bool} (q : t ≡ starts_with (slice_of p) left) where
  pub piece-same : t ≡ true → is_written (meaning_of c) left ≡ is_written (meaning_of d) (drop (length (slice_of p)) left)
  piece-same e = rw (x.means, in-front, ← q, e)

  pub piece-differs : t ≡ false → is_written (meaning_of c) left ≡ false
  piece-differs e = rw (x.means, in-front, ← q, e)

-- no piece is left
pub at-end : (m : Meaning) (left : List ℕ) {t : Bool} → m ≡ bytes [] → t ≡ eqb (length left) 0 → t ≡ is_written m left
unfolding is_same
at-end m [] e q = rw e q
at-end m (b ∷ left) e q = rw e (q ∙ ne_eqb (suc (length left)) 0 (λ z. omega arith))

-- A text as it is read

-- where it starts does not matter
any_place : (m : Meaning) (n : ℕ) (s w : List ℕ) → is_text (text_by m 0 s) w ≡ is_text (text_by m n s) w
any_place (part a e) n s w = refl
any_place (bytes l) n s w = refl
any_place (refused f) n s w = refl

-- one that is no part of the text is written
no_part : (k : ℕ) (m : Meaning) (s w : List ℕ) → Ends k m → is_written m w ≡ is_text (text_by m 0 s) w
no_part k (part a e) s w x = absurd x
no_part k (bytes l) s w x = refl
no_part k (refused f) s w x = refl

module _ (style : Style) (s indent wanted : List ℕ) where
  pub pieces-meant : {n : ℕ} {spot : Spot} → start_of style s ≡ Pieces n spot
      → is_written (meaning_from spot indent (drop n s) n) wanted ≡ is_text (text_by (meaning style s indent) 0 s) wanted
  pieces-meant {n} {spot} q =
      rw (pieces-mean style s indent q)
      (no_part (length s) (meaning_from spot indent (drop n s) n) s wanted (pieces_end spot indent s n (pieces-lie style s q)))

-- The text of a token

-- two that are not both so are not both so with more asked of each
not-both : (a b u v : Bool) → (a && b) ≡ false → ((a && u) && (b && v)) ≡ false
not-both true true u v e = absurd (clash e)
not-both true false u v e = and-false u
not-both false b u v e = refl

module _ (d : List ℕ) (t : Token) (w : List ℕ) where
  pub unread-none : {e : SyntaxError} → source_in d t ≡ Err e → false ≡ is_text (text_in d t) w
  unfolding text_in
  unread-none e = sym (rw e)

  module _ {x : Source} (q : x ≡ source_of t) where
    -- a part that is none of the document's
    pub unfit-none : {a b : Bool} → a ≡ fit_part (length d) x.text → b ≡ fit_part (length d) x.indent → (a && b) ≡ false
        → false ≡ is_text (text_in d t) w
    unfolding text_in source_in sound
    unfit-none {a} {b} f g e =
        let n = not-both a b (utf8 (bytes_of d x.text)) (utf8 (bytes_of d x.indent)) e in
        let m = rw (f, g, q) at n in
        by_bool (ltb 16777216 (length d)) (λ l. sym (rw l)) (λ l. sym (rw (l, m)))

    abbrev meant : Bool
    meant = is_text (text_by (meaning_in d x) 0 (bytes_of d x.text)) w

    read-text : {y : Source} → source_in d t ≡ Ok y → meant ≡ is_text (text_in d t) w
    unfolding text_in
    read-text {y} e =
        let z = q ∙ (read d t e).is in
        rw (e, z) (any_place (meaning_in d y) y.text.start (bytes_of d y.text) w)

    module _ {b : Bool} (m : b ≡ meant) where
      -- the same text is that of the token where it may be read
      pub same_text : (r : Result Source SyntaxError) → b ≡ true → r ≡ source_in d t → is_ok r ≡ is_text (text_in d t) w
      same_text (Ok y) f e = sym f ∙ m ∙ read-text (sym e)
      same_text (Err x) f e = unread-none (sym e)

      -- another text, whether it may be read or not
      other : (c : Result Source SyntaxError) → b ≡ false → source_in d t ≡ c → false ≡ is_text (text_in d t) w
      other (Ok y) f e = sym f ∙ m ∙ read-text e
      other (Err x) f e = unread-none e

      pub other_none : b ≡ false → false ≡ is_text (text_in d t) w
      other_none f = other (source_in d t) f refl
