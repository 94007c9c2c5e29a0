-- The plain part of a token's text that may be read is what is delivered of it.
use Prim.Native.Nat.{ℕ, ◌-◌}
use mathlib.Core.Path.{◌≡◌, refl, sym}
use mathlib.Core.List.{List, []}
use mathlib.Core.Bool.{true}
use native.Mathlib.Omega.{arith}
use lib.Dec.{leb}
use lib.ListN.{length, drop, length-drop}
use lib.Seq.{length-take-le}
use Rattle.std.specs.Prelude.{Ok}
use Rattle.text.specs.declared.bytes.Part.{Part}
use Rattle.text.proofs.Cases.{by_bool}
use Rattle.tokenizer.specs.Token.{line_of}
use Rattle.tokenizer.specs.Step.{bytes_of}
use Rattle.tokenizer.specs.declared.token.Token.{Token}
use Rattle.unescape_pieces.specs.Meaning.{Meaning, part, bytes, refused, meaning}
use Rattle.unescape_pieces.specs.Pieces.{start_of, meaning_from}
use Rattle.unescape_pieces.specs.declared.start.Style.{Style}
use Rattle.unescape_pieces.specs.declared.start.Start.{Start}
use Rattle.unescape_pieces.specs.declared.start.Start.TheVariants.{Plain, Pieces}
use Rattle.unescape_pieces.proofs.Starts.{part-means, part_lies, pieces-mean, pieces-lie}
use Rattle.unescape_pieces.proofs.Ends.{Ends, pieces_end}
use Rattle.unescape_pieces.proofs.Turns.{nested-part}
use Rattle.unescape_source.specs.Source.{sound, source_in}
use Rattle.unescape_source.specs.declared.source.Source.{Source}
use Rattle.unescape_source.proofs.Sound.{sound-fits, read}
use Rattle.unescape.specs.Walk.{plain_by}
use Rattle.unescape.specs.Unescape.{delivered, unescape_of, shown_by, plain_of}

-- what is written or refused shows nothing
none-shown : (d : List ℕ) (k n l : ℕ) (m : Meaning) → Ends k m → shown_by d (delivered m n l []).answer ≡ []
unfolding delivered
none-shown d k n l (part a e) x = absurd x
none-shown d k n l (bytes w) x = by_bool (leb (length w) 0) (λ e. rw e) (λ e. rw e)
none-shown d k n l (refused f) x = refl

module _ (d : List ℕ) (p : Part) (u : sound d p ≡ true) (style : Style) (indent : List ℕ) (l : ℕ) where
  shown : (x : Start) → start_of style (bytes_of d p) ≡ x
      → shown_by d (delivered (meaning style (bytes_of d p) indent) p.start l []).answer ≡ plain_by x (bytes_of d p)
  unfolding delivered
  shown (Plain r) q =
      let h = part_lies style (bytes_of d p) q in
      let f = sound-fits d p u in
      rw (part-means style (bytes_of d p) indent q)
      (nested-part d p.start (p.end - p.start) r.start r.end h.0 (omega (arith, h.1, length-take-le (p.end - p.start) (drop p.start d) (rw length-drop (omega arith)))))
  shown (Pieces n spot) q = rw (pieces-mean style (bytes_of d p) indent q)
      (none-shown d (length (bytes_of d p)) p.start l (meaning_from spot indent (drop n (bytes_of d p)) n) (pieces_end spot indent (bytes_of d p) n (pieces-lie style (bytes_of d p) q)))

  pub plainly : shown_by d (delivered (meaning style (bytes_of d p) indent) p.start l []).answer ≡ plain_by (start_of style (bytes_of d p)) (bytes_of d p)
  plainly = shown (start_of style (bytes_of d p)) refl

module _ (d : List ℕ) (t : Token) where
  pub plain-ruled : {w : Source} → source_in d t ≡ Ok w → plain_by (start_of w.style (bytes_of d w.text)) (bytes_of d w.text) ≡ plain_of d t
  unfolding plain_of unescape_of
  plain-ruled {w} e = rw e (sym (plainly d w.text (read d t e).text w.style (bytes_of d w.indent) (line_of t)))
