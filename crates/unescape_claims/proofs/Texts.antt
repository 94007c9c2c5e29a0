-- The text of a token is what unescaping shows of it: its meaning, delivered, by what the reading of the text begins with.
use Prim.Native.Nat.{ℕ, ◌-◌}
use mathlib.Core.List.{List}
use mathlib.Core.Bool.{◌&&◌}
use native.Mathlib.Omega.{arith}
use lib.Dec.{leb, ltb}
use lib.ListN.{length, drop, length-take}
use borrow.Author.Tests.{leb-true, leb-false}
use Rattle.text.specs.declared.bytes.Part.{Part}
use Rattle.text.proofs.Cases.{by_bool}
use Rattle.tokenizer.specs.Token.{line_of}
use Rattle.tokenizer.specs.Step.{bytes_of}
use Rattle.tokenizer.specs.declared.token.Token.{Token}
use Rattle.unescape_pieces.specs.Meaning.{Meaning, part, bytes, refused, meaning}
use Rattle.unescape_pieces.specs.declared.fault.Fault.TheVariants.{InvalidEscape, EscapeAtEnd, ExtraCharacters, UnclosedQuotes}
use Rattle.unescape_pieces.proofs.Proper.{Proper, meaning-proper}
use Rattle.unescape_pieces.proofs.Turns.{nested-part}
use Rattle.unescape_source.specs.Source.{source_of, sound, source_in}
use Rattle.token_text.specs.Text.{text_by, text_in}
use Rattle.unescape.specs.Unescape.{delivered, unescape_of}
use Rattle.unescape_claims.specs.Texts.{Told, plain, written, short, fail, TextsTold}

module _ (d : List ℕ) (t : Token) (o : List ℕ) where
  -- a meaning of the text at p
  told-by : (p : Part) (m : Meaning) → Proper (length (bytes_of d p)) m → Told d t o (text_by m p.start (bytes_of d p)) (delivered m p.start (line_of t) o)
  unfolding delivered
  told-by p (part a e) h =
      rw (← nested-part d p.start (p.end - p.start) a e h.0 (omega (arith, h.1, length-take (p.end - p.start) (drop p.start d)))) plain
  told-by p (bytes w) h =
      by_bool (leb (length w) (length o))
      (λ e. rw e (written (leb-true (length w) (length o) e)))
      (λ e. rw e (short (leb-false (length w) (length o) e)))
  told-by p (refused (InvalidEscape q)) h = fail
  told-by p (refused EscapeAtEnd) h = fail
  told-by p (refused ExtraCharacters) h = fail
  told-by p (refused UnclosedQuotes) h = fail

  told : Told d t o (text_in d t) (unescape_of d t o)
  unfolding text_in unescape_of source_in
  told =
      let w = source_of t in
      let s = bytes_of d w.text in
      let i = bytes_of d w.indent in
      by_bool (ltb 16777216 (length d)) (λ e. rw e fail)
      (λ e. by_bool (sound d w.text && sound d w.indent)
      (λ f. rw (e, f) (told-by w.text (meaning w.style s i) (meaning-proper w.style s i)))
      (λ f. rw (e, f) fail))

pub texts-told : TextsTold
texts-told d t o = told d t o
