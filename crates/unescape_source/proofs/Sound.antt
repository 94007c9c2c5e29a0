-- A sound part lies within the document, and what is known of a source that may be read.
use Prim.Native.Nat.{ℕ, ◌+◌, ◌-◌, ◌≤◌}
use mathlib.Core.Path.{◌≡◌, refl}
use mathlib.Core.List.{List}
use mathlib.Core.Bool.{Bool, true, false, cond, ◌&&◌}
use native.Mathlib.Omega.{arith}
use lib.Dec.{leb, ltb}
use lib.ListN.{length, drop, length-drop}
use lib.Seq.{length-take-le}
use borrow.Author.Tests.{leb-true, le-ltb, ltb-false}
use Rattle.utf8.specs.Utf8.{utf8}
use Rattle.text.specs.Numbers.{error}
use Rattle.text.specs.declared.bytes.Part.{Part}
use Rattle.text.proofs.Cases.{and_left, and_right}
use Rattle.tokenizer.specs.Token.{line_of}
use Rattle.tokenizer.specs.Step.{bytes_of, fit_part}
use Rattle.tokenizer.specs.declared.token.Token.{Token}
use Rattle.text.specs.declared.refusals.Refusal.TheVariants.{TooLong, UnfitToken}
use Rattle.std.specs.Prelude.{Ok, Err}
use Rattle.unescape_source.specs.Source.{source_of, sound, source_in}
use Rattle.unescape_source.specs.declared.source.Source.{Source}

pub fit-lies : (n : ℕ) (p : Part) → fit_part n p ≡ true → (p.start ≤ p.end) × (p.end ≤ n)
fit-lies n p f = (leb-true p.start p.end (and_left (leb p.start p.end) _ f), leb-true p.end n (and_right (leb p.start p.end) _ f))

pub sound-fits : (d : List ℕ) (p : Part) → sound d p ≡ true → (p.start ≤ p.end) × (p.end ≤ length d)
unfolding sound
sound-fits d p e = fit-lies (length d) p (and_left (fit_part (length d) p) (utf8 (bytes_of d p)) e)

pub sound-length : (d : List ℕ) (p : Part) → sound d p ≡ true → p.start + length (bytes_of d p) ≤ length d
sound-length d p e =
    let f = sound-fits d p e in
    omega (arith, length-take-le (p.end - p.start) (drop p.start d) (rw length-drop (omega arith)))

-- The branches of `source_in`

module _ (d : List ℕ) (t : Token) where
  module _ (x : Source) (q : x ≡ source_of t) (h : length d ≤ 16777216) where
    module _ {a b : Bool} (f : a ≡ sound d x.text) (g : b ≡ sound d x.indent) where
      pub both-sound : (a && b) ≡ true → Ok x ≡ source_in d t
      unfolding source_in
      both-sound e = rw (← q, le-ltb 16777216 (length d) h, ← f, ← g, e)

  -- of a source that may be read
  pub record Read (w : Source) : Type 0 where
    pub is : source_of t ≡ w
    pub few : length d ≤ 16777216
    pub text : sound d w.text ≡ true
    pub indent : sound d w.indent ≡ true

  readable_of : {w : Source} (a b c : Bool) → cond a (Err (error TooLong 0)) (cond (b && c) (Ok (source_of t)) (Err (error UnfitToken (line_of t)))) ≡ Ok w
      → (a ≡ false) × (b ≡ true) × (c ≡ true) × (source_of t ≡ w)
  readable_of true b c e = absurd cc
  readable_of false false c e = absurd cc
  readable_of false true false e = absurd cc
  readable_of false true true e = (refl, refl, refl, cc)

  pub read : {w : Source} → source_in d t ≡ Ok w → Read w
  unfolding source_in
  read e =
      let g = readable_of (ltb 16777216 (length d)) (sound d (source_of t).text) (sound d (source_of t).indent) e in
      record { is = g.3; few = ltb-false 16777216 (length d) g.0; text = rw g.3 at g.1; indent = rw g.3 at g.2 }
