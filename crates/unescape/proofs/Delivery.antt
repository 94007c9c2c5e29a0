-- A measured meaning is delivered as its measure says: the pieces make up no part, and a code that is shown lies within the text.
use Prim.Native.Nat.{ℕ, ◌≤◌, ◌<◌}
use mathlib.Core.Path.{◌≡◌, sym, ap}
use mathlib.Core.List.{List}
use native.Mathlib.Omega.{arith}
use lib.ListN.{length}
use borrow.Author.Tests.{le-leb, lt-leb}
use Rattle.std.specs.Prelude.{Result, Ok, Err}
use Rattle.text.specs.Numbers.{error}
use Rattle.text.specs.declared.refusals.Refusal.TheVariants.{ShortBuffer}
use Rattle.unescape_pieces.specs.Meaning.{Meaning, part, bytes, refused}
use Rattle.unescape_pieces.specs.Cursor.{meaning_of, Shows}
use Rattle.unescape_pieces.specs.declared.fault.Fault.{Fault}
use Rattle.unescape_pieces.specs.declared.cursor.Cursor.{Cursor}
use Rattle.unescape_pieces.proofs.Ends.{Ends, pieces_end}
use Rattle.unescape.specs.Walk.{refusal, faulty, measured_of, buffer_after}
use Rattle.unescape.specs.Unescape.{Unescaped, kept_buffer, delivered}
use Rattle.unescape.specs.declared.answer.Answer.{Answer}
use Rattle.unescape.specs.declared.answer.Answer.TheVariants.{Written}
use Rattle.unescape.specs.declared.answer.Error.{Error}

-- The meaning by its measure

module _ (k from line : ℕ) (o : List ℕ) where
  too_short : {n : ℕ} (m : Meaning) → Ends k m → Ok n ≡ measured_of m → length o < n
      → delivered m from line o ≡ kept_buffer (Err (refusal (error ShortBuffer line))) o
  unfolding delivered
  too_short (part a e) x q h = absurd x
  too_short {n} (bytes w) x q h = let y : n ≡ length w = cc in rw (lt-leb (length w) (length o) (omega arith))
  too_short (refused f) x q h = absurd cc

  wrote : {n : ℕ} (m : Meaning) → Ends k m → Ok n ≡ measured_of m → n ≤ length o
      → delivered m from line o ≡ record { answer = Ok (Written n); buffer = buffer_after m o }
  unfolding delivered
  wrote (part a e) x q h = absurd x
  wrote {n} (bytes w) x q h = let y : n ≡ length w = cc in rw (y, le-leb (length w) (length o) (omega arith))
  wrote (refused f) x q h = absurd cc

  refuses : {f : Fault} (m : Meaning) → Ends k m → Err f ≡ measured_of m → delivered m from line o ≡ kept_buffer (Err (faulty f from line)) o
  unfolding delivered
  refuses (part a e) x q = absurd x
  refuses (bytes w) x q = absurd cc
  refuses {f} (refused g) x q = let y : f ≡ g = cc in rw y

  ends_shown : {f : Fault} (m : Meaning) → Ends k m → Err f ≡ measured_of m → Shows k f
  ends_shown (part a e) x q = absurd x
  ends_shown (bytes w) x q = absurd cc
  ends_shown {f} (refused g) x q = let y : f ≡ g = cc in rw y x

-- what is promised of an answer and a buffer
pub promised : {u v : Unescaped} → u ≡ v → (v.answer ≡ u.answer) × (v.buffer ≡ u.buffer)
promised q = (ap (λ (x : Unescaped). x.answer) (sym q), ap (λ (x : Unescaped). x.buffer) (sym q))

-- The pieces from a cursor on, and what is answered of them

abbrev pub Answered : Unescaped → Result Answer Error → List ℕ → Type 0
Answered u a o = (a ≡ u.answer) × (o ≡ u.buffer)

module _ (c : Cursor) (o : List ℕ) (from line : ℕ) where
  abbrev result : Unescaped
  result = delivered (meaning_of c) from line o

  ends : Ends (length c.text.now) (meaning_of c)
  ends = pieces_end c.spot c.indent.now c.text.now c.at c.within

  pub short-answered : {k : ℕ} → Ok k ≡ measured_of (meaning_of c) → length o < k → Answered result (Err (refusal (error ShortBuffer line))) o
  short-answered r h = promised (too_short (length c.text.now) from line o (meaning_of c) ends r h)

  pub text-answered : {k : ℕ} → Ok k ≡ measured_of (meaning_of c) → k ≤ length o → Answered result (Ok (Written k)) (buffer_after (meaning_of c) o)
  text-answered r h = promised (wrote (length c.text.now) from line o (meaning_of c) ends r h)

  pub fault-lies : {f : Fault} → Err f ≡ measured_of (meaning_of c) → Shows (length c.text.now) f
  fault-lies r = ends_shown (length c.text.now) from line o (meaning_of c) ends r

  pub fault-answered : {f : Fault} → Err f ≡ measured_of (meaning_of c) → Answered result (Err (faulty f from line)) o
  fault-answered r = promised (refuses (length c.text.now) from line o (meaning_of c) ends r)
