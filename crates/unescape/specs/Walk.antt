-- Intermediate: the walks over a text's pieces, what is measured of a meaning and a buffer that it is written into.
-- proofs/Delivery (and proofs/Ruling for the plain part) show that they come to what the law delivers.
use Rattle.std.specs.Prelude.{ℕ, ◌≤◌, List, [], ◌++◌, length, drop, Result, Ok, Err}
use Rattle.text.specs.Numbers.{error}
use Rattle.text.specs.declared.refusals.SyntaxError.{SyntaxError}
use Rattle.tokenizer.specs.Step.{bytes_of, no_part}
use Rattle.unescape_pieces.specs.Meaning.{Meaning, part, bytes, refused, refusal_of, shown_from}
use Rattle.unescape.specs.declared.answer.Error.{Error}
use Rattle.unescape_pieces.specs.declared.fault.Fault.{Fault}
use Rattle.unescape_pieces.specs.declared.fault.Fault.TheVariants.{UnclosedQuotes}
use Rattle.unescape_pieces.specs.declared.start.Start.{Start}
use Rattle.unescape_pieces.specs.declared.start.Start.TheVariants.{Plain, Pieces}

-- the bytes of the plain part, else none
abbrev pub plain_by : Start → List ℕ → List ℕ
plain_by (Plain p) s = bytes_of s p
plain_by (Pieces n spot) s = []

-- a refusal that shows no part
abbrev pub refusal : SyntaxError → Error
refusal e = record { error = e; shown = no_part }

-- why a text that starts at n means nothing, on line l
abbrev pub faulty : Fault → ℕ → ℕ → Error
faulty f n l = record { error = error (refusal_of f) l; shown = shown_from n f }

-- how long a text is that is written, or why none is; a part is not measured, and any fault will do
abbrev pub measured_of : Meaning → Result ℕ Fault
measured_of (part a e) = Err UnclosedQuotes
measured_of (bytes w) = Ok (length w)
measured_of (refused f) = Err f

-- a written text that fits n bytes
abbrev pub WrittenFits : Meaning → ℕ → Type 0
WrittenFits (part a e) n = ⊥
WrittenFits (bytes w) n = length w ≤ n
WrittenFits (refused f) n = ⊥

-- a buffer after it
abbrev pub buffer_after : Meaning → List ℕ → List ℕ
buffer_after (part a e) o = o
buffer_after (bytes w) o = w ++ drop (length w) o
buffer_after (refused f) o = o
