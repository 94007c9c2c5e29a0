-- Intermediate: a text that is written, compared piece by piece (proofs/Matching).
use Rattle.std.specs.Prelude.{ℕ, List, Bool, false}
use Rattle.text.specs.Bytes.{is_same}
use Rattle.unescape_pieces.specs.Meaning.{Meaning, part, bytes, refused}

-- whether what a meaning writes is the bytes w
abbrev pub is_written : Meaning → List ℕ → Bool
is_written (part a e) w = false
is_written (bytes l) w = is_same l w
is_written (refused f) w = false
