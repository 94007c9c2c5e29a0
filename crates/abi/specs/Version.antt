-- The port's own: the version of the words that cross between the library and its callers: raised when the words of a row, a state or
-- an answer change, or what they stand for. It is no law of document 01. tests/c/header.c compares it with CONL_VERSION.
use Rattle.std.specs.Prelude.{ℕ}

abbrev pub version : ℕ
version = 2
