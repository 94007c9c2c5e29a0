-- Claim: a token of a reading may be read. What fits (tokenizer_claims/specs/Claims, parser_claims/specs/Claims) is refused
-- neither by 12 nor by 13 (proofs/Readable proves it).
use Rattle.std.specs.Prelude.{ℕ, ◌≤◌, ◌≡◌, List, length, Ok}
use Rattle.text.specs.Numbers.{max_document}
use Rattle.tokenizer.specs.declared.token.Token.{Token}
use Rattle.tokenizer_claims.specs.Claims.{PartsFit}
use Rattle.unescape_source.specs.Source.{source_of, source_in}

-- the tokenizer's tokens and the parser's, NoValue included
abbrev pub TokensRead : Type 0
TokensRead = (d : List ℕ) (t : Token) → length d ≤ max_document → PartsFit (Unit {0}) d t → source_in d t ≡ Ok (source_of t)
