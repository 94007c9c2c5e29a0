-- Law: document 01, 'Parser': a top-level line. And a claim about the law, demand 3's first clause, for the tokenizer's
-- lists: what stands above a top-level line cannot change what is read from it on, save lines and places. proofs/Joined
-- proves it.
use Rattle.std.specs.Prelude.{ℕ, ◌≤◌, ◌≡◌, List, [], ◌∷◌, ◌++◌, Bool, true, not, ◌||◌, eqb, length}
use Prim.Native.Char.{code as byte}
use Rattle.text.specs.Bytes.{is_blank, is_break}
use Rattle.text.specs.Numbers.{max_document}
use Rattle.tokenizer_scans.specs.Scans.{breaks, ends_in_break}
use Rattle.tokenizer.specs.Lists.{tokens}
use Rattle.joining_claims.specs.Raising.{raised}

-- P is empty or ends in CR or LF
abbrev pub Closed : List ℕ → Type 0
Closed p = ends_in_break true p ≡ true

-- S is empty or begins with a top-level line: its first byte is no space, tab, CR, LF or `;`
unfoldable pub top_level : List ℕ → Bool
top_level [] = true
top_level (b ∷ r) = not (is_blank b || (is_break b || eqb b (byte ";")))

-- the tokenizer's list for P then S is its list for P, then its list for S raised
abbrev pub TokensJoined : Type 0
TokensJoined = (p s : List ℕ) → Closed p → top_level s ≡ true → length (p ++ s) ≤ max_document
    → tokens (p ++ s) ≡ tokens p ++ raised (breaks p) (length p) (tokens s)
