-- Law: document 01, 'Parser', on the entries of one sort of which demand 3 speaks. An accepted document has no others: all of its top-level
-- entries are of the sort of the first.
use Rattle.std.specs.Prelude.{Option, ℕ, ◌≡◌, List, [], ◌∷◌}
use Rattle.tokenizer.specs.declared.token.Token.{Token}
use Rattle.parser.specs.Lists.{parse, Accepted, top_entries, entry_sort, top_sort}
use Rattle.parser_rules.specs.declared.ruling.Sort.{Sort}

-- every entry of a list is of the sort s
abbrev pub OfSort : Option Sort → List Token → Type 0
OfSort s [] = Unit {0}
OfSort s (t ∷ l) = (entry_sort t ≡ s) × OfSort s l

abbrev pub OneSort : Type 0
OneSort = (d : List ℕ) → Accepted d → OfSort (top_sort (parse d)) (top_entries 0 0 (parse d))
