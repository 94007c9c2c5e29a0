-- Claim about the law: demand 3, one statement over whole lists. What stands above a top-level line cannot change what
-- is read from it on, save lines and places. proofs/Demand proves it; proofs/Counterexamples shows that each condition
-- is needed.
use Rattle.std.specs.Prelude.{Option, Some, None, Ok, Err, ℕ, ◌+◌, ◌≤◌, ◌≡◌, List, [], ◌∷◌, ◌++◌, true, cond, length}
use Rattle.tokenizer.specs.Token.{Answer as Came, Answer, line_of}
use Rattle.text.specs.declared.refusals.Refusal.{Refusal}
use Rattle.text.specs.declared.refusals.Refusal.TheVariants.{UnexpectedKey, UnexpectedItem}
use Rattle.text.specs.Numbers.{error, max_document}
use Rattle.tokenizer_scans.specs.Scans.{breaks}
use Rattle.tokenizer.specs.Lists.{tokens}
use Rattle.tokenizer.specs.declared.token.Token.{Token}
use Rattle.parser_rules.specs.Ruling.{clashes}
use Rattle.parser.specs.Lists.{parse, refused_in, entry_sort, top_sort}
use Rattle.parser_rules.specs.declared.ruling.Sort.{Sort}
use Rattle.parser_rules.specs.declared.ruling.Sort.TheVariants.{Map, List as Listed}
use Rattle.joining_claims.specs.Raising.{raise_token, raised}
use Rattle.joining_claims.specs.Tokens.{Closed, top_level}
use Rattle.joining_claims.specs.Alike.{Alike}

-- every token of a list
abbrev pub EachToken : (Token → Type 0) → List Came → Type 0
EachToken F [] = Unit {0}
EachToken F (None ∷ as₁) = EachToken F as₁
EachToken F (Some (Ok t) ∷ as₁) = F t × EachToken F as₁
EachToken F (Some (Err e) ∷ as₁) = EachToken F as₁

-- what refuses a key among items, or an item among keys
abbrev pub refusal_of : Sort → Refusal
refusal_of Map = UnexpectedKey
refusal_of Listed = UnexpectedItem

-- a list whose first entry is of the second sort, on line l, behind entries of the first: itself, or one refusal of that entry
abbrev pub below_entry : Option Sort → Option Sort → ℕ → List Answer → List Answer
below_entry r None l list = list
below_entry r (Some s) l list = cond (clashes r s) (Some (Err (error (refusal_of s) l)) ∷ []) list

-- what the parser says of S behind P, whose list is above and whose first token is the key or item t: nothing where P is refused;
-- S's list raised, or one refusal of t where the top level of P is of the other sort
abbrev pub below : List Answer → Token → ℕ → List Answer → List Answer
below above t l list = cond (refused_in above) [] (below_entry (top_sort above) (entry_sort t) (l + line_of t) list)

-- S's list begins with a key or an item
pub data Begins : List Came → Token → Type 0 where
  begins : {t : Token} {as₁ : List Came} → (entry_sort t ≡ None → ⊥) → Begins (Some (Ok t) ∷ as₁) t

pub record Joined (p s : List ℕ) : Type 0 where
  -- 1. the tokenizer's list
  pub read : tokens (p ++ s) ≡ tokens p ++ raised (breaks p) (length p) (tokens s)
  -- 2. each token unescapes alike, with every buffer
  pub above : EachToken (λ t. Alike 0 0 (p ++ s) t p t) (tokens p)
  pub from : EachToken (λ t. Alike (breaks p) (length p) (p ++ s) (raise_token (breaks p) (length p) t) s t) (tokens s)
  -- 3. the parser's list, where S's begins with a key or an item
  pub parsed : (t : Token) → Begins (tokens s) t
      → parse (p ++ s) ≡ parse p ++ below (parse p) t (breaks p) (raised (breaks p) (length p) (parse s))

-- for every P that is empty or ends in CR or LF, and every S that is empty or whose first byte is no space, tab, CR, LF or `;`,
-- together within the size limit
abbrev pub Demand3 : Type 0
Demand3 = (p s : List ℕ) → Closed p → top_level s ≡ true → length (p ++ s) ≤ max_document → Joined p s
