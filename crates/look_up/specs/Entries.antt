-- Law: document 01, 'Look-up and listing', with request 1 of document 02: the top-level keys of a document with the extents
-- of their entries, over the parser's list. The look-up is the first of them whose text, unescaped, is what is wanted.
use Rattle.std.specs.Prelude.{Some, None, Ok, Err, ℕ, List, [], ◌∷◌, Bool, Option, Result, cond, length}
use Rattle.tokenizer.specs.Token.{Answer}
use Rattle.text.specs.declared.bytes.Part.{Part}
use Rattle.text.specs.declared.refusals.SyntaxError.{SyntaxError}
use Rattle.tokenizer.specs.Step.{bytes_of}
use Rattle.tokenizer.specs.declared.token.Token.{Token}
use Rattle.tokenizer.specs.declared.token.Token.TheVariants as token
use Rattle.parser.specs.Lists.{top_entries, parse}
use Rattle.token_text.specs.Text.{text_in, is_text}
use Rattle.look_up.specs.declared.search.Found.{Found}

-- what a look-up answers: what is found, or that nothing is, or the parser's refusal
abbrev pub Outcome : Type 0
Outcome = Result (Option Found) SyntaxError

-- a key's line and text
pub record Key : Type 0 where
  pub line : ℕ
  pub text : Part

-- the keys among entries
unfoldable pub keys_of : List Token → List Key
keys_of [] = []
keys_of (token.MapKey l p ∷ ts) = record { line = l; text = p } ∷ keys_of ts
keys_of (token.ListItem l ∷ ts) = keys_of ts
keys_of (token.Newline l ∷ ts) = keys_of ts
keys_of (token.Comment l p ∷ ts) = keys_of ts
keys_of (token.Indent l ∷ ts) = keys_of ts
keys_of (token.Outdent l o ∷ ts) = keys_of ts
keys_of (token.Value l p ∷ ts) = keys_of ts
keys_of (token.MultilineHint l p ∷ ts) = keys_of ts
keys_of (token.MultilineValue l i p ∷ ts) = keys_of ts
keys_of (token.NoValue l ∷ ts) = keys_of ts

-- the top-level keys of a parser's list
abbrev pub top_keys : List Answer → List Key
top_keys l = keys_of (top_entries 0 0 l)

-- the refusal of a parser's list, its last answer if there is one
unfoldable pub refusal_in : List Answer → Option SyntaxError
refusal_in [] = None
refusal_in (None ∷ l) = refusal_in l
refusal_in (Some (Ok t) ∷ l) = refusal_in l
refusal_in (Some (Err e) ∷ l) = Some e

-- the key's line, and the part from its first byte to another place
abbrev pub up_to : Key → ℕ → Outcome
up_to k e = Ok (Some (record { line = k.line; part = record { start = k.text.start; end = e } }))

-- the last entry ends at the document's end n, or is refused
abbrev pub last_extent : ℕ → Key → Option SyntaxError → Outcome
last_extent n k None = up_to k n
last_extent n k (Some e) = Err e

-- what is found of a key, ks being the top-level keys after it: up to the next one's first byte. A refusal is met after them all
unfoldable pub extent : ℕ → Option SyntaxError → Key → List Key → Outcome
extent n r k [] = last_extent n k r
extent n r k (m ∷ ks) = up_to k m.text.start

pub record Entry : Type 0 where
  pub key : Key
  pub found : Outcome

unfoldable pub entries_of : ℕ → Option SyntaxError → List Key → List Entry
entries_of n r [] = []
entries_of n r (k ∷ ks) = record { key = k; found = extent n r k ks } ∷ entries_of n r ks

-- the top-level entries of a document that have a key
abbrev pub entries : List ℕ → List Entry
entries d = entries_of (length d) (refusal_in (parse d)) (top_keys (parse d))

-- whether a key's text, unescaped, is the bytes w; a key that unescaping refuses has no name
abbrev pub is_named : List ℕ → List ℕ → Key → Bool
is_named d w k = is_text (text_in d (token.MapKey k.line k.text)) w

-- the first entry whose key has the name w; r where there is none
unfoldable pub first_named : List ℕ → List ℕ → Outcome → List Entry → Outcome
first_named d w r [] = r
first_named d w r (e ∷ es) = cond (is_named d w e.key) e.found (first_named d w r es)

-- where no key has the name: nothing, or the refusal
abbrev pub missing : Option SyntaxError → Outcome
missing None = Ok None
missing (Some e) = Err e

-- the look-up; over the limit the list is the refusal 12, and so is the answer
unfoldable pub look_up : List ℕ → List ℕ → Outcome
look_up d w = first_named d w (missing (refusal_in (parse d))) (entries d)

-- the bytes of the part that is found, else none
abbrev pub found_bytes : List ℕ → Outcome → List ℕ
found_bytes d (Ok None) = []
found_bytes d (Ok (Some f)) = bytes_of d f.part
found_bytes d (Err e) = []

unfoldable pub entry_of : List ℕ → List ℕ → List ℕ
entry_of d w = found_bytes d (look_up d w)
