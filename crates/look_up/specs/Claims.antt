-- Claims about the look-up, over the parser's list itself, so that a crate above needs no law of the definitions in Entries:
-- what is found is the entry of the first top-level key with that name; nothing, where no top-level key has it and nothing is
-- refused; or the refusal of the list (proofs/Founded proves them).
use Rattle.std.specs.Prelude.{Some, Ok, ℕ, ◌≡◌, List, [], ◌∷◌, ◌++◌, false, None, Err, length}
use Rattle.tokenizer.specs.Token.{Answer}
use Rattle.text.specs.declared.bytes.Part.{Part}
use Rattle.text.specs.declared.refusals.SyntaxError.{SyntaxError}
use Rattle.tokenizer.specs.declared.token.Token.TheVariants as token
use Rattle.token_text.specs.Text.{gives, text_in}
use Rattle.parser.specs.Lists.{parse}
use Rattle.look_up.specs.Entries.{Key, top_keys, refusal_in, is_named, look_up}
use Rattle.look_up.specs.declared.search.Found.{Found}

abbrev pub NoneNamed : List ℕ → List ℕ → List Key → Type 0
NoneNamed d w [] = Unit {0}
NoneNamed d w (k ∷ ks) = (is_named d w k ≡ false) × NoneNamed d w ks

-- where an entry ends, ks being the top-level keys after its own, in a document of n bytes
abbrev pub end_before : ℕ → List Key → ℕ
end_before n [] = n
end_before n (k ∷ ks) = k.text.start

-- the key of the name w on line l, whose entry is p, with the answers before and after it
pub record Founded (d w : List ℕ) (l : ℕ) (p : Part) : Type 0 where
  pub key : Part
  pub above : List Answer
  pub below : List Answer
  pub split : parse d ≡ above ++ Some (Ok (token.MapKey l key)) ∷ below
  pub top : top_keys (parse d) ≡ top_keys above ++ record { line = l; text = key } ∷ top_keys below
  pub named : text_in d (token.MapKey l key) ≡ gives w
  pub first : NoneNamed d w (top_keys above)
  pub starts : p.start ≡ key.start
  pub ends : p.end ≡ end_before (length d) (top_keys below)

abbrev pub KeyFound : Type 0
KeyFound = (d w : List ℕ) (f : Found) → look_up d w ≡ Ok (Some f) → Founded d w f.line f.part

abbrev pub NothingFound : Type 0
NothingFound = (d w : List ℕ) → look_up d w ≡ Ok None → NoneNamed d w (top_keys (parse d)) × (refusal_in (parse d) ≡ None)

abbrev pub RefusalFound : Type 0
RefusalFound = (d w : List ℕ) (e : SyntaxError) → look_up d w ≡ Err e → refusal_in (parse d) ≡ Some e
