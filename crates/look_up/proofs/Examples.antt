-- Look-ups computed from the rule: a key with a refusal after it, keys of the top level and below it, an empty document, and
-- keys in quotes.
use Prim.Native.Nat.{ℕ}
use mathlib.Core.Path.{◌≡◌, refl}
use mathlib.Core.List.{List, []}
use Rattle.std.specs.Prelude.{None, Some, Ok, Err}
use Rattle.text.specs.Ascii.{ascii}
use Rattle.text.specs.Bytes.{part}
use Rattle.text.specs.declared.refusals.Refusal.{Refusal}
use Rattle.text.specs.declared.refusals.Refusal.TheVariants.{UnexpectedIndent, UnexpectedItem}
use Rattle.token_text.proofs.Examples.{rules as text_rules}
use Rattle.parser.specs.Lists.{top_entries}
use Rattle.parser.proofs.Examples.{rules as parsing_rules}
use Rattle.look_up.specs.Entries.{Outcome, keys_of, refusal_in, extent, entries_of, first_named, look_up}

-- what computing a look-up unfolds
unfoldable rules : List ℕ → List ℕ → Outcome
unfolding parsing_rules text_rules top_entries keys_of refusal_in extent entries_of first_named look_up
rules d w = look_up d w

abbrev found_on : ℕ → ℕ → ℕ → Outcome
found_on l a e = Ok (Some (record { line = l; part = part a e }))

abbrev refused_on : ℕ → Refusal → Outcome
refused_on l r = Err (record { refusal = r; line = l })

-- an empty document has no `a`
pub empty : look_up [] (ascii "a") ≡ Ok None
unfolding rules
empty = refl

-- `a=1` LF ` b`: `a` is there, and its entry is refused, 7 on line 2
pub refused-entry : look_up (ascii "a=1\n b") (ascii "a") ≡ refused_on 2 UnexpectedIndent
unfolding rules
refused-entry = refl

-- `a=1` LF `b` LF `=`
abbrev keys_then_item : List ℕ
keys_then_item = ascii "a=1\nb\n="

-- the entry of `a` ends before the refusal, at `b`
pub before-refusal : look_up keys_then_item (ascii "a") ≡ found_on 1 0 4
unfolding rules
before-refusal = refl

-- that of `b` meets it, 6 on line 3
pub meets-refusal : look_up keys_then_item (ascii "b") ≡ refused_on 3 UnexpectedItem
unfolding rules
meets-refusal = refl

-- `a` LF ` b = 1` LF: `b` is below the top level
pub nested : look_up (ascii "a\n b = 1\n") (ascii "b") ≡ Ok None
unfolding rules
nested = refl

-- `"width" = 40` is found by `width`, its quotes in the part, and not by `"width"` with its quotes
pub quoted-name : look_up (ascii "\"width\" = 40") (ascii "width") ≡ found_on 1 0 12
unfolding rules
quoted-name = refl

pub its-quotes : look_up (ascii "\"width\" = 40") (ascii "\"width\"") ≡ Ok None
unfolding rules
its-quotes = refl

-- `"\{61}"=1` is found by `a`, `""=1` by the empty name
pub code-name : look_up (ascii "\"\\{61}\"=1") (ascii "a") ≡ found_on 1 0 9
unfolding rules
code-name = refl

pub empty_name : look_up (ascii "\"\"=1") [] ≡ found_on 1 0 4
unfolding rules
empty_name = refl

-- `"\q"=1` LF `a=2`: the first key is 8, and is passed over; nor is it found by the empty name
pub refused-key : look_up (ascii "\"\\q\"=1\na=2") (ascii "a") ≡ found_on 2 7 10
unfolding rules
refused-key = refl

pub no_name : look_up (ascii "\"\\q\"=1\na=2") [] ≡ Ok None
unfolding rules
no_name = refl

-- `a=1` LF `"a"=2`: the first of two
pub first-of-two : look_up (ascii "a=1\n\"a\"=2") (ascii "a") ≡ found_on 1 0 4
unfolding rules
first-of-two = refl
