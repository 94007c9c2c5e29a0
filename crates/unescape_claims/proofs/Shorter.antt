-- What unescaping writes is never longer than the text. Of a multiline value's lines each but the first has an LF in place of the
-- break before it, and some lose bytes.
use Prim.Native.Nat.{ℕ, suc, ◌+◌, ◌≤◌}
use mathlib.Core.Path.{◌≡◌, refl}
use mathlib.Core.List.{List, [], ◌∷◌}
use mathlib.Core.Bool.{cond, ◌&&◌}
use native.Mathlib.Omega.{arith}
use lib.Dec.{eqb, leb, ltb}
use lib.ListN.{length, drop, length-append, length-drop, length-take}
use borrow.Author.Tests.{leb-false}
use Rattle.text.specs.Bytes.{is_break, not_break, starts_with}
use Rattle.std.specs.List.{prefix_len}
use Rattle.std.specs.Prelude.{Result, Ok, Err}
use Rattle.text.specs.Numbers.{number_of}
use Rattle.text.specs.declared.refusals.SyntaxError.{SyntaxError}
use Rattle.utf8.specs.Utf8.{within, lead_of, owes, utf8}
use Rattle.text.proofs.Cases.{on-cond}
use Rattle.tokenizer.specs.Token.{line_of}
use Rattle.tokenizer.specs.Step.{bytes_of}
use Rattle.tokenizer.specs.declared.token.Token.{Token}
use Rattle.unescape_pieces.specs.Meaning.{
  Meaning,
  part,
  bytes,
  refused,
  on_first,
  is_empty,
  lines_in,
  without,
  later_lines,
  joined_lines,
  block_meaning,
  meaning,
}
use Rattle.unescape_source.specs.Source.{source_of, sound, source_in}
use Rattle.unescape_source.specs.declared.source.Source.{Source}
use Rattle.unescape_pieces.specs.declared.fault.Fault.TheVariants.{InvalidEscape, EscapeAtEnd, ExtraCharacters, UnclosedQuotes}
use Rattle.unescape_pieces.specs.declared.start.Style.{Style}
use Rattle.unescape_pieces.specs.declared.start.Style.TheVariants.{AsIs, Entry, Block}
use Rattle.unescape.specs.Unescape.{Unescaped, delivered, source_delivered, unescape_of}
use Rattle.unescape.specs.declared.answer.Answer.{Answer}
use Rattle.unescape.specs.declared.answer.Answer.TheVariants.{Plain, Written}
use Rattle.unescape.specs.declared.answer.Error.{Error}
use Rattle.unescape_claims.specs.Claims.{text_size, Shorter, Enough, Met}
use Rattle.unescape_claims.proofs.Entries.{AtMost, raised, entry-most}

-- The lines of a multiline value

-- what later lines take with an LF before each, and what lines take with one between each two
abbrev later : List (List ℕ) → ℕ
later [] = 0
later (l ∷ ls) = suc (length l + later ls)

abbrev joined : List (List ℕ) → ℕ
joined [] = 0
joined (l ∷ ls) = length l + later ls

later-joined : (ls : List (List ℕ)) → later ls ≤ suc (joined ls)
later-joined [] = omega arith
later-joined (l ∷ ls) = omega arith

first-joined : (b : ℕ) (ls : List (List ℕ)) → joined (on_first (λ l. b ∷ l) ls) ≡ suc (joined ls)
first-joined b [] = refl
first-joined b (l ∷ ls) = omega arith

abbrev Fill : ℕ → List (List ℕ) → Type 0
Fill n ls = joined ls ≤ n

-- the lines of b, c and r are those of c and r, or those of r behind CR LF, with one more or a longer first
fills : (n b c : ℕ) (r : List ℕ) (one two : List (List ℕ)) → Fill (suc n) one → Fill n two
    → Fill (suc (suc n))
    (cond (eqb b 10) ([] ∷ one)
    (cond (eqb b 13) (cond (eqb c 10) (cond (is_empty r) ([] ∷ []) ([] ∷ two)) ([] ∷ one)) (on_first (λ l. b ∷ l) one)))
fills n b c r one two h k =
    let m = suc (suc n) in
    let here : Fill m ([] ∷ one) = omega (arith, later-joined one) in
    on-cond (Fill m) (eqb b 10) (λ _. here)
    (λ _. on-cond (Fill m) (eqb b 13)
    (λ _. on-cond (Fill m) (eqb c 10)
    (λ _. on-cond (Fill m) (is_empty r) (λ _. omega arith) (λ _. omega (arith, later-joined two)))
    (λ _. here))
    (λ _. omega (arith, first-joined b one)))

lines-fill : (s : List ℕ) → Fill (length s) (lines_in s)
unfolding lines_in
lines-fill [] = omega arith
lines-fill (b ∷ []) =
    on-cond (Fill 1) (eqb b 10) (λ _. omega arith) (λ _. on-cond (Fill 1) (eqb b 13) (λ _. omega arith) (λ _. omega arith))
lines-fill (b ∷ c ∷ r) = fills (length r) b c r (lines_in (c ∷ r)) (lines_in r) (lines-fill (c ∷ r)) (lines-fill r)

module _ (indent : List ℕ) where
  without-most : (l other : List ℕ) → length other ≤ length l → length (without indent l other) ≤ length l
  without-most l other h =
      on-cond (λ (x : List ℕ). length x ≤ length l) (starts_with indent l)
      (λ _. omega (arith, length-drop (length indent) l))
      (λ _. h)

  later-most : (ls : List (List ℕ)) → length (later_lines indent ls) ≤ later ls
  unfolding later_lines
  later-most [] = omega arith
  later-most (l ∷ ls) =
      omega (arith, length-append (without indent l []) (later_lines indent ls), without-most l [] (omega arith), later-most ls)

  joined-most : (ls : List (List ℕ)) → length (joined_lines indent ls) ≤ joined ls
  unfolding joined_lines
  joined-most [] = omega arith
  joined-most (l ∷ ls) =
      omega (arith, length-append (without indent l l) (later_lines indent ls), without-most l l (omega arith), later-most ls)

  block-most : (s : List ℕ) → AtMost (length s) (block_meaning indent s)
  unfolding block_meaning
  block-most s =
      on-cond (AtMost (length s)) (eqb (prefix_len not_break s) (length s))
      (λ _. tt)
      (λ _. omega (arith, joined-most (lines_in s), lines-fill s))

-- The meaning of a text, and a token's

meaning-most : (r : Style) (s indent : List ℕ) → AtMost (length s) (meaning r s indent)
unfolding meaning
meaning-most AsIs s indent = tt
meaning-most Entry s indent = entry-most s
meaning-most Block s indent = block-most indent s

-- in a buffer o, with room for k bytes where k is the text's length: no more is written, and 14 is for a smaller buffer
abbrev Kept : ℕ → List ℕ → Result Answer Error → Type 0
Kept k o (Ok (Plain p)) = Unit {0}
Kept k o (Ok (Written n)) = n ≤ k
Kept k o (Err e) = k ≤ length o → number_of e.error.refusal ≡ 14 → ⊥

abbrev KeptIn : ℕ → List ℕ → Unescaped → Type 0
KeptIn k o u = Kept k o u.answer

delivered-kept : (k : ℕ) (o : List ℕ) (m : Meaning) (n l : ℕ) → AtMost k m → KeptIn k o (delivered m n l o)
unfolding delivered
delivered-kept k o (part a e) n l h = tt
delivered-kept k o (bytes w) n l h =
    on-cond (KeptIn k o) (leb (length w) (length o))
    (λ _. h)
    (λ e j q. absurd (omega (arith, leb-false (length w) (length o) e)))
delivered-kept k o (refused (InvalidEscape p)) n l h = λ j q. absurd (omega arith)
delivered-kept k o (refused EscapeAtEnd) n l h = λ j q. absurd (omega arith)
delivered-kept k o (refused ExtraCharacters) n l h = λ j q. absurd (omega arith)
delivered-kept k o (refused UnclosedQuotes) n l h = λ j q. absurd (omega arith)

token_kept : (d : List ℕ) (t : Token) (o : List ℕ) → KeptIn (text_size t) o (unescape_of d t o)
unfolding unescape_of source_in
token_kept d t o =
    let w = source_of t in
    let k = text_size t in
    let s = bytes_of d w.text in
    let i = bytes_of d w.indent in
    let m = meaning w.style s i in
    let e = length-take k (drop w.text.start d) in
    let f = raised (length s) k m (omega arith) (meaning-most w.style s i) in
    let F : Result Source SyntaxError → Type 0 = λ c. KeptIn k o (source_delivered d c (line_of t) o) in
    on-cond F (ltb 16777216 (length d))
    (λ _ j q. absurd (omega arith))
    (λ _. on-cond F (sound d w.text && sound d w.indent)
    (λ _. delivered-kept k o m w.text.start (line_of t) f)
    (λ _ j q. absurd (omega arith)))

pub shorter : Shorter
shorter d t o n e = rw e at (token_kept d t o)

pub enough : Enough
enough d t o l p h e = (rw e at (token_kept d t o)) h refl

pub met : Met
unfolding is_break starts_with within lead_of owes utf8 is_empty lines_in later_lines joined_lines block_meaning meaning source_of sound source_in delivered unescape_of
met = refl
