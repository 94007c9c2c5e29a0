-- Claims about the law: 4, its second half: what unescaping writes or hands back of a valid text is valid UTF-8
-- (proofs/Valid proves it); and what it writes is never longer than the token's text (proofs/Shorter).
use Rattle.std.specs.Prelude.{ℕ, ◌-◌, ◌≤◌, ◌≡◌, List, [], ◌∷◌, true, length, take, drop, Ok}
use Rattle.text.specs.Ascii.{ascii}
use Rattle.utf8.specs.Utf8.{utf8}
use Rattle.text.specs.declared.refusals.Refusal.TheVariants.{ShortBuffer}
use Rattle.text.specs.declared.bytes.Part.{Part}
use Rattle.tokenizer.specs.Step.{no_part}
use Rattle.tokenizer.specs.declared.token.Token.{Token}
use Rattle.tokenizer.specs.declared.token.Token.TheVariants.{MultilineValue}
use Rattle.unescape_pieces.specs.Meaning.{Meaning, part, bytes, refused, meaning}
use Rattle.unescape_source.specs.Source.{source_of}
use Rattle.unescape_pieces.specs.declared.start.Style.{Style}
use Rattle.unescape.specs.Unescape.{refused_at, unescape_of}
use Rattle.unescape.specs.declared.answer.Answer.TheVariants.{Written}

-- the part of the text s, or the bytes, are UTF-8
abbrev pub ValidIn : List ℕ → Meaning → Type 0
ValidIn s (part a e) = utf8 (take (e - a) (drop a s)) ≡ true
ValidIn s (bytes w) = utf8 w ≡ true
ValidIn s (refused f) = Unit {0}

abbrev pub Valid : Type 0
Valid = (r : Style) (s indent : List ℕ) → utf8 s ≡ true → utf8 indent ≡ true → ValidIn s (meaning r s indent)

-- how long a token's text is; 0 where it has none
abbrev pub text_size : Token → ℕ
text_size t = (source_of t).text.end - (source_of t).text.start

-- of every token, also one that no reading gives
abbrev pub Shorter : Type 0
Shorter = (d : List ℕ) (t : Token) (o : List ℕ) (n : ℕ) → (unescape_of d t o).answer ≡ Ok (Written n) → n ≤ text_size t

-- so a buffer of that length never gets 14
abbrev pub Enough : Type 0
Enough =
    (d : List ℕ) (t : Token) (o : List ℕ) (l : ℕ) (p : Part) → text_size t ≤ length o → (unescape_of d t o).answer ≡ refused_at ShortBuffer l p → ⊥

-- the bound is met: `a` LF `b` as a multiline value with no indentation
abbrev pub Met : Type 0
Met =
    (unescape_of (ascii "a\nb") (MultilineValue 1 no_part (record { start = 0; end = 3 })) (0 ∷ 0 ∷ 0 ∷ [])).answer ≡ Ok (Written 3)
