-- Demand 3, clause 2: a token of a reading unescapes alike in P then S and, unraised, in P or S alone. Its text's bytes are the
-- same, so its meaning is; only the place and the line at which it is delivered differ.
use Rattle.std.specs.Prelude.{Some, None, Ok, Err}
use Rattle.tokenizer.specs.Token.{Answer as Came, line_of}
use Prim.Native.Nat.{ℕ, ◌+◌, ◌-◌, ◌≤◌}
use mathlib.Core.Path.{◌≡◌, refl, ◌∙◌}
use mathlib.Core.List.{List, [], ◌∷◌, ◌++◌}
use native.Mathlib.Omega.{arith}
use native.Mathlib.Nat.{add_assoc, zero-add}
use lib.Dec.{leb}
use lib.ListN.{length, drop, length-append, length-take}
use lib.Seq.{drop-append_seam}
use Rattle.text.specs.declared.bytes.Part.{Part}
use Rattle.text.proofs.Cases.{by_bool}
use Rattle.tokenizer.specs.Lists.{tokens}
use Rattle.tokenizer.specs.Step.{bytes_of, no_part}
use Rattle.tokenizer.specs.declared.token.Token.{Token}
use Rattle.tokenizer.specs.declared.token.Token.TheVariants.{
  Newline,
  Comment,
  Indent,
  Outdent,
  ListItem,
  MapKey,
  Value,
  MultilineHint,
  MultilineValue,
  NoValue,
}
use Rattle.tokenizer_claims.specs.Claims.{Within, Text, TokenFits, Fits, All}
use Rattle.tokenizer_claims.proofs.Texts.{bytes-append, text-append, text-drop}
use Rattle.tokenizer_claims.proofs.Claimed.{fit as reading-fit}
use Rattle.text.specs.Bytes.{shifted_by}
use Rattle.unescape_pieces.specs.Meaning.{Meaning, part, bytes, refused, meaning, refusal_of, shown_from}
use Rattle.unescape_pieces.specs.declared.fault.Fault.{Fault}
use Rattle.unescape_pieces.specs.declared.fault.Fault.TheVariants.{InvalidEscape, EscapeAtEnd, ExtraCharacters, UnclosedQuotes}
use Rattle.unescape_source.specs.Source.{source_at, source_of, meaning_in}
use Rattle.unescape_pieces.specs.declared.start.Style.{Style}
use Rattle.unescape_pieces.specs.declared.start.Style.TheVariants.{AsIs, Entry}
use Rattle.unescape_pieces.proofs.Proper.{Proper, meaning-proper}
use Rattle.unescape.specs.Unescape.{Unescaped, delivered, unescape_of}
use Rattle.unescape.specs.declared.answer.Answer.TheVariants.{Plain}
use Rattle.unescape_claims.proofs.Readable.{none-text, texts-fit, texts-read}
use Rattle.joining_claims.specs.Raising.{raise_token}
use Rattle.joining_claims.specs.Alike.{raise_shown, Same, Alike}
use Rattle.joining_claims.specs.Joined.{EachToken}
use Rattle.joining_claims.specs.Never13.{Not13, Never13}
use Rattle.joining_claims.proofs.Higher.{bytes-raised}
use Rattle.joining_claims.proofs.Joined.{left_le, right_le}

-- A token of a reading may be read, so it is delivered

deliver : List ℕ → Token → List ℕ → Unescaped
deliver d t o = delivered (meaning_in d (source_of t)) (source_of t).text.start (line_of t) o

unescaped : (d : List ℕ) (t : Token) (o : List ℕ) → length d ≤ 16777216 → Text d (source_of t).text × Text d (source_of t).indent
    → unescape_of d t o ≡ deliver d t o
unfolding unescape_of deliver
unescaped d t o l f = rw (texts-read d t l f)

-- One meaning, delivered at two places

buffer-same : (m : Meaning) (a b k l : ℕ) (o : List ℕ) → (delivered m a b o).buffer ≡ (delivered m k l o).buffer
unfolding delivered
buffer-same (part x y) a b k l o = refl
buffer-same (bytes w) a b k l o = by_bool (leb (length w) (length o)) (λ e. rw e) (λ e. rw e)
buffer-same (refused f) a b k l o = refl

-- the part that a refusal shows, at a place that is n bytes higher
shown-raised : (n k : ℕ) (f : Fault) → shown_from (n + k) f ≡ raise_shown n (refusal_of f) (shown_from k f)
shown-raised n k (InvalidEscape q) = rw (add_assoc, add_assoc)
shown-raised n k EscapeAtEnd = refl
shown-raised n k ExtraCharacters = refl
shown-raised n k UnclosedQuotes = refl

-- d has the parts of e, n bytes higher
module _ (d e : List ℕ) (j n : ℕ) (same : (q : Part) → Within e q → bytes_of d (shifted_by n q) ≡ bytes_of e q) where
  -- of a text of c bytes at the place k of e
  answer-raised : (m : Meaning) (k l c : ℕ) (o : List ℕ) → Proper c m → k + c ≤ length e
      → Same j n d (delivered m (n + k) (j + l) o).answer e (delivered m k l o).answer
  unfolding delivered Same
  answer-raised (part a b) k l c o h f =
      rw (add_assoc, add_assoc)
      (same (record { start = k + a; end = k + b }) (record { starts = omega arith; ends = omega arith }))
  answer-raised (bytes w) k l c o h f =
      by_bool (leb (length w) (length o)) (λ t. rw t refl) (λ t. rw t (refl, refl, refl))
  answer-raised (refused x) k l c o h f = (refl, refl, shown-raised n k x)

  -- a token t of d is the token u of e, raised by j lines and n bytes
  record Lifted (t u : Token) : Type 0 where
    line : line_of t ≡ j + line_of u
    style : (source_of t).style ≡ (source_of u).style
    text : (source_of t).text ≡ shifted_by n (source_of u).text
    indents : bytes_of d (source_of t).indent ≡ bytes_of e (source_of u).indent
    above : Text d (source_of t).text × Text d (source_of t).indent
    below : Text e (source_of u).text × Text e (source_of u).indent

  lifted-alike : (t u : Token) → length d ≤ 16777216 → length e ≤ 16777216 → Lifted t u → Alike j n d t e u
  unfolding deliver
  lifted-alike t u g h f =
      let q = (source_of u).text in
      let w = f.below.0.within in
      let m = meaning_in e (source_of u) in
      let there : (o : List ℕ) → unescape_of d t o ≡ delivered m (n + q.start) (j + line_of u) o =
      λ o. unescaped d t o g f.above ∙ rw (f.style, f.text, f.line, f.indents, same q w) in
      let here : (o : List ℕ) → unescape_of e u o ≡ delivered m q.start (line_of u) o =
      λ o. unescaped e u o h f.below in
      let c : q.start + length (bytes_of e q) ≤ length e =
      omega (arith, w.starts, w.ends, length-take (q.end - q.start) (drop q.start e)) in
      let p = meaning-proper (source_of u).style (bytes_of e q) (bytes_of e (source_of u).indent) in
      record {
        answers = λ o. rw (there o, here o) (answer-raised m q.start (line_of u) _ o p c);
        buffers = λ o. rw (there o, here o) (buffer-same m _ _ _ _ o);
      }

module _ (p s : List ℕ) (l : length (p ++ s) ≤ 16777216) where
  -- a token of P is itself, raised by nothing
  pub token-above : (t : Token) → TokenFits p t → Alike 0 0 (p ++ s) t p t
  token-above t f =
      let g = texts-fit ⊥ p t f in
      lifted-alike (p ++ s) p 0 0 (λ q w. simp zero-add (bytes-append p s q w)) t t l (left_le p s l)
      (record {
        line = simp zero-add;
        style = refl;
        text = simp zero-add;
        indents = bytes-append p s (source_of t).indent g.1.within;
        above = (text-append p s (source_of t).text g.0, text-append p s (source_of t).indent g.1);
        below = g;
      })

  -- Tokens of S

  text-below : (q : Part) → Text s q → Text (p ++ s) (shifted_by (length p) q)
  text-below q t = text-drop (length p) (p ++ s) q (omega (arith, length-append p s)) (rw (drop-append_seam p s) t)

  texted-alike : (j : ℕ) (t u : Token) → Lifted (p ++ s) s j (length p) (λ q w. bytes-raised p s q) t u
      → Alike j (length p) (p ++ s) t s u
  texted-alike j t u = lifted-alike (p ++ s) s j (length p) (λ q w. bytes-raised p s q) t u l (right_le p s l)

  -- a text and no indentation
  plain-alike : (j : ℕ) (t u : Token) (r : Style) (q : Part) → line_of t ≡ j + line_of u → source_of u ≡ source_at r q
      → source_of t ≡ source_at r (shifted_by (length p) q) → Text s q → Alike j (length p) (p ++ s) t s u
  plain-alike j t u r q n x y f =
      texted-alike j t u
      (record {
        line = n;
        style = rw (x, y);
        text = rw (x, y);
        indents = rw (x, y);
        above = rw y (text-below q f, none-text (p ++ s));
        below = rw x (f, none-text s);
      })

  -- a token without a text keeps its empty part at 0
  none-delivered : (d : List ℕ) (t : Token) (o : List ℕ) → source_of t ≡ source_at AsIs no_part → length d ≤ 16777216
      → unescape_of d t o ≡ record { answer = Ok (Plain no_part); buffer = o }
  unfolding deliver meaning delivered
  none-delivered d t o x l = unescaped d t o l (rw x (none-text d, none-text d)) ∙ rw x

  bare_alike : (j : ℕ) (t u : Token) → source_of t ≡ source_at AsIs no_part → source_of u ≡ source_at AsIs no_part
      → Alike j (length p) (p ++ s) t s u
  unfolding Same
  bare_alike j t u x y =
      let h = right_le p s l in
      record {
        answers = λ o. rw (none-delivered (p ++ s) t o x l, none-delivered s u o y h);
        buffers = λ o. rw (none-delivered (p ++ s) t o x l, none-delivered s u o y h);
      }

  pub token-below : (j : ℕ) (t : Token) → TokenFits s t → Alike j (length p) (p ++ s) (raise_token j (length p) t) s t
  unfolding raise_token source_of line_of
  token-below j (Newline m) f = bare_alike j _ _ refl refl
  token-below j (Comment m q) f = plain-alike j _ _ AsIs q refl refl refl f
  token-below j (Indent m) f = bare_alike j _ _ refl refl
  token-below j (Outdent m o) f = bare_alike j _ _ refl refl
  token-below j (ListItem m) f = bare_alike j _ _ refl refl
  token-below j (MapKey m q) f = plain-alike j _ _ Entry q refl refl refl f
  token-below j (Value m q) f = plain-alike j _ _ Entry q refl refl refl f
  token-below j (MultilineHint m q) f = plain-alike j _ _ AsIs q refl refl refl f
  token-below j (MultilineValue m i q) f =
      texted-alike j _ _
      (record {
        line = refl;
        style = refl;
        text = refl;
        indents = bytes-raised p s i;
        above = (text-below q f.1, text-below i f.0);
        below = (f.1, f.0);
      })
  token-below j (NoValue m) f = absurd f

-- every token of a reading fits
pub each-token : (d : List ℕ) (F : Token → Type 0) → ((t : Token) → TokenFits d t → F t) → (l : List Came) → All (Fits d) l → EachToken F l
each-token d F h [] a = tt
each-token d F h (None ∷ l) a = absurd a.0
each-token d F h (Some (Ok t) ∷ l) a = (h t a.0, each-token d F h l a.1)
each-token d F h (Some (Err e) ∷ l) a = each-token d F h l a.1

delivered-not13 : (m : Meaning) (n k l : ℕ) (o : List ℕ) → Proper n m → Not13 (delivered m k l o).answer
unfolding delivered
delivered-not13 (part a e) n k l o h = tt
delivered-not13 (bytes w) n k l o h = by_bool (leb (length w) (length o)) (λ e. rw e tt) (λ e. rw e refl)
delivered-not13 (refused (InvalidEscape p)) n k l o h = refl
delivered-not13 (refused EscapeAtEnd) n k l o h = refl
delivered-not13 (refused ExtraCharacters) n k l o h = refl
delivered-not13 (refused UnclosedQuotes) n k l o h = refl

token-not13 : (d : List ℕ) (t : Token) → length d ≤ 16777216 → TokenFits d t → (o : List ℕ) → Not13 (unescape_of d t o).answer
unfolding deliver
token-not13 d t l f o =
    let s = bytes_of d (source_of t).text in
    rw (unescaped d t o l (texts-fit ⊥ d t f))
    (delivered-not13 (meaning_in d (source_of t)) (length s) (source_of t).text.start (line_of t) o
    (meaning-proper (source_of t).style s (bytes_of d (source_of t).indent)))

pub never13 : Never13
never13 d l = each-token d _ (λ t f. token-not13 d t l f) (tokens d) (reading-fit d l)
