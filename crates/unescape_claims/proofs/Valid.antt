-- Claim 4, its second half: what unescaping writes or hands back of a valid text is valid UTF-8.
--
-- The bytes that the rules look for, quotes, backslashes, braces, CR and LF, are below 80, so a valid text is valid on both sides
-- of each (`utf8-cut`). Both walks, over the bytes in quotes and over the lines, therefore carry p, the bytes passed since the
-- last such byte: p and the rest are valid together, though a character may lie across the two. What is written for an escape
-- is a byte below 80 or the encoding of a scalar value, and an indentation that is taken away is valid itself.
use Prim.Native.Nat.{ℕ, ◌+◌, ◌-◌, ◌<◌}
use mathlib.Core.Path.{◌≡◌, refl, sym, ap, ◌∙◌}
use mathlib.Core.List.{List, [], ◌∷◌, ◌++◌, append-nil, append_assoc}
use mathlib.Core.Bool.{true, cond, false≢true}
use native.Mathlib.Nat.{sub-zero}
use native.Mathlib.Numerals.{sub-one}
use native.Mathlib.Omega.{arith}
use lib.Dec.{eqb, leb}
use lib.ListN.{length, take, get_or}
use lib.Seq.{take-length, take-suc}
use borrow.Author.Tests.{eqb-true}
use Rattle.text.specs.Bytes.{not_break, starts_with}
use Rattle.std.specs.List.{prefix_len}
use Rattle.utf8.specs.Scalar.{encoding}
use Rattle.utf8.specs.Utf8.{owes, utf8}
use Rattle.text.proofs.Cases.{on-cond, and_left, and_right}
use Rattle.utf8.proofs.Joins.{utf8_append, utf8_drop, utf8-cut, utf8-snoc}
use Rattle.utf8.proofs.Unicode.{utf8_ascii, utf8-encoding}
use Rattle.unescape_codes.specs.Codes.{simple_of}
use Rattle.unescape_codes.proofs.Cases.{on-option}
use Rattle.unescape_pieces.specs.declared.fault.Fault.{Fault}
use Rattle.unescape_pieces.specs.Meaning.{
  Meaning,
  part,
  bytes,
  refused,
  written,
  scalar_in,
  Mode,
  plain,
  escape,
  brace,
  closed,
  quoted,
  simply_quoted,
  entry_meaning,
  on_first,
  is_empty,
  lines_in,
  without,
  later_lines,
  joined_lines,
  block_meaning,
  meaning,
}
use Rattle.unescape_pieces.specs.declared.start.Style.TheVariants.{AsIs, Entry, Block}
use Rattle.unescape_pieces.proofs.Escapes.{simple, scalar-in}
use Rattle.unescape_claims.specs.Claims.{ValidIn, Valid}

utf8_nil : utf8 [] ≡ true
unfolding utf8 owes
utf8_nil = refl

-- p is the bytes passed since the last byte that the rules look for
module _ (p : List ℕ) where
  -- a byte moves from the rest to those passed
  passed : (b : ℕ) (r : List ℕ) → utf8 (p ++ b ∷ r) ≡ true → utf8 ((p ++ b ∷ []) ++ r) ≡ true
  passed b r u = rw append_assoc u

  -- one that is looked for: both sides of it are valid
  found : (b n : ℕ) (r : List ℕ) → eqb b n ≡ true → n < 0x80 → utf8 (p ++ b ∷ r) ≡ true → (utf8 p ≡ true) × (utf8 r ≡ true)
  found b n r t h u = utf8-cut b (rw (eqb-true b n t) h) p r u

-- nothing comes after p
ended : (p : List ℕ) → utf8 p ≡ true → utf8 (p ++ []) ≡ true
ended p u = rw append-nil u

-- The bytes in quotes

-- a refusal, or bytes that are valid after p
data Writes (p : List ℕ) : Meaning → Type 0 where
  wrote : {w : List ℕ} → utf8 (p ++ w) ≡ true → Writes p (bytes w)
  none : {f : Fault} → Writes p (refused f)

-- the bytes passed are valid themselves
after : {p : List ℕ} {m : Meaning} → utf8 p ≡ true → Writes [] m → Writes p m
after {p} u (wrote {w = w} v) = wrote (utf8_append p w u ∙ v)
after u none = none

-- a byte that is copied
copied : {p : List ℕ} {m : Meaning} (b : ℕ) → Writes (p ++ b ∷ []) m → Writes p (written (b ∷ []) m)
copied b (wrote v) = wrote (rw append_assoc at v)
copied b none = none

-- characters that are put in place of an escape
replaced : {m : Meaning} (c : List ℕ) → ((x : List ℕ) → utf8 (c ++ x) ≡ utf8 x) → Writes [] m → Writes [] (written c m)
replaced c f (wrote {w = w} v) = wrote (f w ∙ v)
replaced c f none = none

-- the closing quote
closing : {p : List ℕ} → utf8 p ≡ true → (r : List ℕ) → Writes p (closed r)
closing {p} u [] = wrote (ended p u)
closing u (b ∷ r) = none

-- in each mode, what is valid with the rest: outside an escape any p, after a backslash nothing, in a brace the bytes that it holds
abbrev Keeps : Mode → List ℕ → Meaning → Type 0
Keeps plain r m = (p : List ℕ) → utf8 (p ++ r) ≡ true → Writes p m
Keeps (escape s) r m = utf8 r ≡ true → Writes [] m
Keeps (brace s h) r m = utf8 (h ++ r) ≡ true → Writes [] m

keeps : (r : List ℕ) (d : Mode) (n : ℕ) → Keeps d r (quoted r d n)
unfolding quoted
keeps [] plain n = λ p u. none
keeps [] (escape s) n = λ u. none
keeps [] (brace s h) n = λ u. none
keeps (b ∷ r) plain n = λ p u.
    on-cond (Writes p) (eqb b 34)
    (λ t. closing (found p b 34 r t (omega arith) u).0 r)
    (λ _. on-cond (Writes p) (eqb b 92)
    (λ t. let k = found p b 92 r t (omega arith) u in after k.0 (keeps r (escape n) (n + 1) k.1))
    (λ _. copied b (keeps r plain (n + 1) (p ++ b ∷ []) (passed p b r u))))
keeps (b ∷ r) (escape s) n = λ u.
    on-cond (Writes []) (eqb b 123)
    (λ t. keeps r (brace s []) (n + 1) (found [] b 123 r t (omega arith) u).1)
    (λ _. on-option (Writes []) (simple_of b)
    (λ v t. let k = simple b v t in
    let m = keeps r plain (n + 1) [] (sym (utf8_ascii b r k.0) ∙ u) in
    replaced (v ∷ []) (λ x. utf8_ascii v x k.1) m)
    (λ _. none))
keeps (b ∷ r) (brace s h) n = λ u.
    on-cond (Writes []) (eqb b 125)
    (λ t. let m = keeps r plain (n + 1) [] (found h b 125 r t (omega arith) u).1 in
    on-option (Writes []) (scalar_in h) (λ v e. replaced (encoding v) (utf8-encoding v (scalar-in h v e)) m) (λ _. none))
    (λ _. on-cond (Writes []) (eqb b 34) (λ _. none) (λ _. keeps r (brace s (h ++ b ∷ [])) (n + 1) (passed h b r u)))

-- A key or a value

writes-valid : {m : Meaning} (s : List ℕ) → Writes [] m → ValidIn s m
writes-valid s (wrote v) = v
writes-valid s none = tt

-- the text as it stands
whole : (s : List ℕ) → utf8 s ≡ true → ValidIn s (part 0 (length s))
whole s u = rw (sub-zero, take-length) u

last-quote : (s : List ℕ) → simply_quoted s ≡ true → get_or s (length s - 1) 0 ≡ 34
unfolding simply_quoted
last-quote s q =
    let k = and_right (eqb (get_or s 0 0) 34) _ (and_right (leb 2 (length s)) _ q) in
    eqb-true (get_or s (length s - 1) 0) 34 (and_left _ _ k)

-- the part between the quotes is what stands before the last one
between : (r : List ℕ) → simply_quoted (34 ∷ r) ≡ true → utf8 r ≡ true → utf8 (take (length r - 1) r) ≡ true
unfolding simply_quoted
between [] q u = absurd (false≢true q)
between (c ∷ r) q u =
    let last = rw sub-one at (last-quote (34 ∷ c ∷ r) q) in
    let k : c ∷ r ≡ take (length r) (c ∷ r) ++ 34 ∷ [] = sym (take-length (c ∷ r)) ∙ take-suc (c ∷ r) (length r) 0 (omega arith) ∙ rw last in
    rw sub-one (sym (utf8-snoc (take (length r) (c ∷ r)) 34 (omega arith)) ∙ ap utf8 (sym k) ∙ u)

entry-valid : (s : List ℕ) → utf8 s ≡ true → ValidIn s (entry_meaning s)
unfolding entry_meaning
entry-valid [] u = u
entry-valid (b ∷ r) u =
    on-cond (ValidIn (b ∷ r)) (eqb b 34)
    (λ t. let k = (found [] b 34 r t (omega arith) u).1 in
    on-cond (ValidIn (b ∷ r)) (simply_quoted (b ∷ r))
    (λ q. between r (rw (eqb-true b 34 t) at q) k)
    (λ _. writes-valid (b ∷ r) (keeps r plain 1 [] k)))
    (λ _. whole (b ∷ r) u)

-- The lines of a multiline value

-- each is valid, the first one after p
abbrev Lines : List ℕ → List (List ℕ) → Type 0
Lines p [] = utf8 p ≡ true
Lines p (l ∷ ls) = (utf8 (p ++ l) ≡ true) × Lines [] ls

lines-first : (p : List ℕ) (b : ℕ) (ls : List (List ℕ)) → Lines (p ++ b ∷ []) ls → Lines p (on_first (λ l. b ∷ l) ls)
lines-first p b [] h = (h, utf8_nil)
lines-first p b (l ∷ ls) h = (rw append_assoc at h.0, h.1)

lines : (s p : List ℕ) → utf8 (p ++ s) ≡ true → Lines p (lines_in s)
unfolding lines_in
lines [] p u = (u, utf8_nil)
lines (b ∷ []) p u =
    on-cond (Lines p) (eqb b 10)
    (λ t. (ended p (found p b 10 [] t (omega arith) u).0, utf8_nil))
    (λ _. on-cond (Lines p) (eqb b 13) (λ t. (ended p (found p b 13 [] t (omega arith) u).0, (utf8_nil, utf8_nil))) (λ _. (u, utf8_nil)))
lines (b ∷ c ∷ r) p u =
    on-cond (Lines p) (eqb b 10)
    (λ t. let k = found p b 10 (c ∷ r) t (omega arith) u in (ended p k.0, lines (c ∷ r) [] k.1))
    (λ _. on-cond (Lines p) (eqb b 13)
    (λ t. cr (found p b 13 (c ∷ r) t (omega arith) u) (lines (c ∷ r) []) (lines r []))
    (λ _. lines-first p b (lines_in (c ∷ r)) (lines (c ∷ r) (p ++ b ∷ []) (passed p b (c ∷ r) u))))
  where
    -- whether LF follows the CR decides
    cr : (utf8 p ≡ true) × (utf8 (c ∷ r) ≡ true)
        → (utf8 (c ∷ r) ≡ true → Lines [] (lines_in (c ∷ r))) → (utf8 r ≡ true → Lines [] (lines_in r))
        → Lines p (cond (eqb c 10) (cond (is_empty r) ([] ∷ []) ([] ∷ lines_in r)) ([] ∷ lines_in (c ∷ r)))
    cr k here two =
        let l = ended p k.0 in
        on-cond (Lines p) (eqb c 10)
        (λ e. on-cond (Lines p) (is_empty r) (λ _. (l, utf8_nil)) (λ _. (l, two (found [] c 10 r e (omega arith) k.1).1)))
        (λ _. (l, here k.1))

module _ (indent : List ℕ) (i : utf8 indent ≡ true) where
  without-valid : (l other : List ℕ) → utf8 l ≡ true → utf8 other ≡ true → utf8 (without indent l other) ≡ true
  without-valid l other u v = on-cond (λ x. utf8 x ≡ true) (starts_with indent l) (λ t. utf8_drop indent l t i ∙ u) (λ _. v)

  later-valid : (ls : List (List ℕ)) → Lines [] ls → utf8 (later_lines indent ls) ≡ true
  unfolding later_lines
  later-valid [] h = utf8_nil
  later-valid (l ∷ ls) h =
      utf8_ascii 10 (without indent l [] ++ later_lines indent ls) (omega arith)
      ∙ utf8_append (without indent l []) (later_lines indent ls) (without-valid l [] h.0 utf8_nil) ∙ later-valid ls h.1

  joined-valid : (ls : List (List ℕ)) → Lines [] ls → utf8 (joined_lines indent ls) ≡ true
  unfolding joined_lines
  joined-valid [] h = utf8_nil
  joined-valid (l ∷ ls) h =
      utf8_append (without indent l l) (later_lines indent ls) (without-valid l l h.0 h.0) ∙ later-valid ls h.1

  block-valid : (s : List ℕ) → utf8 s ≡ true → ValidIn s (block_meaning indent s)
  unfolding block_meaning
  block-valid s u =
      on-cond (ValidIn s) (eqb (prefix_len not_break s) (length s)) (λ _. whole s u) (λ _. joined-valid (lines_in s) (lines s [] u))

pub valid : Valid
unfolding meaning
valid AsIs s indent u i = whole s u
valid Entry s indent u i = entry-valid s u
valid Block s indent u i = block-valid indent i s u
