-- Claim 4: Table 3-7 accepts exactly the concatenations of encodings of scalar values.
--
-- A byte below 80 encodes itself. Every other row of the table stands for a run of scalar values, from one to another, whose
-- encodings have the same length: the row's lead bytes go from the lead byte of the first encoding to that of the last, and its
-- second bytes likewise. So the table is the list `rows` of eight runs; `lead_of-rows` says so, by computation. The runs rise
-- without a gap but the surrogates, and a number is in a run exactly where its lead byte and its second byte are in the row's
-- ranges. That is linear arithmetic with / and % by numerals, and `omega` decides it row by row (`table`). The rest is one walk
-- down the rows in each direction: `decode` finds the scalar value of a character, `accept` the row of an encoding.
use Prim.Native.Nat.{ℕ, zero, suc, ◌+◌, ◌-◌, ◌*◌, ◌/◌, ◌%◌, ◌≤◌, ◌<◌}
use mathlib.Core.Path.{◌≡◌, refl, sym, ap, ap₂, ◌∙◌}
use mathlib.Core.Logic.{◌≢◌}
use mathlib.Core.List.{List, [], ◌∷◌, ◌++◌}
use mathlib.Core.Bool.{true, cond, and-eq-true_iff, false≢true}
use native.Mathlib.Omega.{arith}
use lib.Dec.{leb, ltb}
use lib.ListN.{length, drop, length-drop}
use borrow.Author.Tests.{lt-ltb, le-ltb, le-leb, leb-true, leb-false, ltb-true, ltb-false}
use Rattle.utf8.specs.Utf8.{within, lead_of, followed, on_lead, owes, utf8, follow}
use Rattle.utf8.specs.Scalar.{is_scalar, encoding, encodings, all_scalar, Decoded, Unicode}
use Rattle.utf8.specs.declared.utf8.Lead.{Lead}
use Rattle.std.specs.Prelude.{Option, None}
use Rattle.text.proofs.Cases.{by_bool}
use Rattle.utf8.proofs.Chars.{owes-split}
use Rattle.utf8.proofs.Ranges.{above, inside, within-bounds}

-- Encodings of two, three and four bytes

data Form : Type 0 where
  two three four : Form

-- the numbers that have the form go from least to most
abbrev least : Form → ℕ
least two = 0x80
least three = 0x800
least four = 0x10000

abbrev most : Form → ℕ
most two = 0x7FF
most three = 0xFFFF
most four = 0x10FFFF

abbrev lead : Form → ℕ → ℕ
lead two v = 0xC0 + v / 64
lead three v = 0xE0 + v / 4096
lead four v = 0xF0 + v / 262144

abbrev second : Form → ℕ → ℕ
second two v = 0x80 + v % 64
second three v = 0x80 + v / 64 % 64
second four v = 0x80 + v / 4096 % 64

-- the bytes after the second, and their number
abbrev later : Form → ℕ → List ℕ
later two v = []
later three v = (0x80 + v % 64) ∷ []
later four v = (0x80 + v / 64 % 64) ∷ (0x80 + v % 64) ∷ []

abbrev more : Form → ℕ
more two = 0
more three = 1
more four = 2

-- the encoding of a number of the form
encoding-form : (f : Form) (v : ℕ) → least f ≤ v → v ≤ most f → encoding v ≡ lead f v ∷ second f v ∷ later f v
unfolding encoding
encoding-form two v l h = simp (le-ltb v 0x80 (omega arith), lt-ltb v 0x800 (omega arith))
encoding-form three v l h = simp (le-ltb v 0x80 (omega arith), le-ltb v 0x800 (omega arith), lt-ltb v 0x10000 (omega arith))
encoding-form four v l h = simp (le-ltb v 0x80 (omega arith), le-ltb v 0x800 (omega arith), le-ltb v 0x10000 (omega arith))

-- A byte below 80 is the encoding of itself

encoding-ascii : (v : ℕ) → v < 0x80 → encoding v ≡ v ∷ []
unfolding encoding
encoding-ascii v h = rw (lt-ltb v 0x80 h)

pub utf8_ascii : (b : ℕ) (s : List ℕ) → b < 0x80 → utf8 (b ∷ s) ≡ utf8 s
unfolding utf8 owes lead_of
utf8_ascii b s h = rw (inside 0 0x7F b (omega arith) (omega arith))

-- Scalar values by arithmetic: the surrogates, D800 to DFFF, are the numbers v with v / 0x800 ≡ 27

record Scalar (v : ℕ) : Type 0 where
  no_surrogate : v / 0x800 ≢ 27
  bounded : v ≤ 0x10FFFF

scalar-test : (v : ℕ) → Scalar v → is_scalar v ≡ true
unfolding is_scalar
scalar-test v h =
    by_bool (ltb v 0xD800)
    (λ e. rw e)
    (λ e. let k = ltb-false v 0xD800 e in rw (e, lt-ltb 0xDFFF v (omega arith), le-leb v 0x10FFFF (omega arith)))

test_scalar : (v : ℕ) → is_scalar v ≡ true → Scalar v
unfolding is_scalar
test_scalar v h =
    by_bool (ltb v 0xD800)
    (λ e. omega (arith, ltb-true v 0xD800 e))
    (λ e. high ((and-eq-true_iff (ltb 0xDFFF v) (leb v 0x10FFFF)).0 (rw e at h)))
  where
    high : (ltb 0xDFFF v ≡ true) × (leb v 0x10FFFF ≡ true) → Scalar v
    high k = omega (arith, ltb-true 0xDFFF v k.0, leb-true v 0x10FFFF k.1)

-- The table as runs of scalar values

-- the scalar values that one row encodes: a form, the first and the last
data Row : Type 0 where
  row : (f : Form) (from to : ℕ) → Row

abbrev rows : List Row
rows =
    row two 0x80 0x7FF
    ∷ row three 0x800 0xFFF
    ∷ row three 0x1000 0xCFFF
    ∷ row three 0xD000 0xD7FF
    ∷ row three 0xE000 0xFFFF
    ∷ row four 0x10000 0x3FFFF
    ∷ row four 0x40000 0xFFFFF
    ∷ row four 0x100000 0x10FFFF
    ∷ []

-- what a lead byte calls for by the rows: the first one that has it decides
abbrev lead_in : List Row → ℕ → Option Lead
lead_in [] b = None
lead_in (row f from to ∷ rs) b =
    cond (within (lead f from) (lead f to) b) (follow (suc (more f)) (second f from) (second f to)) (lead_in rs b)

-- Table 3-7 is the row of the bytes below 80, and these
lead_of-rows : (b : ℕ) → lead_of b ≡ cond (within 0 0x7F b) (follow 0 0x80 0xBF) (lead_in rows b)
unfolding lead_of
lead_of-rows b = refl

-- the lead byte b and the second byte c are in the row's ranges
record InRow (f : Form) (from to b c : ℕ) : Type 0 where
  lead_low : lead f from ≤ b
  lead_high : b ≤ lead f to
  second-low : second f from ≤ c
  second-high : c ≤ second f to

-- what holds of a row, where the rows before it have the lead bytes below b₀ and the scalar values below v₀
record Sound (b₀ v₀ : ℕ) (f : Form) (from to : ℕ) : Type 0 where
  form-low : least f ≤ from
  form-high : to ≤ most f
  higher : b₀ ≤ lead f from
  ordered : lead f from ≤ lead f to
  gapless : (v : ℕ) → Scalar v → v₀ ≤ v → from ≤ v
  scalar : (v : ℕ) → from ≤ v → v ≤ to → Scalar v
  encoded : (v : ℕ) → from ≤ v → v ≤ to → InRow f from to (lead f v) (second f v)
  decoded : (v : ℕ) → InRow f from to (lead f v) (second f v) → (from ≤ v) × (v ≤ to)

-- every row is sound, and no scalar value is above the last
abbrev Table : ℕ → ℕ → List Row → Type 0
Table b₀ v₀ [] = (v : ℕ) → Scalar v → v₀ ≤ v → ⊥
Table b₀ v₀ (row f from to ∷ rs) = Sound b₀ v₀ f from to × Table (suc (lead f to)) (suc to) rs

table : Table 0x80 0x80 rows
table = (omega arith, (omega arith, (omega arith, (omega arith, (omega arith, (omega arith, (omega arith, (omega arith, omega arith))))))))

-- What the tests of bytes tell

-- the n continuations that `followed` finds
data Followed : ℕ → ℕ → ℕ → List ℕ → Type 0 where
  done : {low high : ℕ} {s : List ℕ} → Followed zero low high s
  next : {n low high b : ℕ} {s : List ℕ} → low ≤ b → b ≤ high → Followed n 0x80 0xBF s → Followed (suc n) low high (b ∷ s)

followed-view : (n low high : ℕ) (s : List ℕ) → followed n low high s ≡ true → Followed n low high s
unfolding followed
followed-view zero low high s e = done
followed-view (suc n) low high [] e = absurd (false≢true e)
followed-view (suc n) low high (b ∷ r) e =
    let h = (and-eq-true_iff (within low high b) (followed n 0x80 0xBF r)).0 e in
    let k = within-bounds low high b h.0 in
    next k.0 k.1 (followed-view n 0x80 0xBF r h.1)

owes-view : (n low high : ℕ) (s : List ℕ) → owes s n low high ≡ true → Followed n low high s × (utf8 (drop n s) ≡ true)
owes-view n low high s e =
    let h = (and-eq-true_iff (followed n low high s) (utf8 (drop n s))).0 (sym (owes-split n low high s) ∙ e) in
    (followed-view n low high s h.0, h.1)

-- From bytes to a scalar value

-- the number that b, c and the first bytes of t encode
record Number (f : Form) (b c : ℕ) (t : List ℕ) : Type 0 where
  value : ℕ
  lead_is : lead f value ≡ b
  second_is : second f value ≡ c
  later-is : later f value ++ drop (more f) t ≡ t

-- lead and second byte in a row's ranges and continuations after them encode a number
number : (f : Form) (from to : ℕ) {b c : ℕ} {t : List ℕ} → InRow f from to b c → Followed (more f) 0x80 0xBF t → Number f b c t
number two from to {b} {c} h done =
    let v : ℕ = (b - 0xC0) * 64 + (c - 0x80) in
    record { value = v; lead_is = omega arith; second_is = omega arith; later-is = refl }
number three from to {b} {c} h (next {b = d} p q done) =
    let v : ℕ = (b - 0xE0) * 4096 + (c - 0x80) * 64 + (d - 0x80) in
    record { value = v; lead_is = omega arith; second_is = omega arith; later-is = ap₂ ◌∷◌ (omega arith) refl }
number four from to {b} {c} h (next {b = d} p q (next {b = e} p' q' done)) =
    let v : ℕ = (b - 0xF0) * 262144 + (c - 0x80) * 4096 + (d - 0x80) * 64 + (e - 0x80) in
    record { value = v; lead_is = omega arith; second_is = omega arith; later-is = ap₂ ◌∷◌ (omega arith) (ap₂ ◌∷◌ (omega arith) refl) }

-- the first character of b ∷ s, and the well-formed text after it
record First (b : ℕ) (s : List ℕ) : Type 0 where
  value : ℕ
  scalar : is_scalar value ≡ true
  after : List ℕ
  shorter : length after ≤ length s
  split : b ∷ s ≡ encoding value ++ after
  formed : utf8 after ≡ true

-- a lead byte that a row has, and what the row says to follow it, begin a text with the encoding of a scalar value
decode-row : {b₀ v₀ : ℕ} (f : Form) (from to : ℕ) → Sound b₀ v₀ f from to → {b : ℕ} {s : List ℕ} → (lead f from ≤ b) × (b ≤ lead f to)
    → Followed (suc (more f)) (second f from) (second f to) s → utf8 (drop (suc (more f)) s) ≡ true → First b s
decode-row f from to h {b} l (next {b = c} {s = t} p q r) e =
    let i : InRow f from to b c = record { lead_low = l.0; lead_high = l.1; second-low = p; second-high = q } in
    let m = number f from to i r in
    let k = h.decoded m.value (rw (m.lead_is, m.second_is) i) in
    let form = encoding-form f m.value (omega (arith, h.form-low)) (omega (arith, h.form-high)) in
    record {
      value = m.value;
      scalar = scalar-test m.value (h.scalar m.value k.0 k.1);
      after = drop (more f) t;
      shorter = simp length-drop (omega arith);
      split = rw (form, m.lead_is, m.second_is, m.later-is);
      formed = e;
    }

-- so does whatever the rows accept
decode : (b₀ v₀ : ℕ) (rs : List Row) → Table b₀ v₀ rs
    → (b : ℕ) (s : List ℕ) → on_lead (lead_in rs b) (λ n low high. owes s n low high) ≡ true → First b s
decode b₀ v₀ [] h b s e = absurd (false≢true e)
decode b₀ v₀ (row f from to ∷ rs) h b s e =
    by_bool (within (lead f from) (lead f to) b)
    (λ t. here (within-bounds _ _ b t) (owes-view _ _ _ s (rw t at e)))
    (λ t. decode (suc (lead f to)) _ rs h.1 b s (rw t at e))
  where
    here : (lead f from ≤ b) × (b ≤ lead f to)
        → Followed (suc (more f)) (second f from) (second f to) s × (utf8 (drop (suc (more f)) s) ≡ true) → First b s
    here l k = decode-row f from to h.0 l k.0 k.1

-- a well-formed text begins with the encoding of a scalar value
first : (b : ℕ) (s : List ℕ) → utf8 (b ∷ s) ≡ true → First b s
unfolding utf8 owes
first b s e =
    by_bool (ltb b 0x80)
    (λ t. ascii (ltb-true b 0x80 t))
    (λ t. decode 0x80 0x80 rows table b s (rw (lead_of-rows b, above 0 0x7F b (ltb-false b 0x80 t)) at e))
  where
    ascii : b < 0x80 → First b s
    ascii h = record {
      value = b;
      scalar = scalar-test b (omega arith);
      after = s;
      shorter = omega arith;
      split = rw (encoding-ascii b h);
      formed = rw (utf8_ascii b s h) at e;
    }

-- From a scalar value to bytes

continuation : (x : ℕ) → within 0x80 0xBF (0x80 + x % 64) ≡ true
continuation x = inside 0x80 0xBF (0x80 + x % 64) (omega arith) (omega arith)

-- the bytes after the second are continuations
owes-later : (f : Form) (v : ℕ) (s : List ℕ) → owes (later f v ++ s) (more f) 0x80 0xBF ≡ utf8 s
unfolding owes utf8
owes-later two v s = refl
owes-later three v s = simp continuation
owes-later four v s = simp continuation

-- the encoding of v has a lead byte from b₀ on, and the rows accept it
record Accepted (b₀ : ℕ) (rs : List Row) (v : ℕ) : Type 0 where
  leading : ℕ
  others : List ℕ
  bytes : encoding v ≡ leading ∷ others
  higher : b₀ ≤ leading
  accepted : (s : List ℕ) → on_lead (lead_in rs leading) (λ n low high. owes (others ++ s) n low high) ≡ utf8 s

-- the rows accept the encoding of every scalar value from v₀ on
accept : (b₀ v₀ : ℕ) (rs : List Row) → Table b₀ v₀ rs → (v : ℕ) → Scalar v → v₀ ≤ v → Accepted b₀ rs v
unfolding owes
accept b₀ v₀ [] h v k l = absurd (h v k l)
accept b₀ v₀ (row f from to ∷ rs) h v k l =
    by_bool (leb v to)
    (λ e. here (h.0.gapless v k l) (leb-true v to e))
    (λ e. further (accept (suc (lead f to)) _ rs h.1 v k (leb-false v to e)))
  where
    here : from ≤ v → v ≤ to → Accepted b₀ (row f from to ∷ rs) v
    here low high =
        let i = h.0.encoded v low high in
        let lead-in = inside (lead f from) (lead f to) (lead f v) i.lead_low i.lead_high in
        let second-in = inside (second f from) (second f to) (second f v) i.second-low i.second-high in
        record {
          leading = lead f v;
          others = second f v ∷ later f v;
          bytes = encoding-form f v (omega (arith, h.0.form-low)) (omega (arith, h.0.form-high));
          higher = omega (arith, h.0.higher, i.lead_low);
          accepted = λ s. rw (lead-in, second-in) (owes-later f v s);
        }

    further : Accepted (suc (lead f to)) rs v → Accepted b₀ (row f from to ∷ rs) v
    further a = record {
      leading = a.leading;
      others = a.others;
      bytes = a.bytes;
      higher = omega (arith, h.0.higher, h.0.ordered, a.higher);
      accepted = λ s. rw (above (lead f from) (lead f to) a.leading a.higher) (a.accepted s);
    }

pub utf8-encoding : (v : ℕ) → is_scalar v ≡ true → (s : List ℕ) → utf8 (encoding v ++ s) ≡ utf8 s
unfolding utf8 owes
utf8-encoding v e s =
    by_bool (ltb v 0x80)
    (λ t. let h = ltb-true v 0x80 t in rw (encoding-ascii v h) (utf8_ascii v s h))
    (λ t. by_row (accept 0x80 0x80 rows table v (test_scalar v e) (ltb-false v 0x80 t)))
  where
    by_row : Accepted 0x80 rows v → utf8 (encoding v ++ s) ≡ utf8 s
    by_row a = rw (a.bytes, lead_of-rows a.leading, above 0 0x7F a.leading a.higher) (a.accepted s)

-- Whole texts

-- character by character; the fuel is above the length of what is left
decode-all : (fuel : ℕ) (s : List ℕ) → length s < fuel → utf8 s ≡ true → Decoded s
unfolding encodings all_scalar
decode-all zero s h e = absurd (omega arith)
decode-all (suc fuel) [] h e = record { values = []; scalar = refl; joined = refl }
decode-all (suc fuel) (b ∷ s) h e =
    let c = first b s e in
    let d = decode-all fuel c.after (omega (arith, c.shorter)) c.formed in
    record {
      values = c.value ∷ d.values;
      scalar = rw (c.scalar, d.scalar);
      joined = c.split ∙ ap (λ (t : List ℕ). encoding c.value ++ t) d.joined;
    }

utf8-encodings : (vs : List ℕ) → all_scalar vs ≡ true → utf8 (encodings vs) ≡ true
unfolding all_scalar encodings utf8 owes
utf8-encodings [] e = refl
utf8-encodings (v ∷ vs) e =
    let h = (and-eq-true_iff (is_scalar v) (all_scalar vs)).0 e in
    utf8-encoding v h.0 (encodings vs) ∙ utf8-encodings vs h.1

pub unicode : Unicode
unicode s = (decode-all (suc (length s)) s (omega arith), λ d. rw d.joined (utf8-encodings d.values d.scalar))
