-- The pieces together are the meaning: from a cursor on, it is the piece that stands there and then the meaning from the next
-- cursor on (`law`). A piece that is passed lies within the text, and `weight` falls with it (`steps`).
use Prim.Native.Nat.{ℕ, suc, ◌+◌, ◌-◌, ◌*◌, ◌≤◌, ◌<◌}
use mathlib.Core.Path.{◌≡◌, refl, sym, ap, ◌∙◌}
use mathlib.Core.List.{List, [], ◌∷◌}
use mathlib.Core.Bool.{Bool, true, false, cond, ◌&&◌}
use native.Mathlib.Omega.{arith}
use lib.Dec.{eqb, ltb}
use lib.ListN.{length, take, drop, get_or, get_or-eq_default}
use lib.Seq.{length-take-le}
use borrow.Author.Tests.{eqb-true, eqb-false, ltb-true, ltb-false, lt-ltb}
use native.Mathlib.Nat.{add-zero}
use Rattle.std.specs.Prelude.{Option, Some, None, Result, Ok, Err}
use Rattle.std.specs.Option.{option_map}
use Rattle.text.specs.Bytes.{line_end, not_break, break_size, starts_with}
use Rattle.std.specs.List.{prefix_len}
use Rattle.utf8.specs.Scalar.{is_scalar, encoding, encoding_of}
use Rattle.utf8.specs.Utf8.{char_len}
use Rattle.text.proofs.Cases.{by_bool, on-cond, and_left, clash}
use Rattle.unescape_codes.proofs.Cases.{by_option, on-option}
use Rattle.utf8.proofs.Chars.{char_len_le}
use Rattle.text.proofs.Front.{break-le}
use Rattle.text.proofs.Prefix.{short}
use Rattle.std.proofs.lemmas.List.Sums.{prefix_len-le-length}
use Rattle.unescape_codes.specs.Codes.{simple_of}
use Rattle.unescape_pieces.specs.Meaning.{Meaning, bytes, refused, written, scalar_in, plain, escape, closed, quoted, is_literal, is_empty, later_lines}
use Rattle.unescape_pieces.specs.Pieces.{
  in_brace,
  passing,
  fault_at,
  braced,
  brace_next,
  escape_next,
  quoted_next,
  skipped,
  line_next,
  opened_by,
  break_next,
  next_of,
  lines_after,
  meaning_from,
}
use Rattle.unescape_pieces.specs.Cursor.{weight, Shows, piece_bytes}
use Rattle.unescape_pieces.specs.declared.pieces.Spot.{Spot}
use Rattle.unescape_pieces.specs.declared.pieces.Spot.TheVariants.{Quotes, FirstLine, LaterLine, Break}
use Rattle.unescape_pieces.specs.declared.pieces.Next.{Next}
use Rattle.unescape_pieces.specs.declared.fault.Fault.{Fault}
use Rattle.unescape_pieces.specs.declared.pieces.Piece.{Piece}
use Rattle.unescape_pieces.specs.declared.pieces.Piece.TheVariants.{Run, Scalar}
use Rattle.unescape_pieces.specs.declared.fault.Fault.TheVariants.{ExtraCharacters}
use Rattle.unescape_pieces.proofs.Broken.{first-line, later-line, opened}
use Rattle.unescape_pieces.proofs.Escapes.{simple, scalar-in, run, Braced, in-brace}

-- a piece, the end of the text, or why it means nothing
abbrev pub Found : Type 0
Found = Result (Option Next) Fault

module _ (indent : List ℕ) where
  -- what is found at n, where s begins
  abbrev pub after : Found → List ℕ → ℕ → Meaning
  after (Ok (Some x)) s n = written (piece_bytes x.piece (take x.pass s)) (meaning_from x.spot indent (drop x.pass s) (n + x.pass))
  after (Ok None) s n = bytes []
  after (Err f) s n = refused (fault_at n f)

  -- Escapes

  ascii : (v : ℕ) → v < 0x80 → encoding_of v ≡ v ∷ []
  unfolding encoding_of is_scalar encoding
  ascii v h = rw (lt-ltb v 0xD800 (omega arith), lt-ltb v 0x80 h)

  scalar : (v : ℕ) → is_scalar v ≡ true → encoding_of v ≡ encoding v
  unfolding encoding_of
  scalar v e = rw e

  brace-law : (b c : ℕ) (r : List ℕ) (n k : ℕ) → Braced r [] n (n + 1 + 1) k ≡ after (braced r k) (b ∷ c ∷ r) n
  unfolding meaning_from
  brace-law b c r n k =
      let p : n + 1 + 1 + k + 1 ≡ n + (k + 3) = omega arith in
      let q : n + 1 + 1 + k ≡ n + (k + 2) = omega arith in
      let u : k + 3 ≡ suc (suc (suc k)) = omega arith in
      let h = take k r in
      by_bool (eqb (get_or r k 0) 125)
      (λ e. by_option (scalar_in h) (λ v f. rw (e, f, scalar v (scalar-in h v f), p, u)) (λ f. rw (e, f, p, add-zero)))
      (λ e. rw (e, q, add-zero))

  escape-law : (b : ℕ) (r : List ℕ) (n : ℕ) → quoted r (escape n) (n + 1) ≡ after (escape_next r) (b ∷ r) n
  unfolding quoted escape_next brace_next meaning_from
  escape-law b [] n = refl
  escape-law b (c ∷ r) n =
      by_bool (eqb c 123)
      (λ e. rw e (in-brace r [] n (n + 1 + 1) ∙ brace-law b c r n (prefix_len in_brace r)))
      (λ e. by_option (simple_of c)
      (λ v f. let q : n + 1 + 1 ≡ n + 2 = omega arith in rw (e, f, q, ascii v (simple c v f).1))
      (λ f. let q : n + 1 + char_len (c ∷ r) ≡ n + (1 + char_len (c ∷ r)) = omega arith in rw (e, f, q, add-zero)))

  -- The characters in quotes

  closed-law : (b : ℕ) (r : List ℕ) (n : ℕ) → closed r ≡ after (cond (is_empty r) (Ok None) (Err ExtraCharacters)) (b ∷ r) n
  unfolding is_empty
  closed-law b [] n = refl
  closed-law b (c ∷ r) n = refl

  run-law : (s : List ℕ) (n : ℕ) → quoted s plain n ≡ after (Ok (Some (passing (Run 0) (prefix_len is_literal s) Quotes))) s n
  unfolding meaning_from
  run-law s n = run s n

  quoted-law : (s : List ℕ) (n : ℕ) → quoted s plain n ≡ after (quoted_next s) s n
  unfolding quoted quoted_next
  quoted-law [] n = refl
  quoted-law (b ∷ r) n =
      by_bool (eqb b 34)
      (λ e. rw e (closed-law b r n))
      (λ e. by_bool (eqb b 92) (λ f. rw (e, f) (escape-law b r n)) (λ f. rw (e, f) (rw (e, f) at (run-law (b ∷ r) n))))

  -- All

  break-law : (s : List ℕ) (n : ℕ) → bytes (later_lines indent (lines_after s)) ≡ after (Ok (break_next s)) s n
  unfolding break_next later_lines meaning_from
  break-law s n =
      by_option (opened_by s)
      (λ k e. rw (e, ascii 10 (omega arith)) (ap bytes (opened indent (drop k s))))
      (λ e. rw e)

  pub law : (spot : Spot) (s : List ℕ) (n : ℕ) → meaning_from spot indent s n ≡ after (next_of spot indent s) s n
  unfolding next_of meaning_from line_next
  law Quotes s n = quoted-law s n
  law FirstLine s n = ap bytes (first-line indent s)
  law LaterLine s n = ap bytes (later-line indent s)
  law Break s n = break-law s n

-- Progress

-- n bytes of s are passed, and then `to` stands there
abbrev pub Falls : Spot → List ℕ → ℕ → Spot → Type 0
Falls spot s n to = 2 * (length s - n) + weight to < 2 * length s + weight spot

abbrev pub Steps : Piece → Spot → List ℕ → ℕ → Spot → Type 0
Steps (Run k) spot s n to = (k ≤ n) × (n ≤ length s) × Falls spot s n to
Steps (Scalar c) spot s n to = (1 ≤ n) × (n ≤ length s) × Falls spot s n to

abbrev pub Stepped : Spot → List ℕ → Found → Type 0
Stepped spot s (Ok (Some x)) = Steps x.piece spot s x.pass x.spot
Stepped spot s (Ok None) = Unit {0}
Stepped spot s (Err f) = Shows (length s) f

brace-in : (r : List ℕ) (k : ℕ) → eqb (get_or r k 0) 125 ≡ true → k < length r
brace-in r k e =
    by_bool (ltb k (length r)) (λ t. ltb-true k (length r) t)
    (λ t. let z : ◌≡◌ {A = ℕ} 0 125 = sym (get_or-eq_default r 0 (ltb-false k (length r) t)) ∙ eqb-true (get_or r k 0) 125 e in absurd (omega arith))

brace-steps : (b c : ℕ) (r : List ℕ) (k : ℕ) → k ≤ length r → Stepped Quotes (b ∷ c ∷ r) (braced r k)
brace-steps b c r k h =
    on-cond (Stepped Quotes (b ∷ c ∷ r)) (eqb (get_or r k 0) 125)
    (λ e. let l = brace-in r k e in
    on-option (Stepped Quotes (b ∷ c ∷ r)) (scalar_in (take k r)) (λ v f. (omega arith, omega arith, omega arith)) (λ f. (omega arith, omega arith)))
    (λ e. (omega arith, omega arith))

escape_steps : (b : ℕ) (r : List ℕ) → Stepped Quotes (b ∷ r) (escape_next r)
unfolding escape_next brace_next
escape_steps b [] = tt
escape_steps b (c ∷ r) =
    on-cond (Stepped Quotes (b ∷ c ∷ r)) (eqb c 123)
    (λ e. brace-steps b c r (prefix_len in_brace r) (prefix_len-le-length in_brace r))
    (λ e. on-option (Stepped Quotes (b ∷ c ∷ r)) (simple_of c)
    (λ v f. (omega arith, omega arith, omega arith))
    (λ f. (omega arith, omega (arith, char_len_le (c ∷ r)))))

some-bare : (b : ℕ) (r : List ℕ) → eqb b 34 ≡ false → eqb b 92 ≡ false → 0 < prefix_len is_literal (b ∷ r)
some-bare b r e f = rw (e, f) (omega arith)

quoted-steps : (s : List ℕ) → Stepped Quotes s (quoted_next s)
unfolding quoted_next
quoted-steps [] = tt
quoted-steps (b ∷ r) =
    on-cond (Stepped Quotes (b ∷ r)) (eqb b 34)
    (λ e. on-cond (Stepped Quotes (b ∷ r)) (is_empty r) (λ _. tt) (λ _. tt))
    (λ e. on-cond (Stepped Quotes (b ∷ r)) (eqb b 92)
    (λ f. escape_steps b r)
    (λ f. let k = prefix_len-le-length is_literal (b ∷ r) in let p = some-bare b r e f in (omega arith, k, omega arith)))

skip-le : (later : Bool) (indent l : List ℕ) → skipped later indent l ≤ length l
skip-le later indent l =
    on-cond (λ k. k ≤ length l) (starts_with indent l)
    (λ e. by_bool (ltb (length l) (length indent)) (λ t. absurd (clash (sym e ∙ short indent l (ltb-true _ _ t)))) (λ t. ltb-false _ _ t))
    (λ e. on-cond (λ k. k ≤ length l) later (λ _. omega arith) (λ _. omega arith))

line-steps : (later : Bool) (spot : Spot) (indent s : List ℕ) → weight spot ≡ 1 → Stepped spot s (Ok (Some (line_next later indent s)))
unfolding line_next
line-steps later spot indent s w =
    let n = prefix_len-le-length not_break s in
    let k = skip-le later indent (take (line_end s) s) in
    (omega (arith, k, length-take-le (line_end s) s n), n, omega arith)

break-steps : (s : List ℕ) → Stepped Break s (Ok (break_next s))
unfolding break_next opened_by
break-steps s =
    on-cond falls (eqb (break_size s) 0) (λ e. tt)
    (λ e. on-cond falls (ltb (break_size s) (length s))
    (λ f. let p : 1 ≤ break_size s = omega (arith, eqb-false (break_size s) 0 e) in (p, break-le s, omega (arith, break-le s)))
    (λ f. on-cond falls (eqb (break_size s) 1 && eqb (get_or s 0 0) 13)
    (λ g. let l : 1 ≤ length s = omega (arith, break-le s, eqb-true (break_size s) 1 (and_left (eqb (break_size s) 1) _ g)) in (omega arith, l, omega arith))
    (λ g. tt)))
  where
    falls : Option ℕ → Type 0
    falls o = Stepped Break s (Ok (option_map (λ n. passing (Scalar 10) n LaterLine) o))

pub steps : (spot : Spot) (indent s : List ℕ) → Stepped spot s (next_of spot indent s)
unfolding next_of
steps Quotes indent s = quoted-steps s
steps FirstLine indent s = line-steps false FirstLine indent s refl
steps LaterLine indent s = line-steps true LaterLine indent s refl
steps Break indent s = break-steps s
