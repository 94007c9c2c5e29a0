-- What a plan counts lies within the rest that it was made for: the bytes that it passes, among them the text that it says, and
-- the lines that it adds, of which each has a byte. And it opens no 65th section.
use Prim.Native.Nat.{ℕ, suc, ◌+◌, ◌≤◌}
use mathlib.Core.Path.{◌≡◌, ap}
use mathlib.Core.List.{List, ◌∷◌}
use mathlib.Core.Bool.{false}
use native.Mathlib.Omega.{arith}
use lib.ListN.{length, take, drop, length-take, length-drop}
use Rattle.text.specs.Bytes.{not_break, line_end, shifted_by}
use Rattle.text.specs.Trimming.{dropped, trimmed}
use Rattle.utf8.specs.Utf8.{utf8}
use Rattle.text.specs.declared.bytes.Part.{Part}
use Rattle.text.specs.declared.trimming.Dropped.{Dropped}
use Rattle.text.specs.declared.trimming.Dropped.TheVariants.{Blanks, BlanksAndBreaks}
use Rattle.text.proofs.Cases.{on-cond}
use Rattle.text.proofs.Front.{break-le, break-pos}
use Rattle.std.proofs.lemmas.List.Sums.{prefix_len-le-length}
use Rattle.text.proofs.Trimmed.{trimmed-le}
use Rattle.tokenizer_scans.specs.Scans.{plain_end, text_end, checked_of, multiline_end, lines_of}
use Rattle.tokenizer_rules.specs.Plan.{said, plan_newline, plan_comment, plan_item, plan_key, plan_plain, plan_multiline, plan_outdent, plan_at}
use Rattle.tokenizer.specs.Step.{reach, depth_after}
use Rattle.tokenizer_rules.specs.declared.plan.Marks.{Marks}
use Rattle.tokenizer_rules.specs.declared.plan.Says.{Says}
use Rattle.tokenizer_rules.specs.declared.plan.Says.TheVariants.{Comment, MapKey, Value, MultilineHint, MultilineValue}
use Rattle.tokenizer_rules.specs.declared.plan.Plan.{Plan}
use Rattle.tokenizer_scans.proofs.Quotes.{plain-le, text_le, eq-le, hint_le}
use Rattle.tokenizer_scans.proofs.Pieces.{extent-le, line_count-le}
use Rattle.tokenizer_rules.proofs.PlanCases.{Cases, plan-cases}

-- n bytes are left, and depth sections open
pub record Bounded (n depth : ℕ) (p : Plan) : Type 0 where
  pub pass : p.pass ≤ n
  pub lines : p.lines ≤ p.pass
  pub reach : reach p.says ≤ p.pass
  pub sections : depth ≤ 64 → depth_after p.change depth ≤ 64

-- a text of at most n bytes that begins j bytes in, said as f does
said-le : (f : Part → Says) (j : ℕ) → ((p : Part) → p.start ≤ p.end → reach (f p) ≤ j + p.end)
    → (which : Dropped) (n : ℕ) (s : List ℕ) → reach (said f (checked_of which (take n s))) ≤ j + n
unfolding checked_of
said-le f j h which n s =
    let p = trimmed (dropped which) (take n s) in
    let l = trimmed-le (dropped which) (take n s) in
    on-cond (λ t. reach (said f t) ≤ j + n) (utf8 (take n s)) (λ e. omega (arith, h p l.0, length-take n s)) (λ e. omega arith)

-- the rest has the indentation, a first byte b and what stands after it
pub rest-size : (k : ℕ) (rest : List ℕ) (b : ℕ) (r : List ℕ) → drop k rest ≡ b ∷ r → length rest ≡ k + suc (length r)
rest-size k rest b r q = let l : length (drop k rest) ≡ suc (length r) = ap length q in omega (arith, length-drop k rest)

module _ (m : Marks) (depth : ℕ) (inner indent rest : List ℕ) (k : ℕ) where
  bounds : Cases m depth inner indent rest k (drop k rest) (Bounded (length rest) depth)
  unfolding plan_newline plan_comment plan_item plan_key plan_plain plan_multiline plan_outdent lines_of
  bounds = record {
    ends = λ q d. omega arith;
    closes = λ q d. omega arith;
    line = λ b r q.
        let l = rest-size k rest b r q in
        record {
          newline = λ e. omega (arith, break-le (b ∷ r), break-pos b r e);
          comment = λ e s.
              omega (arith, prefix_len-le-length not_break r, said-le (λ p. Comment (shifted_by (k + 1) p)) (k + 1) (λ p h. omega arith) Blanks (line_end r) r);
          multiline = λ c i d u.
              let n = multiline_end indent false rest in
              omega (
                arith,
                extent-le indent false rest,
                line_count-le (take n rest),
                length-take n rest,
                said-le MultilineValue 0 (λ p h. omega arith) BlanksAndBreaks n rest,
              );
          opens = λ c i d u h. omega arith;
          full = λ c i d u h. omega (arith, prefix_len-le-length not_break (b ∷ r));
          outdent = λ c i d. omega arith;
          item = λ c e v t. omega arith;
          key = λ c e v t.
              let n = text_end 61 (b ∷ r) in
              omega (
                arith,
                text_le 61 (b ∷ r),
                eq-le n (b ∷ r),
                said-le (λ p. MapKey (shifted_by k p)) k (λ p h. omega arith) Blanks n (b ∷ r),
              );
          quotes = λ c e v h t. omega arith;
          hint = λ c e v h t.
              let w = drop 3 (b ∷ r) in
              omega (
                arith,
                hint_le (b ∷ r) h,
                plain-le 59 w,
                length-drop 3 (b ∷ r),
                said-le (λ p. MultilineHint (shifted_by (k + 3) p)) (k + 3) (λ p h. omega arith) Blanks (plain_end 59 w) w,
              );
          plain = λ c e v h.
              omega (arith, text_le 59 (b ∷ r), said-le (λ p. Value (shifted_by k p)) k (λ p h. omega arith) Blanks (text_end 59 (b ∷ r)) (b ∷ r));
        };
  }

pub plan-bounded : (m : Marks) (depth : ℕ) (inner indent rest : List ℕ) (k : ℕ)
    → Bounded (length rest) depth (plan_at m depth inner indent rest k)
plan-bounded m depth inner indent rest k = plan-cases m depth inner indent rest k (Bounded (length rest) depth) (bounds m depth inner indent rest k)
