-- A state that stands in words: slots are read and written where they stand, and the state is read back.
use Rattle.std.specs.Prelude.{Option, Some, None}
use Prim.Native.Nat.{ℕ, zero, suc, ◌+◌, ◌*◌, ◌≤◌, ◌<◌}
use mathlib.Core.Path.{◌≡◌, refl, ap}
use mathlib.Core.List.{List, [], ◌∷◌, ◌++◌, append_assoc}
use mathlib.Core.Bool.{Bool, true, false}
use native.Mathlib.Omega.{arith}
use lib.Dec.{eqb}
use lib.ListN.{length, take, drop, get_or, set}
use lib.Seq.{get_or-drop, take-append-add, drop-append-add}
use Rattle.text.specs.Bytes.{part}
use Rattle.text.specs.declared.bytes.Part.{Part}
use Rattle.tokenizer.specs.Step.{no_part}
use Rattle.tokenizer.specs.declared.state.State.{State}
use Rattle.tokenizer_words.specs.Words.{pasted, flag, held_words, part_words, front_words, words_of, parts_in, held_by, state_in}
use Rattle.tokenizer_words.proofs.Slots.{parts-length, held_depth}

-- the kth of n slots
pub part_at : (n : ℕ) (v : List ℕ) (k : ℕ) → k < n → get_or (parts_in n v) k no_part ≡ part (get_or v (2 * k) 0) (get_or v (2 * k + 1) 0)
unfolding parts_in
part_at zero v k h = absurd (omega arith)
part_at (suc n) v zero h = refl
part_at (suc n) v (suc k) h =
    let i : 2 + 2 * k ≡ 2 * suc k = omega arith in
    let j : 2 + (2 * k + 1) ≡ 2 * suc k + 1 = omega arith in
    rw (part_at n (drop 2 v) k (omega arith), get_or-drop 2 v (2 * k) 0, get_or-drop 2 v (2 * k + 1) 0, i, j)

-- the slots' words, read as parts and written again
pub slots-back : (n : ℕ) (v : List ℕ) → 2 * n ≤ length v → part_words (parts_in n v) ++ drop (2 * n) v ≡ v
unfolding part_words parts_in
slots-back zero v h = refl
slots-back (suc n) [] h = absurd (omega arith)
slots-back (suc n) (a ∷ []) h = absurd (omega arith)
slots-back (suc n) (a ∷ b ∷ v) h =
    let i : 2 * suc n ≡ suc (suc (2 * n)) = omega arith in
    rw i (ap (λ x. a ∷ b ∷ x) (slots-back n v (omega arith)))

-- parts, written as words and read again
pub parts-back : (is : List Part) (r : List ℕ) (n : ℕ) → length is ≡ n → parts_in n (part_words is ++ r) ≡ is
unfolding part_words parts_in
parts-back [] r zero e = refl
parts-back [] r (suc n) e = absurd (omega arith)
parts-back (p ∷ is) r zero e = absurd (omega arith)
parts-back (p ∷ is) r (suc n) e = ap (λ x. p ∷ x) (parts-back is r n (omega arith))

-- one slot, written where it stands
pub slot-set : (is : List Part) (r : List ℕ) (k : ℕ) (i : Part) → k < length is
    → pasted (i.start ∷ i.end ∷ []) (2 * k) (part_words is ++ r) ≡ part_words (set is k i) ++ r
unfolding part_words pasted
slot-set [] r k i h = absurd (omega arith)
slot-set (p ∷ is) r zero i h = refl
slot-set (p ∷ is) r (suc k) i h =
    let e : 2 * suc k ≡ suc (suc (2 * k)) = omega arith in
    let f : 2 * suc k + 2 ≡ suc (suc (2 * k + 2)) = omega arith in
    rw (f, e) (ap (λ x. p.start ∷ p.end ∷ x) (slot-set is r k i (omega arith)))

-- written behind n others
pub pasted-behind : (a s v : List ℕ) (n m : ℕ) → length a ≡ n → pasted s (n + m) (a ++ v) ≡ a ++ pasted s m v
unfolding pasted
pasted-behind a s v n m e =
    let k : length a + m + length s ≡ length a + (m + length s) = omega arith in
    rw (← e, k, take-append-add a v m, drop-append-add a v (m + length s), append_assoc a (take m v) s) (append_assoc a (take m v ++ s) (drop (m + length s) v))

-- what is held, read back
held_back : (h : Option Part) → held_by (get_or (held_words h) 0 0) (get_or (held_words h) 1 0) (get_or (held_words h) 2 0) ≡ h
unfolding held_words
held_back None = refl
held_back (Some p) = refl

pub eqb-flag : (b : Bool) → eqb (flag b) 1 ≡ b
unfolding flag
eqb-flag true = refl
eqb-flag false = refl

-- the state is read back
pub state-back : (s : State) (r : List ℕ) → length s.indents ≡ 64 → state_in (words_of s ++ r) ≡ s
unfolding words_of front_words state_in
state-back s r e =
    rw (← held_depth s.held s.depth)
    (rw (eqb-flag s.marks.indent, eqb-flag s.marks.value, eqb-flag s.marks.multiline, held_back s.held, parts-back s.indents r 64 e))

-- the state in words has its 64 slots
pub slots-64 : (w : List ℕ) → length (state_in w).indents ≡ 64
unfolding state_in
slots-64 w = parts-length 64 (drop 9 w)
