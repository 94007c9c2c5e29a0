-- The tokenizer's part of the words: what a step reads there, and what it leaves there, is what stands in the state.
use Prim.Native.Nat.{ℕ, zero, suc, ◌+◌, ◌*◌, ◌≤◌, ◌<◌}
use mathlib.Core.Path.{◌≡◌, refl, sym, ap, ◌∙◌}
use mathlib.Core.List.{List, ◌++◌, append_assoc}
use mathlib.Core.Bool.{true}
use native.Mathlib.Omega.{arith}
use lib.ListN.{length, drop, get_or, length-append, length-drop, get_or-eq_default}
use lib.Seq.{get_or-drop, drop-drop}
use borrow.Author.Tests.{lt-ltb}
use Rattle.text.specs.Bytes.{part}
use Rattle.text.specs.declared.bytes.Part.{Part}
use Rattle.tokenizer_rules.specs.declared.plan.Change.{Change}
use Rattle.tokenizer_rules.specs.declared.plan.Change.TheVariants.{Keep, Open, Close, Hold}
use Rattle.tokenizer.specs.Step.{no_part, inner_of, indents_after, depth_after, fit, step_of}
use Rattle.tokenizer.specs.Front.{front_of, ahead_of}
use Rattle.tokenizer.specs.declared.front.Front.{Front}
use Rattle.tokenizer.specs.declared.state.State.{State}
use Rattle.tokenizer.proofs.Fitness.{fitness}
use Rattle.tokenizer.proofs.Kept.{step-fit}
use Rattle.tokenizer.proofs.Advancing.{step-front, step-indents, step-depth}
use Rattle.tokenizer_words.specs.Words.{pasted_in, part_words, front_words, words_of, parts_in, state_in}
use Rattle.tokenizer_words.proofs.Pasting.{pasted-room, pasted-front}
use Rattle.tokenizer_words.proofs.Slots.{part-words-length, parts-length, front-9}
use Rattle.tokenizer_words.proofs.Standing.{part_at, slots-back, slot-set, pasted-behind}
use Rattle.front_words.specs.Fronts.{slot_in, committed}

-- the innermost of n open indentations
pub inner-at : (w : List ℕ) (n : ℕ) → (n ≡ 0 → ⊥) → n ≤ 64
    → part (get_or w (7 + 2 * n) 0) (get_or w (8 + 2 * n) 0) ≡ inner_of (parts_in 64 (drop 9 w)) n
inner-at w zero z h = absurd (z refl)
inner-at w (suc k) z h =
    let i : 9 + 2 * k ≡ 7 + 2 * suc k = omega arith in
    let j : 9 + (2 * k + 1) ≡ 8 + 2 * suc k = omega arith in
    rw (part_at 64 (drop 9 w) k (omega arith), get_or-drop 9 w (2 * k) 0, get_or-drop 9 w (2 * k + 1) 0, i, j)

-- past the slots there is none
pub inner-past : (w : List ℕ) (n : ℕ) → 64 < n → no_part ≡ inner_of (parts_in 64 (drop 9 w)) n
inner-past w zero h = refl
inner-past w (suc k) h = sym (get_or-eq_default (parts_in 64 (drop 9 w)) no_part (omega (arith, parts-length 64 (drop 9 w))))

-- slots behind nine words
pub slot-in : (c : Change) (i : Part) (n : ℕ) (a r : List ℕ) (is : List Part) → length a ≡ 9 → length is ≡ 64 → depth_after c n ≤ 64
    → slot_in c i n (a ++ (part_words is ++ r)) ≡ a ++ (part_words (indents_after c i is n) ++ r)
unfolding slot_in
slot-in Keep i n a r is e f h = refl
slot-in Open i n a r is e f h =
    let l : length (a ++ (part_words is ++ r)) ≡ 137 + length r = rw (length-append, length-append, e, part-words-length, f) (omega arith) in
    rw (lt-ltb n 64 (omega arith))
    (pasted-room _ _ _ (omega (arith, l)) ∙ pasted-behind a _ _ 9 (2 * n) e ∙ ap (λ x. a ++ x) (slot-set is r n i (omega arith)))
slot-in Close i n a r is e f h = refl
slot-in Hold i n a r is e f h = refl

-- the changes that open nothing, by their tags
pub not-open : (c : Change) (i : Part) (n : ℕ) (w : List ℕ) → (c ≡ Open → ⊥) → w ≡ slot_in c i n w
unfolding slot_in
not-open Keep i n w h = refl
not-open Open i n w h = absurd (h refl)
not-open Close i n w h = refl
not-open Hold i n w h = refl

-- the front's words written at the front, and then the slot: the words of the state after
pub stepped : (w : List ℕ) (c : Change) (i : Part) (n : ℕ) (f : Front) (t : State) → 137 ≤ length w → f ≡ front_of t → depth_after c n ≤ 64
    → t.indents ≡ indents_after c i (parts_in 64 (drop 9 w)) n → slot_in c i n (pasted_in (front_words f) 0 w) ≡ words_of t ++ drop 137 w
unfolding words_of
stepped w c i n f t h e k q =
    let is = parts_in 64 (drop 9 w) in
    let b : part_words is ++ drop 137 w ≡ drop 9 w = rw (drop-drop 128 9 w) at (slots-back 64 (drop 9 w) (omega (arith, length-drop 9 w))) in
    let p : pasted_in (front_words f) 0 w ≡ front_words f ++ (part_words is ++ drop 137 w) =
    pasted-room (front_words f) w 0 (omega (arith, front-9 f)) ∙ pasted-front (front_words f) w ∙ rw (front-9 f, b) in
    ap (slot_in c i n) p ∙ slot-in c i n (front_words f) (drop 137 w) is (front-9 f) (parts-length 64 (drop 9 w)) k
    ∙ rw (← q, e, append_assoc)

-- what a step comes to, written: the words of the state after it
pub step-committed : (d w : List ℕ) → length d ≤ 16777216 → 137 ≤ length w → fit (length d) (state_in w) ≡ true
    → committed (ahead_of d (state_in w)) w ≡ words_of (step_of d (state_in w)).state ++ drop 137 w
unfolding committed state_in
step-committed d w l h e =
    let s = state_in w in
    let m = ahead_of d s in
    let g = (fitness (length d) (step_of d s).state (step-fit d s l e)).depth in
    stepped w m.change m.indent s.depth m.front (step_of d s).state h (step-front d s l e)
    (omega (arith, step-depth d s l e, g)) (step-indents d s l e)
