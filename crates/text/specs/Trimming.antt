-- Law: document 01, 'Bytes and UTF-8': trimming, over which bytes it drops.
use Rattle.std.specs.Prelude.{ℕ, zero, suc, List, [], ◌∷◌, Bool, cond, ◌||◌, eqb}
use Rattle.text.specs.Bytes.{is_blank, is_break, part}
use Rattle.std.specs.List.{prefix_len}
use Rattle.text.specs.declared.bytes.Part.{Part}
use Rattle.text.specs.declared.trimming.Dropped.{Dropped}
use Rattle.text.specs.declared.trimming.Dropped.TheVariants.{Blanks, BlanksAndBreaks}

-- the bytes that each kind of trimming drops
unfoldable pub dropped : Dropped → ℕ → Bool
dropped Blanks b = is_blank b
dropped BlanksAndBreaks b = is_blank b || is_break b

-- one more byte in front of n kept ones: kept where it is not dropped, or where a later one is kept
abbrev pub keep_more : Bool → ℕ → ℕ
keep_more drop zero = cond drop 0 1
keep_more drop (suc n) = suc (suc n)

-- the length without the dropped bytes at the end
unfoldable pub kept_end : (ℕ → Bool) → List ℕ → ℕ
kept_end p [] = 0
kept_end p (b ∷ r) = keep_more (p b) (kept_end p r)

-- the part without the dropped bytes at both ends; where all are dropped, the empty part at the start
unfoldable pub trimmed : (ℕ → Bool) → List ℕ → Part
trimmed p s =
    let whole = part (prefix_len p s) (kept_end p s) in
    cond (eqb (kept_end p s) 0) (part 0 0) whole
