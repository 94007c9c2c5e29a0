-- The port's own: the refusal of a number.
use Rattle.std.specs.Prelude.{ℕ, ◌≡◌, List, [], ◌∷◌, Result, Ok, Err, get_or}
use Rattle.text.specs.Numbers.{number_of}
use Rattle.text.specs.declared.refusals.NoRefusal.{NoRefusal}
use Rattle.text.specs.declared.refusals.Refusal.{Refusal}
use Rattle.text.specs.declared.refusals.Refusal.TheVariants as refusal

-- by their numbers, from 0 on
abbrev pub by_number : NoRefusal → List (Result Refusal NoRefusal)
by_number none =
    Err none
    ∷ Ok refusal.InvalidUtf8
    ∷ Ok refusal.CharactersAfterQuotes
    ∷ Ok refusal.TooManyOpen
    ∷ Ok refusal.MissingMultiline
    ∷ Ok refusal.UnexpectedKey
    ∷ Ok refusal.UnexpectedItem
    ∷ Ok refusal.UnexpectedIndent
    ∷ Ok refusal.InvalidEscape
    ∷ Ok refusal.EscapeAtEnd
    ∷ Ok refusal.ExtraCharacters
    ∷ Ok refusal.UnclosedQuotes
    ∷ Ok refusal.TooLong
    ∷ Ok refusal.UnfitToken
    ∷ Ok refusal.ShortBuffer
    ∷ Ok refusal.UnfitState
    ∷ []

abbrev pub refusal_of : ℕ → Result Refusal NoRefusal
refusal_of n = get_or (by_number (record { number = n })) n (Err (record { number = n }))

-- a refusal is read back from its number
abbrev pub RefusalsBack : Type 0
RefusalsBack = (r : Refusal) → refusal_of (number_of r) ≡ Ok r

-- and a number from its refusal
abbrev pub NumbersBack : Type 0
NumbersBack = (n : ℕ) (r : Refusal) → refusal_of n ≡ Ok r → number_of r ≡ n
