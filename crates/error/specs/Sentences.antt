-- What document 01 says of every call, in one shape. A module `Sentences` of each crate has 01's sentences about its calls a second time, in
-- other terms than the definitions: a definition that is changed together with its code no longer meets them. Assumes nothing.
use Rattle.std.specs.Prelude.{◌≡◌, ℕ, Bool, true, false, ◌||◌, List, [], ◌∷◌, eqb}
use Rattle.error.specs.Answer.{Answer, accepted, refused}
use Rattle.error.specs.declared.Refusal.{Refusal}

-- 01: "It returns the state it was given and changes no lent byte." S is all that a call may change: its state, the bytes that it is
-- lent, or both.
abbrev pub GivesBack : {S A : Type 0} → (S → Answer A) → (S → S) → Type 0
GivesBack {S = S} answer leaves = (s : S) (r : Refusal) → answer s ≡ refused r → leaves s ≡ s

abbrev pub one_of : List ℕ → ℕ → Bool
one_of [] n = false
one_of (m ∷ ms) n = eqb m n || one_of ms n

-- "the number is for no": where a call is refused, its number is one of those that 01 lists for it
abbrev pub RefusedBy : {A : Type 0} → List ℕ → Answer A → Type 0
RefusedBy numbers (accepted x) = Unit
RefusedBy numbers (refused r) = one_of numbers r.number ≡ true
