-- What a call answers, in the terms of document 01. Assumes nothing.
use Rattle.std.specs.Prelude.{ℕ, Bool, true, false}
use Rattle.error.specs.declared.Refusal.{Refusal}

-- 01: "A refusal is a number and a place (a byte offset; in the interleave check a position; 0 if none is named)."
abbrev pub numbered : ℕ → ℕ → Refusal
numbered number place = record { number = number; place = place }

-- a call is accepted, with what it gives, or refused
pub data Answer (A : Type 0) : Type 0 where
  accepted : A → Answer A
  refused : Refusal → Answer A

-- 01: "Questions, in order; the number is for no." Yes goes on to the rest.
abbrev pub ask : {A : Type 0} → Bool → ℕ → ℕ → Answer A → Answer A
ask true number place rest = rest
ask false number place rest = refused (numbered number place)

-- one call's questions after another's: the second goes on with what the first gives
abbrev pub and_then : {A B : Type 0} → Answer A → (A → Answer B) → Answer B
and_then (accepted x) rest = rest x
and_then (refused r) rest = refused r

-- an answer as two numbers: that of the question, 0 where the call is accepted, and its place
abbrev pub number_of : {A : Type 0} → Answer A → ℕ
number_of (accepted x) = 0
number_of (refused r) = r.number

abbrev pub place_of : {A : Type 0} → Answer A → ℕ
place_of (accepted x) = 0
place_of (refused r) = r.place
