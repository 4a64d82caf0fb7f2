-- Calls that slices of one length tell, each answered by a row of numbers in a lent slice. Assumes nothing.
use Rattle.std.specs.Prelude.{ℕ, zero, suc, ◌+◌, Bool, cond, List, [], ◌∷◌, ◌++◌, leb, eqb, take, drop, Result, Ok, Err, codes}
use Rattle.std.specs.List.{list_all}
use Rattle.rows.specs.declared.RowsError.{RowsError}
use Rattle.rows.specs.declared.RowsError.TheVariants.{Unequal, NoRoom}

-- lengths that are all one and the same
abbrev pub one_length : ℕ → List ℕ → Bool
one_length n ms = list_all (λ m. eqb m n) ms

-- n calls are run whole where the slices beside the first are of its length and there is room for n rows, and else none of them is
abbrev pub all_or_none : ℕ → List ℕ → ℕ → Result Unit RowsError
all_or_none n lens room = cond (one_length n lens) (cond (leb n room) (Ok tt) (Err NoRoom)) (Err Unequal)

-- n calls, from a number on
unfoldable pub calls_from : {C : Type 0} → (ℕ → C) → ℕ → ℕ → List C
calls_from call at zero = []
calls_from call at (suc n) = call at ∷ calls_from call (at + 1) n

-- what a call does in a state: the numbers of its answer, and the state that the next call gets
pub record CallStep (S C : Type 0) : Type 0 where
  pub row : S → C → List ℕ
  pub next : S → C → S

-- the rows of a list of calls, in their order
unfoldable pub rows_of : {S C : Type 0} → CallStep S C → S → List C → List (List ℕ)
rows_of m s [] = []
rows_of m s (c ∷ cs) = m.row s c ∷ rows_of m (m.next s c) cs

-- the state after the last call
unfoldable pub state_after : {S C : Type 0} → CallStep S C → S → List C → S
state_after m s [] = s
state_after m s (c ∷ cs) = state_after m (m.next s c) cs

-- the numbers of rows, one row after another
unfoldable pub numbers : List (List ℕ) → List ℕ
numbers [] = []
numbers (r ∷ rs) = r ++ numbers rs

-- the other way round: the first n rows, of one width, that stand in a list of numbers
unfoldable pub rows_in : ℕ → ℕ → List ℕ → List (List ℕ)
rows_in width zero xs = []
rows_in width (suc n) xs = take width xs ∷ rows_in width n (drop width xs)

-- ---- the reasons in words

abbrev pub reason : RowsError → List ℕ
reason Unequal = codes "the calls' slices are not of one length"
reason NoRoom = codes "the rows have no room for the answers"
