-- The numbers of questions that are asked one after another: listed for each, they are listed for all, by the cases of the answers.
-- Assumes nothing.
use mathlib.Core.Path.{◌≡◌, refl}
use Prim.Native.Nat.{ℕ}
use mathlib.Core.Bool.{Bool, true, false, ◌||◌}
use mathlib.Core.List.{List, [], ◌∷◌, ◌++◌}
use lib.Dec.{eqb}
use Rattle.error.specs.Answer.{Answer, accepted, refused, ask, and_then}
use Rattle.error.specs.Sentences.{one_of, RefusedBy}
use Rattle.error.proofs.Answers.{clash}

-- more numbers list no fewer
listed_more : (ms ns : List ℕ) (n : ℕ) → one_of ms n ≡ true → one_of (ms ++ ns) n ≡ true
listed_more [] ns n e = clash e refl
listed_more (m ∷ ms) ns n e = go (eqb m n) e (listed_more ms ns n)
  where
    go : (b : Bool) → (b || one_of ms n) ≡ true → (one_of ms n ≡ true → one_of (ms ++ ns) n ≡ true) → (b || one_of (ms ++ ns) n) ≡ true
    go true e later = refl
    go false e later = later e

pub more_by : {A : Type 0} (ms ns : List ℕ) (a : Answer A) → RefusedBy ms a → RefusedBy (ms ++ ns) a
more_by ms ns (accepted x) h = tt
more_by ms ns (refused r) h = listed_more ms ns r.number h

module _ (numbers : List ℕ) where
  pub asked_by : {A : Type 0} (b : Bool) (number place : ℕ) (rest : Answer A) → one_of numbers number ≡ true → RefusedBy numbers rest
      → RefusedBy numbers (ask b number place rest)
  asked_by true number place rest n r = r
  asked_by false number place rest n r = n

  pub then_by : {A B : Type 0} (first : Answer A) (rest : A → Answer B) → RefusedBy numbers first → ((x : A) → RefusedBy numbers (rest x))
      → RefusedBy numbers (and_then first rest)
  then_by (accepted x) rest f r = r x
  then_by (refused q) rest f r = f
