-- The stored table of rises: one test over the whole of it, which antt computes (`by_rule`), and one law that makes of it the rule at each entry.
-- Assumes nothing.
use mathlib.Core.Path.{◌≡◌, ap, sym, ◌∙◌}
use mathlib.Core.Bool.{Bool, true, ◌&&◌}
use mathlib.Core.List.{List, [], ◌∷◌}
use Prim.Native.Nat.{ℕ, zero, suc, ◌+◌, ◌/◌, ◌%◌, ◌<◌}
use native.Mathlib.Nat.{add-zero, suc-add, add-suc, zero-add}
use native.Mathlib.Omega.{arith}
use borrow.Author.Tests.{eqb-true}
use lib.Dec.{eqb}
use lib.ListN.{length, get_or}
use Rattle.error.proofs.Answers.{both}
use Rattle.sound.specs.Sound.{rise, steps}
use Rattle.sound.specs.Steps.{Rises}

-- the rise that stands at a place
abbrev ruled : ℕ → ℕ
ruled k = rise (get_or steps (k / 8) 0) (k % 8)

-- whether all entries are by the rule, the first of them at place i
abbrev pub by_rule : ℕ → List ℕ → Bool
by_rule i [] = true
by_rule i (x ∷ xs) = eqb x (ruled i) && by_rule (suc i) xs

from : (xs : List ℕ) (i k : ℕ) → by_rule i xs ≡ true → k < length xs → get_or xs k 0 ≡ ruled (i + k)
from [] i k e h = absurd (omega arith)
from (x ∷ xs) i zero e h = eqb-true x (ruled i) (both _ _ e).0 ∙ ap ruled (sym (add-zero i))
from (x ∷ xs) i (suc k) e h = from xs (suc i) k (both (eqb x (ruled i)) _ e).1 (omega arith) ∙ ap ruled (suc-add i k ∙ sym (add-suc i k))

pub rises : (table : List ℕ) → length table ≡ 712 → by_rule 0 table ≡ true → Rises table
rises table n e = record { size = n; rule = λ k h. from table 0 k e (omega arith) ∙ ap ruled (zero-add k) }

-- the entry at a magnitude of a row is the rise at the row's step index
pub entry-is : (table : List ℕ) (row magnitude : ℕ) → Rises table → row % 8 ≡ 0 → row < 712 → magnitude < 8
    → get_or table (row + magnitude) 0 ≡ rise (get_or steps (row / 8) 0) magnitude
entry-is table row magnitude t w h l =
    let quotient : (row + magnitude) / 8 ≡ row / 8 = omega arith in
    let rest : (row + magnitude) % 8 ≡ magnitude = omega arith in
    t.rule (row + magnitude) (omega arith)
    ∙ ap (λ (i : ℕ). rise (get_or steps i 0) ((row + magnitude) % 8)) quotient
    ∙ ap (λ (m : ℕ). rise (get_or steps (row / 8) 0) m) rest
