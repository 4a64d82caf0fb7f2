-- Questions one after another: what goes on, what refuses, and what an accepted run has passed. Assumes nothing.
use mathlib.Core.Path.{◌≡◌, refl, sym, ap, ◌∙◌}
use Rattle.std.specs.Prelude.{Result, Ok, Err, IsErr, IsErrAnd}
use Rattle.std.proofs.lemmas.Result.{err_from_is_err_and}
use mathlib.Core.Bool.{Bool, true, false, ◌&&◌}
use Prim.Native.Nat.{ℕ}
use Rattle.fields.proofs.Impossible.{impossible}
use Rattle.error.specs.Answer.{Answer, accepted, refused, ask, and_then}
use Rattle.error.specs.Refusal.{refusal_of, said}
use Rattle.error.specs.declared.AmvError.{AmvError}
use Rattle.error.specs.declared.Refusal.{Refusal}

-- no accepted answer is a refusal
pub never : {A B : Type 0} {x : A} {r : Refusal} → ◌≡◌ {A = Answer A} (accepted x) (refused r) → B
never e = impossible cc

-- and nothing is both
pub clash : {A : Type 0} {b : Bool} → b ≡ true → b ≡ false → A
clash p q = impossible cc

-- equal answers accept the same value
pub accepted-same : {A : Type 0} {x y : A} → ◌≡◌ {A = Answer A} (accepted x) (accepted y) → x ≡ y
accepted-same e = cc

-- at the exit of a `?` a call is refused as the one that it made
pub passed_on : {A : Type 0} (r : Result A AmvError) (e : AmvError) → (IsErr r × IsErrAnd r (λ y. y ≡ e)) → said r ≡ refused (refusal_of e)
passed_on r e h = let p = err_from_is_err_and r h.1 in rw (p.1, p.2)

module _ {B : Type 0} where
  -- a call, and what is asked after it
  pub then_ok : {A : Type 0} {r : Result A AmvError} {x : Answer A} {v : A} (rest : A → Answer B) → said r ≡ x → r ≡ Ok v → and_then x rest ≡ rest v
  then_ok {A} {r} {x} rest s e = ap (λ (y : Answer A). and_then y rest) (sym s ∙ ap said e)

  pub then_err : {A : Type 0} {r : Result A AmvError} {x : Answer A} {e : AmvError} (rest : A → Answer B) → said r ≡ x → r ≡ Err e
      → and_then x rest ≡ refused (refusal_of e)
  then_err {A} {r} {x} {e} rest s p = ap (λ (y : Answer A). and_then y rest) (sym s ∙ ap said p)

  -- what was accepted has passed the first call and the second
  pub then-passed : (x : Answer Unit) (rest : Unit → Answer B) {b : B} → and_then x rest ≡ accepted b → (x ≡ accepted tt) × (rest tt ≡ accepted b)
  then-passed (accepted u) rest e = (refl, e)
  then-passed (refused r) rest e = never (sym e)

  pub then-accepted : {A : Type 0} (x : Answer A) (rest : A → Answer B) {b : B} → and_then x rest ≡ accepted b
      → (a : A) × (x ≡ accepted a) × (rest a ≡ accepted b)
  then-accepted (accepted a) rest e = (a, refl, e)
  then-accepted (refused r) rest e = never (sym e)

  -- and each question
  pub ask-passed : (b : Bool) (number place : ℕ) (x : Answer B) {y : B} → ask b number place x ≡ accepted y → (b ≡ true) × (x ≡ accepted y)
  ask-passed true n p x e = (refl, e)
  ask-passed false n p x e = never (sym e)

-- a question of two parts
pub both : (a b : Bool) → (a && b) ≡ true → (a ≡ true) × (b ≡ true)
both true b e = (refl, e)
both false b e = clash e refl
