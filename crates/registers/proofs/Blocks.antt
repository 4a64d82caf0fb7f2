-- What the code computes of a block is what the definitions say. Assumes nothing.
use mathlib.Core.Path.{◌≡◌, ap, ◌∙◌}
use Rattle.std.proofs.Common.{Option}
use Prim.Native.Nat.{ℕ, ◌≤◌, ◌<◌}
use mathlib.Core.Bool.{Bool, true, false, cond}
use mathlib.Core.List.{List, ◌∷◌, ◌++◌}
use native.Mathlib.Omega.{arith}
use borrow.Author.Tests.{eq-eqb, ne_eqb, le-leb, lt-leb, eqb-true}
use lib.Dec.{eqb}
use lib.ListN.{length, drop, set}
use lib.Seq.{drop-cons}
use Rattle.error.specs.Answer.{accepted, refused, numbered}
use Rattle.error.proofs.Answers.{ask-passed}
use Rattle.recording.specs.Machine.{Call}
use Rattle.registers.specs.Registers.{byte, request_in, commanded, command_in, pending_of, front_after}
use Rattle.registers.specs.Steps.{bits_of}
use Rattle.registers.specs.declared.Told.{Told}
use Rattle.registers.specs.declared.Told.TheVariants.{Nothing, Gave, Went, Refused}

-- ---- status

pub bits_small : (t : Told) → bits_of t ≤ 8
bits_small Nothing = omega arith
bits_small (Gave stamp) = omega arith
bits_small (Went stamp) = omega arith
bits_small (Refused number) = omega arith

pub mark_small : (b : Bool) (n : ℕ) → cond b n 0 ≤ n
mark_small true n = omega arith
mark_small false n = omega arith

-- ---- the block's bytes

-- a block of 16 bytes, its first eight by name
pub opened : (block : List ℕ) → length block ≡ 16
    → block
    ≡ byte block 0 ∷ byte block 1 ∷ byte block 2 ∷ byte block 3 ∷ byte block 4 ∷ byte block 5 ∷ byte block 6 ∷ byte block 7 ∷ drop 8 block
opened block l =
    drop-cons block 0 0 (omega arith)
    ∙ ap (λ (r : List ℕ). byte block 0 ∷ r) (drop-cons block 1 0 (omega arith)
    ∙ ap (λ (r : List ℕ). byte block 1 ∷ r) (drop-cons block 2 0 (omega arith)
    ∙ ap (λ (r : List ℕ). byte block 2 ∷ r) (drop-cons block 3 0 (omega arith)
    ∙ ap (λ (r : List ℕ). byte block 3 ∷ r) (drop-cons block 4 0 (omega arith)
    ∙ ap (λ (r : List ℕ). byte block 4 ∷ r) (drop-cons block 5 0 (omega arith)
    ∙ ap (λ (r : List ℕ). byte block 5 ∷ r) (drop-cons block 6 0 (omega arith)
    ∙ ap (λ (r : List ℕ). byte block 6 ∷ r) (drop-cons block 7 0 (omega arith))))))))

-- the five stores
pub front_stored : (block : List ℕ) (status number : ℕ) → length block ≡ 16
    → set (set (set (set (set block 0 0) 1 status) 3 (pending_of block status)) 4 0) 5 number ≡ front_after block status number ++ drop 8 block
front_stored block status number l =
    ap (λ (b : List ℕ). set (set (set (set (set b 0 0) 1 status) 3 (pending_of block status)) 4 0) 5 number) (opened block l)

-- ---- the command

module _ (block : List ℕ) where
  pub wrong_length : (length block ≡ 16 → ⊥) → command_in block ≡ refused (numbered 74 0)
  unfolding command_in
  wrong_length n = rw (ne_eqb (length block) 16 n)

  pub unknown-command : length block ≡ 16 → 3 < byte block 0 → command_in block ≡ refused (numbered 75 0)
  unfolding command_in
  unknown-command l h = rw (eq-eqb (length block) 16 l, lt-leb (byte block 0) 3 h)

  pub known-command : (command : ℕ) → length block ≡ 16 → byte block 0 ≡ command → command ≤ 3
      → command_in block ≡ accepted (commanded command (request_in block))
  unfolding command_in
  known-command command l e h = rw (eq-eqb (length block) 16 l, e, le-leb command 3 h)

  -- what is accepted has passed both questions
  pub block-whole : {c : Option Call} → command_in block ≡ accepted c → length block ≡ 16
  unfolding command_in
  block-whole e = eqb-true (length block) 16 (ask-passed (eqb (length block) 16) 74 0 _ e).0
