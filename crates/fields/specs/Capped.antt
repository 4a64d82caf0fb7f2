-- Arithmetic that is total, and the largest u32. Assumes nothing.
use Rattle.std.specs.Prelude.{ℕ, ◌/◌, cond, eqb}

-- 01: "the quotient 1,000,000/fps (0 for fps 0)"
abbrev pub quotient : ℕ → ℕ → ℕ
quotient a b = cond (eqb b 0) 0 (a / b)

-- the largest number of 32 bits: 2^32 - 1
abbrev pub u32_max : ℕ
u32_max = 4294967295
