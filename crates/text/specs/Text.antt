-- What the lines of a listing and of a page have in common. Documents 01, "A small file, listed", and 02, M-100. Assumes nothing.
use Rattle.std.specs.Prelude.{ℕ, zero, suc, ◌+◌, ◌-◌, ◌/◌, ◌%◌, Bool, cond, List, [], ◌∷◌, ◌++◌, ltb, length, replicate}

-- the last k decimal digits of n in ASCII, the highest first, without leading zeros; 0 is `0`
unfoldable pub digits : ℕ → ℕ → List ℕ
digits zero n = []
digits (suc k) n = cond (ltb n 10) ((48 + n) ∷ []) (digits k (n / 10) ++ ((48 + n % 10) ∷ []))

-- a number as 01 writes it, "V 316 0 0 0": a u64 has at most 20 digits
abbrev pub decimal : ℕ → List ℕ
decimal n = digits 20 n

-- `V` for a frame and `A` for a block
abbrev pub kind : Bool → List ℕ
kind frame = cond frame (86 ∷ []) (65 ∷ [])

abbrev pub spaces : ℕ → List ℕ
spaces n = replicate n 32

-- 02: "right-aligned with spaces", in so many columns
unfoldable pub right : ℕ → ℕ → List ℕ
right width n = spaces (width - length (decimal n)) ++ decimal n
