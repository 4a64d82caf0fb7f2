-- What an answer is as text. Nothing of document 01. Assumes nothing.
use Rattle.std.specs.Prelude.{ℕ, ◌%◌, List, [], ◌∷◌, ◌++◌, ℤ, pos, ◌+ℤ◌, nat_abs}
use Rattle.text.specs.Text.{decimal}

-- a space and a number in decimal
abbrev pub number_text : ℕ → List ℕ
number_text n = 32 ∷ decimal n

-- numbers one after another
unfoldable pub numbers_text : List ℕ → List ℕ
numbers_text [] = []
numbers_text (n ∷ ns) = number_text n ++ numbers_text ns

-- a sample as the number of its 16 bits
abbrev pub sample_number : ℤ → ℕ
sample_number z = nat_abs (z +ℤ pos 65536) % 65536
