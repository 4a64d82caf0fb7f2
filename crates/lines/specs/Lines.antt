-- The lines of a listing. Document 01, "A small file, listed". Assumes nothing.
use Rattle.std.specs.Prelude.{ℕ, Bool, cond, List, [], ◌∷◌, ◌++◌}
use Rattle.text.specs.Text.{decimal, kind}

-- 01: "each line ends with one line feed", and one space stands before each word but the first
abbrev pub spaced : List (List ℕ) → List ℕ
spaced [] = 10 ∷ []
spaced (word ∷ words) = 32 ∷ (word ++ spaced words)

-- a line: its first word and the others
abbrev pub line : List ℕ → List (List ℕ) → List ℕ
line first others = first ++ spaced others

-- 01: "prints kind, offset, frames, samples, blocks before"
unfoldable pub chunk_line : Bool → ℕ → ℕ → ℕ → ℕ → List ℕ
chunk_line frame offset frames samples blocks =
    line (kind frame) (decimal offset ∷ decimal frames ∷ decimal samples ∷ decimal blocks ∷ [])

-- `END`, `FRAMES`, `BLOCKS`, `SAMPLES`, `PAIRED`, `NO`, `LONG`
abbrev pub END : List ℕ
END = 69 ∷ 78 ∷ 68 ∷ []

abbrev pub FRAMES : List ℕ
FRAMES = 70 ∷ 82 ∷ 65 ∷ 77 ∷ 69 ∷ 83 ∷ []

abbrev pub BLOCKS : List ℕ
BLOCKS = 66 ∷ 76 ∷ 79 ∷ 67 ∷ 75 ∷ 83 ∷ []

abbrev pub SAMPLES : List ℕ
SAMPLES = 83 ∷ 65 ∷ 77 ∷ 80 ∷ 76 ∷ 69 ∷ 83 ∷ []

abbrev pub PAIRED : List ℕ
PAIRED = 80 ∷ 65 ∷ 73 ∷ 82 ∷ 69 ∷ 68 ∷ []

abbrev pub NO : List ℕ
NO = 78 ∷ 79 ∷ []

abbrev pub LONG : List ℕ
LONG = 76 ∷ 79 ∷ 78 ∷ 71 ∷ []

-- 01: "PAIRED is Y or N"
abbrev pub yes_no : Bool → List ℕ
yes_no paired = cond paired (89 ∷ []) (78 ∷ [])

-- 01: "END's number is the trailer's offset", and `END 345 FRAMES 1 BLOCKS 1 SAMPLES 2 PAIRED Y`
unfoldable pub totals_line : ℕ → ℕ → ℕ → ℕ → Bool → List ℕ
totals_line trailer frames blocks samples paired =
    line END
    (decimal trailer
    ∷ FRAMES
    ∷ decimal frames
    ∷ BLOCKS
    ∷ decimal blocks
    ∷ SAMPLES
    ∷ decimal samples
    ∷ PAIRED
    ∷ yes_no paired
    ∷ [])

-- 01: "A file the check refuses gives only one line .. `NO`, number, place."
unfoldable pub refusal_line : ℕ → ℕ → List ℕ
refusal_line number place = line NO (decimal number ∷ decimal place ∷ [])

-- 01: "Longer input gives `NO LONG`."
unfoldable pub long_line : List ℕ
long_line = line NO (LONG ∷ [])
