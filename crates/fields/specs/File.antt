-- The largest file. Assumes nothing.
use Rattle.std.specs.Prelude.{ℕ, Bool, List, leb, length}

-- 01: "A file has at most 4,294,967,295 bytes."
abbrev pub file_limit : ℕ
file_limit = 4294967295

-- "File within the limit?"
abbrev pub within_limit : List ℕ → Bool
within_limit file = leb (length file) file_limit
