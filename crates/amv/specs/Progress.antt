-- What the reads so far tell of the trailer. Assumes nothing.
use Rattle.std.specs.Prelude.{ℕ, ◌+◌, Bool, eqb, Option, Some, None}

-- whether the trailer's 8 bytes are the last of a stream of a length
abbrev pub matches_eof : Option ℕ → ℕ → Option Bool
matches_eof (Some offset) len = Some (eqb (offset + 8) len)
matches_eof None len = None
