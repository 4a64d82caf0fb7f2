-- Steps on the way: what functions below the calls promise each other. Nothing here need be believed. Assumes nothing.
use Rattle.std.specs.Prelude.{ℕ, ◌*◌}
use Rattle.listing.specs.Listing.{input_limit}

-- 11 bytes for each byte of the longest input: a chunk of 8 bytes has a line of at most 86
abbrev pub room : ℕ
room = 11 * input_limit
