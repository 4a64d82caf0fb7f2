-- Steps on the way: what functions below the calls promise each other. Nothing here need be believed. Assumes nothing.
use Rattle.std.specs.Prelude.{ℕ, ℤ, pos, negsuc}

-- the least stamp that reaches a signed request
unfoldable pub least : ℤ → ℕ
least (pos n) = n
least (negsuc n) = 0
