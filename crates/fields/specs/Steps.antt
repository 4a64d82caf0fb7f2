-- Steps on the way: what functions below the calls promise each other. Nothing here need be believed. Assumes nothing.
use Rattle.std.specs.Prelude.{◌≡◌, ℕ, ◌<◌}

-- a byte as a number of a wider type
pub record Widened (b r : ℕ) : Type 0 where
  pub same : r ≡ b
  pub small : r < 256
