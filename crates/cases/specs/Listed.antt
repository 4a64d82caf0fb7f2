-- Document 01's file E, listed, and a recording whose numbers differ. Assumes nothing.
use Rattle.std.specs.Prelude.{◌≡◌, true, false, List, [], ◌∷◌, ◌++◌, ℕ, length}
use Rattle.lines.specs.Lines.{chunk_line, totals_line, refusal_line, long_line}
use Rattle.listing.specs.Listing.{listing_of}
use Rattle.cases.specs.Example.{E}
use Rattle.cases.specs.Numbers.{T}

pub record Listed : Type 0 where
  -- `V 316 0 0 0`, `A 327 1 0 0`, `END 345 FRAMES 1 BLOCKS 1 SAMPLES 2 PAIRED Y`
  pub example : listing_of E ≡ chunk_line true 316 0 0 0 ++ (chunk_line false 327 1 0 0 ++ totals_line 345 1 1 2 true)
  -- "as `NO 61 345` for case (10)", E plus a byte
  pub longer : (byte : ℕ) → listing_of (E ++ (byte ∷ [])) ≡ refusal_line 61 345
  -- two frames, then a block of five samples: "kind, offset, frames, samples, blocks before", and the totals, trailer first
  pub told_apart : listing_of T ≡ chunk_line true 316 0 0 0 ++ (chunk_line true 325 1 0 0 ++ (chunk_line false 335 2 0 0 ++ totals_line 351 2 1 5 false))
  -- "(at most 65,536 bytes) .. Longer input gives `NO LONG`."
  pub long : (input : List ℕ) → length input ≡ 65537 → listing_of input ≡ long_line
