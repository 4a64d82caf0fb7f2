-- The interleave check, position by position: what is left to ask from one position on is that of its chunk, and then what is left from the next.
-- Assumes nothing.
use mathlib.Core.Path.{◌≡◌}
use mathlib.Core.List.{List}
use Prim.Native.Nat.{ℕ, ◌+◌, ◌<◌, ◌≤◌}
use native.Mathlib.Omega.{arith}
use native.Mathlib.Numerals.{add-one}
use lib.ListN.{length, drop, get_or}
use lib.Seq.{drop-cons, drop-length}
use Rattle.error.specs.Answer.{accepted, ask, and_then}
use Rattle.chunk.specs.Chunk.{kind_of}
use Rattle.chunk.specs.Interleave.{interleave_at, interleave_from, even}

pub interleave_next : (tags : List ℕ) (i : ℕ) → i < length tags
    → interleave_from i (drop i tags) ≡ and_then (interleave_at (kind_of (get_or tags i 0)) i) (λ _. interleave_from (i + 1) (drop (i + 1) tags))
unfolding interleave_from
interleave_next tags i h = rw (add-one, drop-cons tags i 0)

-- past the last position only the parity of the count is left
pub interleave-end : (tags : List ℕ) (i : ℕ) → i ≤ length tags → length tags ≤ i → interleave_from i (drop i tags) ≡ ask (even (length tags)) 65 (length tags) (accepted tt)
unfolding interleave_from
interleave-end tags i h k = let e : i ≡ length tags = omega arith in rw (e, drop-length)
