-- Where a walk can stand: the position after a chunk is walked where the one before it was, and its header stood within the limit; within
-- the limit it is in every range.
-- Assumes nothing.
use mathlib.Core.Path.{◌≡◌, refl}
use mathlib.Core.Bool.{Bool, true, false, cond}
use mathlib.Core.List.{List}
use Prim.Native.Nat.{ℕ, ◌+◌, ◌*◌, ◌≤◌}
use native.Mathlib.Omega.{arith}
use borrow.Author.Tests.{leb-true}
use lib.Dec.{leb}
use lib.ListN.{length, length-take}
use Rattle.fields.specs.Capped.{u32_max}
use Rattle.chunk.specs.Chunk.{payload_limit}
use Rattle.fields.specs.File.{file_limit}
use Rattle.fields.specs.Le.{le, Bytes}
use Rattle.fields.proofs.Laws.{le-lt, bytes_drop, bytes_take}
use Rattle.demuxer.specs.Head.{count_of}
use Rattle.demuxer.specs.Position.{start, InRange, past_frame, past_sound}
use Rattle.demuxer.specs.Read.{payload_at}
use Rattle.demuxer.specs.declared.position.Position.{Position}
use Rattle.demuxer.proofs.Bodies.{count-is}
use Rattle.walk.specs.Steps.{past_at, Walked}
use Rattle.walk.specs.Walk.{past_by}
use Rattle.walk.specs.declared.ChunkAt.{ChunkAt}
use Rattle.walk.specs.declared.Kind.{Kind}
use Rattle.walk.specs.declared.Kind.TheVariants.{Frame, Sound}
use Rattle.walk.proofs.Walks.{Goes}

pub walked_start : Walked start
walked_start = record { cursor_le = omega arith; chunks_le = omega arith; samples_le = omega arith }

-- a count that is not 0 stands in a payload of 8 bytes
pub count_small : (payload : List ℕ) (size : ℕ) → length payload ≤ size → count_of payload ≤ u32_max → 16 * count_of payload ≤ u32_max * (8 + size)
count_small payload size l h = go (leb 8 (length payload)) refl (count-is payload)
  where
    go : (b : Bool) → leb 8 (length payload) ≡ b → count_of payload ≡ cond b (le 4 payload 4) 0 → 16 * count_of payload ≤ u32_max * (8 + size)
    go true t e = let m = leb-true 8 (length payload) t in omega arith
    go false t e = omega arith

-- within the limit every count is in its range
pub walked_range : (p : Position) → Walked p → p.cursor ≤ file_limit → InRange p
walked_range p w l =
    record {
      cursor_in = omega arith;
      frames_in = omega (arith, w.chunks_le);
      samples_in = omega (arith, w.samples_le);
      blocks_in = omega (arith, w.chunks_le);
    }

module _ (p : Position) (w : Walked p) (l : p.cursor + 8 ≤ file_limit) where
  pub walked_frame : (size : ℕ) → size ≤ payload_limit → Walked (past_frame p size)
  walked_frame size b = record { cursor_le = omega arith; chunks_le = omega (arith, w.chunks_le); samples_le = omega (arith, w.samples_le) }

  pub walked_sound : (size count : ℕ) → size ≤ payload_limit → 16 * count ≤ u32_max * (8 + size) → Walked (past_sound p size count)
  walked_sound size count b n =
      record { cursor_le = omega arith; chunks_le = omega (arith, w.chunks_le); samples_le = omega (arith, w.samples_le) }

-- a count is a u32
count_held : (payload : List ℕ) → Bytes payload → count_of payload ≤ u32_max
count_held payload b = rw (count-is payload) (go (leb 8 (length payload)))
  where
    go : (t : Bool) → cond t (le 4 payload 4) 0 ≤ u32_max
    go true = omega (arith, le-lt 4 payload 4 b)
    go false = omega arith

-- past a chunk of a file of bytes
pub walked_past : (file : List ℕ) (p : Position) (c : ChunkAt) → Bytes file → length file ≤ file_limit → Goes file p.cursor c
    → Walked p → Walked (past_at file p c)
walked_past file p c b l g w = go c.kind
  where
    payload : List ℕ
    payload = payload_at file p.cursor c.size

    held : c.size ≤ payload_limit
    held = omega (arith, g.size-at, le-lt 4 file (p.cursor + 4) b)

    inside : p.cursor + 8 ≤ file_limit
    inside = omega (arith, g.there)

    go : (kind : Kind) → Walked (past_by p kind c.size (count_of payload))
    go Frame = walked_frame p w inside c.size held
    go Sound =
        let few = count_held payload (bytes_take c.size _ (bytes_drop (p.cursor + 8) file b)) in
        walked_sound p w inside c.size (count_of payload) held (count_small payload c.size (simp length-take (omega arith)) few)
