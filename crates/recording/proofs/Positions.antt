-- Where a walker stands after k chunks. Assumes nothing.
use mathlib.Core.Path.{◌≡◌, refl, sym, ap, ◌∙◌}
use mathlib.Core.List.{List, [], ◌∷◌}
use Rattle.std.specs.Prelude.{Some}
use Prim.Native.Nat.{ℕ, zero, suc, ◌+◌}
use native.Mathlib.Omega.{arith}
use lib.ListN.{length, take, length-append}
use Rattle.demuxer.specs.Head.{count_of}
use Rattle.demuxer.specs.Packet.{Shown, packet_duration}
use Rattle.demuxer.specs.Position.{past_frame, past_sound}
use Rattle.demuxer.specs.declared.position.Position.{Position}
use Rattle.walk.specs.declared.Kind.{Kind}
use Rattle.walk.specs.declared.Kind.TheVariants.{Frame, Sound}
use Rattle.walk.specs.Chunks.{Chunk, chunk_of, chunk_bytes, chunks_bytes}
use Rattle.walk.specs.Walk.{past_by}
use Rattle.walk.proofs.Chunked.{length-chunk}
use Rattle.recording.specs.Drain.{drain_from, frames, samples, blocks}

-- past a whole chunk
abbrev pub passed : Position → Kind → List ℕ → Position
passed p Frame payload = past_frame p (length payload)
passed p Sound payload = past_sound p (length payload) (count_of payload)

-- which is past one of its length and count
pub past-passed : (p : Position) (kind : Kind) (payload : List ℕ) {size : ℕ} → length payload ≡ size
    → past_by p kind size (count_of payload) ≡ passed p kind payload
past-passed p Frame payload e = ap (past_frame p) (sym e)
past-passed p Sound payload e = ap (λ (n : ℕ). past_sound p n (count_of payload)) (sym e)

-- the packet of a chunk that stands at a position
abbrev pub shown_at : Position → Kind → List ℕ → Shown
shown_at p Frame payload = record { stream = 0; payload = payload; stamp = p.frames.0; duration = Some 1 }
shown_at p Sound payload = record { stream = 1; payload = payload; stamp = p.samples.0; duration = (packet_duration (count_of payload)) }

-- past k chunks
unfoldable pub position_at : Position → ℕ → List Chunk → Position
position_at p zero cs = p
position_at p (suc k) [] = p
position_at p (suc k) (chunk_of kind payload ∷ cs) = position_at (passed p kind payload) k cs

-- the packets from a position on
abbrev pub drain_at : Position → List Chunk → List Shown
drain_at p cs = drain_from p.frames.0 p.samples.0 cs

pub drain-cons : (p : Position) (kind : Kind) (payload : List ℕ) (cs : List Chunk)
    → drain_at p (chunk_of kind payload ∷ cs) ≡ shown_at p kind payload ∷ drain_at (passed p kind payload) cs
unfolding drain_from
drain-cons p Frame payload cs = refl
drain-cons p Sound payload cs = refl

pub length-drain : (p : Position) (cs : List Chunk) → length (drain_at p cs) ≡ length cs
length-drain p [] = unfold drain_from in refl
length-drain p (chunk_of kind payload ∷ cs) = ap length (drain-cons p kind payload cs) ∙ ap suc (length-drain (passed p kind payload) cs)

-- what is counted on the way from p to q
pub record Counted (p q : Position) (done : List Chunk) : Type 0 where
  pub cursor_is : q.cursor ≡ p.cursor + length (chunks_bytes done)
  pub frames_is : q.frames.0 ≡ p.frames.0 + frames done
  pub samples_is : q.samples.0 ≡ p.samples.0 + samples done
  pub blocks_is : q.blocks.0 ≡ p.blocks.0 + blocks done

pub counted : (p : Position) (k : ℕ) (cs : List Chunk) → Counted p (position_at p k cs) (take k cs)
unfolding position_at chunks_bytes frames samples blocks
counted p zero cs = omega arith
counted p (suc k) [] = omega arith
counted p (suc k) (chunk_of Frame payload ∷ cs) =
    let l = length-append (chunk_bytes (chunk_of Frame payload)) (chunks_bytes (take k cs)) in
    omega (arith, counted (passed p Frame payload) k cs, length-chunk Frame payload)
counted p (suc k) (chunk_of Sound payload ∷ cs) =
    let l = length-append (chunk_bytes (chunk_of Sound payload)) (chunks_bytes (take k cs)) in
    omega (arith, counted (passed p Sound payload) k cs, length-chunk Sound payload)
