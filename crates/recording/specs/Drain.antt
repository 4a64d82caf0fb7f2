-- The full drain. Assumes nothing.
use Rattle.std.specs.Prelude.{ℕ, suc, ◌+◌, List, [], ◌∷◌}
use Rattle.std.specs.Prelude.{Some}
use Rattle.demuxer.specs.Head.{count_of}
use Rattle.demuxer.specs.Packet.{Shown, packet_duration}
use Rattle.walk.specs.Chunks.{Chunk, chunk_of}
use Rattle.walk.specs.declared.Kind.TheVariants.{Frame, Sound}

-- "one packet for each chunk, in order, with its stream and payload; a frame has duration 1 and is stamped with the frames before it;
-- sound has its count as duration, 0 shown as none, and is stamped with the sum of the counts of sound before it"
unfoldable pub drain_from : ℕ → ℕ → List Chunk → List Shown
drain_from frames samples [] = []
drain_from frames samples (chunk_of Frame payload ∷ cs) =
    record { stream = 0; payload = payload; stamp = frames; duration = Some 1 } ∷ drain_from (frames + 1) samples cs
drain_from frames samples (chunk_of Sound payload ∷ cs) =
    record { stream = 1; payload = payload; stamp = samples; duration = (packet_duration (count_of payload)) }
    ∷ drain_from frames (samples + count_of payload) cs

abbrev pub drain : List Chunk → List Shown
drain cs = drain_from 0 0 cs

-- the frames, samples and blocks of some chunks
unfoldable pub frames : List Chunk → ℕ
frames [] = 0
frames (chunk_of Frame payload ∷ cs) = suc (frames cs)
frames (chunk_of Sound payload ∷ cs) = frames cs

unfoldable pub samples : List Chunk → ℕ
samples [] = 0
samples (chunk_of Frame payload ∷ cs) = samples cs
samples (chunk_of Sound payload ∷ cs) = count_of payload + samples cs

unfoldable pub blocks : List Chunk → ℕ
blocks [] = 0
blocks (chunk_of Frame payload ∷ cs) = blocks cs
blocks (chunk_of Sound payload ∷ cs) = suc (blocks cs)
