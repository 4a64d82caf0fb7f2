-- Reads and seeks on a finished recording that was cut, against the whole of it: a jump to a picture that survived shows the picture, the sound and
-- the clock that the whole recording would have shown. Assumes nothing.
use Rattle.std.specs.Prelude.{◌≡◌, ℕ, suc, ◌-◌, ◌≤◌, ◌<◌, min, List, [], ◌∷◌, ℤ, length, take, drop}
use Rattle.error.specs.Refusal.{said}
use Rattle.std.proofs.Math.Option.{some}
use Rattle.std.proofs.Math.ListN.{get_elem?}
use Rattle.error.specs.Answer.{accepted}
use Rattle.fields.specs.Le.{Bytes}
use Rattle.demuxer.specs.Packet.{Shown}
use Rattle.demuxer.specs.Read.{packet, End, refused, fresh}
use Rattle.walk.specs.Chunks.{Chunk}
use Rattle.walk.specs.Walk.{file_walk}
use Rattle.seek.specs.Seek.{Seeking, seek_of}
use Rattle.recording.specs.Grammar.{Finished}
use Rattle.recording.specs.Drain.{drain}
use Rattle.recording.specs.Machine.{Call, first, CallAnswer, read_answer, seek_answer, answers, after, PacketsLeft, OwnIndex}
use Rattle.recording.specs.Indexed.{recorded_of}
use Rattle.recording.specs.Cut.{survivors}

-- ---- packets

-- a call on the cut file that gives a packet gives one of the full drain, with the same stream, payload, stamp and duration: number k, which survives
abbrev pub FromWhole : List Chunk → ℕ → CallAnswer → Type 0
FromWhole cs n (read_answer (packet p)) = (k : ℕ) × (k < length (survivors n cs)) × (get_elem? (drain cs) k ≡ some p)
FromWhole cs n (read_answer End) = Unit
FromWhole cs n (read_answer (refused r)) = ⊥
FromWhole cs n (seek_answer a) = Unit

abbrev pub AllFromWhole : List Chunk → ℕ → List CallAnswer → Type 0
AllFromWhole cs n [] = Unit
AllFromWhole cs n (a ∷ said) = FromWhole cs n a × AllFromWhole cs n said

-- ---- jumps

-- the chunks that have a record in the first n bytes of a file
abbrev pub recorded_in : List ℕ → ℕ → List Chunk
recorded_in file n = recorded_of (file_walk (take n file))

-- a seek on the cut file and one on the whole, both of which go to chunk number k
pub record SameJump (file : List ℕ) (cs : List Chunk) (n k : ℕ) (cut whole : Seeking) : Type 0 where
  -- both answer that chunk's stamp
  pub stamp : (p : Shown) → get_elem? (drain cs) k ≡ some p → (cut.answer ≡ accepted p.stamp) × (whole.answer ≡ accepted p.stamp)
  -- cursor, frames, samples and blocks are the same
  pub position : cut.walker.position ≡ whole.walker.position
  -- reads give the packets from there on: of the cut file those that survive, which are the first ones of the whole
  pub whole_left : PacketsLeft file whole.walker (drop k (drain cs))
  pub cut_left : PacketsLeft (take n file) cut.walker (drop k (survivors n cs))
  pub first_ones : drop k (survivors n cs) ≡ take (length (survivors n cs) - k) (drop k (drain cs))

-- ---- the claim, for every finished recording and every length that it is cut to

pub record CutAgainstWhole : Type 0 where
  -- every list of calls, with the cut file's own index
  pub packets : (file : List ℕ) (cs : List Chunk) → Bytes file → Finished file cs → (n : ℕ) → n < length file
      → (table : List ℕ) → OwnIndex (take n file) table → (calls : List Call) → AllFromWhole cs n (answers (take n file) table fresh calls)
  -- the chunks with a record are those that survive and perhaps the one that is cut
  pub one_more : (file : List ℕ) (cs : List Chunk) → Bytes file → Finished file cs → (n : ℕ) → n < length file
      → (length (survivors n cs) ≤ length (recorded_in file n)) × (length (recorded_in file n) ≤ suc (length (survivors n cs)))
  -- in the cut file a seek goes to the chunk to which it goes in the whole, where this has a record there, else to the end
  pub same_chunk : (file : List ℕ) (cs : List Chunk) → Finished file cs → (n : ℕ) → n < length file → (stream : ℕ) (request : ℤ)
      → first stream request (drain (recorded_in file n)) ≡ min (first stream request (drain cs)) (length (recorded_in file n))
  -- so after any calls on the cut file and any others on the whole, each with its own index, a seek to such a chunk is the same in both
  pub jumps : (file : List ℕ) (cs : List Chunk) → Bytes file → Finished file cs → (n : ℕ) → n < length file
      → (table : List ℕ) → OwnIndex (take n file) table → (calls : List Call)
      → (full : List ℕ) → OwnIndex file full → (others : List Call)
      → (stream : ℕ) → stream ≤ 1 → (request : ℤ) → first stream request (drain cs) < length (recorded_in file n)
      → SameJump file cs n (first stream request (drain cs)) (seek_of table (after (take n file) table fresh calls) stream request)
      (seek_of full (after file full fresh others) stream request)
