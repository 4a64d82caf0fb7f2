-- The walk over the chunks of a file, defined once: index, summary and check are folds of it. Assumes nothing.
use Rattle.std.specs.Prelude.{ℕ, zero, suc, ◌+◌, ◌-◌, Bool, true, false, List, length}
use Rattle.chunk.specs.Chunk.{video_tag, audio_tag, advance_total}
use Rattle.prelude.specs.Layout.{prelude_len}
use Rattle.demuxer.specs.Head.{head_at, count_of}
use Rattle.demuxer.specs.Position.{past_frame, past_sound}
use Rattle.demuxer.specs.Read.{payload_at}
use Rattle.demuxer.specs.declared.head.Head.{Head}
use Rattle.demuxer.specs.declared.head.Head.TheVariants as head
use Rattle.demuxer.specs.declared.position.Position.{Position}
use Rattle.walk.specs.declared.Kind.{Kind}
use Rattle.walk.specs.declared.Kind.TheVariants.{Frame, Sound}
use Rattle.walk.specs.declared.ChunkAt.{ChunkAt}
use Rattle.walk.specs.declared.Step.{Step}
use Rattle.walk.specs.declared.Step.TheVariants as step

-- the two tags: frames and sound
abbrev pub kind_tag : Kind → ℕ
kind_tag Frame = video_tag
kind_tag Sound = audio_tag

abbrev pub is_frame : Kind → Bool
is_frame Frame = true
is_frame Sound = false

-- a chunk of a kind and a length at an offset, and how many bytes of its payload the file does not have
abbrev pub chunk_at : List ℕ → ℕ → Kind → ℕ → ChunkAt
chunk_at file at kind size = record { kind = kind; size = size; missing = size - length (payload_at file at size) }

-- a walk stops at fewer than 8 bytes, at the trailer, at an unknown tag; else it goes past a chunk
abbrev pub on_head : List ℕ → ℕ → Head → Step
on_head file at head.Short = step.RanOut
on_head file at head.Trailer = step.Trailer
on_head file at head.Unknown = step.UnknownTag
on_head file at (head.Video size) = step.Chunk (chunk_at file at Frame size)
on_head file at (head.Audio size) = step.Chunk (chunk_at file at Sound size)

-- one step, by what stands at an offset
unfoldable pub step_at : List ℕ → ℕ → Step
step_at file at = on_head file at (head_at file at)

-- where it stops: the trailer has so many bytes after it
pub data Stop : Type 0 where
  ran_out : Stop
  trailer : ℕ → Stop
  unknown_tag : Stop

-- a walk is its chunks, each with its kind, the bytes of its payload that are there and how many are missing, and where it stops
pub data Walk : Type 0 where
  stop : Stop → Walk
  chunk : Kind → List ℕ → ℕ → Walk → Walk

-- a step, and the walk from the next offset
abbrev pub on_step : List ℕ → ℕ → (ℕ → Walk) → Step → Walk
on_step file at rest step.RanOut = stop ran_out
on_step file at rest step.Trailer = stop (trailer (length file - (at + 8)))
on_step file at rest step.UnknownTag = stop unknown_tag
on_step file at rest (step.Chunk c) = chunk c.kind (payload_at file at c.size) c.missing (rest (at + advance_total c.size))

-- at most so many chunks from an offset
unfoldable pub walk_for : ℕ → List ℕ → ℕ → Walk
walk_for zero file at = stop ran_out
walk_for (suc n) file at = on_step file at (walk_for n file) (step_at file at)

-- every chunk takes 8 bytes at least, so there are fewer of them than bytes
unfoldable pub walk : List ℕ → ℕ → Walk
walk file at = walk_for (length file) file at

-- 01: "walks from 316"
abbrev pub file_walk : List ℕ → Walk
file_walk file = walk file prelude_len

-- past a chunk of a kind, a length and a sample count, which a frame does not have
abbrev pub past_by : Position → Kind → ℕ → ℕ → Position
past_by p Frame size count = past_frame p size
past_by p Sound size count = past_sound p size count

-- past a chunk of a walk: by its length, be the payload there or not
abbrev pub past : Position → Kind → List ℕ → ℕ → Position
past p kind payload missing = past_by p kind (length payload + missing) (count_of payload)
