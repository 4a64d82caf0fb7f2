-- Reads and seeks on every file that has an index: finished, cut at any byte, with bytes after its trailer, with any prelude. The plain machine of
-- such a file, and the claim about every list of calls. Assumes nothing.
use Rattle.std.specs.Prelude.{◌≡◌, ℕ, ◌+◌, ◌<◌, Bool, true, false, not, cond, ◌||◌, List, [], ◌∷◌, eqb, length, take, drop}
use Rattle.error.specs.Refusal.{said}
use Rattle.std.specs.Prelude.{Option, Some, None}
use Rattle.std.proofs.Math.Option.{some}
use Rattle.std.proofs.Math.ListN.{get_elem?}
use Rattle.error.specs.Answer.{refused, numbered}
use Rattle.fields.specs.Le.{Bytes}
use Rattle.prelude.specs.Layout.{prelude_len}
use Rattle.demuxer.specs.Position.{start}
use Rattle.demuxer.specs.Read.{fresh}
use Rattle.demuxer.specs.declared.walker.Walker.{Walker}
use Rattle.walk.specs.Chunks.{Chunk, chunk_of, chunks_bytes}
use Rattle.walk.specs.Walk.{Stop, ran_out, trailer, unknown_tag, Walk, stop, chunk, file_walk}
use Rattle.chunk_index.specs.Index.{recorded, records, index_of}
use Rattle.chunk_index.specs.declared.entry.ChunkIndexEntry.{ChunkIndexEntry}
use Rattle.recording.specs.Grammar.{Finished}
use Rattle.recording.specs.Drain.{drain}
use Rattle.recording.specs.Machine.{Call, read, seek, MachineAnswer, gives, ends, goes, goes_to_end, refuses, MachineStep, machine_step}
use Rattle.recording.specs.Machine.{CallAnswer, answers, after, AllAgree, PacketsLeft, AtChunk, Agreed, OwnIndex}

-- ---- the chunks of a file's walk

-- those whose payload is whole: reads give their packets
unfoldable pub wholes_of : Walk → List Chunk
wholes_of (stop s) = []
wholes_of (chunk kind payload missing rest) = cond (eqb missing 0) (chunk_of kind payload ∷ wholes_of rest) (wholes_of rest)

-- those with a record, each with as much of its payload as is there: seeks look through them
unfoldable pub recorded_of : Walk → List Chunk
recorded_of (stop s) = []
recorded_of (chunk kind payload missing rest) = cond (recorded kind payload missing) (chunk_of kind payload ∷ recorded_of rest) (recorded_of rest)

-- where the walk stops
unfoldable pub stop_of : Walk → Stop
stop_of (stop s) = s
stop_of (chunk kind payload missing rest) = stop_of rest

-- ---- the plain machine of a file

-- Its state is a position among the records or the end: a number, the end being the number of records. A read is 01's plain machine's over the whole
-- chunks, so that at a record whose payload is cut, and at the end, it answers End and stays; a seek is 01's plain machine's over the chunks with a
-- record. Of a finished recording both lists are all its chunks.
unfoldable pub file_step : Walk → ℕ → Call → MachineStep
file_step v k read = machine_step (drain (wholes_of v)) k read
file_step v k (seek stream request) = machine_step (drain (recorded_of v)) k (seek stream request)

unfoldable pub file_says : Walk → ℕ → List Call → List MachineAnswer
file_says v k [] = []
file_says v k (c ∷ cs) = (file_step v k c).says ∷ file_says v (file_step v k c).place cs

unfoldable pub file_after : Walk → ℕ → List Call → ℕ
file_after v k [] = k
file_after v k (c ∷ cs) = file_after v (file_step v k c).place cs

-- ---- the walker's marks, by what the machine says

-- whether it has ended, and whether a read has met what the walk stops at
pub record Marks : Type 0 where
  pub end : Bool
  pub met : Bool

abbrev pub unmarked : Marks
unmarked = record { end = false; met = false }

-- a read that answers End sets end, and looks at what stands there unless the walker had ended; a seek that goes to a record clears end, and one that
-- goes to the end sets it. "Cut and trailer always stay."
abbrev pub marked_by : Marks → MachineAnswer → Marks
marked_by m (gives p) = m
marked_by m ends = record { end = true; met = not m.end || m.met }
marked_by m (goes stamp) = record { end = false; met = m.met }
marked_by m goes_to_end = record { end = true; met = m.met }
marked_by m refuses = m

unfoldable pub marks_after : Marks → List MachineAnswer → Marks
marks_after m [] = m
marks_after m (a ∷ said) = marks_after (marked_by m a) said

-- fewer than 8 bytes, and a chunk that is cut: "set end and cut"
abbrev pub cut_by : Stop → Bool → Bool
cut_by ran_out met = met
cut_by (trailer n) met = false
cut_by unknown_tag met = false

-- the trailer at an offset: "sets end and trailer"
abbrev pub trailer_by : Stop → ℕ → Bool → Option ℕ
trailer_by ran_out at met = None
trailer_by (trailer n) at met = cond met (Some at) None
trailer_by unknown_tag at met = None

-- the walk stops past its whole chunks
pub record Marked (v : Walk) (m : Marks) (w : Walker) : Type 0 where
  pub end_is : w.end ≡ m.end
  pub cut_is : w.cut ≡ cut_by (stop_of v) m.met
  pub trailer_is : w.trailer ≡ trailer_by (stop_of v) (prelude_len + length (chunks_bytes (wholes_of v))) m.met

-- ---- the claim

-- of a list of calls on a file with this walk: of the walker that the last one left ..
pub record LeftAlong (file : List ℕ) (v : Walk) (calls : List Call) (w : Walker) : Type 0 where
  -- the packets left are the drain's from the machine's position
  pub left : PacketsLeft file w (drop (file_after v 0 calls) (drain (wholes_of v)))
  -- at a record the cursor and the three counts are that record's: by the chunks before it, and as it stands in the index
  pub stands : file_after v 0 calls < length (recorded_of v) → AtChunk (recorded_of v) (file_after v 0 calls) w
  pub at_record : (e : ChunkIndexEntry) → get_elem? (records start v) (file_after v 0 calls) ≡ some e → w.position ≡ e.position
  -- end, cut and trailer
  pub marked : Marked v (marks_after unmarked (file_says v 0 calls)) w

-- .. and of the answers that they gave: a read's packet or End, the stamp of the record that a seek goes to, 42 for other streams and no other refusal
pub record AgreedAlong (file : List ℕ) (v : Walk) (calls : List Call) (w : Walker) (said : List CallAnswer) : Type 0 where
  pub agree : AllAgree (file_says v 0 calls) said
  pub leaves : LeftAlong file v calls w

-- of the file's own walk
abbrev pub FileAgreed : List ℕ → List Call → Walker → List CallAnswer → Type 0
FileAgreed file calls w said = AgreedAlong file (file_walk file) calls w said

-- of the calls themselves, from a fresh walker
abbrev pub FileAgreement : List ℕ → List ℕ → List Call → Type 0
FileAgreement file table calls = FileAgreed file calls (after file table fresh calls) (answers file table fresh calls)

-- A file in which something other than a chunk stands at p: its first p bytes have an accepted index, so the claim holds of them, and it is about all
-- chunks before p, each of which is whole and has a record.
pub record BeforeDamage (file : List ℕ) (p : ℕ) : Type 0 where
  pub table : List ℕ
  pub own : OwnIndex (take p file) table
  pub lists : (calls : List Call) → FileAgreement (take p file) table calls
  pub played : wholes_of (file_walk (take p file)) ≡ wholes_of (file_walk file)
  pub sought : recorded_of (file_walk (take p file)) ≡ wholes_of (file_walk file)

pub record IndexedFiles : Type 0 where
  -- ONE claim about every list of reads and seeks from a fresh walker, refused ones included, for EVERY file whose index is accepted, and its own index
  pub lists : (file : List ℕ) → Bytes file → (table : List ℕ) → OwnIndex file table → (calls : List Call) → FileAgreement file table calls
  -- what it says of a finished recording is 01's claim: the walk is all whole chunks
  pub finished : (file : List ℕ) (cs : List Chunk) → Finished file cs → (calls : List Call) (w : Walker) (said : List CallAnswer)
      → FileAgreed file calls w said → Agreed file cs calls w said
  -- and a file that is refused with 31 at p has it up to there
  pub damaged : (file : List ℕ) → Bytes file → (p : ℕ) → index_of file ≡ refused (numbered 31 p) → BeforeDamage file p
