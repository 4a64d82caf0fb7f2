-- The plain machine, and the claim about every list of reads and seeks. Assumes nothing.
use Rattle.std.specs.Prelude.{◌≡◌, ℕ, suc, ◌+◌, ◌<◌, cond, ◌&&◌, List, [], ◌∷◌, leb, eqb, ℤ, pos, length, take, drop}
use Rattle.std.proofs.Math.Option.{Option, none, some}
use Rattle.std.proofs.Math.ListN.{get_elem?}
use Rattle.std.specs.Int.Signed.{le_z}
use Rattle.error.specs.Answer.{Answer, accepted, refused, numbered}
use Rattle.fields.specs.Le.{Bytes}
use Rattle.prelude.specs.Layout.{prelude_len}
use Rattle.demuxer.specs.Packet.{Shown}
use Rattle.demuxer.specs.Read.{ReadAnswer, packet, End, fresh, read_of}
use Rattle.demuxer.specs.declared.walker.Walker.{Walker}
use Rattle.walk.specs.Chunks.{Chunk, chunks_bytes}
use Rattle.chunk_index.specs.Entry.{table_bytes}
use Rattle.chunk_index.specs.Index.{index_of}
use Rattle.chunk_index.specs.declared.entry.ChunkIndexEntry.{ChunkIndexEntry}
use Rattle.seek.specs.Seek.{seek_of}
use Rattle.recording.specs.Grammar.{Finished}
use Rattle.recording.specs.Drain.{drain, frames, samples, blocks}

-- "it is fed each call's kind and, for a seek, its stream and request"
pub data Call : Type 0 where
  read : Call
  seek : ℕ → ℤ → Call

-- what it says of a call: a read gives a packet or End; a seek goes to a chunk, with its stamp, or to the end; or it is refused
pub data MachineAnswer : Type 0 where
  gives : Shown → MachineAnswer
  ends : MachineAnswer
  goes : ℕ → MachineAnswer
  goes_to_end : MachineAnswer
  refuses : MachineAnswer

pub record MachineStep : Type 0 where
  pub says : MachineAnswer
  pub place : ℕ

-- "Its state is a position among the chunks or the end": a number, the end being the number of chunks.
-- "A read moves one on, and stays at the end."
abbrev pub on_read : ℕ → Option Shown → MachineStep
on_read k (some p) = record { says = gives p; place = suc k }
on_read k none = record { says = ends; place = k }

-- "the first chunk of its stream stamped at or after the request, else the end"
unfoldable pub first : ℕ → ℤ → List Shown → ℕ
first stream request [] = 0
first stream request (p ∷ ps) = cond (eqb p.stream stream && le_z request (pos p.stamp)) 0 (suc (first stream request ps))

abbrev pub on_seek : ℕ → Option Shown → MachineStep
on_seek k (some p) = record { says = goes p.stamp; place = k }
on_seek k none = record { says = goes_to_end; place = k }

-- "A seek of a stream other than 0 or 1 is refused; a refused call leaves the position."
unfoldable pub machine_step : List Shown → ℕ → Call → MachineStep
machine_step ps k read = on_read k (get_elem? ps k)
machine_step ps k (seek stream request) =
    cond (leb stream 1) (on_seek (first stream request ps) (get_elem? ps (first stream request ps))) (record { says = refuses; place = k })

unfoldable pub machine_says : List Shown → ℕ → List Call → List MachineAnswer
machine_says ps k [] = []
machine_says ps k (c ∷ cs) = (machine_step ps k c).says ∷ machine_says ps (machine_step ps k c).place cs

unfoldable pub machine_after : List Shown → ℕ → List Call → ℕ
machine_after ps k [] = k
machine_after ps k (c ∷ cs) = machine_after ps (machine_step ps k c).place cs

-- the calls themselves: "each call gets the walker that the last one returned"
pub data CallAnswer : Type 0 where
  read_answer : ReadAnswer → CallAnswer
  seek_answer : Answer ℕ → CallAnswer

pub record CallOutcome : Type 0 where
  pub answer : CallAnswer
  pub walker : Walker

unfoldable pub call : List ℕ → List ℕ → Walker → Call → CallOutcome
call file table w read = record { answer = read_answer (read_of file w).answer; walker = (read_of file w).walker }
call file table w (seek stream request) =
    record { answer = seek_answer (seek_of table w stream request).answer; walker = (seek_of table w stream request).walker }

unfoldable pub answers : List ℕ → List ℕ → Walker → List Call → List CallAnswer
answers file table w [] = []
answers file table w (c ∷ cs) = (call file table w c).answer ∷ answers file table (call file table w c).walker cs

unfoldable pub after : List ℕ → List ℕ → Walker → List Call → Walker
after file table w [] = w
after file table w (c ∷ cs) = after file table (call file table w c).walker cs

-- "Compared: each read's answer .. ; the stamp returned by a seek that goes to a chunk .. ; the refusals, which are 42 for those seeks
-- and no others": a seek to the end is accepted with some stamp
abbrev pub Agrees : MachineAnswer → CallAnswer → Type 0
Agrees (gives p) a = a ≡ read_answer (packet p)
Agrees ends a = a ≡ read_answer End
Agrees (goes stamp) a = a ≡ seek_answer (accepted stamp)
Agrees goes_to_end a = (stamp : ℕ) × (a ≡ seek_answer (accepted stamp))
Agrees refuses a = a ≡ seek_answer (refused (numbered 42 0))

abbrev pub AllAgree : List MachineAnswer → List CallAnswer → Type 0
AllAgree [] [] = Unit
AllAgree [] (a ∷ rest) = ⊥
AllAgree (s ∷ ss) [] = ⊥
AllAgree (s ∷ ss) (a ∷ rest) = Agrees s a × AllAgree ss rest

-- "the packets left (those that reads alone then give until the first End), with stream, payload, stamp and duration"
pub data PacketsLeft (file : List ℕ) : Walker → List Shown → Type 0 where
  none_left : {w : Walker} → (read_of file w).answer ≡ End → PacketsLeft file w []
  one_more : {w : Walker} {p : Shown} {ps : List Shown} → (read_of file w).answer ≡ packet p
      → PacketsLeft file (read_of file w).walker ps → PacketsLeft file w (p ∷ ps)

-- "at a chunk also the cursor and the three counts, which are that chunk's offset and the frames, samples and blocks before it"
pub record AtChunk (cs : List Chunk) (k : ℕ) (w : Walker) : Type 0 where
  pub cursor_is : w.position.cursor ≡ prelude_len + length (chunks_bytes (take k cs))
  pub frames_is : w.position.frames.0 ≡ frames (take k cs)
  pub samples_is : w.position.samples.0 ≡ samples (take k cs)
  pub blocks_is : w.position.blocks.0 ≡ blocks (take k cs)

-- all that 01 compares, for one list of calls: of the answers that they gave, and of the walker that the last one left
pub record Agreed (file : List ℕ) (cs : List Chunk) (calls : List Call) (w : Walker) (said : List CallAnswer) : Type 0 where
  pub agree : AllAgree (machine_says (drain cs) 0 calls) said
  pub left : PacketsLeft file w (drop (machine_after (drain cs) 0 calls) (drain cs))
  pub stands : machine_after (drain cs) 0 calls < length cs → AtChunk cs (machine_after (drain cs) 0 calls) w

-- of the calls themselves, from a fresh walker
abbrev pub Agreement : List ℕ → List Chunk → List ℕ → List Call → Type 0
Agreement file cs table calls = Agreed file cs calls (after file table fresh calls) (answers file table fresh calls)

-- "Its own index is the records, all of them and nothing after, that `build_chunk_index` gives for it."
pub record OwnIndex (file table : List ℕ) : Type 0 where
  pub entries : List ChunkIndexEntry
  pub indexed : index_of file ≡ accepted entries
  pub is : table ≡ table_bytes entries

-- Demand 3 for reads and seeks: ONE claim about every list, for every finished recording and its own index
abbrev pub ReadsAndSeeks : Type 0
ReadsAndSeeks =
    (file : List ℕ) (cs : List Chunk) → Bytes file → Finished file cs → (table : List ℕ) → OwnIndex file table
    → (calls : List Call) → Agreement file cs table calls

-- and every finished recording has an index
abbrev pub HasIndex : Type 0
HasIndex = (file : List ℕ) (cs : List Chunk) → Bytes file → Finished file cs → (table : List ℕ) × OwnIndex file table
