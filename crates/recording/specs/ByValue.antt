-- Lists of the calls that get a state by value and return the next one, by what their functions' contracts say. Assumes nothing.
use Rattle.std.specs.Prelude.{◌≡◌, ℕ, ◌<◌, List, ℤ, length, take}
use Rattle.error.specs.Answer.{Answer}
use Rattle.error.specs.Refusal.{said}
use Rattle.fields.specs.Le.{Bytes}
use Rattle.demuxer.specs.Read.{said_next, said_read, read_of}
use Rattle.demuxer.specs.Read as demuxer
use Rattle.demuxer.specs.declared.walker.Read.{Read}
use Rattle.demuxer.specs.declared.walker.Walker.{Walker}
use Rattle.seek.specs.Seek.{said_seek_outcome, seek_of}
use Rattle.seek.specs.declared.SeekOutcome.{SeekOutcome}
use Rattle.muxer.specs.Writer.{MeetsOutcome}
use Rattle.muxer.specs.Writer as muxer
use Rattle.muxer.specs.declared.Settings.{Settings}
use Rattle.muxer.specs.declared.Writer.{Writer}
use Rattle.muxer.specs.declared.Wrote.{Wrote}
use Rattle.walk.specs.Chunks.{Chunk}
use Rattle.recording.specs.Grammar.{Finished}
use Rattle.recording.specs.Machine.{Call, read, seek, CallAnswer, read_answer, seek_answer, answers, after, Agreed, OwnIndex}
use Rattle.recording.specs.Indexed.{FileAgreed}
use Rattle.recording.specs.WriteLists.{WriteCall, write_step, Held, WritesAgreed}
use Rattle.recording.specs.Lists.{CallsRan, DrainsCut, Lent, accepted_by}

-- `next_packet` and `seek_to_via_index`
pub data WalkerStep (file table : List ℕ) : Walker → Call → CallAnswer → Walker → Type 0 where
  reads : {w : Walker} (r : Read) → said_read file r ≡ read_of file w
      → WalkerStep file table w read (read_answer (said_next file r.answer)) r.walker
  seeks : {w : Walker} {stream : ℕ} {request : ℤ} (r : SeekOutcome) → said_seek_outcome r ≡ seek_of table w stream request
      → WalkerStep file table w (seek stream request) (seek_answer (said r.result)) r.walker

-- `write_header`, `write_packet` and `write_trailer`
pub data WriterStep : Lent Writer → WriteCall → Answer Unit → Lent Writer → Type 0 where
  writes : {s : Lent Writer} {c : WriteCall} (r : Wrote) (after : List ℕ) → MeetsOutcome (write_step s.state s.buffer c) r after
      → WriterStep s c (said r.result) (record { state = r.writer; buffer = after })

-- Of these calls, from fresh states: that they are 01's, demand 3, every file whose index is accepted, and 02's M-107 of reads
pub record ByValue : Type 0 where
  pub same_calls : (file table : List ℕ) (calls : List Call) (said : List CallAnswer) (last : Walker)
      → CallsRan (WalkerStep file table) demuxer.fresh calls said last
      → (said ≡ answers file table demuxer.fresh calls) × (last ≡ after file table demuxer.fresh calls)
  pub reads_and_seeks : (file : List ℕ) (cs : List Chunk) → Bytes file → Finished file cs → (table : List ℕ) → OwnIndex file table
      → (calls : List Call) (said : List CallAnswer) (last : Walker) → CallsRan (WalkerStep file table) demuxer.fresh calls said last
      → Agreed file cs calls last said
  pub indexed : (file : List ℕ) → Bytes file → (table : List ℕ) → OwnIndex file table
      → (calls : List Call) (said : List CallAnswer) (last : Walker) → CallsRan (WalkerStep file table) demuxer.fresh calls said last
      → FileAgreed file calls last said
  pub cut : (file : List ℕ) (cs : List Chunk) → Bytes file → Finished file cs → (n : ℕ) → n < length file → (table : List ℕ)
      → DrainsCut (λ (last w : Walker). last ≡ w) (WalkerStep (take n file) table) demuxer.fresh cs n
  pub writes : (s : Settings) → Held s → (buf : List ℕ) (calls : List WriteCall) (said : List (Answer Unit)) (last : Lent Writer)
      → CallsRan WriterStep (record { state = muxer.fresh s; buffer = buf }) calls said last
      → WritesAgreed s (take last.state.written last.buffer) (accepted_by calls said)
