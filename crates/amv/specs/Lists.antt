-- Lists of the methods of the reader and of the writer, and demand 3 of what they return and leave. Assumes nothing.
use Rattle.std.specs.Prelude.{◌≡◌, ℕ, ◌<◌, List, ℤ, length, take, Result, Option}
use Rattle.error.specs.declared.AmvError.{AmvError}
use Rattle.demuxer.specs.declared.packet.Packet.{Packet}
use Rattle.std.specs.Borrow.{Bor}
use Rattle.error.specs.Answer.{Answer}
use Rattle.error.specs.Refusal.{said}
use Rattle.fields.specs.Le.{Bytes}
use Rattle.demuxer.specs.Read.{said_next}
use Rattle.demuxer.specs.Read as demuxer
use Rattle.demuxer.specs.declared.walker.Walker.{Walker}
use Rattle.muxer.specs.Writer.{fresh}
use Rattle.muxer.specs.declared.Settings.{Settings}
use Rattle.walk.specs.Chunks.{Chunk}
use Rattle.recording.specs.Grammar.{Finished}
use Rattle.recording.specs.Machine.{Call, read, seek, CallAnswer, read_answer, seek_answer, answers, after, Agreed, OwnIndex}
use Rattle.recording.specs.Indexed.{FileAgreed}
use Rattle.recording.specs.WriteLists.{WriteCall, write_step, Held, WritesAgreed}
use Rattle.recording.specs.Lists.{CallsRan, DrainsCut, Lent, accepted_by}
use Rattle.amv.specs.Reader.{opened, ReadsNext, Seeks}
use Rattle.amv.specs.Writer.{MuxerWrites}
use Rattle.amv.specs.declared.reader.AmvDemuxer.{AmvDemuxer}
use Rattle.amv.specs.declared.writer.AmvMuxer.{AmvMuxer}

-- one method of the reader, by its contract; a seek over the same records each time
pub data DemuxerStep (table : List ℕ) : AmvDemuxer → Call → CallAnswer → AmvDemuxer → Type 0 where
  reads : {d next : AmvDemuxer} (answer : Result (Option Packet) AmvError) → ReadsNext d answer next
      → DemuxerStep table d read (read_answer (said_next d.file.now answer)) next
  seeks : {d next : AmvDemuxer} {stream : ℕ} {request : ℤ} (result : Result ℕ AmvError) → Seeks d table stream request result next
      → DemuxerStep table d (seek stream request) (seek_answer (said result)) next

-- one of the writer
pub data MuxerStep : Lent AmvMuxer → WriteCall → Answer Unit → Lent AmvMuxer → Type 0 where
  writes : {s next : Lent AmvMuxer} {c : WriteCall} (result : Result Unit AmvError)
      → MuxerWrites (write_step s.state.writer s.buffer c) result next.state next.buffer → MuxerStep s c (said result) next

-- Of the methods, from a reader and a writer as `new` gives them: that they are 01's calls, demand 3, and every file whose index is accepted
pub record ThroughMethods : Type 0 where
  pub same_calls : (file : Bor (List ℕ)) (table : List ℕ) (calls : List Call) (said : List CallAnswer) (last : AmvDemuxer)
      → CallsRan (DemuxerStep table) (opened file) calls said last
      → (said ≡ answers file.now table demuxer.fresh calls) × (last.walker ≡ after file.now table demuxer.fresh calls)
  pub reads_and_seeks : (file : Bor (List ℕ)) (cs : List Chunk) → Bytes file.now → Finished file.now cs
      → (table : List ℕ) → OwnIndex file.now table
      → (calls : List Call) (said : List CallAnswer) (last : AmvDemuxer) → CallsRan (DemuxerStep table) (opened file) calls said last
      → Agreed file.now cs calls last.walker said
  pub indexed : (file : Bor (List ℕ)) → Bytes file.now → (table : List ℕ) → OwnIndex file.now table
      → (calls : List Call) (said : List CallAnswer) (last : AmvDemuxer) → CallsRan (DemuxerStep table) (opened file) calls said last
      → FileAgreed file.now calls last.walker said
  -- of a reader that was opened on the first n bytes of a finished recording, fewer than it has (02, M-107)
  pub cut : (whole : List ℕ) (cs : List Chunk) → Bytes whole → Finished whole cs → (n : ℕ) → n < length whole
      → (file : Bor (List ℕ)) → file.now ≡ take n whole → (table : List ℕ)
      → DrainsCut (λ (last : AmvDemuxer) (w : Walker). last.walker ≡ w) (DemuxerStep table) (opened file) cs n
  pub writing : (s : Settings) → Held s → (m : AmvMuxer) → m.writer ≡ fresh s
      → (buf : List ℕ) (calls : List WriteCall) (said : List (Answer Unit)) (last : Lent AmvMuxer)
      → CallsRan MuxerStep (record { state = m; buffer = buf }) calls said last
      → WritesAgreed s (take last.state.writer.written last.buffer) (accepted_by calls said)
