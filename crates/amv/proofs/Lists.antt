-- The methods are 01's calls by their contracts: a reader stands for its walker as long as it holds the file, and a writer for its state.
-- Assumes nothing.
use mathlib.Core.Path.{◌≡◌, refl, ap, subst}
use Prim.Native.Nat.{ℕ}
use mathlib.Core.List.{List}
use denote.Ref.{Bor}
use Rattle.demuxer.specs.Read.{Reading}
use Rattle.demuxer.specs.declared.walker.Walker.{Walker}
use Rattle.seek.specs.Seek.{Seeking}
use Rattle.muxer.specs.declared.Writer.{Writer}
use Rattle.recording.specs.Machine.{read_answer, seek_answer, call}
use Rattle.recording.specs.Lists.{Calling, Writing}
use Rattle.recording.proofs.Runs.{every_list}
use Rattle.amv.specs.Lists.{DemuxerStep, reads, seeks, MuxerStep, writes, ThroughMethods}
use Rattle.amv.specs.declared.reader.AmvDemuxer.{AmvDemuxer}
use Rattle.amv.specs.declared.writer.AmvMuxer.{AmvMuxer}

abbrev Stands : Bor (List ℕ) → AmvDemuxer → Walker → Type 0
Stands file d w = (d.file ≡ file) × (d.walker ≡ w)

calling : (file : Bor (List ℕ)) (table : List ℕ) → Calling (Stands file) (DemuxerStep table) file.now table
unfolding call
calling file table d c answer next w (f, e) (reads a h) =
    rw (← f, ← e) (ap (λ (q : Reading). read_answer q.answer) h.0, (h.2, ap (λ (q : Reading). q.walker) h.0))
calling file table d c answer next w (f, e) (seeks a h) =
    rw (← f, ← e) (ap (λ (q : Seeking). seek_answer q.answer) h.0, (h.1, ap (λ (q : Seeking). q.walker) h.0))

writing : Writing (λ (m : AmvMuxer) (w : Writer). m.writer ≡ w) MuxerStep
writing s c answer next w e (writes result m) = rw (← e) (m.answer, (m.writer, m.buffer))

pub through_methods : ThroughMethods
through_methods =
    record {
      same_calls = λ file table calls said last ran.
          let a = every_list.same_calls (Stands file) (DemuxerStep table) file.now table (calling file table) _ calls said last (refl, refl) ran in
          (a.0, a.1.1);
      reads_and_seeks = λ file cs all fin table own calls said last ran.
          let a =
          every_list.reads_and_seeks (Stands file) (DemuxerStep table) file.now cs all fin table own (calling file table) _
          calls said last (refl, refl) ran in
          rw a.1.0.1 a.1.1;
      indexed = λ file all table own calls said last ran.
          let a =
          every_list.indexed (Stands file) (DemuxerStep table) file.now all table own (calling file table) _ calls said last (refl, refl) ran in
          rw a.1.0.1 a.1.1;
      cut = λ whole cs all fin n short file is table said last ran.
          let a =
          every_list.cut (Stands file) (DemuxerStep table) whole cs all fin n short table
          (subst (λ (l : List ℕ). Calling (Stands file) (DemuxerStep table) l table) is (calling file table)) _ (refl, refl) said last ran in
          (a.0, a.1.1);
      writing = λ s held m new buf calls said last ran.
          let a = every_list.writes _ MuxerStep writing s held _ calls said last new ran in
          rw a.1.0 a.1.1;
    }
