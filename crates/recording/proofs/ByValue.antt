-- The calls by value are 01's calls by their contracts, with the state itself for the one that it stands for. Assumes nothing.
use mathlib.Core.Path.{◌≡◌, refl, ap}
use mathlib.Core.List.{List}
use Prim.Native.Nat.{ℕ}
use lib.ListN.{take}
use Rattle.demuxer.specs.declared.walker.Walker.{Walker}
use Rattle.muxer.specs.declared.Writer.{Writer}
use Rattle.recording.specs.Machine.{read_answer, seek_answer, call}
use Rattle.recording.specs.Lists.{Calling, Writing}
use Rattle.recording.specs.ByValue.{WalkerStep, reads, seeks, WriterStep, writes, ByValue}
use Rattle.recording.proofs.Runs.{every_list}

calling : (file table : List ℕ) → Calling (λ (v w : Walker). v ≡ w) (WalkerStep file table) file table
unfolding call
calling file table s c answer next w i (reads r h) = rw (← i) (ap (λ q. read_answer q.answer) h, ap (λ q. q.walker) h)
calling file table s c answer next w i (seeks r h) = rw (← i) (ap (λ q. seek_answer q.answer) h, ap (λ q. q.walker) h)

writing : Writing (λ (v w : Writer). v ≡ w) WriterStep
writing s c answer next w i (writes r after m) = rw (← i) (m.answer, (m.writer, m.buffer))

pub by_value : ByValue
by_value =
    record {
      same_calls = λ file table calls said last ran. every_list.same_calls _ _ file table (calling file table) _ calls said last refl ran;
      reads_and_seeks = λ file cs all fin table own calls said last ran.
          let a = every_list.reads_and_seeks _ _ file cs all fin table own (calling file table) _ calls said last refl ran in
          rw a.1.0 a.1.1;
      indexed = λ file all table own calls said last ran.
          let a = every_list.indexed _ _ file all table own (calling file table) _ calls said last refl ran in
          rw a.1.0 a.1.1;
      cut = λ file cs all fin n short table. every_list.cut _ _ file cs all fin n short table (calling (take n file) table) _ refl;
      writes = λ s held buf calls said last ran.
          let a = every_list.writes _ _ writing s held _ calls said last refl ran in
          rw a.1.0 a.1.1;
    }
