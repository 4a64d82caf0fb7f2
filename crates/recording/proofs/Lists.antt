-- Every list of reads and seeks on a finished recording answers as the plain machine: its walk is all whole chunks, each of which has a record, so the
-- machine of the file is the plain one, and this is what is claimed of every file that has an index. Assumes nothing.
use mathlib.Core.Path.{◌≡◌, refl, ap, ◌∙◌, subst}
use Rattle.error.specs.Refusal.{said}
use mathlib.Core.List.{List, [], ◌∷◌}
use Prim.Native.Nat.{ℕ, ◌<◌}
use lib.ListN.{length, drop}
use Rattle.demuxer.specs.Position.{start}
use Rattle.demuxer.specs.declared.walker.Walker.{Walker}
use Rattle.walk.specs.Chunks.{Chunk, walk_of}
use Rattle.walk.specs.Walk.{Walk}
use Rattle.chunk_index.specs.Entry.{table_bytes}
use Rattle.recording.specs.Grammar.{Finished}
use Rattle.recording.specs.Drain.{drain}
use Rattle.recording.specs.Machine.{Call, read, seek, MachineAnswer, MachineStep, machine_step, machine_says, machine_after, CallAnswer, AllAgree}
use Rattle.recording.specs.Machine.{PacketsLeft, AtChunk, Agreed, ReadsAndSeeks, HasIndex}
use Rattle.recording.specs.Indexed.{file_step, file_says, file_after, LeftAlong, AgreedAlong, FileAgreed, IndexedFiles}
use Rattle.recording.proofs.Tables.{records_of, finished-walk, index-finished}
use Rattle.recording.proofs.Drains.{all_whole}
use Rattle.recording.proofs.Recorded.{all_recorded}
use Rattle.recording.proofs.Indexed.{lists}
use Rattle.recording.proofs.Damaged.{damaged}

module _ (cs : List Chunk) (n : ℕ) where
  -- the machine of these chunks and a trailer
  pub plain_step : (k : ℕ) (c : Call) → file_step (walk_of cs n) k c ≡ machine_step (drain cs) k c
  unfolding file_step
  plain_step k read = ap (λ (ws : List Chunk). machine_step (drain ws) k read) (all_whole cs n)
  plain_step k (seek stream request) = ap (λ (rs : List Chunk). machine_step (drain rs) k (seek stream request)) (all_recorded cs n)

  plain_says : (k : ℕ) (calls : List Call) → file_says (walk_of cs n) k calls ≡ machine_says (drain cs) k calls
  unfolding file_says machine_says
  plain_says k [] = refl
  plain_says k (c ∷ calls) =
      ap (λ (s : MachineStep). s.says ∷ file_says (walk_of cs n) s.place calls) (plain_step k c)
      ∙ ap (λ (said : List MachineAnswer). (machine_step (drain cs) k c).says ∷ said) (plain_says (machine_step (drain cs) k c).place calls)

  pub plain_after : (k : ℕ) (calls : List Call) → file_after (walk_of cs n) k calls ≡ machine_after (drain cs) k calls
  unfolding file_after machine_after
  plain_after k [] = refl
  plain_after k (c ∷ calls) =
      ap (λ (s : MachineStep). file_after (walk_of cs n) s.place calls) (plain_step k c) ∙ plain_after (machine_step (drain cs) k c).place calls

module _ (file : List ℕ) (cs : List Chunk) where
  -- what is left, by the chunks
  pub left-finished : {calls : List Call} {w : Walker} → LeftAlong file (walk_of cs 0) calls w
      → PacketsLeft file w (drop (machine_after (drain cs) 0 calls) (drain cs))
      × (machine_after (drain cs) 0 calls < length cs → AtChunk cs (machine_after (drain cs) 0 calls) w)
  left-finished {calls} {w} a =
      let place = plain_after cs 0 0 calls in (
        subst (PacketsLeft file w) (λ i. drop (place i) (drain (all_whole cs 0 i))) a.left,
        subst (λ (k : ℕ). k < length cs → AtChunk cs k w) place
            (subst (λ (rs : List Chunk). file_after (walk_of cs 0) 0 calls < length rs → AtChunk rs (file_after (walk_of cs 0) 0 calls) w)
            (all_recorded cs 0) a.stands),
      )

  along : {calls : List Call} {w : Walker} {said : List CallAnswer} → AgreedAlong file (walk_of cs 0) calls w said → Agreed file cs calls w said
  along {calls} {said = said} a =
      let l = left-finished a.leaves in
      record {
        agree = subst (λ (says : List MachineAnswer). AllAgree says said) (plain_says cs 0 0 calls) a.agree;
        left = l.0;
        stands = l.1;
      }

  pub finished : Finished file cs → (calls : List Call) (w : Walker) (said : List CallAnswer) → FileAgreed file calls w said → Agreed file cs calls w said
  finished fin calls w said a = along (subst (λ (v : Walk). AgreedAlong file v calls w said) (finished-walk file cs fin) a)

pub reads_and_seeks : ReadsAndSeeks
reads_and_seeks file cs all fin table own calls = finished file cs fin calls _ _ (lists file all table own calls)

pub has_index : HasIndex
has_index file cs all fin = (table_bytes (records_of start cs), record { entries = records_of start cs; indexed = index-finished file cs fin; is = refl })

pub indexed_files : IndexedFiles
indexed_files = record { lists = lists; finished = finished; damaged = damaged }
