-- A refused call leaves every word and byte as it was. Assumes nothing.
use mathlib.Core.Path.{◌≡◌, refl, ap, ◌∙◌}
use Rattle.std.proofs.Common.{Option}
use Prim.Native.Nat.{ℕ, ◌*◌}
use mathlib.Core.List.{List}
use lib.Dec.{leb}
use lib.IntN.{ℤ}
use lib.ListN.{length}
use Rattle.error.proofs.Answers.{never}
use Rattle.error.specs.Answer.{Answer, accepted, refused, ask, and_then}
use Rattle.error.specs.declared.Refusal.{Refusal}
use Rattle.demuxer.specs.Read.{ReadAnswer, End}
use Rattle.demuxer.specs.Read as read
use Rattle.demuxer.proofs.Outcomes.{refused-stays}
use Rattle.demuxer.specs.declared.walker.Walker.{Walker}
use Rattle.chunk_index.specs.Entry.{entry_len}
use Rattle.chunk_index.specs.Index.{index_of, built_from, build_of}
use Rattle.chunk_index.specs.declared.entry.ChunkIndexEntry.{ChunkIndexEntry}
use Rattle.seek.specs.Seek.{seek_of}
use Rattle.seek.proofs.Sentences.{seek_sentences}
use Rattle.muxer.proofs.Writes.{header_refused, packet-refused, trailer-refused}
use Rattle.muxer.specs.declared.Writer.{Writer}
use Rattle.page.specs.Page.{print_of}
use Rattle.page.proofs.Sentences.{page_sentences}
use Rattle.sound.specs.Sound.{decode_of}
use Rattle.sound.proofs.Sentences.{sound_sentences}
use Rattle.recording.specs.Machine.{Call}
use Rattle.recording.specs.WriteLists.{WriteCall, header, packet, trailer, write_step}
use Rattle.registers.specs.Registers.{command_in, stepped_from, step_of}
use Rattle.words.specs.Out.{given, checked, unless_refused, shown_words, read_words}
use Rattle.words.specs.State.{walker_of, walker_words, writer_of, writer_words}
use Rattle.words.proofs.States.{words_stand}
use Rattle.capi.specs.Calls.{single, next_answer, next_walker, seek_answer, seek_walker, step_answer, step_walker}
use Rattle.capi.specs.Lists.{step}
use Rattle.capi.specs.Refusals.{RefusalsKeep}

-- ---- the calls

index_keeps : (file table : List ℕ) (r : Refusal) → given single (build_of file table).answer ≡ refused r → (build_of file table).table ≡ table
unfolding build_of
index_keeps file table r = go (and_then (index_of file) (λ es. ask (leb (entry_len * length es) (length table)) 40 0 (accepted es)))
  where
    go : (a : Answer (List ChunkIndexEntry)) → given single (built_from table a).answer ≡ refused r → (built_from table a).table ≡ table
    go (accepted es) h = never h
    go (refused q) h = refl

-- a count that was refused
count-refused : (a : Answer ℕ) (r : Refusal) → given single a ≡ refused r → a ≡ refused r
count-refused (accepted n) r h = never h
count-refused (refused q) r h = cc

-- a read
as_read : Answer (List ℕ) → ReadAnswer
as_read (accepted words) = End
as_read (refused r) = read.refused r

read_refused : (w : Walker) (a : ReadAnswer) {r : Refusal} → read_words w a ≡ refused r → a ≡ read.refused r
unfolding as_read
read_refused w (read.packet p) h = never h
read_refused w End h = never h
read_refused w (read.refused q) h = ap as_read h

seek_keeps : (table : List ℕ) (stream : ℕ) (request : ℤ) (w : Walker) (r : Refusal) → seek_answer table stream request w ≡ refused r
    → seek_walker table stream request w ≡ w
seek_keeps table stream request w r h = seek_sentences.gives_back table stream request w r (count-refused (seek_of table w stream request).answer r h)

-- a step: once its command is taken from the block it is accepted
step_keeps : (file table block : List ℕ) (w : Walker) (r : Refusal) → step_answer file table block w ≡ refused r
    → ((step_of file table w block).walker ≡ w) × ((step_of file table w block).block ≡ block)
unfolding step_of
step_keeps file table block w r = go (command_in block)
  where
    go : (a : Answer (Option Call)) → given (shown_words w) (stepped_from file table w block a).answer ≡ refused r
        → ((stepped_from file table w block a).walker ≡ w) × ((stepped_from file table w block a).block ≡ block)
    go (accepted c) h = never h
    go (refused q) h = (refl, refl)

-- a writing call
as_check : Answer (List ℕ) → Answer Unit
as_check (accepted words) = accepted tt
as_check (refused r) = refused r

check-refused : (a : Answer Unit) {r : Refusal} → checked a ≡ refused r → a ≡ refused r
unfolding as_check
check-refused (accepted u) h = never h
check-refused (refused q) h = ap as_check h

write_keeps : (w : Writer) (buf : List ℕ) (r : Refusal) (c : WriteCall) → checked (write_step w buf c).answer ≡ refused r
    → ((write_step w buf c).writer ≡ w) × ((write_step w buf c).buffer ≡ buf)
unfolding write_step
write_keeps w buf r header h = header_refused w buf (check-refused _ h)
write_keeps w buf r (packet payload stream) h = packet-refused w payload stream buf (check-refused _ h)
write_keeps w buf r trailer h = trailer-refused w buf (check-refused _ h)

-- ---- through words

walker_keeps : (ws : List ℕ) (answer : Walker → Answer (List ℕ)) (next : Walker → Walker) (r : Refusal) → length ws ≡ 7
    → ((w : Walker) → answer w ≡ refused r → next w ≡ w) → (d : Answer Walker) → walker_of ws ≡ d → and_then d answer ≡ refused r
    → unless_refused ws d (λ w. walker_words (next w)) ≡ ws
walker_keeps ws answer next r l k (refused q) e h = refl
walker_keeps ws answer next r l k (accepted w) e h = ap walker_words (k w h) ∙ words_stand.walker_kept ws w l e

block_keeps : (block : List ℕ) (answer : Walker → Answer (List ℕ)) (after : Walker → List ℕ) (r : Refusal)
    → ((w : Walker) → answer w ≡ refused r → after w ≡ block) → (d : Answer Walker) → and_then d answer ≡ refused r
    → unless_refused block d after ≡ block
block_keeps block answer after r k (refused q) h = refl
block_keeps block answer after r k (accepted w) h = k w h

writer_keeps : (buf ws : List ℕ) (c : WriteCall) (r : Refusal) → length ws ≡ 9 → (d : Answer Writer) → writer_of ws ≡ d
    → and_then d (λ w. checked (step buf c w).answer) ≡ refused r
    → (unless_refused ws d (λ w. writer_words (step buf c w).writer) ≡ ws) × (unless_refused buf d (λ w. (step buf c w).buffer) ≡ buf)
writer_keeps buf ws c r l (refused q) e h = (refl, refl)
writer_keeps buf ws c r l (accepted w) e h =
    let k = write_keeps w buf r c h in
    (ap writer_words k.0 ∙ words_stand.writer_kept ws w l e, k.1)

pub refusals_keep : RefusalsKeep
refusals_keep =
    record {
      index = index_keeps;
      page = λ table page r h. page_sentences.gives_back table page r (count-refused (print_of table page).answer r h);
      samples = λ block samples r h. sound_sentences.gives_back block samples r (count-refused (decode_of block samples).answer r h);
      next = λ file ws r l h. walker_keeps ws (next_answer file) (next_walker file) r l (λ w h. refused-stays file w (read_refused w _ h)) (walker_of ws) refl h;
      seek =
          λ table ws stream request r l h.
          walker_keeps ws (seek_answer table stream request) (seek_walker table stream request) r l (λ w. seek_keeps table stream request w r)
          (walker_of ws) refl h;
      write = λ buf ws c r l h. writer_keeps buf ws c r l (writer_of ws) refl h;
      step =
          λ file table ws block r l h. (
            walker_keeps ws (step_answer file table block) (step_walker file table block) r l (λ w h. (step_keeps file table block w r h).0) (walker_of ws) refl h,
            block_keeps block (step_answer file table block) (λ w. (step_of file table w block).block) r (λ w h. (step_keeps file table block w r h).1)
                (walker_of ws) h,
          );
    }
