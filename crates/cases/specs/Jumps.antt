-- Reads and jumps on a recording that is cut, call by call: what each answers, the walker that it leaves, and what the machine of the file says of it,
-- written down from the layout of a small recording. recording/Indexed and recording/CutJumps claim it of every file and every list. Assumes nothing.
use Rattle.std.specs.Prelude.{◌≡◌, Bool, true, false, List, [], ◌∷◌, ◌++◌, map, ℕ, pos, negsuc, length, take}
use Rattle.std.specs.Prelude.{Option, Some, None}
use Rattle.error.specs.Answer.{accepted}
use Rattle.chunk.specs.Chunk.{video_tag, audio_tag, trailer_bytes}
use Rattle.prelude.specs.Built.{prelude_bytes}
use Rattle.demuxer.specs.Packet.{Shown}
use Rattle.demuxer.specs.Read.{packet, End, fresh}
use Rattle.demuxer.specs.declared.walker.Walker.{Walker}
use Rattle.walk.specs.Chunks.{Chunk, chunk_of, chunks_bytes}
use Rattle.walk.specs.Walk.{file_walk}
use Rattle.walk.specs.declared.Kind.TheVariants.{Frame, Sound}
use Rattle.chunk_index.specs.Entry.{table_bytes}
use Rattle.chunk_index.specs.Index.{index_of}
use Rattle.chunk_index.specs.declared.entry.ChunkIndexEntry.{ChunkIndexEntry}
use Rattle.finished.specs.Check.{check_of}
use Rattle.recording.specs.Drain.{drain}
use Rattle.recording.specs.Machine.{Call, read, seek, MachineAnswer, gives, ends, goes, goes_to_end, refuses, first, CallAnswer, read_answer, seek_answer}
use Rattle.recording.specs.Machine.{call, OwnIndex}
use Rattle.recording.specs.Indexed.{wholes_of, recorded_of, file_step, Marks, unmarked, marked_by}
use Rattle.recording.specs.CutJumps.{recorded_in}
use Rattle.cases.specs.Cases.{position, first_record, second_record}
use Rattle.cases.specs.Numbers.{no, walker_at, zeroed}
use Rattle.cases.specs.Registers.{marked, picture, sound}

-- ---- a recording

-- E's two chunks, and two more: a frame of 1 byte at 345, a block of 9 bytes with the count 5 at 354. The trailer stands at 371.
abbrev pub last_payload : List ℕ
last_payload = 0 ∷ 0 ∷ 0 ∷ 0 ∷ 5 ∷ 0 ∷ 0 ∷ 0 ∷ 7 ∷ []

abbrev pub chunks : List Chunk
chunks =
    chunk_of Frame (1 ∷ 2 ∷ 3 ∷ []) ∷ chunk_of Sound (0 ∷ 0 ∷ 0 ∷ 0 ∷ 2 ∷ 0 ∷ 0 ∷ 0 ∷ 17 ∷ 34 ∷ []) ∷ chunk_of Frame (4 ∷ [])
    ∷ chunk_of Sound last_payload ∷ []

-- after a prelude of any 316 bytes; with E's it is finished
unfoldable pub after316 : List ℕ → List ℕ
after316 prelude = prelude ++ (chunks_bytes chunks ++ trailer_bytes)

unfoldable pub J : List ℕ
J = after316 (prelude_bytes 8 8 12 0 8000 1)

-- its third and fourth packet, and their records
abbrev pub second_picture : Shown
second_picture = record { stream = 0; payload = 4 ∷ []; stamp = 1; duration = Some 1 }

abbrev pub second_sound : Shown
second_sound = record { stream = 1; payload = last_payload; stamp = 2; duration = Some 5 }

abbrev pub three_records : List ChunkIndexEntry
three_records = first_record ∷ second_record ∷ record { tag = video_tag; position = position 345 1 2 1 } ∷ []

abbrev pub four_records : List ChunkIndexEntry
four_records = three_records ++ (record { tag = audio_tag; position = position 354 2 2 1 } ∷ [])

-- ---- a list of calls

-- a call; what it answers, and the walker that it leaves; what the machine says, where it then stands, and the marks
pub record Row : Type 0 where
  pub made : Call
  pub answer : CallAnswer
  pub walker : Walker
  pub says : MachineAnswer
  pub place : ℕ
  pub marks : Marks

-- each from the walker, the place and the marks that the last one left
unfoldable pub ran : List ℕ → List ℕ → Walker → ℕ → Marks → List Call → List Row
ran file table w k m [] = []
ran file table w k m (c ∷ calls) =
    let o = call file table w c in
    let s = file_step (file_walk file) k c in
    record { made = c; answer = o.answer; walker = o.walker; says = s.says; place = s.place; marks = marked_by m s.says }
    ∷ ran file table o.walker s.place (marked_by m s.says) calls

-- from a fresh walker, with these records
abbrev pub FromFresh : List ℕ → List ChunkIndexEntry → List Row → Type 0
FromFresh file records rows = ran file (table_bytes records) fresh 0 unmarked (map (λ (r : Row). r.made) rows) ≡ rows

-- a row as it should be: the mark end is the walker's; whether a read has met the stop
abbrev pub row : Call → CallAnswer → MachineAnswer → ℕ → Bool → Walker → Row
row made answer says place met w =
    record { made = made; answer = answer; walker = w; says = says; place = place; marks = record { end = w.end; met = met } }

abbrev pub gave : Shown → ℕ → Bool → Walker → Row
gave p place met w = row read (read_answer (packet p)) (gives p) place met w

abbrev pub ended : ℕ → Bool → Walker → Row
ended place met w = row read (read_answer End) ends place met w

abbrev pub unlike : Walker → ℕ → Bool → Row
unlike w place met = row (seek 2 (pos 0)) (seek_answer (no 42 0)) refuses place met w

pub record Jumps : Type 0 where
  -- J is finished, and its own index has four records: cut to 370 bytes, where the last block lacks one, too; cut to 369, where it lacks two, three
  pub finished : check_of J ≡ accepted (record { frames = 2; blocks = 2; samples = 7; trailer = 371; paired = true })
  pub whole_index : OwnIndex J (table_bytes four_records)
  pub cut_index : OwnIndex (take 370 J) (table_bytes four_records)
  pub shorter_index : OwnIndex (take 369 J) (table_bytes three_records)
  -- Cut to 370 bytes. Sound 1 is the block that is cut: its stamp; End there, with cut, and once more; back to picture 1, cut stays; its packet, and
  -- End at the block; no stream 2; sound 3 is the end, past the last record; End; the first picture
  pub cut :
      FromFresh (take 370 J) four_records
      (row (seek 1 (pos 1)) (seek_answer (accepted 2)) (goes 2) 3 false (walker_at 354 2 2 1)
      ∷ ended 3 true (marked true true None (walker_at 354 2 2 1))
      ∷ ended 3 true (marked true true None (walker_at 354 2 2 1))
      ∷ row (seek 0 (pos 1)) (seek_answer (accepted 1)) (goes 1) 2 true (marked false true None (walker_at 345 1 2 1))
      ∷ gave second_picture 3 true (marked false true None (walker_at 354 2 2 1))
      ∷ ended 3 true (marked true true None (walker_at 354 2 2 1))
      ∷ unlike (marked true true None (walker_at 354 2 2 1)) 3 true
      ∷ row (seek 1 (pos 3)) (seek_answer (accepted 2)) goes_to_end 4 true (marked true true None (walker_at 362 2 2 2))
      ∷ ended 4 true (marked true true None (walker_at 362 2 2 2))
      ∷ row (seek 0 (negsuc 0)) (seek_answer (accepted 0)) (goes 0) 0 true (marked false true None (walker_at 316 0 0 0)) ∷ [])
  -- a jump to the end looks at nothing: the End after it is not the file's, and cut is not set
  pub sent :
      FromFresh (take 370 J) four_records
      (row (seek 0 (pos 2)) (seek_answer (accepted 2)) goes_to_end 4 false (marked true false None (walker_at 362 2 2 2))
      ∷ ended 4 false (marked true false None (walker_at 362 2 2 2)) ∷ [])
  -- Cut to 369 bytes the last block has no record: sound 1 is the end, and after the packets End is there
  pub shorter :
      FromFresh (take 369 J) three_records
      (row (seek 1 (pos 1)) (seek_answer (accepted 2)) goes_to_end 3 false (marked true false None (walker_at 353 2 2 1))
      ∷ row (seek 1 (pos 0)) (seek_answer (accepted 0)) (goes 0) 1 false (walker_at 327 1 0 0)
      ∷ gave sound 2 false (walker_at 345 1 2 1) ∷ gave second_picture 3 false (walker_at 354 2 2 1)
      ∷ ended 3 true (marked true true None (walker_at 354 2 2 1)) ∷ [])
  -- a frame that is cut has a record and no packet
  pub cut_frame :
      FromFresh (take 353 J) three_records
      (row (seek 0 (pos 1)) (seek_answer (accepted 1)) (goes 1) 2 false (walker_at 345 1 2 1)
      ∷ ended 2 true (marked true true None (walker_at 345 1 2 1)) ∷ [])
  -- The whole of it: sound 1 in the same place, with the same stamp; its packet; the trailer, which stays met; cut is never set
  pub whole :
      FromFresh J four_records
      (row (seek 1 (pos 1)) (seek_answer (accepted 2)) (goes 2) 3 false (walker_at 354 2 2 1)
      ∷ gave second_sound 4 false (walker_at 371 2 7 2) ∷ ended 4 true (marked true false (Some 371) (walker_at 371 2 7 2))
      ∷ row (seek 0 (pos 1)) (seek_answer (accepted 1)) (goes 1) 2 true (marked false false (Some 371) (walker_at 345 1 2 1)) ∷ [])
  -- any prelude, here of zeros, and any bytes after the trailer
  pub any_prelude :
      FromFresh (after316 (zeroed 316) ++ zeroed 9) four_records
      (gave picture 1 false (walker_at 327 1 0 0)
      ∷ row (seek 1 (pos 1)) (seek_answer (accepted 2)) (goes 2) 3 false (walker_at 354 2 2 1)
      ∷ gave second_sound 4 false (walker_at 371 2 7 2) ∷ ended 4 true (marked true false (Some 371) (walker_at 371 2 7 2)) ∷ [])
  -- no record, and fewer than 316 bytes: the end is where a fresh walker stands
  pub empty :
      FromFresh [] []
      (row (seek 0 (pos 0)) (seek_answer (accepted 0)) goes_to_end 0 false (marked true false None fresh)
      ∷ ended 0 false (marked true false None fresh) ∷ [])
  pub empty_read : FromFresh [] [] (ended 0 true (marked true true None fresh) ∷ [])
  -- in the cut file a jump goes to the chunk to which it goes in the whole, where this has a record there, else to the end
  pub goes_there : (first 1 (pos 1) (drain chunks) ≡ 3) × (first 1 (pos 1) (drain (recorded_in J 370)) ≡ 3) × (length (recorded_in J 370) ≡ 4)
  pub goes_to_end_lem : (first 1 (pos 1) (drain (recorded_in J 369)) ≡ 3) × (length (recorded_in J 369) ≡ 3)
  -- a file that is refused with 31 at 354: what stands before it are its first three chunks, whole
  pub damaged : index_of (take 354 J ++ zeroed 8) ≡ no 31 354
  pub before : (wholes_of (file_walk (take 354 J ++ zeroed 8)) ≡ take 3 chunks) × (recorded_of (file_walk (take 354 J)) ≡ take 3 chunks)
