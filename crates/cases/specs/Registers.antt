-- Document 02's register block: steps with the answer, the walker and all 16 bytes written out. Assumes nothing.
use Rattle.std.specs.Prelude.{◌≡◌, Bool, true, false, List, [], ◌∷◌, ◌++◌, ℕ, ◌+◌, length, take}
use Rattle.std.specs.Prelude.{Option, Some, None}
use Rattle.error.specs.Answer.{accepted}
use Rattle.fields.specs.Le.{put}
use Rattle.chunk.specs.Chunk.{video_tag, audio_tag}
use Rattle.demuxer.specs.Packet.{Shown}
use Rattle.demuxer.specs.Read.{fresh}
use Rattle.demuxer.specs.declared.walker.Walker.{Walker}
use Rattle.chunk_index.specs.Entry.{table_bytes}
use Rattle.registers.specs.Registers.{Stepping, step_of}
use Rattle.cases.specs.Cases.{position, own_index}
use Rattle.cases.specs.Example.{E}
use Rattle.cases.specs.Numbers.{no, then, walker_at, record_of, zeroed, T}
use Rattle.cases.specs.Orders.{farther}

-- the 16 bytes: command, status, enable, pending, acknowledge, refusal, the two free ones, which are 60 and 70, and the eight of the request
abbrev pub registers : ℕ → ℕ → ℕ → ℕ → ℕ → ℕ → List ℕ → List ℕ
registers command status enable pending acknowledge refusal request =
    command ∷ status ∷ enable ∷ pending ∷ acknowledge ∷ refusal ∷ 60 ∷ 70 ∷ request

-- a request whose eight bytes differ, far above every stamp here; one of a single byte; and a number of eight with its bytes
abbrev pub asked : List ℕ
asked = 80 ∷ 81 ∷ 82 ∷ 83 ∷ 84 ∷ 85 ∷ 86 ∷ 87 ∷ []

abbrev pub small : ℕ → List ℕ
small n = n ∷ zeroed 7

abbrev pub wide : ℕ
wide = 0x0807060504030201

abbrev pub wide_bytes : List ℕ
wide_bytes = 1 ∷ 2 ∷ 3 ∷ 4 ∷ 5 ∷ 6 ∷ 7 ∷ 8 ∷ []

-- what an accepted step gives and leaves, and what a refused one does
abbrev pub leaves : Option Shown → Walker → List ℕ → Stepping
leaves p w block = record { answer = accepted p; walker = w; block = block }

abbrev pub refuses : ℕ → Walker → List ℕ → Stepping
refuses number w block = record { answer = no number 0; walker = w; block = block }

-- a walker with end, cut and trailer
abbrev pub marked : Bool → Bool → Option ℕ → Walker → Walker
marked end cut trailer w = record { position = w.position; end = end; cut = cut; trailer = trailer }

-- E's two packets, and the block of T as a walker that has counted `wide` samples meets it
abbrev pub picture : Shown
picture = record { stream = 0; payload = 1 ∷ 2 ∷ 3 ∷ []; stamp = 0; duration = Some 1 }

abbrev pub sound : Shown
sound = record { stream = 1; payload = 0 ∷ 0 ∷ 0 ∷ 0 ∷ 2 ∷ 0 ∷ 0 ∷ 0 ∷ 17 ∷ 34 ∷ []; stamp = 0; duration = Some 2 }

abbrev pub late : Shown
late = record { stream = 1; payload = 0 ∷ 0 ∷ 0 ∷ 0 ∷ 5 ∷ 0 ∷ 0 ∷ 0 ∷ []; stamp = wide; duration = Some 5 }

-- a table of a frame and a block, every count another number
abbrev pub counted : List ℕ
counted =
    table_bytes
    (record { tag = video_tag; position = position 316 20 30 40 } ∷ record { tag = audio_tag; position = position 327 21 31 41 } ∷ [])

-- a turn: what the controller writes into the block, a command, an acknowledge, and a request or nothing there; and what the step then does
pub record Turn : Type 0 where
  pub command : ℕ
  pub acknowledge : ℕ
  pub request : List ℕ
  pub outcome : Stepping

abbrev pub turn : ℕ → ℕ → List ℕ → Stepping → Turn
turn command acknowledge request outcome = record { command = command; acknowledge = acknowledge; request = request; outcome = outcome }

abbrev pub written : Turn → List ℕ → List ℕ
written t block = put (put (put block 0 (t.command ∷ [])) 4 (t.acknowledge ∷ [])) 8 t.request

-- a list of turns, each with the walker and the block that the last one left
abbrev pub Turns : List ℕ → List ℕ → Walker → List ℕ → List Turn → Type 0
Turns file table w block [] = Unit
Turns file table w block (t ∷ ts) =
    (step_of file table w (written t block) ≡ t.outcome) × Turns file table t.outcome.walker t.outcome.block ts

-- the block after the command 0 with a walker at the end, by the four registers that bits go through; and as it should be
abbrev pub idle : ℕ → ℕ → ℕ → ℕ → List ℕ
idle status enable pending acknowledge =
    (step_of [] [] (marked true false None fresh) (registers 0 status enable pending acknowledge 50 asked)).block

abbrev pub idled : ℕ → ℕ → List ℕ
idled enable pending = registers 0 2 enable pending 0 0 asked

pub record Registers : Type 0 where
  -- "block not 16 bytes, 74, first", whatever file, table and walker are
  pub seventy_four_0 : (file table : List ℕ) (w : Walker) → step_of file table w [] ≡ refuses 74 w []
  pub seventy_four_15 : (file table : List ℕ) (w : Walker) (block : List ℕ) → length block ≡ 15 → step_of file table w block ≡ refuses 74 w block
  pub seventy_four_17 : (file table : List ℕ) (w : Walker) (block : List ℕ) → length block ≡ 17 → step_of file table w block ≡ refuses 74 w block
  pub seventy_four_not : step_of [] [] fresh (zeroed 16) ≡ leaves None fresh (zeroed 16)
  -- "command above 3, 75, second. These two alone refuse the step, and change no byte"
  pub seventy_five_4 : (file table : List ℕ) (w : Walker)
      → step_of file table w (registers 4 10 20 30 40 50 asked) ≡ refuses 75 w (registers 4 10 20 30 40 50 asked)
  pub seventy_five_255 : (file table : List ℕ) (w : Walker)
      → step_of file table w (registers 255 10 20 30 40 50 asked) ≡ refuses 75 w (registers 255 10 20 30 40 50 asked)
  pub seventy_five_not :
      step_of [] [] fresh (registers 3 0 0 0 0 50 asked) ≡ leaves None (marked true false None fresh) (registers 0 2 0 0 0 0 (zeroed 8))
  -- 74, then 75, then what a read or a seek asks
  pub length_first : (step_of [] (0 ∷ []) farther (registers 4 10 20 30 40 50 asked ++ (88 ∷ []))).answer ≡ no 74 0
  pub command_second : (step_of [] (0 ∷ []) farther (registers 4 10 20 30 40 50 asked)).answer ≡ no 75 0
  -- "The controller drives the player": E with its own index, bits 0 and 1 enabled. "Bit 0 is set exactly when this step's read gave a packet,
  -- which the step then returns beside the walker". To the picture at -5; its packet; the sound's, with bit 0 acknowledged, which was 1 and does
  -- not rise; the trailer; End again; the sound at 1, which is case (7); nothing; back to the picture, where the mark end goes
  pub played :
      Turns E own_index fresh (registers 0 0xf0 3 0 0 50 asked)
      (turn 2 0 (0xfb ∷ 0xff ∷ 0xff ∷ 0xff ∷ 0xff ∷ 0xff ∷ 0xff ∷ 0xff ∷ []) (leaves None fresh (registers 0 0 3 0 0 0 (zeroed 8)))
      ∷ turn 1 0 asked (leaves (Some picture) (walker_at 327 1 0 0) (registers 0 1 3 1 0 0 (zeroed 8)))
      ∷ turn 1 1 asked (leaves (Some sound) (walker_at 345 1 2 1) (registers 0 1 3 0 0 0 (zeroed 8)))
      ∷ turn 1 0 asked (leaves None (marked true false (Some 345) (walker_at 345 1 2 1)) (registers 0 2 3 2 0 0 asked))
      ∷ turn 1 0 [] (leaves None (marked true false (Some 345) (walker_at 345 1 2 1)) (registers 0 2 3 2 0 0 asked))
      ∷ turn 3 2 (small 1) (leaves None (marked true false (Some 345) (walker_at 335 1 0 1)) (registers 0 2 3 0 0 0 (zeroed 8)))
      ∷ turn 0 0 asked (leaves None (marked true false (Some 345) (walker_at 335 1 0 1)) (registers 0 2 3 0 0 0 asked))
      ∷ turn 2 0 (small 0) (leaves None (marked false false (Some 345) fresh) (registers 0 0 3 0 0 0 (zeroed 8))) ∷ [])
  -- "bits 1 and 2 are the walker's marks": E cut to 344, where its block is cut; back to the picture, which leaves the mark cut
  pub cut :
      Turns (take 344 E) own_index fresh (registers 0 0 6 0 0 0 asked)
      (turn 1 0 asked (leaves (Some picture) (walker_at 327 1 0 0) (registers 0 1 6 0 0 0 (zeroed 8)))
      ∷ turn 1 0 asked (leaves None (marked true true None (walker_at 327 1 0 0)) (registers 0 6 6 6 0 0 asked))
      ∷ turn 2 2 (small 0) (leaves None (marked false true None fresh) (registers 0 4 6 4 0 0 (zeroed 8)))
      ∷ turn 1 0 asked (leaves (Some picture) (marked false true None (walker_at 327 1 0 0)) (registers 0 5 6 4 0 0 (zeroed 8))) ∷ [])
  -- "where only its read or seek is refused, the step itself is accepted and the walker stays". "Byte 5 is this step's refusal number, 0 if none."
  -- A read by a walker out of range, with a table of a byte; seeks with it, where bit 3 was 1 and does not rise; nothing, where it falls
  pub refused :
      Turns [] (0 ∷ []) farther (registers 0 0 8 0 0 0 asked)
      (turn 1 0 [] (leaves None farther (registers 0 8 8 8 0 32 asked)) ∷ turn 2 8 [] (leaves None farther (registers 0 8 8 0 0 41 asked))
      ∷ turn 3 0 [] (leaves None farther (registers 0 8 8 0 0 41 asked)) ∷ turn 0 0 [] (leaves None farther (registers 0 0 8 0 0 0 asked)) ∷ [])
  pub refused_tag : step_of (then (zeroed 8)) [] fresh (registers 1 0 8 0 0 0 asked) ≡ leaves None fresh (registers 0 8 8 8 0 31 asked)
  pub refused_record : step_of [] (zeroed 24) fresh (registers 3 0 8 0 0 0 asked) ≡ leaves None fresh (registers 0 8 8 8 0 43 asked)
  pub refused_seek : step_of [] own_index farther (registers 2 0 8 0 0 0 asked) ≡ leaves None farther (registers 0 8 8 8 0 32 asked)
  -- a read asks nothing about the table, a seek nothing about the file, and the command 0 nothing at all
  pub any_table : (table : List ℕ)
      → step_of E table fresh (registers 1 0 1 0 0 0 asked) ≡ leaves (Some picture) (walker_at 327 1 0 0) (registers 0 1 1 1 0 0 (zeroed 8))
  pub any_file : (file : List ℕ)
      → step_of file own_index fresh (registers 3 0 1 0 0 0 (small 0)) ≡ leaves None (walker_at 327 1 0 0) (registers 0 0 1 0 0 0 (zeroed 8))
  pub any_both : (file table : List ℕ) → step_of file table farther (registers 0 8 8 0 0 32 asked) ≡ leaves None farther (registers 0 0 8 0 0 0 asked)
  -- "Bytes 2, 6 and 7 are never changed. .. after a read that gave a packet or an accepted seek they hold its stamp, else they stay": every
  -- register another number. A packet, read by a walker with the mark cut; seeks to the end and to a chunk, where bit 2 is acknowledged and rises
  -- in one step; a read that is refused, with both marks; nothing, with both
  pub apart_read :
      step_of T [] (marked false true None (walker_at 335 2 wide 4)) (registers 1 0x54 0xa7 0x30 0x60 50 asked)
      ≡ leaves (Some late) (marked false true None (walker_at 351 2 (wide + 5) 5)) (registers 0 5 0xa7 0x11 0 0 wide_bytes)
  pub apart_picture :
      step_of [] counted (marked true true (Some 9) (walker_at 10 11 12 13)) (registers 2 0x52 0x2f 0x84 0x14 50 asked)
      ≡ leaves None (marked true true (Some 9) (walker_at 335 21 31 42)) (registers 0 6 0x2f 0x84 0 0 (small 21))
  pub apart_sound :
      step_of [] counted (marked true true (Some 9) (walker_at 10 11 12 13)) (registers 3 0x52 0x2f 0x84 0x14 50 (small 30))
      ≡ leaves None (marked false true (Some 9) (walker_at 327 21 31 41)) (registers 0 4 0x2f 0x84 0 0 (small 31))
  pub apart_refused :
      step_of T counted (marked true true None farther) (registers 1 0x55 0xa7 0x30 0x60 50 asked)
      ≡ leaves None (marked true true None farther) (registers 0 14 0xa7 0x12 0 32 asked)
  pub apart_none :
      step_of T counted (marked true true None farther) (registers 0 0x55 0xa7 0x30 0x60 50 asked)
      ≡ leaves None (marked true true None farther) (registers 0 6 0xa7 0x12 0 0 asked)
  -- "makes pending each enabled bit that went from 0 in the old byte 1 to 1": it rises; rises and is pending; is not enabled; was 1;
  -- and all eight fall
  pub raised : idle 0xfd 2 0 0 ≡ idled 2 2
  pub raised_pending : idle 0 2 2 0 ≡ idled 2 2
  pub raised_not : idle 0 0xfd 0 0 ≡ idled 0xfd 0
  pub stayed : idle 2 0xff 0 0 ≡ idled 0xff 0
  pub fell : (step_of [] [] fresh (registers 0 0xff 0xff 0 0 50 asked)).block ≡ registers 0 0 0xff 0 0 0 asked
  -- "A step clears in byte 3 each bit set in byte 4": none; one; all, of which one rises; some, and bits 4 to 7 are cleared and never raised
  pub kept : idle 0xff 0xff 0xa5 0 ≡ idled 0xff 0xa5
  pub acknowledged : idle 2 0xff 0xff 2 ≡ idled 0xff 0xfd
  pub acknowledged_raised : idle 0 2 0xff 0xff ≡ idled 2 2
  pub high : idle 0 0xff 0xf5 0x5a ≡ idled 0xff 0xa7
  -- "the signed request, little-endian": at the stamp, a little above it, the least and the greatest
  pub request_at :
      step_of [] (record_of audio_tag wide) fresh (registers 3 0 0 0 0 0 wide_bytes) ≡ leaves None (walker_at 316 0 wide 0) (registers 0 0 0 0 0 0 wide_bytes)
  pub request_above :
      step_of [] (record_of audio_tag wide) fresh (registers 3 0 0 0 0 0 (2 ∷ 2 ∷ 3 ∷ 4 ∷ 5 ∷ 6 ∷ 7 ∷ 8 ∷ []))
      ≡ leaves None (marked true false None (walker_at 324 0 wide 1)) (registers 0 2 0 0 0 0 wide_bytes)
  pub request_least :
      step_of [] (record_of audio_tag 0) fresh (registers 3 0 0 0 0 0 (0 ∷ 0 ∷ 0 ∷ 0 ∷ 0 ∷ 0 ∷ 0 ∷ 0x80 ∷ []))
      ≡ leaves None fresh (registers 0 0 0 0 0 0 (zeroed 8))
  pub request_greatest :
      step_of [] (record_of audio_tag 0) fresh (registers 3 0 0 0 0 0 (0xff ∷ 0xff ∷ 0xff ∷ 0xff ∷ 0xff ∷ 0xff ∷ 0xff ∷ 0x7f ∷ []))
      ≡ leaves None (marked true false None (walker_at 324 0 0 1)) (registers 0 2 0 0 0 0 (zeroed 8))
