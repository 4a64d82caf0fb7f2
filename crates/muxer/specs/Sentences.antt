-- 01's sentences about the three writing calls, a second time: by what the file gains. Assumes nothing.
use Rattle.std.specs.Prelude.{◌≡◌, ℕ, ◌+◌, ◌<◌, true, false, List, [], ◌∷◌, ◌++◌, length, take}
use Rattle.chunk.specs.Chunk.{stream_tag, trailer_bytes}
use Rattle.duration.specs.Duration.{packed_of, unpacked_of, run_length}
use Rattle.error.specs.Answer.{Answer, accepted, refused}
use Rattle.error.specs.Sentences.{GivesBack, RefusedBy}
use Rattle.fields.specs.Le.{le, le_bytes, put}
use Rattle.prelude.specs.Built.{prelude_bytes}
use Rattle.prelude.specs.Layout.{prelude_len}
use Rattle.muxer.specs.Writer.{fresh, frame_limit, WriteOutcome, header_call, packet_call, trailer_call}
use Rattle.muxer.specs.declared.Settings.{Settings}
use Rattle.muxer.specs.declared.Writer.{Writer}

-- all that a writing call may change: the state and the lent buffer
pub record Lent : Type 0 where
  pub writer : Writer
  pub buffer : List ℕ

abbrev pub left : WriteOutcome → Lent
left o = record { writer = o.writer; buffer = o.buffer }

-- "The file is the first bytes-written bytes of one lent buffer"
abbrev pub file_in : Lent → List ℕ
file_in l = take l.writer.written l.buffer

-- a refusal's place, where there is one
abbrev pub RefusedAt : {A : Type 0} → ℕ → Answer A → Type 0
RefusedAt place (accepted x) = Unit
RefusedAt place (refused r) = r.place ≡ place

-- what 01 says of each of the three calls: a refusal gives state and buffer back, its number is one of these, "Place is bytes written"
pub record CallSentences (numbers : List ℕ) (call : Lent → WriteOutcome) : Type 0 where
  pub gives_back : GivesBack (λ l. (call l).answer) (λ l. left (call l))
  pub numbered : (l : Lent) → RefusedBy numbers (call l).answer
  pub placed : (l : Lent) → RefusedAt l.writer.written (call l).answer

-- what an accepted packet leaves
pub record PacketAdded (payload : List ℕ) (stream : ℕ) (l m : Lent) : Type 0 where
  -- "A packet is tag .., u32 length, payload, no padding"
  pub file : file_in m ≡ file_in l ++ (le_bytes 4 (stream_tag stream) ++ (le_bytes 4 (length payload) ++ payload))
  -- "a frame adds 1 to frames, capped at u64"
  pub frame : stream ≡ 0 → l.writer.frames < frame_limit → m.writer.frames ≡ l.writer.frames + 1
  pub full : l.writer.frames ≡ frame_limit → m.writer.frames ≡ l.writer.frames
  pub sound : stream ≡ 1 → m.writer.frames ≡ l.writer.frames
  pub settings : m.writer.settings ≡ l.writer.settings
  pub begun : m.writer.begun ≡ true
  pub ended : m.writer.ended ≡ false

-- "The header, built with duration 0, goes to offset 0 and sets begun and 316 written"
pub record HeaderAdded (l m : Lent) : Type 0 where
  pub file :
      let s = l.writer.settings in
      file_in m ≡ prelude_bytes s.width s.height s.fps 0 s.rate s.channels
  pub begun : m.writer.begun ≡ true
  pub written : m.writer.written ≡ prelude_len
  pub frames : m.writer.frames ≡ l.writer.frames
  pub settings : m.writer.settings ≡ l.writer.settings

-- "The trailer is `AMV_END_`; if fps and frames exceed 0, offset 84 then gets `from_frame_count`"; "the trailer sets ended"
pub record TrailerAdded (l m : Lent) : Type 0 where
  pub file : 0 < l.writer.settings.fps → 0 < l.writer.frames
      → file_in m ≡ put (file_in l ++ trailer_bytes) 84 (le_bytes 4 (packed_of (run_length l.writer.frames l.writer.settings.fps)))
  -- 02, M-105: "The trailer writer .. follow": what is read at 84 then is the run length of the frames, which a display can show (duration/Sentences)
  pub run_length_lem : 0 < l.writer.settings.fps → 0 < l.writer.frames
      → unpacked_of (le 4 (file_in m) 84) ≡ run_length l.writer.frames l.writer.settings.fps
  pub no_fps : l.writer.settings.fps ≡ 0 → file_in m ≡ file_in l ++ trailer_bytes
  pub no_frames : l.writer.frames ≡ 0 → file_in m ≡ file_in l ++ trailer_bytes
  pub ended : m.writer.ended ≡ true
  pub written : m.writer.written ≡ l.writer.written + 8
  pub frames : m.writer.frames ≡ l.writer.frames
  pub settings : m.writer.settings ≡ l.writer.settings

pub record WriteSentences : Type 0 where
  -- "A fresh one has neither mark and zero counts."
  pub starts : (s : Settings) → fresh s ≡ record { settings = s; begun = false; ended = false; written = 0; frames = 0 }
  -- "Header: not begun? 50. Packet and trailer: begun? 51. Not ended? 55 .. 316 written? 56 .. Packet: .. 52 .. 53. .. 54."
  pub header : CallSentences (50 ∷ 55 ∷ 56 ∷ 54 ∷ []) (λ l. header_call l.writer l.buffer)
  pub packet : (payload : List ℕ) (stream : ℕ) → CallSentences (51 ∷ 55 ∷ 56 ∷ 52 ∷ 53 ∷ 54 ∷ []) (λ l. packet_call l.writer payload stream l.buffer)
  pub trailer : CallSentences (51 ∷ 55 ∷ 56 ∷ 54 ∷ []) (λ l. trailer_call l.writer l.buffer)
  pub header_added : (l : Lent) → (header_call l.writer l.buffer).answer ≡ accepted tt → HeaderAdded l (left (header_call l.writer l.buffer))
  pub packet_added : (payload : List ℕ) (stream : ℕ) (l : Lent) → (packet_call l.writer payload stream l.buffer).answer ≡ accepted tt
      → PacketAdded payload stream l (left (packet_call l.writer payload stream l.buffer))
  pub trailer_added : (l : Lent) → (trailer_call l.writer l.buffer).answer ≡ accepted tt
      → TrailerAdded l (left (trailer_call l.writer l.buffer))
