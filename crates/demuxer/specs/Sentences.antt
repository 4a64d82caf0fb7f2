-- 01's sentences about one read, a second time: by the bytes that stand at the cursor. Assumes nothing.
use Rattle.std.specs.Prelude.{◌≡◌, ℕ, ◌+◌, ◌≤◌, ◌<◌, Bool, true, false, List, [], ◌∷◌, ◌++◌, length}
use Rattle.std.specs.Prelude.{Option, Some, None}
use Rattle.chunk.specs.Chunk.{video_tag, audio_tag, trailer_bytes, payload_limit}
use Rattle.error.specs.Answer.{Answer, accepted, refused, numbered}
use Rattle.error.specs.Sentences.{GivesBack, RefusedBy}
use Rattle.fields.specs.Capped.{u32_max}
use Rattle.fields.specs.File.{file_limit}
use Rattle.fields.specs.Le.{le, le_bytes}
use Rattle.demuxer.specs.Head.{count_of}
use Rattle.demuxer.specs.Packet.{Shown}
use Rattle.prelude.specs.Layout.{prelude_len}
use Rattle.demuxer.specs.Position.{start, InRange}
use Rattle.demuxer.specs.Read.{ReadAnswer, packet, End, fresh, read_of}
use Rattle.demuxer.specs.Read as read
use Rattle.demuxer.specs.declared.walker.Walker.{Walker}

-- what a read answers and leaves
abbrev pub Gives : List ℕ → Walker → ReadAnswer → Walker → Type 0
Gives file w answer after = read_of file w ≡ record { answer = answer; walker = after }

-- the position stays, and the marks are these
abbrev pub marked : Walker → Bool → Bool → Option ℕ → Walker
marked w end cut trailer = record { position = w.position; end = end; cut = cut; trailer = trailer }

-- the position is this one, and the marks stay
abbrev pub moved : Walker → ℕ → ℕ → ℕ → ℕ → Walker
moved w cursor frames samples blocks =
    record {
      position = record { cursor = cursor; frames = record { 0 = frames }; samples = record { 0 = samples }; blocks = record { 0 = blocks } };
      end = w.end;
      cut = w.cut;
      trailer = w.trailer;
    }

-- a file and a walker that 10 and 32 let pass, with these bytes at the cursor
pub record AtCursor (file : List ℕ) (w : Walker) (here : List ℕ) : Type 0 where
  pub within : length file ≤ file_limit
  pub range : InRange w.position
  pub before : List ℕ
  pub cursor : w.position.cursor ≡ length before
  pub is : file ≡ before ++ here

-- a tag and a length, then these bytes
abbrev pub headed : ℕ → ℕ → List ℕ → List ℕ
headed tag size bytes = le_bytes 4 tag ++ (le_bytes 4 size ++ bytes)

-- a read's answer, as that of any call
abbrev pub as_answer : ReadAnswer → Answer (Option Shown)
as_answer (packet p) = accepted (Some p)
as_answer End = accepted None
as_answer (read.refused r) = refused r

pub record ReadSentences : Type 0 where
  -- "A fresh one starts at 316 with zero counters, no mark and no trailer"
  pub starts : fresh ≡ record { position = start; end = false; cut = false; trailer = None }
  pub first : start ≡ record { cursor = prelude_len; frames = record { 0 = 0 }; samples = record { 0 = 0 }; blocks = record { 0 = 0 } }
  -- "Ended .. : answer End"
  pub ended : (file : List ℕ) (w : Walker) → length file ≤ file_limit → InRange w.position → w.end ≡ true → Gives file w End w
  -- "fewer than 8 bytes at the cursor": End, "sets end and cut"
  pub few : (file : List ℕ) (w : Walker) → length file ≤ file_limit → InRange w.position → w.end ≡ false
      → length file < w.position.cursor + 8 → Gives file w End (marked w true true w.trailer)
  -- "or the trailer": End, "sets end and trailer"; cut stays
  pub trailer : (file rest : List ℕ) (w : Walker) → AtCursor file w (trailer_bytes ++ rest) → w.end ≡ false
      → Gives file w End (marked w true w.cut (Some w.position.cursor))
  -- "Tag `00dc` or `01wb`? 31, place cursor"
  pub unknown : (file rest : List ℕ) (w : Walker) (tag size : ℕ) → AtCursor file w (headed tag size rest) → w.end ≡ false
      → tag ≤ u32_max → size ≤ payload_limit → (tag ≡ video_tag → ⊥) → (tag ≡ audio_tag → ⊥) → (le_bytes 4 tag ++ le_bytes 4 size ≡ trailer_bytes → ⊥)
      → Gives file w (read.refused (numbered 31 w.position.cursor)) w
  -- "If the payload is not whole: End, set end and cut, cursor unmoved."
  pub frame_cut : (file part : List ℕ) (w : Walker) (size : ℕ) → AtCursor file w (headed video_tag size part) → w.end ≡ false
      → length part < size → size ≤ payload_limit → Gives file w End (marked w true true w.trailer)
  pub sound_cut : (file part : List ℕ) (w : Walker) (size : ℕ) → AtCursor file w (headed audio_tag size part) → w.end ≡ false
      → length part < size → size ≤ payload_limit → Gives file w End (marked w true true w.trailer)
  -- "Otherwise a packet: .. cursor moves 8 + length. Frames: duration 1, stamp + 1."
  pub frame : (file payload rest : List ℕ) (w : Walker) → AtCursor file w (headed video_tag (length payload) (payload ++ rest)) → w.end ≡ false
      → length payload ≤ payload_limit
      → let p = w.position in
      Gives file w (packet (record { stream = 0; payload = payload; stamp = p.frames.0; duration = Some 1 }))
      (moved w (p.cursor + (8 + length payload)) (p.frames.0 + 1) p.samples.0 p.blocks.0)
  -- "Sound: block count + 1; .. the stamp grows by it. A zero sound duration is shown as none."
  pub sound : (file payload rest : List ℕ) (w : Walker) (count : ℕ) → AtCursor file w (headed audio_tag (length payload) (payload ++ rest))
      → w.end ≡ false → length payload ≤ payload_limit → count_of payload ≡ count → 0 < count
      → let p = w.position in
      Gives file w (packet (record { stream = 1; payload = payload; stamp = p.samples.0; duration = Some count }))
      (moved w (p.cursor + (8 + length payload)) p.frames.0 (p.samples.0 + count) (p.blocks.0 + 1))
  pub silence : (file payload rest : List ℕ) (w : Walker) → AtCursor file w (headed audio_tag (length payload) (payload ++ rest)) → w.end ≡ false
      → length payload ≤ payload_limit → count_of payload ≡ 0
      → let p = w.position in
      Gives file w (packet (record { stream = 1; payload = payload; stamp = p.samples.0; duration = None }))
      (moved w (p.cursor + (8 + length payload)) p.frames.0 p.samples.0 (p.blocks.0 + 1))
  -- "duration is the u32 at payload 4, or 0 under 8 bytes"
  pub count : (state rest : List ℕ) (n : ℕ) → length state ≡ 4 → n ≤ u32_max → count_of (state ++ (le_bytes 4 n ++ rest)) ≡ n
  pub no_count : (payload : List ℕ) → length payload < 8 → count_of payload ≡ 0
  -- of every file and walker: only a read at which the file ends before its trailer, at a chunk or inside one, sets cut; End moves no position;
  -- a refusal gives the walker back; the numbers are 10, 32 and 31
  pub only_short_sets_cut : (file : List ℕ) (w : Walker) → w.cut ≡ false → (read_of file w).walker.cut ≡ true
      → length file < w.position.cursor + 8 + le 4 file (w.position.cursor + 4)
  pub end_moves_nothing : (file : List ℕ) (w : Walker) → (read_of file w).answer ≡ End → (read_of file w).walker.position ≡ w.position
  pub gives_back : (file : List ℕ) → GivesBack (λ w. as_answer (read_of file w).answer) (λ w. (read_of file w).walker)
  pub numbers : (file : List ℕ) (w : Walker) → RefusedBy (10 ∷ 32 ∷ 31 ∷ []) (as_answer (read_of file w).answer)
