-- The three writing calls. Assumes nothing.
use Rattle.std.specs.Prelude.{◌≡◌, ℕ, ◌+◌, min, Bool, true, false, not, cond, ◌&&◌, ◌||◌, List, ◌++◌, leb, ltb, eqb, length}
use Rattle.chunk.specs.Chunk.{stream_tag, advance_total, payload_limit, trailer_bytes}
use Rattle.duration.specs.Duration.{packed_of, run_length}
use Rattle.error.specs.Answer.{Answer, accepted, refused, ask}
use Rattle.error.specs.Refusal.{said}
use Rattle.fields.specs.File.{file_limit}
use Rattle.fields.specs.Le.{le_bytes, put}
use Rattle.prelude.specs.Built.{prelude_bytes}
use Rattle.prelude.specs.Layout.{prelude_len}
use Rattle.muxer.specs.declared.Settings.{Settings}
use Rattle.muxer.specs.declared.Writer.{Writer}
use Rattle.muxer.specs.declared.Wrote.{Wrote}

-- 01: "A fresh one has neither mark and zero counts."
abbrev pub fresh : Settings → Writer
fresh s = record { settings = s; begun = false; ended = false; written = 0; frames = 0 }

-- what a call leaves: its answer, the state and the whole lent buffer
pub record WriteOutcome : Type 0 where
  pub answer : Answer Unit
  pub writer : Writer
  pub buffer : List ℕ

-- 01: a refusal "returns the state it was given and changes no lent byte"
abbrev pub outcome : Answer Unit → Writer → List ℕ → Writer → List ℕ → WriteOutcome
outcome (accepted u) w buf next after = record { answer = accepted tt; writer = next; buffer = after }
outcome (refused r) w buf next after = record { answer = refused r; writer = w; buffer = buf }

-- "Does what is to be written end at or before both the buffer's end and the file limit?"
abbrev pub fits : ℕ → ℕ → Bool
fits end room = leb end room && leb end file_limit

-- "Begun implies at least 316 written?"
abbrev pub has_prelude : Writer → Bool
has_prelude w = not w.begun || leb prelude_len w.written

-- "Questions, in order; the number is for no. Place is bytes written." Of the buffer they ask only its length.
unfoldable pub header_questions : Writer → ℕ → Answer Unit
header_questions w room =
    ask (not w.begun) 50 w.written
    (ask (not w.ended) 55 w.written
    (ask (has_prelude w) 56 w.written
    (ask (fits prelude_len room) 54 w.written
    (accepted tt))))

-- "The header, built with duration 0, goes to offset 0 and sets begun and 316 written"
abbrev pub after_header : Writer → Writer
after_header w = record { settings = w.settings; begun = true; ended = w.ended; written = prelude_len; frames = w.frames }

unfoldable pub header_call : Writer → List ℕ → WriteOutcome
header_call w buf =
    let s = w.settings in
    outcome (header_questions w (length buf)) w buf
    (after_header w)
    (put buf 0 (prelude_bytes s.width s.height s.fps 0 s.rate s.channels))

-- "A packet is tag `00dc` (stream 0) or `01wb` (stream 1), u32 length, payload, no padding"
unfoldable pub packet_bytes : ℕ → List ℕ → List ℕ
packet_bytes stream payload = le_bytes 4 (stream_tag stream) ++ (le_bytes 4 (length payload) ++ payload)

-- the most frames that a writer counts: the largest u64
abbrev pub frame_limit : ℕ
frame_limit = 18446744073709551615

-- "a frame adds 1 to frames, capped at u64"
abbrev pub frames_after : ℕ → ℕ → ℕ
frames_after stream frames = cond (eqb stream 0) (min (frames + 1) frame_limit) frames

-- what a packet and the trailer both ask first
abbrev pub ask_open : Writer → Answer Unit → Answer Unit
ask_open w rest =
    ask w.begun 51 w.written
    (ask (not w.ended) 55 w.written
    (ask (has_prelude w) 56 w.written
    rest))

-- and of the payload its length
unfoldable pub packet_questions : Writer → ℕ → ℕ → ℕ → Answer Unit
packet_questions w size stream room =
    ask_open w
    (ask (leb size payload_limit) 52 w.written
    (ask (leb stream 1) 53 w.written
    (ask (fits (w.written + advance_total size) room) 54 w.written
    (accepted tt))))

-- "packet and trailer go to offset bytes written, which grows by their length"
abbrev pub after_packet : Writer → ℕ → ℕ → Writer
after_packet w size stream =
    record {
      settings = w.settings;
      begun = w.begun;
      ended = w.ended;
      written = w.written + advance_total size;
      frames = frames_after stream w.frames;
    }

unfoldable pub packet_call : Writer → List ℕ → ℕ → List ℕ → WriteOutcome
packet_call w payload stream buf =
    outcome (packet_questions w (length payload) stream (length buf)) w buf
    (after_packet w (length payload) stream)
    (put buf w.written (packet_bytes stream payload))

unfoldable pub trailer_questions : Writer → ℕ → Answer Unit
trailer_questions w room =
    ask_open w
    (ask (fits (w.written + 8) room) 54 w.written
    (accepted tt))

-- "if fps and frames exceed 0, offset 84 then gets `from_frame_count`"
unfoldable pub patch_run_length : Writer → List ℕ → List ℕ
patch_run_length w buf =
    cond (ltb 0 w.settings.fps && ltb 0 w.frames)
    (put buf 84 (le_bytes 4 (packed_of (run_length w.frames w.settings.fps))))
    buf

-- "The trailer is `AMV_END_`"; "the trailer sets ended"
abbrev pub after_trailer : Writer → Writer
after_trailer w = record { settings = w.settings; begun = w.begun; ended = true; written = w.written + 8; frames = w.frames }

unfoldable pub trailer_call : Writer → List ℕ → WriteOutcome
trailer_call w buf =
    outcome (trailer_questions w (length buf)) w buf
    (after_trailer w)
    (patch_run_length w (put buf w.written trailer_bytes))

-- what a call gave and left, by the definition of its outcome
pub record MeetsOutcome (o : WriteOutcome) (r : Wrote) (after : List ℕ) : Type 0 where
  pub answer : said r.result ≡ o.answer
  pub writer : r.writer ≡ o.writer
  pub buffer : after ≡ o.buffer
