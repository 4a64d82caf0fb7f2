-- The order of the words in C: each word of a state and of an answer is another number. Assumes nothing.
use Rattle.std.specs.Prelude.{◌≡◌, true, false, List, [], ◌∷◌, ℕ, ◌-◌, ◌^◌, pos, replicate}
use Rattle.std.specs.Prelude.{Option, Some, None}
use Rattle.error.specs.Answer.{Answer, accepted, refused, numbered}
use Rattle.fields.specs.Le.{put}
use Rattle.prelude.specs.Built.{prelude_bytes}
use Rattle.words.specs.State.{walker_of, walker_words, writer_of, writer_words}
use Rattle.capi.specs.Calls.{parse_answer, next_answer, seek_answer, index_answer, page_answer, summary_answer, check_answer}
use Rattle.cases.specs.Cases.{position, own_index}
use Rattle.cases.specs.Example.{E}
use Rattle.cases.specs.Numbers.{walker_at, T}

-- a fresh writer's words with another word at a place
abbrev pub writer_with : ℕ → ℕ → List ℕ
writer_with i word = put (replicate 9 0) i (word ∷ [])

-- "A state word outside its field's range .. is refused with 1 at place 0"
abbrev pub illegal : {S : Type 0} → Answer S
illegal = refused (numbered 1 0)

pub record Words : Type 0 where
  -- "walker: cursor, frames, samples, blocks, end, cut, trailer offset or UINT64_MAX"
  pub walker : walker_words (record { position = position 10 11 12 13; end = true; cut = false; trailer = Some 14 }) ≡ 10 ∷ 11 ∷ 12 ∷ 13 ∷ 1 ∷ 0 ∷ 14 ∷ []
  pub walker_cut :
      walker_words (record { position = position 10 11 12 13; end = false; cut = true; trailer = None })
      ≡ 10 ∷ 11 ∷ 12 ∷ 13 ∷ 0 ∷ 1 ∷ 18446744073709551615 ∷ []
  -- "writer: width, height, fps, rate, channels, begun, ended, written, frames"
  pub writer :
      writer_words
      (record {
        settings = record { width = 10; height = 11; fps = 12; rate = 13; channels = 14 };
        begun = true;
        ended = false;
        written = 15;
        frames = 16;
      })
      ≡ 10 ∷ 11 ∷ 12 ∷ 13 ∷ 14 ∷ 1 ∷ 0 ∷ 15 ∷ 16 ∷ []
  -- "place, micros, width, height, fps, flag, reserved, packed duration, format, channels, rate, average, align, bits, cbSize, movi start"
  pub parse :
      parse_answer (prelude_bytes 7 9 12 289 8000 1) false
      ≡ accepted (83333 ∷ 7 ∷ 9 ∷ 12 ∷ 1 ∷ 0 ∷ 289 ∷ 1 ∷ 1 ∷ 8000 ∷ 16000 ∷ 2 ∷ 16 ∷ 0 ∷ 316 ∷ [])
  -- "place, 1 packet or 0 End, stream, payload offset, payload length, stamp, duration (0 none)": the block of T, met with other counts
  pub read : next_answer T (walker_at 335 2 6 4) ≡ accepted (1 ∷ 1 ∷ 343 ∷ 8 ∷ 6 ∷ 5 ∷ [])
  pub end : next_answer T (walker_at 351 2 6 4) ≡ accepted (0 ∷ 0 ∷ 0 ∷ 0 ∷ 0 ∷ 0 ∷ [])
  -- "place, stamp", "place, count"
  pub seek : seek_answer own_index 0 (pos 1) (walker_at 316 0 0 0) ≡ accepted (1 ∷ [])
  pub index : index_answer E (replicate 48 0) ≡ accepted (2 ∷ [])
  -- "place, lines"
  pub page : page_answer own_index (replicate 80 0) ≡ accepted (2 ∷ [])
  -- "place, frames, blocks" and "place, frames, blocks, samples, trailer, paired"
  pub summary : summary_answer T ≡ accepted (2 ∷ 1 ∷ [])
  pub check : check_answer T ≡ accepted (2 ∷ 1 ∷ 5 ∷ 351 ∷ 0 ∷ [])
  pub check_paired : check_answer E ≡ accepted (1 ∷ 1 ∷ 2 ∷ 345 ∷ 1 ∷ [])
  -- "a mark other than 0 or 1; width, height, fps or rate over 32 bits; channels over 16"; "large cursors and counters are 32's business"
  pub end_2 : walker_of (0 ∷ 0 ∷ 0 ∷ 0 ∷ 2 ∷ 0 ∷ 0 ∷ []) ≡ illegal
  pub cut_2 : walker_of (0 ∷ 0 ∷ 0 ∷ 0 ∷ 0 ∷ 2 ∷ 0 ∷ []) ≡ illegal
  pub large :
      walker_of (2 ^ 63 ∷ 2 ^ 63 ∷ 2 ^ 63 ∷ 2 ^ 63 ∷ 1 ∷ 1 ∷ 2 ^ 63 ∷ [])
      ≡ accepted (record { position = position (2 ^ 63) (2 ^ 63) (2 ^ 63) (2 ^ 63); end = true; cut = true; trailer = Some (2 ^ 63) })
  pub width : writer_of (writer_with 0 (2 ^ 32)) ≡ illegal
  pub height : writer_of (writer_with 1 (2 ^ 32)) ≡ illegal
  pub fps : writer_of (writer_with 2 (2 ^ 32)) ≡ illegal
  pub rate : writer_of (writer_with 3 (2 ^ 32)) ≡ illegal
  pub channels : writer_of (writer_with 4 (2 ^ 16)) ≡ illegal
  pub begun_2 : writer_of (writer_with 5 2) ≡ illegal
  pub ended_2 : writer_of (writer_with 6 2) ≡ illegal
  pub largest :
      writer_of ((2 ^ 32 - 1) ∷ (2 ^ 32 - 1) ∷ (2 ^ 32 - 1) ∷ (2 ^ 32 - 1) ∷ (2 ^ 16 - 1) ∷ 1 ∷ 1 ∷ 2 ^ 63 ∷ 2 ^ 63 ∷ [])
      ≡ accepted
      (record {
        settings = record { width = 2 ^ 32 - 1; height = 2 ^ 32 - 1; fps = 2 ^ 32 - 1; rate = 2 ^ 32 - 1; channels = 2 ^ 16 - 1 };
        begun = true;
        ended = true;
        written = 2 ^ 63;
        frames = 2 ^ 63;
      })
