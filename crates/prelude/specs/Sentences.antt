-- 01's sentences about the prelude, a second time. Assumes nothing.
use Rattle.std.specs.Prelude.{◌≡◌, ℕ, ◌^◌, ◌<◌, List, [], ◌∷◌, length}
use Rattle.error.specs.Answer.{accepted}
use Rattle.error.specs.Sentences.{RefusedBy}
use Rattle.fields.specs.Capped.{quotient}
use Rattle.parse.specs.WaveFormat.{average_of}
use Rattle.prelude.specs.Built.{prelude_bytes}
use Rattle.prelude.specs.Layout.{prelude_len}
use Rattle.prelude.specs.Prelude.{parse_of, strict_of}
use Rattle.prelude.specs.declared.prelude.AmvPrelude.{AmvPrelude}

-- what the plain parse may answer with, and the strict one
abbrev pub parse_numbers : List ℕ
parse_numbers = 10 ∷ 11 ∷ 12 ∷ 13 ∷ []

abbrev pub strict_numbers : List ℕ
strict_numbers = 10 ∷ 11 ∷ 12 ∷ 13 ∷ 14 ∷ 15 ∷ 16 ∷ 17 ∷ 18 ∷ 19 ∷ 20 ∷ 21 ∷ 22 ∷ 23 ∷ 24 ∷ []

-- what a prelude holds that was built from these settings
abbrev pub settings : ℕ → ℕ → ℕ → ℕ → ℕ → ℕ → AmvPrelude
settings width height fps duration rate channels =
    record {
      header =
          record {
            micros_per_frame = quotient 1000000 fps;
            width = width;
            height = height;
            fps = fps;
            flag_one = 1;
            reserved_30 = 0;
            duration_packed = duration;
          };
      audio_format =
          record {
            format_tag = 1;
            channels = channels;
            samples_per_sec = rate;
            avg_bytes_per_sec = average_of rate;
            block_align = 2;
            bits_per_sample = 16;
            cb_size = 0;
          };
      movi_payload_start = prelude_len;
    }

-- every setting that its field holds
pub record Held (width height fps duration rate channels : ℕ) : Type 0 where
  pub width_held : width < 256 ^ 4
  pub height_held : height < 256 ^ 4
  pub fps_held : fps < 256 ^ 4
  pub duration_held : duration < 256 ^ 4
  pub rate_held : rate < 256 ^ 4
  pub channels_held : channels < 256 ^ 2

pub record PreludeSentences : Type 0 where
  pub numbers : (file : List ℕ) → RefusedBy parse_numbers (parse_of file)
  pub strict_numbers_lem : (file : List ℕ) → RefusedBy strict_numbers (strict_of file)
  -- "`build_prelude_bytes` gives 316 (0x13C) bytes": read again, they give what they were built from; with fps above 0 and one channel they
  -- pass the strict parse
  pub long : (width height fps duration rate channels : ℕ) → length (prelude_bytes width height fps duration rate channels) ≡ prelude_len
  pub built : (width height fps duration rate channels : ℕ) → Held width height fps duration rate channels
      → parse_of (prelude_bytes width height fps duration rate channels) ≡ accepted (settings width height fps duration rate channels)
  pub passes : (width height fps duration rate : ℕ) → Held width height fps duration rate 1 → 0 < fps
      → strict_of (prelude_bytes width height fps duration rate 1) ≡ accepted (settings width height fps duration rate 1)
  -- "`parse_strict` goes on": what it accepts, the plain parse accepts with the same fields
  pub strict_is_more : (file : List ℕ) (p : AmvPrelude) → strict_of file ≡ accepted p → parse_of file ≡ accepted p
