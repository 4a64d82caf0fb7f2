-- A built prelude, read: length, layout and zeros are computed, and each setting is read back from the bytes that hold it. Assumes nothing.
use mathlib.Core.Path.{◌≡◌, refl, sym, ap, ◌∙◌}
use mathlib.Core.Bool.{true}
use mathlib.Core.List.{List, ◌++◌}
use Prim.Native.Nat.{ℕ, zero, suc, ◌/◌, ◌^◌, ◌<◌}
use native.Mathlib.Nat.{div-le_self}
use native.Mathlib.Omega.{arith}
use borrow.Author.Tests.{eq-eqb, ne_eqb, lt-ltb}
use lib.ListN.{length, drop}
use lib.Seq.{take_at}
use Rattle.error.specs.Answer.{accepted}
use Rattle.fields.specs.Capped.{quotient}
use Rattle.fields.specs.Le.{le, le_bytes, put}
use Rattle.fields.proofs.Laws.{le-le_bytes}
use Rattle.fields.specs.File.{within_limit}
use Rattle.parse.specs.Header.{header_fields, header_sentinels}
use Rattle.parse.specs.WaveFormat.{average_of, cb_size_of, wave_format_fields, wave_format_sentinels}
use Rattle.prelude.specs.Layout.{prelude_len, layout, ask_word, ask_body, ask_items}
use Rattle.prelude.specs.Prelude.{prelude_fields, parse_of, zeros, zero_ranges, validated_of, strict_of}
use Rattle.prelude.specs.Built.{prelude_bytes}
use Rattle.prelude.specs.Sentences.{settings, Held}
use Rattle.prelude.proofs.Local.{strict_local}

module _ (width height fps duration rate channels : ℕ) where
  pub length-prelude : length (prelude_bytes width height fps duration rate channels) ≡ prelude_len
  unfolding prelude_bytes le_bytes
  length-prelude = refl

  -- the run length patched at 84 is another duration
  pub patched : (other : ℕ)
      → put (prelude_bytes width height fps duration rate channels) 84 (le_bytes 4 other) ≡ prelude_bytes width height fps other rate channels
  unfolding prelude_bytes le_bytes put
  patched other = refl

  layout-built : ask_items (prelude_bytes width height fps duration rate channels) layout ≡ accepted tt
  unfolding ask_items layout ask_word ask_body prelude_bytes le_bytes le
  layout-built = refl

  zeros-built : zero_ranges (prelude_bytes width height fps duration rate channels) ≡ accepted tt
  unfolding zero_ranges zeros prelude_bytes le_bytes
  zeros-built = refl

micros_held : (fps : ℕ) → quotient 1000000 fps < 256 ^ 4
micros_held zero = omega arith
micros_held (suc fps) = rw (ne_eqb (suc fps) 0 (λ e. omega arith)) (omega (arith, div-le_self 1000000 (suc fps)))

module _ {width height fps duration rate channels : ℕ} (h : Held width height fps duration rate channels) where
  fields-built : prelude_fields (prelude_bytes width height fps duration rate channels) ≡ settings width height fps duration rate channels
  unfolding prelude_fields header_fields wave_format_fields cb_size_of prelude_bytes le_bytes le
  fields-built =
      let x : List ℕ = prelude_bytes width height fps duration rate channels in
      let m : le 4 x 32 ≡ quotient 1000000 fps = le-le_bytes 4 (quotient 1000000 fps) (drop 36 x) (micros_held fps) in
      let w : le 4 x 64 ≡ width = le-le_bytes 4 width (drop 68 x) h.width_held in
      let t : le 4 x 68 ≡ height = le-le_bytes 4 height (drop 72 x) h.height_held in
      let f : le 4 x 72 ≡ fps = le-le_bytes 4 fps (drop 76 x) h.fps_held in
      let d : le 4 x 84 ≡ duration = le-le_bytes 4 duration (drop 88 x) h.duration_held in
      let n : le 2 x 286 ≡ channels = le-le_bytes 2 channels (drop 288 x) h.channels_held in
      let r : le 4 x 288 ≡ rate = le-le_bytes 4 rate (drop 292 x) h.rate_held in
      let a : le 4 x 292 ≡ average_of rate = le-le_bytes 4 (average_of rate) (drop 296 x) (omega arith) in
      λ i.
      record {
        header =
            record {
              micros_per_frame = m i;
              width = w i;
              height = t i;
              fps = f i;
              flag_one = 1;
              reserved_30 = 0;
              duration_packed = d i;
            };
        audio_format =
            record {
              format_tag = 1;
              channels = n i;
              samples_per_sec = r i;
              avg_bytes_per_sec = a i;
              block_align = 2;
              bits_per_sample = 16;
              cb_size = 0;
            };
        movi_payload_start = prelude_len;
      }

  -- parsing a built prelude gives back the settings that it was built from, whatever they are
  pub parse-built : parse_of (prelude_bytes width height fps duration rate channels) ≡ accepted (settings width height fps duration rate channels)
  unfolding parse_of
  parse-built =
      let l : within_limit (prelude_bytes width height fps duration rate channels) ≡ true =
      rw (length-prelude width height fps duration rate channels) in
      rw (l, layout-built width height fps duration rate channels, fields-built)

header-passes : (width height fps duration rate channels : ℕ) → 0 < fps
    → header_sentinels (settings width height fps duration rate channels).header ≡ accepted tt
unfolding header_sentinels
header-passes width height fps duration rate channels p =
    let q : quotient 1000000 fps ≡ 1000000 / fps = rw (ne_eqb fps 0 (λ e. omega arith)) in
    rw (lt-ltb 0 fps p, q, eq-eqb (1000000 / fps) (1000000 / fps) refl)

wave_format_passes : (width height fps duration rate : ℕ) → wave_format_sentinels (settings width height fps duration rate 1).audio_format ≡ accepted tt
unfolding wave_format_sentinels
wave_format_passes width height fps duration rate = rw (eq-eqb (average_of rate) (average_of rate) refl)

-- with fps above 0 and one channel it passes the strict parse
pub strict-built : {width height fps duration rate : ℕ} → Held width height fps duration rate 1 → 0 < fps
    → strict_of (prelude_bytes width height fps duration rate 1) ≡ accepted (settings width height fps duration rate 1)
unfolding strict_of validated_of
strict-built {width} {height} {fps} {duration} {rate} h p =
    rw (
      parse-built h,
      header-passes width height fps duration rate 1 p,
      zeros-built width height fps duration rate 1,
      wave_format_passes width height fps duration rate,
    )

-- and so does every file within the limit that begins with it
pub strict-begun : {width height fps duration rate : ℕ} (rest : List ℕ) → Held width height fps duration rate 1 → 0 < fps
    → within_limit (prelude_bytes width height fps duration rate 1 ++ rest) ≡ true
    → strict_of (prelude_bytes width height fps duration rate 1 ++ rest) ≡ accepted (settings width height fps duration rate 1)
strict-begun {width} {height} {fps} {duration} {rate} rest h p l =
    sym (strict_local (prelude_bytes width height fps duration rate 1 ++ rest) l)
    ∙ ap strict_of (take_at (prelude_bytes width height fps duration rate 1) rest prelude_len (length-prelude width height fps duration rate 1))
    ∙ strict-built h p
