-- The prelude as it is read. Assumes nothing.
use Rattle.std.specs.Prelude.{ℕ, zero, suc, ◌-◌, List, eqb, take, drop, get_or}
use Rattle.error.specs.Answer.{Answer, accepted, ask, and_then}
use Rattle.fields.specs.File.{within_limit}
use Rattle.parse.specs.Header.{header_fields, header_sentinels}
use Rattle.parse.specs.WaveFormat.{wave_format_fields, wave_format_sentinels}
use Rattle.prelude.specs.Layout.{prelude_len, layout, ask_items}
use Rattle.prelude.specs.declared.prelude.AmvPrelude.{AmvPrelude}

-- the bytes from a start to an end
abbrev pub between : ℕ → ℕ → List ℕ → List ℕ
between start end file = take (end - start) (drop start file)

-- the bodies 32..88 and 284..304, and the movi start
unfoldable pub prelude_fields : List ℕ → AmvPrelude
prelude_fields file =
    record {
      header = header_fields (between 32 88 file);
      audio_format = wave_format_fields (between 284 304 file);
      movi_payload_start = prelude_len;
    }

-- 01: "File within the limit? 10. `AmvPrelude::parse` then takes" the items of the layout
unfoldable pub parse_of : List ℕ → Answer AmvPrelude
parse_of file = ask (within_limit file) 10 0 (and_then (ask_items file layout) (λ _. accepted (prelude_fields file)))

-- n bytes from a place on are zero: "18, place of the first nonzero"
unfoldable pub zeros : List ℕ → ℕ → ℕ → Answer Unit
zeros file place zero = accepted tt
zeros file place (suc n) = ask (eqb (get_or file place 0) 0) 18 place (zeros file (suc place) n)

-- "Zero in 36..64, 108..164, 172..208, 228..276? 18"
unfoldable pub zero_ranges : List ℕ → Answer Unit
zero_ranges file =
    and_then (zeros file 36 28)
    (λ _. and_then (zeros file 108 56)
    (λ _. and_then (zeros file 172 36)
    (λ _. zeros file 228 48)))

-- "`parse_strict` goes on": 14 to 17, 18, 19 to 24
unfoldable pub validated_of : AmvPrelude → List ℕ → Answer AmvPrelude
validated_of p file =
    and_then (header_sentinels p.header)
    (λ _. and_then (zero_ranges file)
    (λ _. and_then (wave_format_sentinels p.audio_format)
    (λ _. accepted p)))

unfoldable pub strict_of : List ℕ → Answer AmvPrelude
strict_of file = and_then (parse_of file) (λ p. validated_of p file)
