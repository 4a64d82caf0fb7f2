-- 01's sentences about the bodies, a second time: the numbers of each. Assumes nothing.
use Rattle.std.specs.Prelude.{ℕ, List, [], ◌∷◌}
use Rattle.error.specs.Sentences.{RefusedBy}
use Rattle.parse.specs.Header.{header_of, header_sentinels}
use Rattle.parse.specs.Preamble.{preamble_of, preamble_sentinels}
use Rattle.parse.specs.WaveFormat.{wave_format_of, wave_format_sentinels}
use Rattle.parse.specs.declared.header.AmvHeader.{AmvHeader}
use Rattle.parse.specs.declared.preamble.AmvAudioPreamble.{AmvAudioPreamble}
use Rattle.parse.specs.declared.wave_format.AmvWaveFormat.{AmvWaveFormat}

pub record BodySentences : Type 0 where
  -- "`AmvHeader::parse` 56 bytes? 28. `AmvWaveFormat::parse` 18? 27 .. `AmvAudioPreamble::parse` 8? 25 .. count above 0? 26"
  pub header : (body : List ℕ) → RefusedBy (28 ∷ []) (header_of body)
  pub wave_format : (body : List ℕ) → RefusedBy (27 ∷ []) (wave_format_of body)
  pub preamble : (body : List ℕ) → RefusedBy (25 ∷ []) (preamble_of body)
  pub samples : (p : AmvAudioPreamble) → RefusedBy (26 ∷ []) (preamble_sentinels p)
  -- 14 to 17 are of the header, 19 to 24 of the wave format
  pub header_fields_lem : (h : AmvHeader) → RefusedBy (14 ∷ 15 ∷ 16 ∷ 17 ∷ []) (header_sentinels h)
  pub wave_format_fields_lem : (f : AmvWaveFormat) → RefusedBy (19 ∷ 20 ∷ 21 ∷ 22 ∷ 23 ∷ 24 ∷ []) (wave_format_sentinels f)
