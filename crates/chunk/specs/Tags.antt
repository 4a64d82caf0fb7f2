-- The tags, character by character. Assumes nothing.
use Rattle.std.specs.Prelude.{◌≡◌, [], ◌∷◌}
use Rattle.fields.specs.Le.{le_bytes}
use Rattle.chunk.specs.Chunk.{video_tag, audio_tag}

pub record Tags : Type 0 where
  -- `00dc` and `01wb`
  pub video_tag_lem : le_bytes 4 video_tag ≡ 0x30 ∷ 0x30 ∷ 0x64 ∷ 0x63 ∷ []
  pub audio_tag_lem : le_bytes 4 audio_tag ≡ 0x30 ∷ 0x31 ∷ 0x77 ∷ 0x62 ∷ []
