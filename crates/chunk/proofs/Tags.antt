-- The tags spell these characters: their bytes are computed. Assumes nothing.
use mathlib.Core.Path.{refl}
use Rattle.fields.specs.Le.{le_bytes}
use Rattle.chunk.specs.Tags.{Tags}

pub tags : Tags
unfolding le_bytes
tags = record { video_tag_lem = refl; audio_tag_lem = refl }
