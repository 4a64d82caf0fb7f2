-- The prelude's tags spell these characters: their bytes are computed. Assumes nothing.
use mathlib.Core.Path.{refl}
use Rattle.fields.specs.Le.{le_bytes}
use Rattle.prelude.specs.Tags.{Tags}

pub tags : Tags
unfolding le_bytes
tags =
    record {
      riff = refl;
      amv = refl;
      list = refl;
      hdrl_tag = refl;
      amvh_tag = refl;
      strl_tag = refl;
      strh_tag = refl;
      strf_tag = refl;
      movi_tag = refl;
    }
