-- The prelude's tags, character by character. Assumes nothing.
use Rattle.std.specs.Prelude.{◌≡◌, [], ◌∷◌}
use Rattle.fields.specs.Le.{le_bytes}
use Rattle.prelude.specs.Layout.{RIFF, AMV, LIST, hdrl, amvh, strl, strh, strf, movi}

pub record Tags : Type 0 where
  pub riff : le_bytes 4 RIFF ≡ 0x52 ∷ 0x49 ∷ 0x46 ∷ 0x46 ∷ []
  pub amv : le_bytes 4 AMV ≡ 0x41 ∷ 0x4d ∷ 0x56 ∷ 0x20 ∷ []
  pub list : le_bytes 4 LIST ≡ 0x4c ∷ 0x49 ∷ 0x53 ∷ 0x54 ∷ []
  pub hdrl_tag : le_bytes 4 hdrl ≡ 0x68 ∷ 0x64 ∷ 0x72 ∷ 0x6c ∷ []
  pub amvh_tag : le_bytes 4 amvh ≡ 0x61 ∷ 0x6d ∷ 0x76 ∷ 0x68 ∷ []
  pub strl_tag : le_bytes 4 strl ≡ 0x73 ∷ 0x74 ∷ 0x72 ∷ 0x6c ∷ []
  pub strh_tag : le_bytes 4 strh ≡ 0x73 ∷ 0x74 ∷ 0x72 ∷ 0x68 ∷ []
  pub strf_tag : le_bytes 4 strf ≡ 0x73 ∷ 0x74 ∷ 0x72 ∷ 0x66 ∷ []
  pub movi_tag : le_bytes 4 movi ≡ 0x6d ∷ 0x6f ∷ 0x76 ∷ 0x69 ∷ []
