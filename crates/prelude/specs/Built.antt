-- The prelude as it is built. Assumes nothing.
use Rattle.std.specs.Prelude.{ℕ, List, [], ◌∷◌, ◌++◌, replicate}
use Rattle.fields.specs.Capped.{quotient}
use Rattle.fields.specs.Le.{le_bytes}
use Rattle.parse.specs.WaveFormat.{average_of}
use Rattle.prelude.specs.Layout.{RIFF, AMV, LIST, hdrl, amvh, strl, strh, strf, movi}
use Rattle.prelude.specs.declared.build.BuiltPrelude.{BuiltPrelude}

abbrev pub u32 : ℕ → List ℕ
u32 v = le_bytes 4 v

abbrev pub u16 : ℕ → List ℕ
u16 v = le_bytes 2 v

abbrev pub blank : ℕ → List ℕ
blank n = replicate n 0

abbrev pub joined : List (List ℕ) → List ℕ
joined [] = []
joined (field ∷ fields) = field ++ joined fields

-- 01: "`build_prelude_bytes` gives 316 (0x13C) bytes, all zero except", field by field from offset 0
unfoldable pub prelude_bytes : ℕ → ℕ → ℕ → ℕ → ℕ → ℕ → List ℕ
prelude_bytes width height fps duration rate channels =
    joined (
    -- 0: RIFF, a free size, `AMV `
    u32 RIFF ∷ blank 4 ∷ u32 AMV
    -- 12: LIST, a free size, hdrl; 24: amvh and its size
    ∷ u32 LIST ∷ blank 4 ∷ u32 hdrl ∷ u32 amvh ∷ u32 56
    -- 32: the quotient 1,000,000/fps; 64: width, height, fps, 1; 84: duration
    ∷ u32 (quotient 1000000 fps) ∷ blank 28 ∷ u32 width ∷ u32 height ∷ u32 fps ∷ u32 1 ∷ blank 4 ∷ u32 duration
    -- 88: the picture's list
    ∷ u32 LIST ∷ blank 4 ∷ u32 strl ∷ u32 strh ∷ u32 56 ∷ blank 56 ∷ u32 strf ∷ u32 36 ∷ blank 36
    -- 208: the sound's list
    ∷ u32 LIST ∷ blank 4 ∷ u32 strl ∷ u32 strh ∷ u32 48 ∷ blank 48 ∷ u32 strf ∷ u32 20
    -- 284: format 1, channels, rate, the average, align 2, 16 bits, cbSize 0, two more bytes
    ∷ u16 1 ∷ u16 channels ∷ u32 rate ∷ u32 (average_of rate) ∷ u16 2 ∷ u16 16 ∷ u16 0 ∷ blank 2
    -- 304: LIST, a free size, movi
    ∷ u32 LIST ∷ blank 4 ∷ u32 movi ∷ []
    )

-- 01: "The prelude travels with its settings as one value of 316 bytes."
abbrev pub built_of : ℕ → ℕ → ℕ → ℕ → ℕ → ℕ → BuiltPrelude
built_of width height fps duration rate channels =
    record {
      bytes = prelude_bytes width height fps duration rate channels;
      width = width;
      height = height;
      fps = fps;
      rate = rate;
      channels = channels;
    }
