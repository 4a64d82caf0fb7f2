-- The bytes of a built prelude and of a record, offset by offset, as document 01 lists them. Assumes nothing.
use Rattle.std.specs.Prelude.{◌≡◌, List, [], ◌∷◌, ℕ, replicate}
use Rattle.fields.specs.Le.{put}
use Rattle.prelude.specs.Built.{prelude_bytes}
use Rattle.chunk_index.specs.Entry.{entry_bytes}
use Rattle.cases.specs.Cases.{position}

-- bytes at an offset
pub record Field : Type 0 where
  pub offset : ℕ
  pub bytes : List ℕ

abbrev pub at : ℕ → List ℕ → Field
at offset bytes = record { offset = offset; bytes = bytes }

-- "all zero except"
unfoldable pub filled : List ℕ → List Field → List ℕ
filled bytes [] = bytes
filled bytes (f ∷ fs) = filled (put bytes f.offset f.bytes) fs

abbrev pub four : ℕ → ℕ → ℕ → ℕ → List ℕ
four a b c d = a ∷ b ∷ c ∷ d ∷ []

abbrev pub two : ℕ → ℕ → List ℕ
two a b = a ∷ b ∷ []

-- the tags' characters
abbrev pub LIST : List ℕ
LIST = four 0x4c 0x49 0x53 0x54

abbrev pub strl : List ℕ
strl = four 0x73 0x74 0x72 0x6c

abbrev pub strh : List ℕ
strh = four 0x73 0x74 0x72 0x68

abbrev pub strf : List ℕ
strf = four 0x73 0x74 0x72 0x66

-- 01's list for width 7, height 9, fps 12 (the quotient is 83,333), run length 289, 8,000 samples a second (twice that is 16,000), 3 channels
abbrev pub fields : List Field
fields =
    -- "RIFF at 0, `AMV ` 8, LIST 12, hdrl 20, amvh 24, 56 at 28"
    at 0 (four 0x52 0x49 0x46 0x46) ∷ at 8 (four 0x41 0x4d 0x56 0x20) ∷ at 12 LIST ∷ at 20 (four 0x68 0x64 0x72 0x6c)
    ∷ at 24 (four 0x61 0x6d 0x76 0x68) ∷ at 28 (four 56 0 0 0)
    -- "at 32 the quotient 1,000,000/fps .., width 64, height 68, fps 72, 1 at 76, duration 84"
    ∷ at 32 (four 133 69 1 0) ∷ at 64 (four 7 0 0 0) ∷ at 68 (four 9 0 0 0) ∷ at 72 (four 12 0 0 0) ∷ at 76 (four 1 0 0 0) ∷ at 84 (four 33 1 0 0)
    -- "LIST 88, strl 96, strh 100, 56 at 104, strf 164, 36 at 168"
    ∷ at 88 LIST ∷ at 96 strl ∷ at 100 strh ∷ at 104 (four 56 0 0 0) ∷ at 164 strf ∷ at 168 (four 36 0 0 0)
    -- "LIST 208, strl 216, strh 220, 48 at 224, strf 276, 20 at 280"
    ∷ at 208 LIST ∷ at 216 strl ∷ at 220 strh ∷ at 224 (four 48 0 0 0) ∷ at 276 strf ∷ at 280 (four 20 0 0 0)
    -- "u16 1 at 284, channels u16 286, rate u32 288, twice the rate .. at 292, u16 2 at 296, u16 16 at 298, u16 0 at 300"
    ∷ at 284 (two 1 0) ∷ at 286 (two 3 0) ∷ at 288 (four 64 31 0 0) ∷ at 292 (four 128 62 0 0) ∷ at 296 (two 2 0) ∷ at 298 (two 16 0) ∷ at 300 (two 0 0)
    -- "LIST 304, movi 312"
    ∷ at 304 LIST ∷ at 312 (four 0x6d 0x6f 0x76 0x69) ∷ []

pub record Built : Type 0 where
  -- "`build_prelude_bytes` gives 316 (0x13C) bytes, all zero except: .."
  pub prelude : prelude_bytes 7 9 12 289 8000 3 ≡ filled (replicate 316 0) fields
  -- "Records are 24 bytes, no header: tag, u32 offset, u32 frames before, u32 blocks before, u64 samples before."
  pub entry :
      entry_bytes (record { tag = 0x63643030; position = position 1 2 3 4 })
      ≡ 0x30 ∷ 0x30 ∷ 0x64 ∷ 0x63 ∷ 1 ∷ 0 ∷ 0 ∷ 0 ∷ 2 ∷ 0 ∷ 0 ∷ 0 ∷ 4 ∷ 0 ∷ 0 ∷ 0 ∷ 3 ∷ 0 ∷ 0 ∷ 0 ∷ 0 ∷ 0 ∷ 0 ∷ 0 ∷ []
