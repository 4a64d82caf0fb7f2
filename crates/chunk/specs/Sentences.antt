-- 01's and 02's sentences about chunk headers and the interleave check, a second time. Assumes nothing.
use Rattle.std.specs.Prelude.{◌≡◌, ℕ, zero, suc, List, [], ◌∷◌, drop}
use Rattle.error.specs.Answer.{accepted}
use Rattle.error.specs.Sentences.{RefusedBy}
use Rattle.chunk.specs.Chunk.{video_tag, audio_tag, chunk_header_of, chunk_header_at}
use Rattle.chunk.specs.Interleave.{interleave}

-- a frame, then its sound, n times
unfoldable pub pairs : ℕ → List ℕ
pairs zero = []
pairs (suc n) = video_tag ∷ audio_tag ∷ pairs n

pub record ChunkSentences : Type 0 where
  pub header_numbers : (s : List ℕ) → RefusedBy (29 ∷ []) (chunk_header_of s)
  -- 02: "At every offset up to the file's length this reading is proved to answer what `ChunkHeader::parse` answers on the bytes from there, 29
  -- included." Past the length no bytes are left, and 29 is the answer to none: so it holds of every offset
  pub header_at : (file : List ℕ) (at : ℕ) → chunk_header_at file at ≡ chunk_header_of (drop at file)
  -- "by position, video at odd 62, audio at even 63, other 64; then even count? 65": 62 to 65 and no others
  pub interleave_numbers : (tags : List ℕ) → RefusedBy (62 ∷ 63 ∷ 64 ∷ 65 ∷ []) (interleave tags)
  -- frames and their sound in turn are what passes
  pub pairs_pass : (n : ℕ) → interleave (pairs n) ≡ accepted tt
  pub only_pairs : (tags : List ℕ) → interleave tags ≡ accepted tt → (n : ℕ) × (tags ≡ pairs n)
