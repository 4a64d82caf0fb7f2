-- The interleave check. Assumes nothing.
use Rattle.std.specs.Prelude.{ℕ, suc, ◌%◌, Bool, not, List, [], ◌∷◌, eqb}
use Rattle.error.specs.Answer.{Answer, accepted, refused, numbered, ask, and_then}
use Rattle.chunk.specs.Chunk.{kind_of}
use Rattle.chunk.specs.declared.ChunkKind.{ChunkKind}
use Rattle.chunk.specs.declared.ChunkKind.TheVariants.{Video, Audio, Other}

abbrev pub even : ℕ → Bool
even n = eqb (n % 2) 0

-- 01: "by position, video at odd 62, audio at even 63, other 64"
abbrev pub interleave_at : ChunkKind → ℕ → Answer Unit
interleave_at Video position = ask (even position) 62 position (accepted tt)
interleave_at Audio position = ask (not (even position)) 63 position (accepted tt)
interleave_at (Other tag) position = refused (numbered 64 position)

-- "then even count? 65, place the count"
unfoldable pub interleave_from : ℕ → List ℕ → Answer Unit
interleave_from position [] = ask (even position) 65 position (accepted tt)
interleave_from position (tag ∷ tags) = and_then (interleave_at (kind_of tag) position) (λ _. interleave_from (suc position) tags)

-- 01's `validate_movi_interleave`, "over u32 tags"
abbrev pub interleave : List ℕ → Answer Unit
interleave tags = interleave_from 0 tags
