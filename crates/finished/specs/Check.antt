-- The check: a fold of the walk. Assumes nothing.
use Rattle.std.specs.Prelude.{ℕ, Bool, true, false, List, [], ◌∷◌, eqb}
use Rattle.chunk.specs.Interleave.{interleave}
use Rattle.error.specs.Answer.{Answer, accepted, refused, numbered, ask, and_then}
use Rattle.demuxer.specs.Position.{start}
use Rattle.demuxer.specs.declared.position.Position.{Position}
use Rattle.prelude.specs.Prelude.{strict_of}
use Rattle.walk.specs.Walk.{kind_tag, Stop, ran_out, trailer, unknown_tag, Walk, stop, chunk, past, file_walk}
use Rattle.finished.specs.declared.Totals.{Totals}

abbrev pub passes : Answer Unit → Bool
passes (accepted u) = true
passes (refused r) = false

-- the tags of a walk's chunks
unfoldable pub tags_of : Walk → List ℕ
tags_of (stop s) = []
tags_of (chunk kind payload missing rest) = kind_tag kind ∷ tags_of rest

-- "It answers frames, blocks, samples, trailer offset, and paired"
abbrev pub totals_at : Position → Bool → Totals
totals_at p paired = record { frames = p.frames.0; blocks = p.blocks.0; samples = p.samples.0; trailer = p.cursor; paired = paired }

-- "per chunk, 8 bytes? 60. If trailer, last 8 of the file? 61. Tag known? 31. .. Place: the chunk."
abbrev pub check_stop : Position → Bool → Stop → Answer Totals
check_stop p paired ran_out = refused (numbered 60 p.cursor)
check_stop p paired (trailer n) = ask (eqb n 0) 61 p.cursor (accepted (totals_at p paired))
check_stop p paired unknown_tag = refused (numbered 31 p.cursor)

-- "Payload whole? 60."
unfoldable pub check_from : Position → Bool → Walk → Answer Totals
check_from p paired (stop s) = check_stop p paired s
check_from p paired (chunk kind payload missing rest) = ask (eqb missing 0) 60 p.cursor (check_from (past p kind payload missing) paired rest)

-- paired "is yes exactly when the interleave check passes on its chunks"
abbrev pub all_paired : List ℕ → Bool
all_paired file = passes (interleave (tags_of (file_walk file)))

abbrev pub check_chunks : List ℕ → Answer Totals
check_chunks file = check_from start (all_paired file) (file_walk file)

-- "10 to 24 as above; then per chunk"
unfoldable pub check_of : List ℕ → Answer Totals
check_of file = and_then (strict_of file) (λ _. check_chunks file)
