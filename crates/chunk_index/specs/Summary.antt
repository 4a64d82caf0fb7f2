-- The summary. Assumes nothing.
use Rattle.std.specs.Prelude.{cond, List, ℕ, ◌+◌, eqb}
use Rattle.error.specs.Answer.{Answer, accepted, ask, and_then}
use Rattle.fields.specs.File.{within_limit}
use Rattle.prelude.specs.Layout.{prelude_len}
use Rattle.walk.specs.Walk.{Walk, stop, chunk, file_walk}
use Rattle.walk.specs.declared.Kind.{Kind}
use Rattle.walk.specs.declared.Kind.TheVariants.{Frame, Sound}
use Rattle.chunk_index.specs.Index.{recorded, tags_known}
use Rattle.chunk_index.specs.declared.summary.ChunkCounts.{ChunkCounts}

abbrev pub none_counted : ChunkCounts
none_counted = record { frames = 0; blocks = 0 }

-- one more of a kind
abbrev pub counted : Kind → ChunkCounts → ChunkCounts
counted Frame s = record { frames = s.frames + 1; blocks = s.blocks }
counted Sound s = record { frames = s.frames; blocks = s.blocks + 1 }

-- 02, M-103: "count exactly the chunks of its walk whose payload is whole". Its walk is the index's: past each chunk with a record, on top of s.
unfoldable pub counts_from : ChunkCounts → Walk → ChunkCounts
counts_from s (stop e) = s
counts_from s (chunk kind payload missing rest) =
    cond (recorded kind payload missing) (counts_from (cond (eqb missing 0) (counted kind s) s) rest) s

-- 01: "10, then 31, as there"
unfoldable pub summary_of : List ℕ → Answer ChunkCounts
summary_of file =
    ask (within_limit file) 10 0 (and_then (tags_known prelude_len (file_walk file)) (λ _. accepted (counts_from none_counted (file_walk file))))
