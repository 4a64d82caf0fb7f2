-- Steps on the way: what functions below the calls promise each other. Nothing here need be believed. Assumes nothing.
use Rattle.std.specs.Prelude.{ℕ, max, List, [], ◌∷◌}
use Rattle.error.specs.Answer.{Answer, accepted, and_then}
use Rattle.chunk_index.specs.declared.entry.ChunkIndexEntry.{ChunkIndexEntry}
use Rattle.table.specs.Table.{ask_each, good_entry}

-- the most samples of some records and a number
unfoldable pub most_samples : ℕ → List ChunkIndexEntry → ℕ
most_samples most [] = most
most_samples most (e ∷ es) = most_samples (max most e.position.samples.0) es

-- one pass over records, from an offset and a number of samples on: the question 43 of each, and the most samples
abbrev pub pass_over : ℕ → ℕ → List ChunkIndexEntry → Answer ℕ
pass_over place most es = and_then (ask_each good_entry 43 place es) (λ _. accepted (most_samples most es))
