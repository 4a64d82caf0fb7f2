-- The page: the records of an index as lines for a strip printer. Document 02, M-100. Assumes nothing.
use Rattle.std.specs.Prelude.{ℕ, ◌*◌, Bool, List, [], ◌∷◌, ◌++◌, leb, eqb, length}
use Rattle.error.specs.Answer.{Answer, accepted, refused, ask, and_then}
use Rattle.fields.specs.Le.{put}
use Rattle.chunk.specs.Chunk.{video_tag}
use Rattle.chunk_index.specs.Entry.{entries_of}
use Rattle.chunk_index.specs.declared.entry.ChunkIndexEntry.{ChunkIndexEntry}
use Rattle.table.specs.Table.{ask_each, table_questions}
use Rattle.text.specs.Text.{decimal, kind, right}

-- 02: "lines of exactly 40 columns"
abbrev pub columns : ℕ
columns = 40

-- "kind (V or A) in 1, offset in 2 to 11, frames 12 to 21, samples 22 to 40, right-aligned with spaces, no line ends"
unfoldable pub page_line : ChunkIndexEntry → List ℕ
page_line e =
    kind (eqb e.tag video_tag)
    ++ (right 10 e.position.cursor
    ++ (right 10 e.position.frames.0
    ++ right 19 e.position.samples.0))

unfoldable pub page_lines : List ChunkIndexEntry → List ℕ
page_lines [] = []
page_lines (e ∷ es) = page_line e ++ page_lines es

-- "70 when a sample count needs more than 18 digits"
abbrev pub narrow_samples : ChunkIndexEntry → Bool
narrow_samples e = leb (length (decimal e.position.samples.0)) 18

-- "place of the first such record, after 41 and 43 over the whole table; 40 when the page buffer is too short, last"
unfoldable pub page_questions : List ℕ → ℕ → Answer Unit
page_questions table room =
    and_then (table_questions table)
    (λ _.
    and_then (ask_each narrow_samples 70 0 (entries_of table))
    (λ _. ask (leb (columns * length (entries_of table)) room) 40 0 (accepted tt)))

-- what the call answers, and the page as it leaves it
pub record Printing : Type 0 where
  pub answer : Answer ℕ
  pub page : List ℕ

-- "The answer is the line count, later bytes stay"
abbrev pub printed_from : List ℕ → List ChunkIndexEntry → Answer Unit → Printing
printed_from page es (accepted u) = record { answer = accepted (length es); page = put page 0 (page_lines es) }
printed_from page es (refused r) = record { answer = refused r; page = page }

-- 02's page of a table, in a lent buffer
unfoldable pub print_of : List ℕ → List ℕ → Printing
print_of table page = printed_from page (entries_of table) (page_questions table (length page))
