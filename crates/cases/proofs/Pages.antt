-- The pages and their numbers, each computed from the definition. Assumes nothing.
use mathlib.Core.Path.{refl}
use mathlib.Core.List.{List, [], ◌∷◌}
use Rattle.fields.specs.Le.{le, le_bytes, put, Bytes}
use Rattle.fields.proofs.Laws.{bytes-append, bytes-le_bytes}
use Rattle.chunk_index.specs.Entry.{entry_bytes, table_bytes, entry_at, entries_from}
use Rattle.chunk_index.specs.declared.entry.ChunkIndexEntry.{ChunkIndexEntry}
use Rattle.table.specs.Table.{ask_each}
use Rattle.text.specs.Text.{digits, right}
use Rattle.page.specs.Page.{page_line, page_lines, page_questions, print_of}
use Rattle.cases.specs.Cases.{first_record, second_record}
use Rattle.cases.specs.Pages.{Pages}

entry-bytes : (e : ChunkIndexEntry) → Bytes (entry_bytes e)
unfolding entry_bytes
entry-bytes e =
    let p = e.position in
    bytes-append (le_bytes 4 e.tag) _ (bytes-le_bytes 4 e.tag)
    (bytes-append (le_bytes 4 p.cursor) _ (bytes-le_bytes 4 p.cursor)
    (bytes-append (le_bytes 4 p.frames.0) _ (bytes-le_bytes 4 p.frames.0)
    (bytes-append (le_bytes 4 p.blocks.0) _ (bytes-le_bytes 4 p.blocks.0) (bytes-le_bytes 8 p.samples.0))))

table-bytes : (es : List ChunkIndexEntry) → Bytes (table_bytes es)
unfolding table_bytes le_bytes
table-bytes [] = bytes-le_bytes 0 0
table-bytes (e ∷ es) = bytes-append (entry_bytes e) (table_bytes es) (entry-bytes e) (table-bytes es)

pub pages : Pages
unfolding le le_bytes put entry_bytes table_bytes entry_at entries_from ask_each digits right page_line page_lines page_questions print_of
pages =
    record {
      bytes = table-bytes (first_record ∷ second_record ∷ []);
      example = refl;
      full = refl;
      empty = refl;
      seventy = refl;
      seventy_not = refl;
      seventy_second = refl;
      forty_one = refl;
      forty_three = refl;
      forty_three_samples = refl;
      forty = refl;
      forty_last = refl;
    }
