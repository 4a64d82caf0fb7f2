-- `chunk_index::entry::ChunkIndexEntry::write` meets its contract. Five fields are stored one after another, which together are the record's bytes
-- (`entry_stored`); the three 32-bit ones hold their numbers by the `requires`.
-- Assumes nothing.
use Prim.Native.Nat.{ℕ, ◌+◌}
use mathlib.Core.List.{List}
use mathlib.Core.Path.{ap, ◌∙◌}
use Rattle.fields.specs.Le.{put_le}
use Rattle.chunk_index.proofs.Entries.{entry_stored}
use Rattle.chunk_index.proofs.entry.ChunkIndexEntry.write.Goals as goal

pub returns : goal.returns
returns c =
    let a = c.args in
    let e = c.write_le-2.ensures ∙ ap (λ (l : List ℕ). put_le 4 l (a.at + 4) a.self.position.cursor) c.write_le.ensures in
    let e = c.write_le-3.ensures ∙ ap (λ (l : List ℕ). put_le 4 l (a.at + 8) a.self.position.frames.0) e in
    let e = c.write_le-4.ensures ∙ ap (λ (l : List ℕ). put_le 4 l (a.at + 12) a.self.position.blocks.0) e in
    let e = c.write_le-5.ensures ∙ ap (λ (l : List ℕ). put_le 8 l (a.at + 16) a.self.position.samples.0) e in
    e ∙ entry_stored a.table.now a.at a.self c.requires.entry_len_in_bounds
