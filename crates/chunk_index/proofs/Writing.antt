-- The second pass: what has been written, and what is left to write. Assumes nothing.
use mathlib.Core.Path.{◌≡◌, sym, ap, ◌∙◌}
use mathlib.Core.Bool.{true}
use mathlib.Core.List.{List, []}
use Prim.Native.Nat.{ℕ, ◌+◌, ◌*◌, ◌≤◌}
use native.Mathlib.Omega.{arith}
use lib.ListN.{length}
use Rattle.fields.specs.File.{file_limit}
use Rattle.fields.specs.Le.{put}
use Rattle.fields.proofs.Laws.{put-nothing, put-put, length-put}
use Rattle.demuxer.specs.Position.{start}
use Rattle.demuxer.specs.declared.position.Position.{Position}
use Rattle.walk.specs.Steps.{Walked, past_at}
use Rattle.walk.specs.Walk.{walk, file_walk}
use Rattle.walk.specs.declared.ChunkAt.{ChunkAt}
use Rattle.walk.proofs.Walks.{Goes}
use Rattle.chunk_index.specs.Entry.{entry_len, entry, entry_bytes, table_bytes}
use Rattle.chunk_index.specs.Steps.{Small, recorded_at}
use Rattle.chunk_index.specs.Index.{records}
use Rattle.chunk_index.specs.declared.entry.ChunkIndexEntry.{ChunkIndexEntry}
use Rattle.chunk_index.proofs.Entries.{length-entry_bytes}
use Rattle.chunk_index.proofs.Folds.{records_on}

-- a record can hold the position of a header within the limit
pub walked_small : (p : Position) → Walked p → p.cursor + 8 ≤ file_limit → Small p
walked_small p w l =
    record { cursor_small = omega arith; frames_small = omega (arith, w.chunks_le); blocks_small = omega (arith, w.chunks_le) }

pub record Writing (file table₀ table : List ℕ) (p : Position) (to : ℕ) : Type 0 where
  pub walked : Walked p
  pub kept : length table ≡ length table₀
  pub room : to + entry_len * length (records p (walk file p.cursor)) ≤ length table
  pub rest : put table to (table_bytes (records p (walk file p.cursor))) ≡ put table₀ 0 (table_bytes (records start (file_walk file)))

module _ {file table₀ table : List ℕ} {p : Position} {to : ℕ} (w : Writing file table₀ table p to) where
  pub write-end : records p (walk file p.cursor) ≡ [] → table ≡ put table₀ 0 (table_bytes (records start (file_walk file)))
  unfolding table_bytes
  write-end e =
      sym (put-nothing table to)
      ∙ ap (λ (l : List ChunkIndexEntry). put table to (table_bytes l)) (sym e)
      ∙ w.rest

  module _ {c : ChunkAt} (g : Goes file p.cursor c) (r : recorded_at c ≡ true) where
    pub write-room : to + entry_len ≤ length table
    write-room = omega (arith, w.room, ap length (records_on file p c g r))

    pub write_more : Walked (past_at file p c)
        → Writing file table₀ (put table to (entry_bytes (entry c.kind p))) (past_at file p c) (to + entry_len)
    unfolding table_bytes
    write_more v =
        let e : ChunkIndexEntry = entry c.kind p in
        let q : Position = past_at file p c in
        let more = records_on file p c g r in
        let n = length-entry_bytes e in
        let h : to + length (entry_bytes e) ≤ length table = omega (arith, write-room) in
        let k : length (put table to (entry_bytes e)) ≡ length table = length-put table to (entry_bytes e) h in
        let rest : List ℕ = table_bytes (records q (walk file q.cursor)) in
        record {
          walked = v;
          kept = k ∙ w.kept;
          room = omega (arith, w.room, ap length more);
          rest =
              ap (λ (m : ℕ). put (put table to (entry_bytes e)) (to + m) rest) (sym n)
              ∙ put-put table to (entry_bytes e) rest h
              ∙ ap (λ (l : List ChunkIndexEntry). put table to (table_bytes l)) (sym more)
              ∙ w.rest;
        }
