-- `chunk_index::index::write_records` meets its contract. The invariant: putting the records of the walk from here on at `to` makes the whole
-- table, which has room for them. The measure is the bytes of the file from here on, of which each chunk takes 8.
-- Assumes nothing.
use mathlib.Core.Path.{◌≡◌, refl, sym, ap, ◌∙◌, subst}
use mathlib.Core.List.{List}
use Prim.Native.Nat.{ℕ}
use Rattle.fields.specs.Le.{put}
use Rattle.demuxer.specs.Position.{start}
use Rattle.walk.specs.Walk.{file_walk}
use Rattle.chunk_index.specs.Entry.{table_bytes}
use Rattle.chunk_index.specs.Index.{records}
use native.Mathlib.Omega.{arith}
use Rattle.walk.specs.Steps.{Walked}
use Rattle.walk.proofs.Walked.{walked_start}
use Rattle.walk.proofs.Walks.{step_means, stopped, past-cursor}
use Rattle.chunk_index.proofs.Folds.{records-stop, records-end}
use Rattle.chunk_index.proofs.Writing.{walked_small, write-end, write-room, write_more}
use Rattle.chunk_index.proofs.index.write_records.Goals as goal

pub loop-chunk-init : goal.loop-chunk-init
loop-chunk-init c =
    let room = rw (← c.bytes-file.ensures.same) at c.requires in
    rw c.new-position.ensures (record { walked = walked_start; kept = refl; room = omega arith; rest = refl })

-- what would have been written of the bytes has been written of the file
of-file : {bytes file : List ℕ} (table₀ : List ℕ) {table : List ℕ} → bytes ≡ file → table ≡ put table₀ 0 (table_bytes (records start (file_walk bytes)))
    → table ≡ put table₀ 0 (table_bytes (records start (file_walk file)))
of-file table₀ same e = e ∙ ap (λ (f : List ℕ). put table₀ 0 (table_bytes (records start (file_walk f)))) same

pub returns : goal.returns
returns c =
    let l = c.loop-chunk in
    of-file c.args.table.now c.bytes-file.ensures.same
    (write-end l.invariant (records-stop _ l.position (stopped _ _ _ (sym c.step_at.ensures) c.in_default.not-Chunk).1))

pub returns-then-not-recorded : goal.returns-then-not-recorded
returns-then-not-recorded c =
    let l = c.loop-chunk in
    of-file c.args.table.now c.bytes-file.ensures.same
    (write-end l.invariant (records-end _ l.position _ (step_means _ _ _ (sym c.in-Chunk.ensures)) (sym c.recorded.ensures ∙ c.if-not-recorded.true)))

pub write-requires : goal.write-requires
write-requires c =
    let l = c.loop-chunk in
    let g = step_means _ _ _ (sym c.in-Chunk.ensures) in
    let r = sym c.recorded.ensures ∙ c.if-not-recorded.false in
    record { entry_len_in_bounds = write-room l.invariant g r; small = walked_small l.position l.invariant.walked (omega (arith, g.there, c.bytes-file.ensures.within)) }

pub past-position-requires : goal.past-position-requires
past-position-requires c =
    let l = c.loop-chunk in
    let g = step_means _ _ _ (sym c.in-Chunk.ensures) in
    record { file_len_bound = c.bytes-file.ensures.within; cursor_in_bounds = g.there; walked = l.invariant.walked }

pub loop-chunk-smaller : goal.loop-chunk-smaller
loop-chunk-smaller c =
    let l = c.loop-chunk in
    rw c.past-position.ensures.0 (omega (arith, (step_means _ _ _ (sym c.in-Chunk.ensures)).there, past-cursor c.bytes-file.result.now l.position c.in-Chunk.chunk))

pub loop-chunk-preserved : goal.loop-chunk-preserved
loop-chunk-preserved c =
    let l = c.loop-chunk in
    let r = sym c.recorded.ensures ∙ c.if-not-recorded.false in
    rw (c.write.ensures, c.tag.ensures, c.past-position.ensures.0)
    (write_more l.invariant (step_means _ _ _ (sym c.in-Chunk.ensures)) r (subst Walked c.past-position.ensures.0 c.past-position.ensures.1))
