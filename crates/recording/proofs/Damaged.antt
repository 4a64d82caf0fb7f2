-- A file that is refused with 31 at p: its first p bytes have an index, so what is claimed of every such file holds of them; their walk is the file's up
-- to p, where every chunk is whole: one that is cut would have been the last. Assumes nothing.
use mathlib.Core.Path.{◌≡◌, refl, sym, ap, ◌∙◌}
use mathlib.Core.Bool.{cond}
use mathlib.Core.List.{List, ◌∷◌}
use Prim.Native.Nat.{ℕ, zero, suc, ◌+◌, ◌-◌}
use native.Mathlib.Omega.{arith}
use borrow.Author.Tests.{eq-eqb}
use lib.Dec.{eqb}
use lib.ListN.{length, take}
use Rattle.error.specs.Answer.{refused, numbered}
use Rattle.error.proofs.Answers.{never}
use Rattle.fields.specs.Le.{Bytes}
use Rattle.fields.proofs.Laws.{bytes_take}
use Rattle.demuxer.specs.Position.{start}
use Rattle.demuxer.specs.Read.{payload_at}
use Rattle.demuxer.specs.declared.position.Position.{Position}
use Rattle.walk.specs.Chunks.{Chunk, chunk_of}
use Rattle.walk.specs.Steps.{past_at}
use Rattle.walk.specs.Walk.{step_at, Stop, ran_out, trailer, unknown_tag, Walk, stop, chunk, walk, file_walk}
use Rattle.walk.specs.declared.ChunkAt.{ChunkAt}
use Rattle.walk.specs.declared.Step.{Step}
use Rattle.walk.specs.declared.Step.TheVariants as step
use Rattle.walk.proofs.Walks.{Goes, step_means, past-cursor, along}
use Rattle.chunk_index.specs.Entry.{table_bytes}
use Rattle.chunk_index.specs.Index.{recorded, records, tags_known, index_of}
use Rattle.chunk_index.proofs.Damaged.{out_of, up_to, before-unknown-tag}
use Rattle.chunk_index.proofs.Folds.{whole-recorded, recorded-is, known_on, known-cut}
use Rattle.recording.specs.Machine.{OwnIndex}
use Rattle.recording.specs.Indexed.{wholes_of, recorded_of, BeforeDamage}
use Rattle.recording.proofs.Indexed.{lists}

-- where a walk stops is nothing to its chunks
wholes_out : (v : Walk) → wholes_of (out_of v) ≡ wholes_of v
unfolding wholes_of out_of
wholes_out (stop s) = refl
wholes_out (chunk kind payload missing rest) =
    ap (λ (cs : List Chunk). cond (eqb missing 0) (chunk_of kind payload ∷ cs) cs) (wholes_out rest)

recorded_out : (v : Walk) → recorded_of (out_of v) ≡ recorded_of v
unfolding recorded_of out_of
recorded_out (stop s) = refl
recorded_out (chunk kind payload missing rest) =
    ap (λ (cs : List Chunk). cond (recorded kind payload missing) (chunk_of kind payload ∷ cs) cs) (recorded_out rest)

-- up to a tag that is unknown each chunk is whole, and has a record
module _ (file : List ℕ) (p : ℕ) where
  abbrev Unknown : Position → Type 0
  Unknown q = tags_known q.cursor (walk file q.cursor) ≡ refused (numbered 31 p)

  abbrev EachWhole : ℕ → Type 0
  EachWhole at = recorded_of (walk file at) ≡ wholes_of (walk file at)

  no_more : (at : ℕ) (s : Stop) → walk file at ≡ stop s → EachWhole at
  unfolding wholes_of recorded_of
  no_more at s e = rw e

  one-whole : (at : ℕ) (c : ChunkAt) → Goes file at c → c.missing ≡ 0 → EachWhole (at + (8 + c.size)) → EachWhole at
  unfolding wholes_of recorded_of
  one-whole at c g m later =
      rw (g.is, recorded-is file at c g ∙ whole-recorded c m, eq-eqb c.missing 0 m)
      (ap (λ (cs : List Chunk). chunk_of c.kind (payload_at file at c.size) ∷ cs) later)

  by_step : (q : Position) → Unknown q → ((c : ChunkAt) → Goes file q.cursor c → Unknown (past_at file q c) → EachWhole (past_at file q c).cursor)
      → EachWhole q.cursor
  by_step q u later = on (step_at file q.cursor) refl
    where
      by : (c : ChunkAt) → Goes file q.cursor c → (n : ℕ) → c.missing ≡ n → EachWhole q.cursor
      by c g zero m =
          let n = past-cursor file q c in
          one-whole q.cursor c g m
          (rw n at
          (later c g (ap (λ (at : ℕ). tags_known at (walk file at)) n ∙ sym (known_on file q.cursor c g (whole-recorded c m)) ∙ u)))
      by c g (suc n) m = never (sym (known-cut file q.cursor c g (omega arith)) ∙ u)

      on : (x : Step) → step_at file q.cursor ≡ x → EachWhole q.cursor
      on step.RanOut e = no_more q.cursor ran_out (step_means file q.cursor step.RanOut e)
      on step.Trailer e = no_more q.cursor (trailer (length file - (q.cursor + 8))) (step_means file q.cursor step.Trailer e).is
      on step.UnknownTag e = no_more q.cursor unknown_tag (step_means file q.cursor step.UnknownTag e)
      on (step.Chunk c) e = by c (step_means file q.cursor (step.Chunk c) e) c.missing refl

  each-whole : (q : Position) → Unknown q → EachWhole q.cursor
  each-whole = along file (λ q. Unknown q → EachWhole q.cursor) (λ q later u. by_step q u later)

pub damaged : (file : List ℕ) → Bytes file → (p : ℕ) → index_of file ≡ refused (numbered 31 p) → BeforeDamage file p
damaged file bytes p e =
    let u = up_to file p e in
    let own : OwnIndex (take p file) (table_bytes (records start (file_walk file))) =
    record { entries = records start (file_walk file); indexed = before-unknown-tag file p e; is = refl } in
    record {
      table = table_bytes (records start (file_walk file));
      own = own;
      lists = lists (take p file) (bytes_take p file bytes) (table_bytes (records start (file_walk file))) own;
      played = ap wholes_of u.is ∙ wholes_out (file_walk file);
      sought = ap recorded_of u.is ∙ recorded_out (file_walk file) ∙ each-whole file p start u.unknown;
    }
