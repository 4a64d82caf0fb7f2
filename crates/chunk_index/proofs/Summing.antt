-- The summary's pass: what has been counted, and what is left to count. Assumes nothing.
use mathlib.Core.Path.{◌≡◌, refl, sym, ap, ◌∙◌}
use mathlib.Core.List.{List}
use Prim.Native.Nat.{ℕ, ◌+◌, ◌≤◌, ◌<◌}
use native.Mathlib.Omega.{arith}
use lib.ListN.{length}
use Rattle.chunk.specs.Chunk.{payload_limit}
use Rattle.fields.specs.File.{file_limit}
use Rattle.prelude.specs.Layout.{prelude_len}
use Rattle.walk.specs.Walk.{Stop, stop, walk, file_walk}
use Rattle.walk.specs.declared.ChunkAt.{ChunkAt}
use Rattle.walk.specs.declared.Kind.{Kind}
use Rattle.walk.specs.declared.Kind.TheVariants.{Frame, Sound}
use Rattle.walk.proofs.Walks.{Goes}
use Rattle.chunk_index.specs.Summary.{none_counted, counted, counts_from}
use Rattle.chunk_index.specs.declared.summary.ChunkCounts.{ChunkCounts}
use Rattle.chunk_index.proofs.Counting.{Headers, headers_start, headers_on}
use Rattle.chunk_index.proofs.Folds.{whole-recorded, counts_whole, counts_cut}

-- frames and blocks together are the chunks
one_more : (kind : Kind) (s : ChunkCounts) → (counted kind s).frames + (counted kind s).blocks ≡ s.frames + s.blocks + 1
one_more Frame s = omega arith
one_more Sound s = omega arith

pub record Summing (file : List ℕ) (at : ℕ) (s : ChunkCounts) : Type 0 where
  pub headers : Headers file at (s.frames + s.blocks)
  pub left : counts_from s (walk file at) ≡ counts_from none_counted (file_walk file)

pub summing_start : (file : List ℕ) → Summing file prelude_len none_counted
summing_start file = record { headers = headers_start file; left = refl }

module _ {file : List ℕ} {at : ℕ} {s : ChunkCounts} (k : Summing file at s) where
  pub summing_on : {c : ChunkAt} → length file ≤ file_limit → c.size ≤ payload_limit → Goes file at c → c.missing ≡ 0
      → Summing file (at + (8 + c.size)) (counted c.kind s)
  summing_on {c} l b g m =
      record {
        headers = rw (one_more c.kind s) (headers_on k.headers l b g (whole-recorded c m));
        left = sym (counts_whole file at c g s m) ∙ k.left;
      }

  -- all are counted at a stop, and at a chunk that is cut
  pub summed_stop : {e : Stop} → walk file at ≡ stop e → counts_from none_counted (file_walk file) ≡ s
  unfolding counts_from
  summed_stop w = sym k.left ∙ ap (counts_from s) w

  pub summed_cut : {c : ChunkAt} → Goes file at c → 0 < c.missing → counts_from none_counted (file_walk file) ≡ s
  summed_cut {c} g m = sym k.left ∙ counts_cut file at c g s m
