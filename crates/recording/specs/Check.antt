-- The check and the grammar: the claim that it accepts exactly the finished recordings. Assumes nothing.
use Rattle.std.specs.Prelude.{◌≡◌, ℕ, ◌+◌, List, [], ◌∷◌, length}
use Rattle.chunk.specs.Interleave.{interleave}
use Rattle.error.specs.Answer.{accepted}
use Rattle.fields.specs.Le.{Bytes}
use Rattle.prelude.specs.Layout.{prelude_len}
use Rattle.walk.specs.Chunks.{Chunk, chunk_of, chunks_bytes}
use Rattle.walk.specs.Walk.{kind_tag}
use Rattle.finished.specs.Check.{passes, check_of}
use Rattle.finished.specs.declared.Totals.{Totals}
use Rattle.recording.specs.Grammar.{Finished}
use Rattle.recording.specs.Drain.{frames, samples, blocks}

-- the tags of chunks
unfoldable pub chunk_tags : List Chunk → List ℕ
chunk_tags [] = []
chunk_tags (chunk_of kind payload ∷ cs) = kind_tag kind ∷ chunk_tags cs

-- the totals of chunks, the drain's
abbrev pub totals_of : List Chunk → Totals
totals_of cs =
    record {
      frames = frames cs;
      blocks = blocks cs;
      samples = samples cs;
      trailer = prelude_len + length (chunks_bytes cs);
      paired = passes (interleave (chunk_tags cs));
    }

-- Demand 3 for the check: it accepts exactly the files of the grammar, and its totals are the drain's
pub record CheckIsGrammar : Type 0 where
  pub accepts : (file : List ℕ) (cs : List Chunk) → Finished file cs → check_of file ≡ accepted (totals_of cs)
  pub only : (file : List ℕ) → Bytes file → (t : Totals) → check_of file ≡ accepted t → (cs : List Chunk) × Finished file cs
