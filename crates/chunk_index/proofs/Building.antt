-- From the count to the table: what the whole call leaves. Assumes nothing.
use mathlib.Core.Path.{◌≡◌, sym, ap}
use mathlib.Core.Bool.{true, false}
use mathlib.Core.List.{List}
use Prim.Native.Nat.{ℕ, ◌*◌, ◌≤◌, ◌<◌}
use borrow.Author.Tests.{le-leb, lt-leb}
use lib.ListN.{length}
use Rattle.error.specs.Answer.{Answer, accepted, refused, numbered, and_then}
use Rattle.error.specs.declared.Refusal.{Refusal}
use Rattle.error.proofs.Answers.{never, accepted-same, then-passed}
use Rattle.fields.specs.File.{within_limit}
use Rattle.fields.specs.Le.{put}
use Rattle.prelude.specs.Layout.{prelude_len}
use Rattle.demuxer.specs.Position.{start}
use Rattle.walk.specs.Walk.{file_walk}
use Rattle.chunk_index.specs.Entry.{entry_len, table_bytes}
use Rattle.chunk_index.specs.Index.{records, tags_known, index_of, build_of}
use Rattle.chunk_index.specs.Steps.{count_records}

-- a refusal of the count is one of the index
refused_on : {A B : Type 0} (x : Answer Unit) (a : A) (b : B) {r : Refusal} → and_then x (λ _. accepted a) ≡ refused r
    → and_then x (λ _. accepted b) ≡ refused r
refused_on (accepted u) a b e = never e
refused_on (refused s) a b e = ap refused cc

module _ (file table : List ℕ) (l : within_limit file ≡ true) where
  pub build_refused : {r : Refusal} → count_records file ≡ refused r → build_of file table ≡ record { answer = refused r; table = table }
  unfolding build_of index_of
  build_refused e = rw (l, refused_on (tags_known prelude_len (file_walk file)) _ (records start (file_walk file)) e)

  module _ {n : ℕ} (e : count_records file ≡ accepted n) where
    pub counted_all : n ≡ length (records start (file_walk file))
    counted_all =
        sym (accepted-same (then-passed (tags_known prelude_len (file_walk file)) (λ _. accepted (length (records start (file_walk file)))) e).1)

    index-found : index_of file ≡ accepted (records start (file_walk file))
    unfolding index_of
    index-found =
        rw (l, (then-passed (tags_known prelude_len (file_walk file)) (λ _. accepted (length (records start (file_walk file)))) e).0)

    pub build_short : length table < entry_len * length (records start (file_walk file))
        → build_of file table ≡ record { answer = refused (numbered 40 0); table = table }
    unfolding build_of
    build_short h = rw (index-found, lt-leb _ _ h)

    pub build_room : entry_len * length (records start (file_walk file)) ≤ length table
        → build_of file table
        ≡ record {
          answer = accepted (length (records start (file_walk file)));
          table = put table 0 (table_bytes (records start (file_walk file)));
        }
    unfolding build_of
    build_room h = rw (index-found, le-leb _ _ h)

pub build_limit : (file table : List ℕ) → within_limit file ≡ false → build_of file table ≡ record { answer = refused (numbered 10 0); table = table }
unfolding build_of index_of
build_limit file table e = rw e
