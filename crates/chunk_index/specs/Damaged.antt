-- A file in which something other than a chunk stands at p: what include/amv.h tells its callers to go on with. Assumes nothing.
use Rattle.std.specs.Prelude.{◌≡◌, ℕ, List, take}
use Rattle.error.specs.Answer.{accepted, refused, numbered}
use Rattle.demuxer.specs.Position.{start}
use Rattle.walk.specs.Walk.{file_walk}
use Rattle.chunk_index.specs.Index.{records, index_of}

-- "A file that is refused with 31 at p ..": "Its first p bytes have an index, a record for each chunk before p", those that the walk over the
-- whole file makes before it comes to p
abbrev pub BeforeUnknownTag : Type 0
BeforeUnknownTag =
    (file : List ℕ) (p : ℕ) → index_of file ≡ refused (numbered 31 p) → index_of (take p file) ≡ accepted (records start (file_walk file))
