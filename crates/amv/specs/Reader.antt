-- What a call does to the reader that holds the file: what the call by value does to its walker, and the file stays. Assumes nothing.
use Rattle.std.specs.Prelude.{◌≡◌, ℕ, List, ℤ, Result, Option}
use Rattle.error.specs.declared.AmvError.{AmvError}
use Rattle.demuxer.specs.declared.packet.Packet.{Packet}
use Rattle.std.specs.Borrow.{Bor}
use Rattle.demuxer.specs.Read.{fresh, said_read, Placed, read_of}
use Rattle.seek.specs.Seek.{said_seek_outcome, seek_of}
use Rattle.amv.specs.declared.reader.AmvDemuxer.{AmvDemuxer}

abbrev pub opened : Bor (List ℕ) → AmvDemuxer
opened file = record { file = file; walker = fresh }

-- d is the reader before the call, d' after it
abbrev pub ReadsNext : AmvDemuxer → Result (Option Packet) AmvError → AmvDemuxer → Type 0
ReadsNext d answer d' =
    (said_read d.file.now (record { answer = answer; walker = d'.walker }) ≡ read_of d.file.now d.walker)
    × Placed d.file.now d.walker answer
    × (d'.file ≡ d.file)

abbrev pub Seeks : AmvDemuxer → List ℕ → ℕ → ℤ → Result ℕ AmvError → AmvDemuxer → Type 0
Seeks d table stream request result d' =
    (said_seek_outcome (record { result = result; walker = d'.walker }) ≡ seek_of table d.walker stream request)
    × (d'.file ≡ d.file)
