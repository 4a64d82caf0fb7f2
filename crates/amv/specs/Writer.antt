-- What a call does to the writer that it changes. Assumes nothing.
use Rattle.std.specs.Prelude.{ℕ, List, Result}
use Rattle.error.specs.declared.AmvError.{AmvError}
use Rattle.muxer.specs.Writer.{WriteOutcome, MeetsOutcome}
use Rattle.amv.specs.declared.writer.AmvMuxer.{AmvMuxer}

-- the outcome of the call by value, with the state that it returns left in m'
abbrev pub MuxerWrites : WriteOutcome → Result Unit AmvError → AmvMuxer → List ℕ → Type 0
MuxerWrites o result m' after = MeetsOutcome o (record { result = result; writer = m'.writer }) after
