-- What the claims say together. Assumes nothing.
use Rattle.recording.specs.Check.{totals_of}
use Rattle.recording.specs.Together.{CheckAcceptsWritten}
use Rattle.recording.proofs.Checks.{check-accepts}
use Rattle.recording.proofs.Writes.{writes}

pub check-accepts-written : CheckAcceptsWritten
check-accepts-written s buf calls done =
    let f = (writes s buf calls done.held).finish done.closed in
    (totals_of f.chunks, check-accepts _ f.chunks f.finished)
