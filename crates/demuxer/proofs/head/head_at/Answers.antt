-- `demuxer::head::head_at` meets its contract. What is read at an offset decides what stands there: `head_read`.
-- Assumes nothing.
use Rattle.std.proofs.Common.{◌∙◌}
use Rattle.demuxer.proofs.Heads.{head_read}
use Rattle.demuxer.proofs.head.head_at.Goals as goal

pub returns-in-Ok : goal.returns-in-Ok
returns-in-Ok c = c.from_header.ensures ∙ head_read c.args.file.now c.args.at c.in-Ok.ensures

pub returns-in-Err : goal.returns-in-Err
returns-in-Err c = head_read c.args.file.now c.args.at c.in-Err.ensures
