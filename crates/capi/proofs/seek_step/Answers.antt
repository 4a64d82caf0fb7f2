-- `capi::seek_step` meets its contract. A refusal's number fits a byte (`seek_fits`).
-- Assumes nothing.
use Rattle.capi.proofs.Steps.{seek_fits}
use Rattle.capi.proofs.seek_step.Goals as goal

pub overflow_cast-result : goal.overflow_cast-result
overflow_cast-result c = record { fits = seek_fits c.args.table.now c.args.walker.now c.args.stream _ c.amv_seek_to_via_index.ensures }
