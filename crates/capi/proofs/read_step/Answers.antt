-- `capi::read_step` meets its contract. A refusal's number fits a byte (`read_fits`).
-- Assumes nothing.
use Rattle.capi.proofs.Steps.{read_fits}
use Rattle.capi.proofs.read_step.Goals as goal

pub overflow_cast-result : goal.overflow_cast-result
overflow_cast-result c = record { fits = read_fits c.args.file.now c.args.walker.now c.amv_next_packet.ensures }
