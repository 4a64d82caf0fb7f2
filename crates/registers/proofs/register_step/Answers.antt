-- `registers::register_step` meets its contract. What is performed, written and answered is the definition's (`step-made`).
-- Assumes nothing.
use Rattle.registers.proofs.Blocks.{block-whole}
use Rattle.registers.proofs.Performs.{command-is, step-made}
use Rattle.registers.proofs.register_step.Goals as goal

pub write_block-requires : goal.write_block-requires
write_block-requires c =
    let a = c.args in
    block-whole a.block.now (command-is a.file.now a.table.now a.walker a.block.now c.command_in.ensures c.in-Ok.is)

pub returns-in-Ok : goal.returns-in-Ok
returns-in-Ok c =
    let a = c.args in
    step-made a.file.now a.table.now a.walker a.block.now c.command_in.ensures c.perform-done.result c.in-Ok.is
    c.perform-done.ensures.result_value c.perform-done.ensures.done_placed c.told_of.ensures c.write_block.ensures c.step_result.ensures
