-- `registers::write_block` meets its contract. The front and the stamp that it stores make the block that is told (`block_written`).
-- Assumes nothing.
use Rattle.registers.proofs.Performs.{block_written}
use Rattle.registers.proofs.write_block.Goals as goal

pub returns : goal.returns
returns c =
    let a = c.args in
    block_written a.block.now c.requires a.told a.end a.cut c.status_of-status.ensures c.refusal_number.ensures c.put_front.ensures c.put_stamp.ensures
