-- `capi::amv_register_step` meets its contract. A step that is refused leaves all as it was (`step-refused`); else the command that is performed and
-- the block that is written of it are the step's (`steps_done`).
-- Assumes nothing.
use mathlib.Core.Path.{◌≡◌, refl, sym}
use Rattle.std.proofs.Common.{rules, length}
use Rattle.registers.proofs.Blocks.{block-whole}
use Rattle.registers.proofs.Performs.{command-is, step-refused}
use Rattle.words.specs.State.{said_walker}
use Rattle.words.proofs.States.{words_stand}
use Rattle.capi.proofs.Laws.{known, steps, steps_done}
use Rattle.capi.proofs.amv_register_step.Goals as goal

pub write_block-requires : goal.write_block-requires
write_block-requires c =
    let a = c.args in
    block-whole a.block.now (command-is a.file.now a.table.now c.in-Some.state a.block.now c.command_in.ensures c.in-Ok.is)

pub returns-in-Err : goal.returns-in-Err
returns-in-Err c =
    let a = c.args in
    let legal = known said_walker c.walker_of.ensures c.in-Some.is in
    let length_is : length a.walker.now ≡ 7 = search rules in
    steps a.file.now a.table.now a.walker.now a.block.now legal
    (step-refused a.file.now a.table.now c.in-Some.state a.block.now c.command_in.ensures c.in-Err.is) refl
    (sym (words_stand.walker_kept a.walker.now _ length_is legal)) c.refusal_out.ensures

pub returns-in-Ok : goal.returns-in-Ok
returns-in-Ok c =
    let a = c.args in
    steps_done a.file.now a.table.now a.walker.now a.block.now _ (known said_walker c.walker_of.ensures c.in-Some.is)
    (command-is a.file.now a.table.now c.in-Some.state a.block.now c.command_in.ensures c.in-Ok.is) c.perform-told.ensures c.write_block.ensures
