-- `capi::perform` meets its contract. A read and a seek are the command that they name, on the walker that the words spell.
-- Assumes nothing.
use Rattle.capi.proofs.Steps.{read_is, seek_is}
use Rattle.capi.proofs.perform.Goals as goal

pub returns-in-Read : goal.returns-in-Read
returns-in-Read c =
    let a = c.args in
    read_is a.file.now a.table.now a.state c.in-Read.is (c.read_step.ensures a.state c.requires)

pub returns-in-Seek : goal.returns-in-Seek
returns-in-Seek c =
    let a = c.args in
    seek_is a.file.now a.table.now a.state c.in-Seek.is (c.seek_step.ensures a.state c.requires)
