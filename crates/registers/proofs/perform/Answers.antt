-- `registers::perform` meets its contract. Each arm is the command that it names (`Performs`).
-- Assumes nothing.
use native.Mathlib.Omega.{arith}
use Rattle.registers.proofs.Performs.{read_performed_lem, seek_performed_lem}
use Rattle.registers.proofs.perform.Goals as goal

pub returns-in-Read : goal.returns-in-Read
returns-in-Read c =
    let a = c.args in
    let p = read_performed_lem a.file.now a.table.now a.walker c.next_packet-read.result c.in-Read.is c.next_packet-read.ensures.result_value
    c.next_packet-read.ensures.placed c.read_done.ensures in
    record { result_value = p.0; done_placed = p.1 }

pub returns-in-Seek : goal.returns-in-Seek
returns-in-Seek c =
    let a = c.args in
    let p = seek_performed_lem a.file.now a.table.now a.walker c.in-Seek.stream c.in-Seek.request c.seek_to_via_index-sought.result c.in-Seek.is
    (record { fits = omega arith }) c.signed.ensures c.seek_to_via_index-sought.ensures c.seek_done.ensures in
    record { result_value = p.0; done_placed = p.1 }
