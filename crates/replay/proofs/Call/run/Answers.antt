-- `replay::Call::run` meets its contract. Each arm's row is that of what the read or the seek answers, by their contracts; the request that the
-- machine reads back is the one that was passed, since it fits. Assumes nothing.
use mathlib.Core.Path.{ap, ◌∙◌}
use mir.Syntax.{w64}
use mir.ValLaws.{to_z-of_z}
use Rattle.std.proofs.Common.{rules}
use Rattle.seek.specs.Seek.{seek_of}
use Rattle.replay.proofs.Laws.{read_called, seek_called}
use Rattle.replay.proofs.Call.run.Goals as goal

pub returns-in-Read : goal.returns-in-Read
returns-in-Read c =
    let a = c.args in
    let n = c.next_packet-read in
    rw c.in-Read.is (read_called a.file.now a.table.now a.walker n.result n.ensures.result_value n.ensures.placed c.read.ensures)

pub returns-in-Seek : goal.returns-in-Seek
returns-in-Seek c =
    let a = c.args in
    let s = c.in-Seek in
    let request = ap (seek_of a.table.now a.walker s.stream) (to_z-of_z w64 s.request (search rules)) in
    let sought = c.seek_to_via_index-sought in
    rw c.in-Seek.is
    (seek_called a.file.now a.table.now a.walker s.stream s.request sought.result (sought.ensures ∙ request) c.seek.ensures)
