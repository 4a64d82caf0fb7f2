-- `demuxer::head::sample_count` meets its contract. The part that the file has is as long as the smaller of what is left and the length: `count-read`.
-- Assumes nothing.
use Rattle.std.proofs.Common.{◌≡◌, ◌+◌, ◌-◌, length, min, arith}
use Rattle.demuxer.proofs.Bodies.{count-read}
use Rattle.demuxer.proofs.head.sample_count.Goals as goal

pub returns-in-Ok : goal.returns-in-Ok
returns-in-Ok c =
    let a = c.args in
    let m = c.min-there in
    let e : a.start + m.result - a.start ≡ min (length a.file.now - a.start) a.size = omega (arith, m.ensures) in
    count-read a.file.now a.start a.size e c.in-Ok.ensures

pub returns-in-Err : goal.returns-in-Err
returns-in-Err c =
    let a = c.args in
    let m = c.min-there in
    let e : a.start + m.result - a.start ≡ min (length a.file.now - a.start) a.size = omega (arith, m.ensures) in
    count-read a.file.now a.start a.size e c.in-Err.ensures
