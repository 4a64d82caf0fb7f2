-- `muxer::Writer::packet` meets its contract. Where the questions pass, the length that they give is the payload's (`length_ok`), and the packet fits the
-- buffer and the file limit (`packet-passed`); the two ends of the call are `meets_err` and `meets_ok`.
-- Assumes nothing.
use Rattle.std.proofs.Common.{sym, length, arith}
use Rattle.muxer.specs.Writer.{packet_call}
use Rattle.muxer.proofs.Steps.{packet-passed, length_err, length_ok, meets_err, meets_ok}
use Rattle.muxer.proofs.Writer.packet.Goals as goal

pub returns-in_err-size : goal.returns-in_err-size
unfolding packet_call
returns-in_err-size c = let a = c.args in
    meets_err a.self a.buf.now _ _ _ _ (length_err _ (length a.payload.now) c.in_err-size.ensures) c.from_residual.ensures

pub put_packet-requires-clause-in_bounds : goal.put_packet-requires-clause-in_bounds
put_packet-requires-clause-in_bounds c = let a = c.args in
    let p = length_ok _ (length a.payload.now) c.in_ok-size.ensures in
    rw (sym p.1) (packet-passed a.self _ a.stream _ p.0).inside

pub overflow_add-result : goal.overflow_add-result
overflow_add-result c = let a = c.args in
    let p = length_ok _ (length a.payload.now) c.in_ok-size.ensures in
    let limit = (packet-passed a.self _ a.stream _ p.0).limit in
    let size = p.1 in
    let total = c.advance_total.ensures in
    omega arith

pub returns : goal.returns
unfolding packet_call
returns c = let a = c.args in
    let p = length_ok _ (length a.payload.now) c.in_ok-size.ensures in
    meets_ok a.self a.buf.now _ _ (sym p.0) (rw (c.advance_total.ensures, c.frames_after.ensures, sym p.1)) c.put_packet.ensures
