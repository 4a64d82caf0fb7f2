-- `capi::amv_write_packet` meets its contract. A packet moves the two counts alone, so `packet_words_kept` makes the words stored all of the writer's,
-- and `writes` takes them with the answer of either arm.
-- Assumes nothing.
use Rattle.std.proofs.Common.{rules}
use Rattle.muxer.specs.Writer.{packet_call}
use Rattle.words.specs.State.{said_writer}
use Rattle.capi.proofs.Laws.{known, packet_words_kept, writes}
use Rattle.capi.proofs.amv_write_packet.Goals as goal

pub returns-in-Ok : goal.returns-in-Ok
returns-in-Ok c =
    let a = c.args in
    let legal = known said_writer c.writer_of.ensures c.in-Some.is in
    let m = c.write_packet-result.ensures in
    writes (λ w. packet_call w a.payload.now a.stream a.buf.now) a.writer.now a.buf.now legal m
    (packet_words_kept a.writer.now a.buf.now a.payload.now a.stream legal m c.at_counts.ensures) (search rules)

pub returns-in-Err : goal.returns-in-Err
returns-in-Err c =
    let a = c.args in
    let legal = known said_writer c.writer_of.ensures c.in-Some.is in
    let m = c.write_packet-result.ensures in
    writes (λ w. packet_call w a.payload.now a.stream a.buf.now) a.writer.now a.buf.now legal m
    (packet_words_kept a.writer.now a.buf.now a.payload.now a.stream legal m c.at_counts.ensures) (search rules)
