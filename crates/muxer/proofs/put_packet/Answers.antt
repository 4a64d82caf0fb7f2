-- `muxer::put_packet` meets its contract. A tag, a length and a payload, each put right after the one before, are one put of the packet's bytes
-- (`put-packet`).
-- Assumes nothing.
use Rattle.std.proofs.Common.{ap, ◌∙◌, ℕ, ◌+◌}
use Rattle.fields.specs.Le.{put_le}
use Rattle.muxer.proofs.Steps.{put-packet}
use Rattle.muxer.proofs.put_packet.Goals as goal

pub returns : goal.returns
returns c = let a = c.args in
    put-packet a.buf.now a.off a.stream a.payload.now (rw c.requires.size_is at c.requires.in_bounds)
    (c.write_le.ensures ∙ ap (λ (v : ℕ). put_le 4 a.buf.now a.off v) c.stream_tag.ensures)
    (c.write_le-2.ensures ∙ ap (λ (v : ℕ). put_le 4 c.write_le.new.buf (a.off + 4) v) c.requires.size_is)
    c.copy_in.ensures
