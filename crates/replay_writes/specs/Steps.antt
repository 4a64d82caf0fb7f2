-- Steps on the way: what functions below the calls promise each other. Nothing here need be believed. Assumes nothing.
use Rattle.recording.specs.WriteLists as list
use Rattle.replay_writes.specs.declared.WriteCall.{WriteCall}
use Rattle.replay_writes.specs.declared.WriteCall.TheVariants.{Header, Packet, Trailer}

-- a call of the code as the claims have it
abbrev pub called : WriteCall → list.WriteCall
called Header = list.header
called (Packet payload stream) = list.packet payload.now stream
called Trailer = list.trailer
