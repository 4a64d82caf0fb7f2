-- The stamps that the registers show of a read and of a seek: 64 bits hold them. Assumes nothing.
use mathlib.Core.Path.{◌≡◌, refl, sym, ap, ◌∙◌}
use Prim.Native.Nat.{ℕ, ◌≤◌}
use mathlib.Core.Bool.{Bool, true, false, cond}
use mathlib.Core.List.{List}
use lib.Dec.{eqb}
use lib.IntN.{ℤ}
use Rattle.error.specs.Answer.{accepted}
use Rattle.demuxer.specs.Packet.{Shown}
use Rattle.demuxer.specs.Position.{count_limit, InRange}
use Rattle.demuxer.specs.Read.{ReadAnswer, packet, End, Reading, read_of}
use Rattle.demuxer.specs.Read as read_answers
use Rattle.demuxer.specs.declared.position.Position.{Position}
use Rattle.demuxer.specs.declared.walker.Walker.{Walker}
use Rattle.demuxer.proofs.Readings.{read_cases}
use Rattle.seek.specs.Seek.{stamp_of, seek_of}
use Rattle.seek.proofs.Sentences.{seek_sentences}

StampIn : ReadAnswer → Type 0
StampIn (packet p) = p.stamp ≤ count_limit
StampIn End = Unit
StampIn (read_answers.refused r) = Unit

pub packet-stamp : (file : List ℕ) (w : Walker) {p : Shown} → InRange w.position → (read_of file w).answer ≡ packet p → p.stamp ≤ count_limit
unfolding StampIn
packet-stamp file w r e =
    rw e at (read_cases file w (λ (q : Reading). StampIn q.answer) tt tt tt (λ h. tt) tt tt r.frames_in r.samples_in)

-- an accepted seek answers the stream's stamp where the walker stands
pub seek-stamp : (table : List ℕ) (w : Walker) (stream : ℕ) (request : ℤ) {stamp : ℕ} → (seek_of table w stream request).answer ≡ accepted stamp
    → stamp ≡ stamp_of stream (seek_of table w stream request).walker.position
seek-stamp table w stream request {stamp} e = go _ refl
  where
    go : (b : Bool) → (seek_of table w stream request).walker.end ≡ b → stamp ≡ stamp_of stream (seek_of table w stream request).walker.position
    go true h = (seek_sentences.none table w stream request stamp e h).1
    go false h =
        let g = seek_sentences.found table w stream request stamp e h in
        g.stamped ∙ ap (stamp_of stream) (sym g.there)

pub stamp_in : (stream : ℕ) (p : Position) → InRange p → stamp_of stream p ≤ count_limit
stamp_in stream p r = go (eqb stream 0)
  where
    go : (b : Bool) → cond b p.frames.0 p.samples.0 ≤ count_limit
    go true = r.frames_in
    go false = r.samples_in
