-- What an accepted call says, and the words of a packet. Assumes nothing.
use mathlib.Core.Path.{◌≡◌, sym, ap, subst, ◌∙◌}
use Rattle.std.proofs.Common.{Some}
use Prim.Native.Nat.{ℕ}
use mathlib.Core.List.{List, ◌∷◌}
use Rattle.error.specs.Answer.{Answer, accepted, number_of}
use Rattle.demuxer.specs.Packet.{shown_of}
use Rattle.demuxer.specs.Read.{PlacedAt}
use Rattle.demuxer.proofs.Bodies.{length-payload}
use Rattle.demuxer.specs.declared.packet.Packet.{Packet}
use Rattle.demuxer.specs.declared.walker.Walker.{Walker}
use Rattle.words.specs.Out.{OutSays, Accepted, out_of, packet_words, shown_words}

-- ---- what a call says

pub says-accepted : {answer : Answer (List ℕ)} {words out : List ℕ} (n : ℕ) → answer ≡ accepted words → out ≡ 0 ∷ words → OutSays n answer 0 out
says-accepted n e o =
    record {
      number = ap number_of (sym e);
      words = o ∙ ap (out_of n) (sym e);
      zero = λ _. subst (λ (a : Answer (List ℕ)). Accepted a) (sym e) tt;
    }

-- ---- a packet

-- where a packet's payload stands, and how long it is
pub packet-placed : (file : List ℕ) (w : Walker) (p : Packet) → PlacedAt file w p
    → packet_words p.stream p.start p.len p.stamp p.duration ≡ shown_words w (Some (shown_of file p))
unfolding shown_of
packet-placed file w p (s, l) = rw (length-payload file p l, s)
