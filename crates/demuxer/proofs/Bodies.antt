-- The sample count in the part of a payload that is there, and the length of a packet's payload.
-- Assumes nothing.
use mathlib.Core.Path.{◌≡◌, refl, sym, ap, ◌∙◌}
use mathlib.Core.Bool.{Bool, true, false, cond}
use mathlib.Core.List.{List}
use Prim.Native.Nat.{ℕ, ◌+◌, ◌-◌, ◌≤◌, ◌<◌, min}
use native.Mathlib.Decide.{dec_le}
use native.Mathlib.Nat.{lt_of_not-le}
use native.Mathlib.Omega.{arith}
use borrow.Author.Tests.{le-leb, lt-leb}
use lib.Dec.{leb}
use lib.ListN.{length, take, drop, length-take, length-drop}
use lib.Seq.{take_all}
use Rattle.error.specs.Answer.{Answer, accepted, ask}
use Rattle.fields.specs.Le.{le}
use Rattle.parse.specs.Preamble.{preamble_of}
use Rattle.parse.specs.declared.preamble.AmvAudioPreamble.{AmvAudioPreamble}
use Rattle.demuxer.specs.Head.{CountIs, preamble_count, count_of}
use Rattle.demuxer.specs.Packet.{payload_of}
use Rattle.demuxer.specs.declared.packet.Packet.{Packet}

-- the count of a payload, written out
pub count-is : CountIs
unfolding count_of preamble_of
count-is payload = go (leb 8 (length payload))
  where
    go : (b : Bool)
        → preamble_count (ask b 25 0 (accepted (record { state = le 4 payload 0; decoded_sample_count = le 4 payload 4 })))
        ≡ cond b (le 4 payload 4) 0
    go true = refl
    go false = refl

module _ (file : List ℕ) (start size : ℕ) where
  -- the count of a payload that starts past the file's end
  pub count_past : length file < start → count_of (take size (drop start file)) ≡ 0
  count_past h =
      let l : length (take size (drop start file)) < 8 = simp (length-take, length-drop) (omega arith) in
      count-is _ ∙ rw (lt-leb _ _ l)

  -- a payload is the part of it that the file has
  pub payload-there : take (min (length file - start) size) (drop start file) ≡ take size (drop start file)
  payload-there =
      elim (dec_le size (length file - start)) [
        | yes l ↦ let e : min (length file - start) size ≡ size = omega arith in rw e
        | no l ↦
            let m : length (drop start file) ≤ min (length file - start) size = simp length-drop (omega (arith, lt_of_not-le l)) in
            let n : length (drop start file) ≤ size = simp length-drop (omega (arith, lt_of_not-le l)) in
            take_all _ _ m ∙ sym (take_all _ _ n)
      ]

  -- and so its count is that of the preamble read from this part
  pub count-read : {n : ℕ} {said : Answer AmvAudioPreamble}
      → n ≡ min (length file - start) size → said ≡ preamble_of (take n (drop start file))
      → preamble_count said ≡ count_of (take size (drop start file))
  unfolding count_of
  count-read e s = ap preamble_count s ∙ rw e (ap (λ (payload : List ℕ). preamble_count (preamble_of payload)) payload-there)

-- a packet's payload that the file has is as long as the packet says
pub length-payload : (file : List ℕ) (p : Packet) → p.start + p.len ≤ length file → length (payload_of file p) ≡ p.len
unfolding payload_of
length-payload file p h = rw (le-leb _ _ h) (simp (length-take, length-drop) (omega arith))
