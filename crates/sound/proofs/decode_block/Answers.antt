-- `sound::decode_block` meets its contract. The check follows the refusals by itself, through the definitions that the source names; of a block that
-- is accepted, the samples stored from the front stand before what the buffer had past them (`filled`).
-- Assumes nothing.
use mathlib.Core.Path.{◌≡◌, sym, ap, ◌∙◌}
use Prim.Native.Nat.{ℕ}
use mathlib.Core.List.{List, ◌++◌}
use native.Mathlib.Omega.{arith}
use lib.ListN.{length, take, drop}
use lib.Seq.{sets}
use lib.IntN.{ℤ}
use Rattle.parse.specs.declared.preamble.AmvAudioPreamble.{AmvAudioPreamble}
use Rattle.sound.specs.Sound.{Decoder, Decoding, decode_nibbles, nibbles, samples_of, start_of}
use Rattle.sound.proofs.Blocks.{Asked, asked, length_decoded, nibbles-enough, let_pass}
use Rattle.sound.proofs.Stores.{front}
use Rattle.sound.proofs.decode_block.Goals as goal

-- the samples stored from the front stand before what the buffer had past them
filled : (p : AmvAudioPreamble) (block bytes : List ℕ) (buffer : List ℤ) (d : Decoder) → bytes ≡ drop 8 block → d ≡ start_of p
    → Asked p (length block) (length buffer)
    → sets buffer 0 (decode_nibbles d (take p.decoded_sample_count (nibbles bytes))) ≡ samples_of block p ++ drop p.decoded_sample_count buffer
filled p block bytes buffer d b e a =
    let n : length (samples_of block p) ≡ p.decoded_sample_count =
    length_decoded (start_of p) (take p.decoded_sample_count (nibbles (drop 8 block))) ∙ nibbles-enough block p.decoded_sample_count a.enough
    in
    let fits = a.fits in
    rw (b, e) (front buffer (samples_of block p) (omega arith) ∙ ap (λ (m : ℕ). samples_of block p ++ drop m buffer) n)

pub returns : goal.returns
returns c =
    let block = c.args.block.now in
    let samples = c.args.samples.now in
    let p = c.in_ok-preamble.preamble in
    let questions = sym c.in_ok-ask_block.ensures in
    let all = let_pass block samples p (sym c.in_ok-preamble.ensures) questions in
    record {
      answer = sym (ap {A = Decoding} (λ d. d.answer) all);
      samples =
          c.put_samples.ensures
          ∙ filled p block _ samples _ c.split_at.ensures.back c.start.ensures (asked p _ _ questions)
          ∙ sym (ap {A = Decoding} (λ d. d.samples) all);
    }
