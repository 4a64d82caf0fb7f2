-- The blocks and their samples, each computed from the definition. Assumes nothing.
use mathlib.Core.Path.{refl}
use mathlib.Core.List.{List}
use Prim.Native.Nat.{ℕ}
use Rattle.fields.specs.Le.{le, le_bytes, Bytes}
use Rattle.fields.proofs.Laws.{bytes-append, bytes-le_bytes}
use Rattle.parse.specs.Preamble.{preamble_of, state_byte}
use Rattle.sound.specs.Sound.{block_questions, decode_nibbles, decode_of, index_after, level_after, nibbles, sample_questions, steps}
use Rattle.cases.specs.Sounds.{Sounds, block_of}

block-bytes : (level index count : ℕ) (bytes : List ℕ) → Bytes bytes → Bytes (block_of level index count bytes)
block-bytes level index count bytes b =
    bytes-append (le_bytes 2 level) _ (bytes-le_bytes 2 level)
    (bytes-append (le_bytes 2 index) _ (bytes-le_bytes 2 index) (bytes-append (le_bytes 4 count) bytes (bytes-le_bytes 4 count) b))

pub sounds : Sounds
unfolding le le_bytes preamble_of state_byte steps level_after index_after decode_nibbles nibbles sample_questions block_questions decode_of
sounds =
    record {
      example = refl;
      nibbles = refl;
      every_step = refl;
      every_nibble = refl;
      top = refl;
      bottom = refl;
      highest = refl;
      lowest = refl;
      none = refl;
      none_used = refl;
      ignored = refl;
      twenty_five = refl;
      seventy_one = refl;
      seventy_one_not = refl;
      seventy_two = refl;
      seventy_two_not = refl;
      seventy_three = refl;
      alone = record { same_length = refl; same_rest = refl };
      lower_bytes = block-bytes 0 0 2 (le_bytes 2 0x2211) (bytes-le_bytes 2 0x2211);
      higher_bytes = block-bytes 5 0 2 (le_bytes 2 0x2211) (bytes-le_bytes 2 0x2211);
      levels_apart = refl;
      samples_apart = refl;
    }
