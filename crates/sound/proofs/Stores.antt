-- The samples of a block, stored one after another. What is left to store is decoded from the nibbles that are left, so a turn of the loop takes
-- one byte off the nibbles and two samples off what is left (`turn`), and nothing is said of what has been stored.
-- Assumes nothing.
use mathlib.Core.Path.{◌≡◌, refl, sym, ap, ◌∙◌}
use mathlib.Core.List.{List, ◌∷◌, ◌++◌}
use Prim.Native.Nat.{ℕ, suc, ◌+◌, ◌*◌, ◌-◌, ◌/◌, ◌%◌, ◌≤◌, ◌<◌}
use native.Mathlib.Omega.{arith}
use lib.IntN.{ℤ}
use lib.ListN.{length, take, drop, get_or, set, length-set}
use lib.Signed.{mag}
use lib.Seq.{drop-cons, sets, sets-eq}
use mir.Syntax.{w16}
use mir.Val.{to_z, of_z}
use mir.ValLaws.{to_z-of_z}
use Rattle.sound.specs.Sound.{Decoder, decode_nibble, decode_nibbles, nibbles}

-- the buffer after the next samples, from a byte and a place of the buffer on
abbrev pub rest : List ℕ → List ℤ → Decoder → ℕ → ℕ → ℕ → List ℤ
rest bytes samples d i at left = sets samples at (decode_nibbles d (take left (nibbles (drop i bytes))))

-- the two nibbles of a byte, as they stand
abbrev pub first_of : ℕ → ℕ
first_of byte = byte / 16

abbrev pub second_of : ℕ → ℕ
second_of byte = byte % 16

-- the nibbles from a byte on are its two, and those of the bytes after it
nibbles-at : (bytes : List ℕ) (i : ℕ) → i < length bytes
    → nibbles (drop i bytes) ≡ first_of (get_or bytes i 0) ∷ second_of (get_or bytes i 0) ∷ nibbles (drop (suc i) bytes)
unfolding nibbles
nibbles-at bytes i h = ap nibbles (drop-cons bytes i 0 h)

-- a whole byte
turn : (bytes : List ℕ) (samples : List ℤ) (d : Decoder) (i at left : ℕ) → i < length bytes
    → let d1 = decode_nibble (first_of (get_or bytes i 0)) d in
    let d2 = decode_nibble (second_of (get_or bytes i 0)) d1 in
    rest bytes samples d i at (suc (suc left)) ≡ rest bytes (set (set samples at d1.level) (suc at) d2.level) d2 (suc i) (suc (suc at)) left
unfolding decode_nibbles
turn bytes samples d i at left h = ap (λ (ns : List ℕ). sets samples at (decode_nibbles d (take (suc (suc left)) ns))) (nibbles-at bytes i h)

-- the high nibble of the last byte
last : (bytes : List ℕ) (samples : List ℤ) (d : Decoder) (i at : ℕ) → i < length bytes
    → rest bytes samples d i at 1 ≡ set samples at (decode_nibble (first_of (get_or bytes i 0)) d).level
unfolding decode_nibbles
last bytes samples d i at h = ap (λ (ns : List ℕ). sets samples at (decode_nibbles d (take 1 ns))) (nibbles-at bytes i h)

-- nothing is left
done : (bytes : List ℕ) (samples : List ℤ) (d : Decoder) (i at : ℕ) → rest bytes samples d i at 0 ≡ samples
unfolding decode_nibbles
done bytes samples d i at = refl

-- stored from the front, the samples stand before what the buffer had past them
pub front : (buffer samples : List ℤ) → length samples ≤ length buffer → sets buffer 0 samples ≡ samples ++ drop (length samples) buffer
front buffer samples h =
    let e : 0 + length samples ≡ length samples = omega arith in
    sets-eq samples buffer 0 (omega arith) ∙ ap (λ (n : ℕ). samples ++ drop n buffer) e

-- ---- the loop

-- a sample fits 16 bits, so it is stored as it is
pub stored_is : (v : ℤ) (d : Decoder) → mag v < 32768 → v ≡ d.level → to_z w16 (of_z w16 v) ≡ d.level
stored_is v d f e = to_z-of_z w16 v (record { sfits = f }) ∙ e

-- between two turns: every byte left two samples, and what is left to store makes the whole
pub record Putting (bytes : List ℕ) (before : List ℤ) (first : Decoder) (count : ℕ) (samples : List ℤ) (d : Decoder) (i : ℕ) : Type 0 where
  pub long : length samples ≡ length before
  pub left_is : rest bytes samples d i (2 * i) (count - 2 * i) ≡ rest bytes before first 0 0 count

module _ {bytes : List ℕ} {before : List ℤ} {first : Decoder} {count : ℕ} {samples : List ℤ} {d : Decoder} {i : ℕ}
    (p : Putting bytes before first count samples d i) where
  -- one turn
  pub next : (d1 d2 : Decoder) (v1 v2 : ℤ) (byte : ℕ) → i < length bytes → i < count / 2 → byte ≡ get_or bytes i 0
      → d1 ≡ decode_nibble (first_of byte) d → d2 ≡ decode_nibble (second_of byte) d1 → v1 ≡ d1.level → v2 ≡ d2.level
      → Putting bytes before first count (set (set samples (2 * i) v1) (2 * i + 1) v2) d2 (i + 1)
  next d1 d2 v1 v2 byte h l e e1 e2 f1 f2 =
      let one : 2 * i + 1 ≡ suc (2 * i) = omega arith in
      let two : 2 * (i + 1) ≡ suc (suc (2 * i)) = omega arith in
      let more : i + 1 ≡ suc i = omega arith in
      let less : count - 2 * i ≡ suc (suc (count - suc (suc (2 * i)))) = omega arith in
      record {
        long = length-set (set samples (2 * i) v1) (2 * i + 1) v2 ∙ length-set samples (2 * i) v1 ∙ p.long;
        left_is =
            rw (one, two, more, f1, f2, e2, e1, e)
            (sym (turn bytes samples d i (2 * i) (count - suc (suc (2 * i))) h) ∙ sym (ap (λ (n : ℕ). rest bytes samples d i (2 * i) n) less) ∙ p.left_is);
      }

  -- the last sample, of an odd count
  pub odd_end : (d1 : Decoder) (v1 : ℤ) (byte : ℕ) → i < length bytes → count ≡ 2 * i + 1 → byte ≡ get_or bytes i 0
      → d1 ≡ decode_nibble (first_of byte) d → v1 ≡ d1.level
      → set samples (count - 1) v1 ≡ rest bytes before first 0 0 count
  odd_end d1 v1 byte h n e e1 f1 =
      let one : count - 2 * i ≡ 1 = omega arith in
      let at : count - 1 ≡ 2 * i = omega arith in
      rw (at, f1, e1, e) (sym (last bytes samples d i (2 * i) h) ∙ sym (ap (λ (n : ℕ). rest bytes samples d i (2 * i) n) one) ∙ p.left_is)

  pub even-end : count ≡ 2 * i → samples ≡ rest bytes before first 0 0 count
  even-end n =
      let none : count - 2 * i ≡ 0 = omega arith in
      sym (done bytes samples d i (2 * i)) ∙ sym (ap (λ (n : ℕ). rest bytes samples d i (2 * i) n) none) ∙ p.left_is
