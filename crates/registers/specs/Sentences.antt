-- 02's sentences about the register block a second time: by each command and what its read or seek answers, and bit by bit. Assumes nothing.
use Rattle.std.specs.Prelude.{◌≡◌, ℕ, ◌+◌, ◌/◌, ◌%◌, ◌^◌, ◌≤◌, ◌<◌, Bool, true, false, not, ◌&&◌, ◌||◌, List, [], ◌∷◌, eqb, length, drop}
use Rattle.std.specs.Prelude.{Option, Some, None}
use Rattle.error.specs.Answer.{accepted, refused, numbered}
use Rattle.error.specs.Sentences.{GivesBack, RefusedBy}
use Rattle.error.specs.declared.Refusal.{Refusal}
use Rattle.fields.specs.Le.{le_bytes, Bytes}
use Rattle.demuxer.specs.Packet.{Shown}
use Rattle.demuxer.specs.Read.{packet, End, read_of}
use Rattle.demuxer.specs.Read as read_answers
use Rattle.demuxer.specs.declared.walker.Walker.{Walker}
use Rattle.seek.specs.Seek.{seek_of}
use Rattle.registers.specs.Registers.{byte, request_in, Stepping, step_of}

-- bit i of a number
abbrev pub bit : ℕ → ℕ → Bool
bit i n = eqb (n / 2 ^ i % 2) 1

-- a block that 74 and 75 let pass
pub record Ready (block : List ℕ) : Type 0 where
  pub whole : length block ≡ 16
  pub known : byte block 0 ≤ 3

-- what a step tells: the packet that it answers, the walker that it leaves, the number in byte 5, and bytes 8 to 15
pub record Tells (s : Stepping) (p : Option Shown) (after : Walker) (number : ℕ) (request : List ℕ) : Type 0 where
  pub packet_is : s.answer ≡ accepted p
  pub walker_is : s.walker ≡ after
  pub number_is : byte s.block 5 ≡ number
  pub request_is : drop 8 s.block ≡ request

-- what a step may change
pub record Changed : Type 0 where
  pub walker : Walker
  pub block : List ℕ

-- of every file, table and walker
pub record RegisterSentences (file table : List ℕ) : Type 0 where
  -- "block not 16 bytes, 74, first; command above 3, 75, second. These two alone refuse the step"
  pub seventy_four : (w : Walker) (block : List ℕ) → (length block ≡ 16 → ⊥) → (step_of file table w block).answer ≡ refused (numbered 74 0)
  pub seventy_five : (w : Walker) (block : List ℕ) → length block ≡ 16 → 3 < byte block 0
      → (step_of file table w block).answer ≡ refused (numbered 75 0)
  pub accepts : (w : Walker) (block : List ℕ) → Ready block → (p : Option Shown) × ((step_of file table w block).answer ≡ accepted p)
  pub numbers : (w : Walker) (block : List ℕ) → RefusedBy (74 ∷ 75 ∷ []) (step_of file table w block).answer
  -- "and change no byte"; nor do they move the walker
  pub gives_back : GivesBack (λ (s : Changed). (step_of file table s.walker s.block).answer)
      (λ (s : Changed). record { walker = (step_of file table s.walker s.block).walker; block = (step_of file table s.walker s.block).block })
  -- "0 none": nothing is asked of walker, table or file
  pub idle : (w : Walker) (block : List ℕ) → length block ≡ 16 → byte block 0 ≡ 0 → Tells (step_of file table w block) None w 0 (drop 8 block)
  -- "1 read": "a read that gave a packet", one that ended, one that was refused, whose walker stays
  pub read_gave : (w : Walker) (block : List ℕ) (p : Shown) → length block ≡ 16 → byte block 0 ≡ 1 → (read_of file w).answer ≡ packet p
      → Tells (step_of file table w block) (Some p) (read_of file w).walker 0 (le_bytes 8 p.stamp)
  pub read_ended : (w : Walker) (block : List ℕ) → length block ≡ 16 → byte block 0 ≡ 1 → (read_of file w).answer ≡ End
      → Tells (step_of file table w block) None (read_of file w).walker 0 (drop 8 block)
  pub read_refused : (w : Walker) (block : List ℕ) (r : Refusal) → length block ≡ 16 → byte block 0 ≡ 1
      → (read_of file w).answer ≡ read_answers.refused r → Tells (step_of file table w block) None w r.number (drop 8 block)
  -- "2 seek picture, 3 seek sound": streams 0 and 1; "an accepted seek", to a chunk or to the end, and one that was refused
  pub went : (w : Walker) (block : List ℕ) (stream stamp : ℕ) → length block ≡ 16 → stream ≤ 1 → byte block 0 ≡ 2 + stream
      → (seek_of table w stream (request_in block)).answer ≡ accepted stamp
      → Tells (step_of file table w block) None (seek_of table w stream (request_in block)).walker 0 (le_bytes 8 stamp)
  pub seek_refused : (w : Walker) (block : List ℕ) (stream : ℕ) (r : Refusal) → length block ≡ 16 → stream ≤ 1 → byte block 0 ≡ 2 + stream
      → (seek_of table w stream (request_in block)).answer ≡ refused r → Tells (step_of file table w block) None w r.number (drop 8 block)
  -- "Bit 0 is set exactly when this step's read gave a packet"
  pub packet_bit : (w : Walker) (block : List ℕ) (p : Shown) → (step_of file table w block).answer ≡ accepted (Some p)
      → bit 0 (byte (step_of file table w block).block 1) ≡ true
  pub no_packet_bit : (w : Walker) (block : List ℕ) → (step_of file table w block).answer ≡ accepted None
      → bit 0 (byte (step_of file table w block).block 1) ≡ false
  -- "bits 1 and 2 are the walker's marks"
  pub end_bit : (w : Walker) (block : List ℕ) → Ready block
      → bit 1 (byte (step_of file table w block).block 1) ≡ (step_of file table w block).walker.end
  pub cut_bit : (w : Walker) (block : List ℕ) → Ready block
      → bit 2 (byte (step_of file table w block).block 1) ≡ (step_of file table w block).walker.cut
  -- "bit 3 is set exactly when this step's read or seek was refused": byte 5, whose number is never 0 then, is 0 exactly when it is clear
  pub clear : (w : Walker) (block : List ℕ) → Ready block → bit 3 (byte (step_of file table w block).block 1) ≡ false
      → byte (step_of file table w block).block 5 ≡ 0
  pub unrefused : (w : Walker) (block : List ℕ) → Ready block → byte (step_of file table w block).block 5 ≡ 0
      → bit 3 (byte (step_of file table w block).block 1) ≡ false
  -- "and bits 4 to 7 are 0"
  pub high_bits : (w : Walker) (block : List ℕ) → Ready block → (i : ℕ) → 4 ≤ i → bit i (byte (step_of file table w block).block 1) ≡ false
  -- "clears in byte 3 each bit set in byte 4, .. makes pending each enabled bit that went from 0 in the old byte 1 to 1": each bit by itself
  pub pending : (w : Walker) (block : List ℕ) → Ready block → Bytes block → (i : ℕ) → i < 8
      → bit i (byte (step_of file table w block).block 3)
      ≡ ((bit i (byte block 3) && not (bit i (byte block 4)))
      || (bit i (byte block 2) && (not (bit i (byte block 1)) && bit i (byte (step_of file table w block).block 1))))
  -- so a pending bit stays until it is acknowledged ..
  pub stays : (w : Walker) (block : List ℕ) → Ready block → Bytes block → (i : ℕ) → i < 8
      → bit i (byte block 3) ≡ true → bit i (byte block 4) ≡ false → bit i (byte (step_of file table w block).block 3) ≡ true
  -- .. and no interrupt is lost: a bit that rises while it is enabled is pending after the step, acknowledged or not
  pub never_lost : (w : Walker) (block : List ℕ) → Ready block → Bytes block → (i : ℕ) → i < 8
      → bit i (byte block 2) ≡ true → bit i (byte block 1) ≡ false → bit i (byte (step_of file table w block).block 1) ≡ true
      → bit i (byte (step_of file table w block).block 3) ≡ true
  -- "zeroes bytes 0 and 4"
  pub zeroed : (w : Walker) (block : List ℕ) → Ready block
      → (byte (step_of file table w block).block 0 ≡ 0) × (byte (step_of file table w block).block 4 ≡ 0)
  -- "Bytes 2, 6 and 7 are never changed", and a block keeps its length, refused or not
  pub kept : (w : Walker) (block : List ℕ)
      → (byte (step_of file table w block).block 2 ≡ byte block 2)
      × (byte (step_of file table w block).block 6 ≡ byte block 6)
      × (byte (step_of file table w block).block 7 ≡ byte block 7)
  pub same_length : (w : Walker) (block : List ℕ) → length (step_of file table w block).block ≡ length block
