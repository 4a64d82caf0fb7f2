-- Where a walker stands, and how it goes past a chunk. Assumes nothing.
use Rattle.std.specs.Prelude.{ℕ, ◌+◌, ◌≤◌, Bool, ◌&&◌, leb}
use Rattle.chunk.specs.Chunk.{advance_total}
use Rattle.prelude.specs.Layout.{prelude_len}
use Rattle.demuxer.specs.declared.position.Position.{Position}

-- 01: "A fresh one starts at 316 with zero counters"
abbrev pub start : Position
start = record { cursor = prelude_len; frames = record { 0 = 0 }; samples = record { 0 = 0 }; blocks = record { 0 = 0 } }

-- 2^62
abbrev pub count_limit : ℕ
count_limit = 4611686018427387904

-- "Cursor and three counters each from 0 to 2^62?"
unfoldable pub in_range : Position → Bool
in_range p =
    leb p.cursor count_limit && leb p.frames.0 count_limit && leb p.samples.0 count_limit && leb p.blocks.0 count_limit

-- the same as facts, for the helpers that go past a chunk
pub record InRange (p : Position) : Type 0 where
  pub cursor_in : p.cursor ≤ count_limit
  pub frames_in : p.frames.0 ≤ count_limit
  pub samples_in : p.samples.0 ≤ count_limit
  pub blocks_in : p.blocks.0 ≤ count_limit

-- "cursor moves 8 + length. Frames: .. stamp + 1."
abbrev pub past_frame : Position → ℕ → Position
past_frame p size =
    record {
      cursor = p.cursor + advance_total size;
      frames = record { 0 = p.frames.0 + 1 };
      samples = p.samples;
      blocks = p.blocks;
    }

-- "Sound: block count + 1; .. the stamp grows by" the count
abbrev pub past_sound : Position → ℕ → ℕ → Position
past_sound p size count =
    record {
      cursor = p.cursor + advance_total size;
      frames = p.frames;
      samples = record { 0 = p.samples.0 + count };
      blocks = record { 0 = p.blocks.0 + 1 };
    }
