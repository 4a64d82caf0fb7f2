-- Reading a page by its columns, as a miller does. Document 02, M-100: "reading the columns yields the record's kind, offset, frames and
-- samples". Nothing here is said in terms of how a page is printed. Assumes nothing.
use Rattle.std.specs.Prelude.{ℕ, zero, suc, ◌+◌, ◌-◌, ◌*◌, cond, List, [], ◌∷◌, eqb, take, drop}
use Rattle.std.specs.Prelude.{Option, Some, None}
use Rattle.chunk.specs.Chunk.{video_tag, audio_tag}

-- the columns of a line from one to another, counted from 1
abbrev pub from_to : ℕ → ℕ → List ℕ → List ℕ
from_to first last line = take (last + 1 - first) (drop (first - 1) line)

-- the number in some columns, n being what was read of it: spaces are skipped, and a digit is added to ten times what was read
unfoldable pub number_in : ℕ → List ℕ → ℕ
number_in n [] = n
number_in n (c ∷ cs) = cond (eqb c 32) (number_in n cs) (number_in (10 * n + (c - 48)) cs)

-- the tag that a letter stands for: `00dc` for V, `01wb` for A
abbrev pub tag_in : List ℕ → Option ℕ
tag_in [] = None
tag_in (c ∷ cs) = cond (eqb c 86) (Some video_tag) (cond (eqb c 65) (Some audio_tag) None)

-- what a line shows
pub record Shown : Type 0 where
  pub tag : Option ℕ
  pub offset : ℕ
  pub frames : ℕ
  pub samples : ℕ

-- 02: "kind (V or A) in 1, offset in 2 to 11, frames 12 to 21, samples 22 to 40"
unfoldable pub read_line : List ℕ → Shown
read_line line =
    record {
      tag = tag_in (from_to 1 1 line);
      offset = number_in 0 (from_to 2 11 line);
      frames = number_in 0 (from_to 12 21 line);
      samples = number_in 0 (from_to 22 40 line);
    }

-- so many lines of 40 columns from a page
unfoldable pub lines_of : ℕ → List ℕ → List (List ℕ)
lines_of zero page = []
lines_of (suc n) page = take 40 page ∷ lines_of n (drop 40 page)
