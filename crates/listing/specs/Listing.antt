-- The listing of a file. Document 01, "A small file, listed". Assumes nothing.
use Rattle.std.specs.Prelude.{◌≡◌, ℕ, ◌≤◌, ◌<◌, cond, List, [], ◌++◌, leb, length}
use Rattle.error.specs.Answer.{Answer, accepted, refused}
use Rattle.error.specs.declared.Refusal.{Refusal}
use Rattle.lines.specs.Lines.{chunk_line, totals_line, refusal_line, long_line}
use Rattle.demuxer.specs.Position.{start}
use Rattle.demuxer.specs.declared.position.Position.{Position}
use Rattle.walk.specs.Walk.{is_frame, Walk, stop, chunk, past, file_walk}
use Rattle.walk.specs.declared.Kind.{Kind}
use Rattle.finished.specs.Check.{check_of}
use Rattle.finished.specs.declared.Totals.{Totals}

-- 01: "prints kind, offset, frames, samples, blocks before"
abbrev pub line_at : Position → Kind → List ℕ
line_at p kind = chunk_line (is_frame kind) p.cursor p.frames.0 p.samples.0 p.blocks.0

-- a line for every chunk of a walk, in order
unfoldable pub chunk_lines : Position → Walk → List ℕ
chunk_lines p (stop s) = []
chunk_lines p (chunk kind payload missing rest) = line_at p kind ++ chunk_lines (past p kind payload missing) rest

-- 01: "then the totals"; "A file the check refuses gives only one line .. `NO`, number, place."
abbrev pub checked_lines : List ℕ → Answer Totals → List ℕ
checked_lines file (accepted t) =
    chunk_lines start (file_walk file) ++ totals_line t.trailer t.frames t.blocks t.samples t.paired
checked_lines file (refused r) = refusal_line r.number r.place

-- 01: "on standard input (at most 65,536 bytes)"
abbrev pub input_limit : ℕ
input_limit = 65536

-- 01: "Longer input gives `NO LONG`."
unfoldable pub listing_of : List ℕ → List ℕ
listing_of input = cond (leb (length input) input_limit) (checked_lines input (check_of input)) long_line

-- the three kinds of listing, each with the inputs that have it
pub record ListingIs : Type 0 where
  pub long : (input : List ℕ) → input_limit < length input → listing_of input ≡ long_line
  pub refusal : (input : List ℕ) (r : Refusal) → length input ≤ input_limit → check_of input ≡ refused r
      → listing_of input ≡ refusal_line r.number r.place
  pub chunks : (input : List ℕ) (t : Totals) → length input ≤ input_limit → check_of input ≡ accepted t
      → listing_of input ≡ chunk_lines start (file_walk input) ++ totals_line t.trailer t.frames t.blocks t.samples t.paired
