-- One turn of the loop over the chunks: a step of the walk is one line more, or the end. Assumes nothing.
use mathlib.Core.Path.{◌≡◌, refl, sym, ap, ◌∙◌}
use mathlib.Core.List.{List, [], ◌++◌}
use Prim.Native.Nat.{ℕ, ◌+◌, ◌*◌, ◌≤◌}
use native.Mathlib.Omega.{arith}
use lib.ListN.{length}
use Rattle.prelude.specs.Layout.{prelude_len}
use Rattle.text.specs.Puts.{Puts}
use Rattle.text.specs.declared.Text.{Text}
use Rattle.text.proofs.Laws.{join, puts_nothing}
use Rattle.demuxer.specs.Position.{start}
use Rattle.demuxer.specs.declared.position.Position.{Position}
use Rattle.walk.specs.Steps.{Walked, past_at}
use Rattle.walk.specs.Walk.{Stop, stop, walk, file_walk}
use Rattle.walk.specs.declared.ChunkAt.{ChunkAt}
use Rattle.walk.proofs.Walked.{walked_start}
use Rattle.walk.proofs.Walks.{Goes, past_is, past-cursor, chunks_before, one_more}
use Rattle.listing.specs.Listing.{line_at, chunk_lines, input_limit}
use Rattle.listing.specs.Steps.{room}

-- the lines that are left at a position
abbrev pub lines_from : List ℕ → Position → List ℕ
lines_from file p = chunk_lines p (walk file p.cursor)

pub lines-stop : (file : List ℕ) (p : Position) {s : Stop} → walk file p.cursor ≡ stop s → lines_from file p ≡ []
unfolding chunk_lines
lines-stop file p w = ap (chunk_lines p) w

pub lines_on : (file : List ℕ) (p : Position) (c : ChunkAt) → Goes file p.cursor c
    → lines_from file p ≡ line_at p c.kind ++ lines_from file (past_at file p c)
unfolding chunk_lines
lines_on file p c g =
    let n : walk file (p.cursor + (8 + c.size)) ≡ walk file (past_at file p c).cursor = ap (walk file) (sym (past-cursor file p c)) in
    ap (chunk_lines p) g.is ∙ rw (past_is file p c g, n)

-- whoever puts the lines that are left has put all of them; a line has at most 86 bytes, and its chunk 8 of the input
pub record Listing (file : List ℕ) (old text : Text) (p : Position) : Type 0 where
  pub walked : Walked p
  pub same_size : length text.buffer.now ≡ length old.buffer.now
  pub few : prelude_len + 8 * chunks_before p ≤ input_limit
  pub short : text.len ≤ 86 * chunks_before p
  pub rest : (all : Text) → Puts text (lines_from file p) all → Puts old (chunk_lines start (file_walk file)) all

pub listing_starts : (file : List ℕ) (text : Text) → text.len ≡ 0 → Listing file text text start
listing_starts file text e = record { walked = walked_start; same_size = refl; few = omega arith; short = omega arith; rest = λ all p. p }

module _ {file : List ℕ} {old text : Text} {p : Position} (l : Listing file old text p) where
  pub listing_ends : room ≤ length old.buffer.now → lines_from file p ≡ [] → Puts old (chunk_lines start (file_walk file)) text
  listing_ends r e = l.rest text (rw e (puts_nothing (omega (arith, l.few, l.short, l.same_size))))

  module _ {c : ChunkAt} (g : Goes file p.cursor c) (h : length file ≤ input_limit) where
    -- there is a chunk more, and so room for its line
    pub one-fits : prelude_len + 8 * (chunks_before p + 1) ≤ input_limit
    one-fits = omega (arith, g.there, l.walked.chunks_le)

    pub listing_more : {after : Text} → Walked (past_at file p c) → Puts text (line_at p c.kind) after → after.len ≤ text.len + 86
        → Listing file old after (past_at file p c)
    listing_more {after} v w b =
        let n = one_more file p c in
        record {
          walked = v;
          same_size = w.same_size ∙ l.same_size;
          few = omega (arith, one-fits);
          short = omega (arith, l.short);
          rest = λ all q. l.rest all (rw (lines_on file p c g) (join w q));
        }
