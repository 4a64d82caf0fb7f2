-- The listings of E and of T. The check's answers are those of the other cases; the lines of the chunks are computed. Assumes nothing.
use mathlib.Core.Path.{◌≡◌, refl, ap, ◌∙◌}
use mathlib.Core.Bool.{true, false}
use mathlib.Core.List.{List, [], ◌∷◌, ◌++◌, append_assoc}
use Prim.Native.Nat.{ℕ, ◌≤◌}
use native.Mathlib.Omega.{arith}
use lib.ListN.{length, length-append}
use Rattle.fields.specs.Le.{le, le_bytes}
use Rattle.lines.specs.Lines.{chunk_line, totals_line}
use Rattle.parse.specs.Preamble.{preamble_of}
use Rattle.prelude.specs.Built.{prelude_bytes}
use Rattle.demuxer.specs.Head.{head_at, count_of}
use Rattle.demuxer.specs.Position.{start}
use Rattle.walk.specs.Chunks.{chunk_bytes, chunks_bytes}
use Rattle.walk.specs.Walk.{step_at, file_walk, walk_for, walk}
use Rattle.listing.specs.Listing.{chunk_lines, listing_of}
use Rattle.listing.proofs.Laws.{checked_listed}
use Rattle.cases.specs.Example.{E}
use Rattle.cases.specs.Listed.{Listed}
use Rattle.cases.specs.Numbers.{P, T}
use Rattle.cases.proofs.Cases.{cases}
use Rattle.cases.proofs.Numbers.{numbers}

E-chunks : chunk_lines start (file_walk E) ≡ chunk_line true 316 0 0 0 ++ (chunk_line false 327 1 0 0 ++ [])
unfolding le le_bytes prelude_bytes chunk_bytes chunks_bytes E preamble_of head_at count_of step_at walk_for walk chunk_lines
E-chunks = refl

T-chunks : chunk_lines start (file_walk T) ≡ chunk_line true 316 0 0 0 ++ (chunk_line true 325 1 0 0 ++ (chunk_line false 335 2 0 0 ++ []))
unfolding le le_bytes prelude_bytes chunk_bytes chunks_bytes P T preamble_of head_at count_of step_at walk_for walk chunk_lines
T-chunks = refl

T-short : length T ≤ 65536
unfolding le_bytes prelude_bytes chunk_bytes chunks_bytes P T
T-short = omega arith

pub listed : Listed
listed =
    record {
      example =
          checked_listed E _ (omega (arith, cases.size)) cases.ten_passes
          ∙ ap (λ (l : List ℕ). l ++ totals_line 345 1 1 2 true) E-chunks
          ∙ simp append_assoc;
      longer = λ byte. checked_listed (E ++ (byte ∷ [])) _ (simp length-append (omega (arith, cases.size))) (cases.ten byte);
      told_apart =
          checked_listed T _ T-short numbers.totals
          ∙ ap (λ (l : List ℕ). l ++ totals_line 351 2 1 5 false) T-chunks
          ∙ simp append_assoc;
      long = λ input e. unfold listing_of in rw e;
    }
