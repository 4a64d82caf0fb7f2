-- The header at an offset, by whether 8 bytes are left; and it is the header of the bytes from there, where the same bytes are left and each field
-- stands so much earlier.
-- Assumes nothing.
use mathlib.Core.Path.{◌≡◌, sym, ◌∙◌}
use mathlib.Core.List.{List}
use Prim.Native.Nat.{ℕ, ◌+◌, ◌-◌, ◌≤◌, ◌<◌}
use native.Mathlib.Decide.{dec_le}
use native.Mathlib.Nat.{add-zero, lt_of_not-le}
use native.Mathlib.Omega.{arith}
use borrow.Author.Tests.{le-leb, lt-leb}
use lib.Dec.{leb}
use lib.ListN.{length, drop, length-drop}
use Rattle.error.specs.Answer.{accepted, refused, numbered}
use Rattle.fields.specs.Le.{le}
use Rattle.fields.proofs.Laws.{le-drop}
use Rattle.chunk.specs.Chunk.{chunk_header_of, chunk_header_at}

module _ (file : List ℕ) (at : ℕ) where
  pub header_out : length file < at + 8 → chunk_header_at file at ≡ refused (numbered 29 0)
  unfolding chunk_header_at
  header_out h = rw (lt-leb (at + 8) (length file) h)

  pub header-there : at + 8 ≤ length file → {tag size : ℕ} → tag ≡ le 4 file at → size ≡ le 4 file (at + 4)
      → chunk_header_at file at ≡ accepted (record { tag = tag; size = size })
  unfolding chunk_header_at
  header-there h t s = rw (le-leb (at + 8) (length file) h, ← t, ← s)

-- 8 bytes are left of n at an offset
left : (at n : ℕ) → leb (at + 8) n ≡ leb 8 (n - at)
left at n =
    elim (dec_le (at + 8) n) [
      | yes h ↦ le-leb (at + 8) n h ∙ sym (le-leb 8 (n - at) (omega arith))
      | no h ↦ let l = lt_of_not-le h in lt-leb (at + 8) n l ∙ sym (lt-leb 8 (n - at) (omega arith))
    ]

pub header_at : (file : List ℕ) (at : ℕ) → chunk_header_at file at ≡ chunk_header_of (drop at file)
unfolding chunk_header_at chunk_header_of
header_at file at = rw (length-drop at file, left at (length file), le-drop 4 at file 0, le-drop 4 at file 4, add-zero at)
