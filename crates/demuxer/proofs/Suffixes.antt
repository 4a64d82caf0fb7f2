-- What stands where a part of the file begins: bytes written are headers read. Assumes nothing.
use mathlib.Core.Path.{◌≡◌, refl, sym, ap, ◌∙◌}
use mathlib.Core.Bool.{true, false}
use mathlib.Core.List.{List, ◌++◌}
use Prim.Native.Nat.{ℕ, ◌+◌, ◌^◌, ◌≤◌, ◌<◌}
use native.Mathlib.Nat.{add-zero}
use native.Mathlib.Omega.{arith}
use lib.ListN.{length, take, length-append}
use lib.Seq.{drop-append-add, take_at}
use Rattle.fields.specs.Le.{le, le_bytes}
use Rattle.fields.proofs.Laws.{le-append-right, le-le_bytes}
use Rattle.demuxer.specs.Head.{is_trailer, chunk_head, head_at}
use Rattle.demuxer.specs.Read.{payload_at}
use Rattle.demuxer.specs.declared.head.Head.TheVariants.{Trailer}
use Rattle.demuxer.proofs.Heads.{head_trailer, head_chunk}

-- the file after xs is a tag, a length and ys
module _ (xs ys : List ℕ) (tag size : ℕ) (t : tag < 256 ^ 4) (s : size < 256 ^ 4) where
  there : length xs + 8 ≤ length (xs ++ (le_bytes 4 tag ++ (le_bytes 4 size ++ ys)))
  unfolding le_bytes
  there = simp length-append (omega arith)

  tag_read : tag ≡ le 4 (xs ++ (le_bytes 4 tag ++ (le_bytes 4 size ++ ys))) (length xs)
  tag_read =
      sym
      (ap (le 4 (xs ++ (le_bytes 4 tag ++ (le_bytes 4 size ++ ys)))) (sym (add-zero (length xs)))
      ∙ le-append-right 4 xs (le_bytes 4 tag ++ (le_bytes 4 size ++ ys)) 0
      ∙ le-le_bytes 4 tag (le_bytes 4 size ++ ys) t)

  size-read : size ≡ le 4 (xs ++ (le_bytes 4 tag ++ (le_bytes 4 size ++ ys))) (length xs + 4)
  unfolding le_bytes
  size-read =
      sym
      (le-append-right 4 xs (le_bytes 4 tag ++ (le_bytes 4 size ++ ys)) 4
      ∙ le-append-right 4 (le_bytes 4 tag) (le_bytes 4 size ++ ys) 0
      ∙ le-le_bytes 4 size ys s)

  pub chunk_suffix : is_trailer tag size ≡ false → head_at (xs ++ (le_bytes 4 tag ++ (le_bytes 4 size ++ ys))) (length xs) ≡ chunk_head tag size
  chunk_suffix e = head_chunk (xs ++ (le_bytes 4 tag ++ (le_bytes 4 size ++ ys))) (length xs) there tag_read size-read e

  pub trailer_suffix : is_trailer tag size ≡ true → head_at (xs ++ (le_bytes 4 tag ++ (le_bytes 4 size ++ ys))) (length xs) ≡ Trailer
  trailer_suffix e = head_trailer (xs ++ (le_bytes 4 tag ++ (le_bytes 4 size ++ ys))) (length xs) there tag_read size-read e

-- and its payload is what stands after them
pub payload_suffix : (xs payload ys : List ℕ) (tag size : ℕ)
    → payload_at (xs ++ (le_bytes 4 tag ++ (le_bytes 4 size ++ (payload ++ ys)))) (length xs) (length payload) ≡ payload
unfolding le_bytes
payload_suffix xs payload ys tag size =
    ap (take (length payload)) (drop-append-add xs (le_bytes 4 tag ++ (le_bytes 4 size ++ (payload ++ ys))) 8)
    ∙ take_at payload ys (length payload) refl
