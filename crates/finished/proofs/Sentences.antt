-- 01's sentences about the check hold. The numbers are those of the strict parse, then chunk by chunk along the walk; that the trailer ends the file
-- goes by induction over the walk; a recording without chunks is computed. Assumes nothing.
use mathlib.Core.Path.{◌≡◌, refl, sym, ap, ◌∙◌}
use mathlib.Core.Bool.{Bool, true}
use mathlib.Core.List.{List, [], ◌∷◌, ◌++◌}
use Prim.Native.Nat.{ℕ, zero, suc, ◌+◌, ◌-◌, ◌≤◌}
use native.Mathlib.Omega.{arith}
use borrow.Author.Tests.{le-leb, eqb-true}
use lib.Dec.{eqb}
use lib.ListN.{length, length-append}
use lib.Seq.{take_at}
use Rattle.chunk.specs.Chunk.{trailer_bytes}
use Rattle.chunk.specs.Interleave.{interleave, interleave_from}
use Rattle.error.specs.Answer.{Answer, accepted, and_then}
use Rattle.error.specs.Sentences.{RefusedBy}
use Rattle.error.proofs.Answers.{never, accepted-same, then-accepted, ask-passed}
use Rattle.error.proofs.Sentences.{more_by, asked_by, then_by}
use Rattle.fields.specs.File.{file_limit}
use Rattle.demuxer.specs.Head.{head_at, count_of}
use Rattle.demuxer.specs.Position.{start}
use Rattle.demuxer.specs.Read.{payload_at}
use Rattle.demuxer.specs.declared.head.Head.{Head}
use Rattle.demuxer.specs.declared.head.Head.TheVariants as head
use Rattle.demuxer.specs.declared.position.Position.{Position}
use Rattle.prelude.specs.Layout.{prelude_len}
use Rattle.prelude.specs.Prelude.{strict_of}
use Rattle.prelude.specs.Sentences.{strict_numbers}
use Rattle.prelude.specs.declared.prelude.AmvPrelude.{AmvPrelude}
use Rattle.prelude.proofs.Local.{strict_local}
use Rattle.prelude.proofs.Sentences.{strict_by}
use Rattle.walk.specs.Chunks.{chunks_bytes, walk_of}
use Rattle.walk.specs.Walk.{chunk_at, on_head, step_at, Stop, ran_out, trailer, unknown_tag, Walk, stop, chunk, on_step, walk_for, walk, file_walk, past}
use Rattle.walk.specs.declared.Kind.{Kind}
use Rattle.walk.specs.declared.Kind.TheVariants.{Frame, Sound}
use Rattle.walk.specs.declared.Step.TheVariants as step
use Rattle.walk.proofs.Chunked.{chunks_walked}
use Rattle.walk.proofs.Walks.{trailer-there, payload-size, by_cursor}
use Rattle.finished.specs.Check.{passes, tags_of, totals_at, check_stop, check_from, all_paired, check_chunks, check_of}
use Rattle.finished.specs.Sentences.{CheckSentences}
use Rattle.finished.specs.declared.Totals.{Totals}

abbrev numbers : List ℕ
numbers = strict_numbers ++ (60 ∷ 61 ∷ 31 ∷ [])

stop_by : (p : Position) (paired : Bool) (s : Stop) → RefusedBy numbers (check_stop p paired s)
stop_by p paired ran_out = refl
stop_by p paired (trailer n) = asked_by numbers (eqb n 0) 61 p.cursor (accepted _) refl tt
stop_by p paired unknown_tag = refl

from_by : (p : Position) (paired : Bool) (w : Walk) → RefusedBy numbers (check_from p paired w)
unfolding check_from
from_by p paired (stop s) = stop_by p paired s
from_by p paired (chunk kind payload missing rest) =
    asked_by numbers (eqb missing 0) 60 p.cursor (check_from (past p kind payload missing) paired rest) refl
    (from_by (past p kind payload missing) paired rest)

check_by : (file : List ℕ) → RefusedBy numbers (check_of file)
unfolding check_of
check_by file =
    then_by numbers (strict_of file) (λ _. check_chunks file)
    (more_by strict_numbers (60 ∷ 61 ∷ 31 ∷ []) (strict_of file) (strict_by file))
    (λ _. from_by start (all_paired file) (file_walk file))

-- ---- the trailer is the file's last 8 bytes

-- checked from a position at an offset, a walk is accepted where its trailer ends the file
abbrev Last : List ℕ → Bool → Totals → (ℕ → Walk) → Type 0
Last file paired t w = (p : Position) (at : ℕ) → p.cursor ≡ at → check_from p paired (w at) ≡ accepted t → t.trailer + 8 ≡ length file

module _ (file : List ℕ) (paired : Bool) (t : Totals) (p : Position) (at : ℕ) (c : p.cursor ≡ at) (w : ℕ → Walk) (rest : Last file paired t w) where
  -- at a chunk the rest decides, and at the trailer its own question
  chunk-last : (kind : Kind) (size : ℕ) → check_from p paired (on_step file at w (step.Chunk (chunk_at file at kind size))) ≡ accepted t
      → t.trailer + 8 ≡ length file
  unfolding check_from
  chunk-last kind size x =
      let m : ℕ = size - length (payload_at file at size) in
      let q : Position = past p kind (payload_at file at size) m in
      let s = payload-size file at size in
      let k = by_cursor p kind (length (payload_at file at size) + m) (count_of (payload_at file at size)) in
      let n : q.cursor ≡ at + (8 + size) = omega arith in
      rest q (at + (8 + size)) n (ask-passed (eqb m 0) 60 p.cursor (check_from q paired (w (at + (8 + size)))) x).1

  on_last : (h : Head) → head_at file at ≡ h → check_from p paired (on_step file at w (on_head file at h)) ≡ accepted t → t.trailer + 8 ≡ length file
  unfolding check_from
  on_last head.Short e x = never (sym x)
  on_last head.Unknown e x = never (sym x)
  on_last head.Trailer e x =
      let a = ask-passed (eqb (length file - (at + 8)) 0) 61 p.cursor (accepted (totals_at p paired)) x in
      let n = eqb-true (length file - (at + 8)) 0 a.0 in
      let q : p.cursor ≡ t.trailer = ap (λ (y : Totals). y.trailer) (accepted-same a.1) in
      omega (arith, trailer-there file at e)
  on_last (head.Video size) e x = chunk-last Frame size x
  on_last (head.Audio size) e x = chunk-last Sound size x

walked_last : (n : ℕ) (file : List ℕ) (paired : Bool) (t : Totals) → Last file paired t (walk_for n file)
unfolding walk_for step_at
walked_last zero file paired t p at c x = ends x
  where
    ends : check_from p paired (stop ran_out) ≡ accepted t → t.trailer + 8 ≡ length file
    ends y = unfold check_from in never (sym y)
walked_last (suc n) file paired t p at c x =
    on_last file paired t p at c (walk_for n file) (walked_last n file paired t) (head_at file at) refl x

last : (file : List ℕ) (t : Totals) → check_of file ≡ accepted t → t.trailer + 8 ≡ length file
unfolding check_of walk
last file t e =
    let s = then-accepted (strict_of file) (λ _. check_chunks file) e in
    walked_last (length file) file (all_paired file) t start prelude_len refl s.2

-- ---- a recording without chunks

bare : (prelude : List ℕ) (p : AmvPrelude) → strict_of prelude ≡ accepted p → length prelude ≡ prelude_len
    → check_of (prelude ++ trailer_bytes) ≡ accepted (record { frames = 0; blocks = 0; samples = 0; trailer = prelude_len; paired = true })
unfolding check_of check_from tags_of walk_of chunks_bytes interleave_from
bare prelude p e n =
    let file : List ℕ = prelude ++ trailer_bytes in
    let l : length file ≤ file_limit = simp length-append (omega arith) in
    let s : strict_of file ≡ accepted p =
    sym (strict_local file (le-leb (length file) file_limit l)) ∙ ap strict_of (take_at prelude trailer_bytes prelude_len n) ∙ e in
    let k : prelude_len ≡ length prelude = sym n in
    let w : file_walk file ≡ stop (trailer 0) = ap (walk file) k ∙ chunks_walked prelude [] [] tt in
    ap (λ (x : Answer AmvPrelude). and_then x (λ _. check_chunks file)) s
    ∙ ap (λ (x : Walk). check_from start (passes (interleave (tags_of x))) x) w

pub check_sentences : CheckSentences
check_sentences = record { numbers = check_by; last = last; bare = bare }
