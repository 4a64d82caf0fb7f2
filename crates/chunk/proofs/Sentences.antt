-- 01's and 02's sentences about chunk headers and the interleave check hold: numbers by the cases of the questions, pairs by induction two tags
-- at a time. Assumes nothing.
use mathlib.Core.Path.{◌≡◌, refl, sym}
use mathlib.Core.Bool.{true, false, not}
use mathlib.Core.List.{List, [], ◌∷◌}
use Prim.Native.Nat.{ℕ, zero, suc, ◌%◌}
use native.Mathlib.Omega.{arith}
use borrow.Author.Tests.{eq-eqb, ne_eqb, eqb-true, not-true}
use lib.Dec.{leb}
use lib.ListN.{length}
use Rattle.error.specs.Answer.{accepted, ask}
use Rattle.error.specs.Sentences.{RefusedBy}
use Rattle.error.proofs.Answers.{never, clash, then-passed, ask-passed}
use Rattle.error.proofs.Sentences.{asked_by, then_by}
use Rattle.chunk.specs.Chunk.{video_tag, audio_tag, kind_of, chunk_header_of}
use Rattle.chunk.specs.Interleave.{even, interleave_at, interleave_from}
use Rattle.chunk.specs.Sentences.{pairs, ChunkSentences}
use Rattle.chunk.specs.declared.ChunkKind.{ChunkKind}
use Rattle.chunk.specs.declared.ChunkKind.TheVariants.{Video, Audio, Other}
use Rattle.chunk.proofs.Chunks.{kind_video, kind_audio}
use Rattle.chunk.proofs.Headers.{header_at}

-- ---- numbers

at_by : (k : ChunkKind) (position : ℕ) → RefusedBy (62 ∷ 63 ∷ 64 ∷ 65 ∷ []) (interleave_at k position)
at_by Video position = asked_by (62 ∷ 63 ∷ 64 ∷ 65 ∷ []) (even position) 62 position (accepted tt) refl tt
at_by Audio position = asked_by (62 ∷ 63 ∷ 64 ∷ 65 ∷ []) (not (even position)) 63 position (accepted tt) refl tt
at_by (Other tag) position = refl

from_by : (position : ℕ) (tags : List ℕ) → RefusedBy (62 ∷ 63 ∷ 64 ∷ 65 ∷ []) (interleave_from position tags)
unfolding interleave_from
from_by position [] = asked_by (62 ∷ 63 ∷ 64 ∷ 65 ∷ []) (even position) 65 position (accepted tt) refl tt
from_by position (tag ∷ tags) =
    then_by (62 ∷ 63 ∷ 64 ∷ 65 ∷ []) (interleave_at (kind_of tag) position) (λ _. interleave_from (suc position) tags)
    (at_by (kind_of tag) position)
    (λ _. from_by (suc position) tags)

-- ---- pairs

odd_next : (p : ℕ) → even p ≡ true → even (suc p) ≡ false
odd_next p e = let h = eqb-true (p % 2) 0 e in ne_eqb (suc p % 2) 0 (λ z. omega arith)

even-next : (p : ℕ) → even p ≡ true → even (suc (suc p)) ≡ true
even-next p e = let h = eqb-true (p % 2) 0 e in eq-eqb (suc (suc p) % 2) 0 (omega arith)

pairs-from : (p n : ℕ) → even p ≡ true → interleave_from p (pairs n) ≡ accepted tt
unfolding interleave_from pairs
pairs-from p zero e = rw e
pairs-from p (suc n) e = rw (e, odd_next p e) (pairs-from (suc (suc p)) n (even-next p e))

-- at an even position only a frame passes, at an odd one only sound
frame_at : (p : ℕ) (k : ChunkKind) → even p ≡ true → interleave_at k p ≡ accepted tt → k ≡ Video
frame_at p Video e a = refl
frame_at p Audio e a = clash e (not-true (even p) (ask-passed (not (even p)) 63 p (accepted tt) a).0)
frame_at p (Other tag) e a = never (sym a)

sound-at : (p : ℕ) (k : ChunkKind) → even p ≡ false → interleave_at k p ≡ accepted tt → k ≡ Audio
sound-at p Video e a = clash (ask-passed (even p) 62 p (accepted tt) a).0 e
sound-at p Audio e a = refl
sound-at p (Other tag) e a = never (sym a)

only-from : (p : ℕ) (tags : List ℕ) → even p ≡ true → interleave_from p tags ≡ accepted tt → (n : ℕ) × (tags ≡ pairs n)
unfolding interleave_from pairs
only-from p [] e a = (0, refl)
only-from p (t ∷ []) e a =
    let s = (then-passed (interleave_at (kind_of t) p) (λ _. ask (even (suc p)) 65 (suc p) (accepted tt)) a).1 in
    clash (ask-passed (even (suc p)) 65 (suc p) (accepted tt) s).0 (odd_next p e)
only-from p (t ∷ u ∷ tags) e a =
    let first = then-passed (interleave_at (kind_of t) p) (λ _. interleave_from (suc p) (u ∷ tags)) a in
    let second = then-passed (interleave_at (kind_of u) (suc p)) (λ _. interleave_from (suc (suc p)) tags) first.1 in
    let v : t ≡ video_tag = kind_video t (frame_at p (kind_of t) e first.0) in
    let s : u ≡ audio_tag = kind_audio u (sound-at (suc p) (kind_of u) (odd_next p e) second.0) in
    let rest = only-from (suc (suc p)) tags (even-next p e) second.1 in
    (suc rest.0, λ i. v i ∷ s i ∷ rest.1 i)

pub chunk_sentences : ChunkSentences
unfolding chunk_header_of
chunk_sentences =
    record {
      header_numbers = λ s. asked_by (29 ∷ []) (leb 8 (length s)) 29 0 _ refl tt;
      header_at = header_at;
      interleave_numbers = from_by 0;
      pairs_pass = λ n. pairs-from 0 n refl;
      only_pairs = λ tags. only-from 0 tags refl;
    }
