-- The walk, step by step: the fuel is hidden here for good. A header that is one has its 8 bytes, so each chunk brings the walk nearer to the
-- file's end and fuel for the bytes that are left is enough. Assumes nothing.
use mathlib.Core.Path.{◌≡◌, refl, sym, ap, ◌∙◌, subst}
use mathlib.Core.List.{List}
use Prim.Native.Nat.{ℕ, zero, suc, ◌+◌, ◌-◌, ◌≤◌, ◌<◌, min}
use native.Mathlib.Decide.{dec_le}
use native.Mathlib.Nat.{lt_of_not-le}
use native.Mathlib.Omega.{arith}
use borrow.Author.Tests.{le-leb, lt-leb}
use lib.Dec.{leb}
use lib.ListN.{length, length-take, length-drop}
use Rattle.fields.specs.Le.{le}
use Rattle.fields.proofs.Impossible.{impossible}
use Rattle.demuxer.specs.Head.{head_at, count_of}
use Rattle.demuxer.specs.Read.{payload_at}
use Rattle.demuxer.specs.declared.head.Head.{Head}
use Rattle.demuxer.specs.declared.head.Head.TheVariants as head
use Rattle.demuxer.specs.declared.position.Position.{Position}
use Rattle.demuxer.proofs.Heads.{head_out}
use Rattle.demuxer.proofs.Headed.{Headed, Heads, headed}
use Rattle.walk.specs.Steps.{past_at}
use Rattle.walk.specs.Walk.{chunk_at, on_head, step_at, Stop, ran_out, trailer, unknown_tag, Walk, stop, chunk, on_step, walk_for, walk, past_by, past}
use Rattle.walk.specs.declared.Kind.{Kind}
use Rattle.walk.specs.declared.Kind.TheVariants.{Frame, Sound}
use Rattle.walk.specs.declared.ChunkAt.{ChunkAt}
use Rattle.walk.specs.declared.Step.{Step}
use Rattle.walk.specs.declared.Step.TheVariants as step

-- where there is one, its 8 bytes are
pub head_there : (file : List ℕ) (at : ℕ) → (head_at file at ≡ head.Short → ⊥) → at + 8 ≤ length file
head_there file at h =
    elim (dec_le (at + 8) (length file)) [
      | yes l ↦ l
      | no l ↦ absurd (h (head_out file at (lt_of_not-le l)))
    ]

-- and so of the trailer and of each kind
pub trailer-there : (file : List ℕ) (at : ℕ) → head_at file at ≡ head.Trailer → at + 8 ≤ length file
trailer-there file at e = head_there file at (λ x. impossible cc)

pub video_there : (file : List ℕ) (at size : ℕ) → head_at file at ≡ head.Video size → at + 8 ≤ length file
video_there file at size e = head_there file at (λ x. impossible cc)

pub audio_there : (file : List ℕ) (at size : ℕ) → head_at file at ≡ head.Audio size → at + 8 ≤ length file
audio_there file at size e = head_there file at (λ x. impossible cc)

-- and of a tag that is none of the two
pub unknown-there : (file : List ℕ) (at : ℕ) → step_at file at ≡ step.UnknownTag → at + 8 ≤ length file
unfolding step_at
unknown-there file at e = head_there file at (λ x. let s : on_head file at head.Short ≡ step.UnknownTag = sym (ap (on_head file at) x) ∙ e in impossible cc)

-- past the file's end nothing stands
pub step_out : (file : List ℕ) (at : ℕ) → length file < at + 8 → step_at file at ≡ step.RanOut
unfolding step_at
step_out file at l = ap (on_head file at) (head_out file at l)

-- the same step, and two walks that agree from 8 bytes on
on_same : (file : List ℕ) (at : ℕ) (f g : ℕ → Walk) → ((n : ℕ) → at + 8 ≤ n → f n ≡ g n) → (s : Step) → on_step file at f s ≡ on_step file at g s
on_same file at f g e step.RanOut = refl
on_same file at f g e step.Trailer = refl
on_same file at f g e step.UnknownTag = refl
on_same file at f g e (step.Chunk c) = ap (chunk c.kind (payload_at file at c.size) c.missing) (e (at + (8 + c.size)) (omega arith))

-- so fuel for the bytes that are left is enough
same-walk : (k m : ℕ) (file : List ℕ) (at : ℕ) → length file ≤ at + k → length file ≤ at + m → walk_for k file at ≡ walk_for m file at
unfolding walk_for
same-walk zero zero file at p q = refl
same-walk zero (suc m) file at p q = sym (ap (on_step file at (walk_for m file)) (step_out file at (omega arith)))
same-walk (suc k) zero file at p q = ap (on_step file at (walk_for k file)) (step_out file at (omega arith))
same-walk (suc k) (suc m) file at p q =
    on_same file at (walk_for k file) (walk_for m file) (λ n l. same-walk k m file n (omega arith) (omega arith)) (step_at file at)

-- the walk from an offset, by the step there
pub walk_step : (file : List ℕ) (at : ℕ) → walk file at ≡ on_step file at (walk file) (step_at file at)
unfolding walk walk_for
walk_step file at =
    same-walk (length file) (suc (length file)) file at (omega arith) (omega arith)
    ∙ on_same file at (walk_for (length file) file) (walk_for (length file) file) (λ n l. refl) (step_at file at)

-- a payload and what is missing of it make its length
pub payload-size : (file : List ℕ) (at size : ℕ) → length (payload_at file at size) + (size - length (payload_at file at size)) ≡ size
payload-size file at size =
    let l : length (payload_at file at size) ≤ size = simp length-take (omega arith) in
    omega arith

-- the first bytes of a payload are there where the file has them
pub payload-there : (file : List ℕ) (at size n : ℕ) → at + 8 ≤ length file → n ≤ size
    → leb n (length (payload_at file at size)) ≡ leb (at + 8 + n) (length file)
payload-there file at size n h k =
    elim (dec_le (at + 8 + n) (length file)) [
      | yes l ↦
          le-leb n (length (payload_at file at size)) (simp (length-take, length-drop) (omega arith)) ∙ sym (le-leb (at + 8 + n) (length file) l)
      | no l ↦
          let m : length file < at + 8 + n = lt_of_not-le l in
          lt-leb n (length (payload_at file at size)) (simp (length-take, length-drop) (omega arith)) ∙ sym (lt-leb (at + 8 + n) (length file) m)
    ]

-- ---- what a step says of the walk

-- a chunk: its header lies in the file, with its length; its payload and what is missing make that, and the walk goes past it
pub record Goes (file : List ℕ) (at : ℕ) (c : ChunkAt) : Type 0 where
  pub there : at + 8 ≤ length file
  pub size-at : le 4 file (at + 4) ≡ c.size
  pub size_is : length (payload_at file at c.size) + c.missing ≡ c.size
  pub is : walk file at ≡ chunk c.kind (payload_at file at c.size) c.missing (walk file (at + (8 + c.size)))

-- the trailer, which lies in the file
pub record Ends (file : List ℕ) (at : ℕ) : Type 0 where
  pub there : at + 8 ≤ length file
  pub is : walk file at ≡ stop (trailer (length file - (at + 8)))

abbrev pub Means : List ℕ → ℕ → Step → Type 0
Means file at step.RanOut = walk file at ≡ stop ran_out
Means file at step.Trailer = Ends file at
Means file at step.UnknownTag = walk file at ≡ stop unknown_tag
Means file at (step.Chunk c) = Goes file at c

goes : (file : List ℕ) (at : ℕ) (kind : Kind) (size : ℕ) → step_at file at ≡ step.Chunk (chunk_at file at kind size)
    → {tag : ℕ} → Headed file at tag size → Goes file at (chunk_at file at kind size)
goes file at kind size e h =
    record {
      there = h.there;
      size-at = h.size_is;
      size_is = payload-size file at size;
      is = walk_step file at ∙ ap (on_step file at (walk file)) e;
    }

means : (file : List ℕ) (at : ℕ) → Means file at (step_at file at)
unfolding step_at Heads
means file at = on (head_at file at) refl
  where
    on : (h : Head) → head_at file at ≡ h → Means file at (on_head file at h)
    on head.Short e = walk_step file at ∙ ap (λ (h : Head). on_step file at (walk file) (on_head file at h)) e
    on head.Trailer e =
        record {
          there = trailer-there file at e;
          is = walk_step file at ∙ ap (λ (h : Head). on_step file at (walk file) (on_head file at h)) e;
        }
    on head.Unknown e = walk_step file at ∙ ap (λ (h : Head). on_step file at (walk file) (on_head file at h)) e
    on (head.Video size) e = goes file at Frame size (ap (on_head file at) e) (subst (Heads file at) e (headed file at))
    on (head.Audio size) e = goes file at Sound size (ap (on_head file at) e) (subst (Heads file at) e (headed file at))

pub step_means : (file : List ℕ) (at : ℕ) (x : Step) → step_at file at ≡ x → Means file at x
step_means file at x e = subst (Means file at) e (means file at)

-- a chunk of which nothing is missing lies in the file; inside another the file ends, and after it the walk
module _ (file : List ℕ) (at : ℕ) (c : ChunkAt) (g : Goes file at c) where
  payload-length : length (payload_at file at c.size) ≡ min c.size (length file - (at + 8))
  payload-length = simp (length-take, length-drop)

  pub whole-inside : c.missing ≡ 0 → at + 8 + c.size ≤ length file
  whole-inside m = omega (arith, payload-length, g.there, g.size_is)

  pub cut_outside : 0 < c.missing → length file < at + 8 + c.size
  cut_outside m = omega (arith, payload-length, g.there, g.size_is)

  pub cut-last : 0 < c.missing → walk file (at + (8 + c.size)) ≡ stop ran_out
  cut-last m =
      let out = cut_outside m in
      step_means file (at + (8 + c.size)) step.RanOut (step_out file (at + (8 + c.size)) (omega arith))

-- what is no chunk is a stop
pub stopped : (file : List ℕ) (at : ℕ) (x : Step) → step_at file at ≡ x
    → ((c : ChunkAt) → x ≡ step.Chunk c → ⊥) → (s : Stop) × (walk file at ≡ stop s)
stopped file at x e k = by x k (step_means file at x e)
  where
    by : (x : Step) → ((c : ChunkAt) → x ≡ step.Chunk c → ⊥) → Means file at x → (s : Stop) × (walk file at ≡ stop s)
    by step.RanOut k m = (ran_out, m)
    by step.Trailer k m = (trailer (length file - (at + 8)), m.is)
    by step.UnknownTag k m = (unknown_tag, m)
    by (step.Chunk c) k m = absurd (k c refl)

-- and the position after a chunk, as the code counts it
pub past_is : (file : List ℕ) (p : Position) (c : ChunkAt) → Goes file p.cursor c
    → past p c.kind (payload_at file p.cursor c.size) c.missing ≡ past_at file p c
past_is file p c g = ap (λ (n : ℕ). past_by p c.kind n (count_of (payload_at file p.cursor c.size))) g.size_is

-- which stands at the next chunk
pub by_cursor : (p : Position) (kind : Kind) (size count : ℕ) → (past_by p kind size count).cursor ≡ p.cursor + (8 + size)
by_cursor p Frame size count = refl
by_cursor p Sound size count = refl

pub past-cursor : (file : List ℕ) (p : Position) (c : ChunkAt) → (past_at file p c).cursor ≡ p.cursor + (8 + c.size)
past-cursor file p c = by_cursor p c.kind c.size (count_of (payload_at file p.cursor c.size))

-- and has one chunk more before it
abbrev pub chunks_before : Position → ℕ
chunks_before p = p.frames.0 + p.blocks.0

pub one_more : (file : List ℕ) (p : Position) (c : ChunkAt) → chunks_before (past_at file p c) ≡ chunks_before p + 1
one_more file p c = go c.kind (count_of (payload_at file p.cursor c.size))
  where
    go : (kind : Kind) (count : ℕ) → chunks_before (past_by p kind c.size count) ≡ chunks_before p + 1
    go Frame count = omega arith
    go Sound count = omega arith

-- what holds of a position if it holds past the chunk there, where there is one, holds of every position: each chunk takes 8 bytes at least
pub along : (file : List ℕ) (P : Position → Type 0)
    → ((p : Position) → ((c : ChunkAt) → Goes file p.cursor c → P (past_at file p c)) → P p) → (p : Position) → P p
along file P step p = go (length file) p (omega arith)
  where
    go : (k : ℕ) (p : Position) → length file ≤ p.cursor + k → P p
    go zero p l = step p (λ c g. let t = g.there in absurd (omega arith))
    go (suc k) p l = step p (λ c g. go k (past_at file p c) (let n = past-cursor file p c in omega arith))
