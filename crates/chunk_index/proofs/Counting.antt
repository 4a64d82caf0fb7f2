-- The first pass of the index: what has been counted, and what is left to count. Assumes nothing.
use mathlib.Core.Path.{◌≡◌, refl, sym, ap, ◌∙◌}
use mathlib.Core.Bool.{Bool, true, false, cond}
use mathlib.Core.List.{List, [], ◌∷◌}
use Prim.Native.Nat.{ℕ, zero, suc, ◌+◌, ◌*◌, ◌≤◌}
use native.Mathlib.Omega.{arith}
use lib.ListN.{length}
use Rattle.std.proofs.Common.{◌⊎◌, inl, inr}
use Prim.Native.Nat.{◌-◌}
use Rattle.chunk.specs.Chunk.{payload_limit}
use Rattle.error.specs.Answer.{accepted, and_then}
use Rattle.fields.specs.File.{file_limit}
use Rattle.prelude.specs.Layout.{prelude_len}
use Rattle.demuxer.specs.Position.{start}
use Rattle.demuxer.specs.Read.{payload_at}
use Rattle.demuxer.specs.declared.position.Position.{Position}
use Rattle.walk.specs.Walk.{Stop, ran_out, trailer, Walk, stop, chunk, on_step, step_at, walk_for, walk, past, file_walk}
use Rattle.walk.specs.declared.ChunkAt.{ChunkAt}
use Rattle.walk.specs.declared.Step.{Step}
use Rattle.walk.specs.declared.Step.TheVariants as step
use Rattle.walk.proofs.Walks.{Goes, step_means}
use Rattle.chunk_index.specs.Entry.{entry}
use Rattle.chunk_index.specs.Index.{recorded, records, stop_known, tags_known}
use Rattle.chunk_index.specs.Steps.{recorded_at}
use Rattle.chunk_index.proofs.Folds.{recorded-is, known_on, known-end}

-- how many records a walk makes, from whatever position
unfoldable pub record_count : Walk → ℕ
record_count (stop s) = 0
record_count (chunk kind payload missing rest) = cond (recorded kind payload missing) (suc (record_count rest)) 0

pub records-length : (p : Position) (w : Walk) → length (records p w) ≡ record_count w
unfolding record_count records
records-length p (stop s) = refl
records-length p (chunk kind payload missing rest) =
    go (recorded kind payload missing) (records-length (past p kind payload missing) rest)
  where
    go : (b : Bool) → length (records (past p kind payload missing) rest) ≡ record_count rest
        → length (cond b (entry kind p ∷ records (past p kind payload missing) rest) []) ≡ cond b (suc (record_count rest)) 0
    go true e = ap suc e
    go false e = refl

-- fewer than bytes
count-le : (n : ℕ) (file : List ℕ) (at : ℕ) → record_count (walk_for n file at) ≤ n
unfolding walk_for record_count
count-le zero file at = omega arith
count-le (suc n) file at = on (λ next. count-le n file next) (step_at file at)
  where
    go : (b : Bool) (k : ℕ) → k ≤ n → cond b (suc k) 0 ≤ suc n
    go true k l = omega arith
    go false k l = omega arith

    on : ((next : ℕ) → record_count (walk_for n file next) ≤ n) → (s : Step) → record_count (on_step file at (walk_for n file) s) ≤ suc n
    on few step.RanOut = unfold record_count in omega arith
    on few step.Trailer = unfold record_count in omega arith
    on few step.UnknownTag = unfold record_count in omega arith
    on few (step.Chunk c) =
        unfold record_count in
        go (recorded c.kind (payload_at file at c.size) c.missing) (record_count (walk_for n file (at + (8 + c.size)))) (few (at + (8 + c.size)))

pub records-few : (file : List ℕ) → length (records start (file_walk file)) ≤ length file
unfolding walk
records-few file = rw (records-length start (file_walk file)) (count-le (length file) file prelude_len)

-- ---- where a pass over the headers stands, whatever it counts

-- the walk ends at an offset: fewer than 8 bytes are left, or the trailer stands there
pub record EndsAt (file : List ℕ) (at : ℕ) : Type 0 where
  pub at_stop : Stop
  pub is : walk file at ≡ stop at_stop
  pub known : (k : ℕ) → stop_known k at_stop ≡ accepted tt

pub ended : (file : List ℕ) (at : ℕ) {x : Step} → step_at file at ≡ x → (x ≡ step.RanOut) ⊎ (x ≡ step.Trailer) → EndsAt file at
ended file at s e =
    elim e [
      | inl p ↦ record { at_stop = ran_out; is = step_means file at step.RanOut (s ∙ p); known = λ k. refl }
      | inr q ↦ let w = step_means file at step.Trailer (s ∙ q) in record { at_stop = trailer (length file - (at + 8)); is = w.is; known = λ k. refl }
    ]

-- an offset of the walk, after so many chunks: the tags from there on are what is left of the question
pub record Headers (file : List ℕ) (at chunks : ℕ) : Type 0 where
  pub at-le : at ≤ file_limit + payload_limit
  pub chunks_le : prelude_len + 8 * chunks ≤ at
  pub known : tags_known at (walk file at) ≡ tags_known prelude_len (file_walk file)

pub headers_start : (file : List ℕ) → Headers file prelude_len 0
headers_start file = record { at-le = omega arith; chunks_le = omega arith; known = refl }

module _ {file : List ℕ} {at chunks : ℕ} (h : Headers file at chunks) where
  pub headers_on : {c : ChunkAt} → length file ≤ file_limit → c.size ≤ payload_limit → Goes file at c → recorded_at c ≡ true
      → Headers file (at + (8 + c.size)) (chunks + 1)
  headers_on {c} l b g r =
      record { at-le = omega (arith, g.there); chunks_le = omega (arith, h.chunks_le); known = sym (known_on file at c g r) ∙ h.known }

  -- at a stop the question is what stands there
  pub headers_known : {s : Stop} → walk file at ≡ stop s → stop_known at s ≡ tags_known prelude_len (file_walk file)
  unfolding tags_known
  headers_known w = sym (ap (tags_known at) w) ∙ h.known

  -- what is answered at a stop, and at a chunk without a record: n so far, m in all
  pub headers_stop : {A : Type 0} {s : Stop} (n m : A) → walk file at ≡ stop s → m ≡ n
      → and_then (stop_known at s) (λ _. accepted n) ≡ and_then (tags_known prelude_len (file_walk file)) (λ _. accepted m)
  headers_stop n m w q = rw (← headers_known w, q)

  -- and where the walk ends, every tag was known
  pub headers_ended : {A : Type 0} (n m : A) (w : EndsAt file at) → m ≡ n
      → accepted n ≡ and_then (tags_known prelude_len (file_walk file)) (λ _. accepted m)
  headers_ended n m w q = rw (← headers_known w.is, w.known at, q)

  pub headers_end : {A : Type 0} {c : ChunkAt} (n m : A) → Goes file at c → recorded_at c ≡ false → m ≡ n
      → accepted n ≡ and_then (tags_known prelude_len (file_walk file)) (λ _. accepted m)
  headers_end {c = c} n m g r q =
      let k : tags_known prelude_len (file_walk file) ≡ accepted tt = sym h.known ∙ known-end file at c g r in
      rw (k, q)

-- ---- the records counted

pub record Counting (file : List ℕ) (at count : ℕ) : Type 0 where
  pub headers : Headers file at count
  pub left : count + record_count (walk file at) ≡ length (records start (file_walk file))

pub counting_start : (file : List ℕ) → Counting file prelude_len 0
counting_start file =
    let n = records-length start (file_walk file) in
    record { headers = headers_start file; left = omega arith }

module _ {file : List ℕ} {at count : ℕ} (k : Counting file at count) where
  pub counting_on : {c : ChunkAt} → length file ≤ file_limit → c.size ≤ payload_limit → Goes file at c → recorded_at c ≡ true
      → Counting file (at + (8 + c.size)) (count + 1)
  unfolding record_count
  counting_on {c} l b g r =
      let n : record_count (walk file at) ≡ suc (record_count (walk file (at + (8 + c.size)))) =
      ap record_count g.is ∙ rw (recorded-is file at c g ∙ r) in
      record { headers = headers_on k.headers l b g r; left = omega (arith, k.left) }

  -- all are counted at a stop, and at a chunk without a record
  pub counted_stop : {s : Stop} → walk file at ≡ stop s → length (records start (file_walk file)) ≡ count
  unfolding record_count
  counted_stop w = let n : record_count (walk file at) ≡ 0 = ap record_count w in omega (arith, k.left)

  pub counted-end : {c : ChunkAt} → Goes file at c → recorded_at c ≡ false → length (records start (file_walk file)) ≡ count
  unfolding record_count
  counted-end {c} g r =
      let n : record_count (walk file at) ≡ 0 = ap record_count g.is ∙ rw (recorded-is file at c g ∙ r) in
      omega (arith, k.left)
