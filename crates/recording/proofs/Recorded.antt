-- The chunks of a walk with a record, and their records: they are the whole chunks and perhaps one that is cut, each record stands where a header
-- does, so it fits its 24 bytes, is good, and is in range. Assumes nothing.
use mathlib.Core.Path.{◌≡◌, refl, sym, ap, ◌∙◌, subst}
use mathlib.Core.Bool.{Bool, true, false, cond, ◌||◌}
use mathlib.Core.List.{List, [], ◌∷◌}
use mathlib.Core.Option.{some}
use Prim.Native.Nat.{ℕ, zero, suc, ◌+◌, ◌^◌, ◌≤◌, ◌<◌, suc-le-suc}
use native.Mathlib.Nat.{le_of_suc-le-suc, not-suc-le-zero}
use native.Mathlib.Omega.{arith}
use borrow.Author.Tests.{ne_eqb}
use lib.Dec.{eqb}
use lib.ListN.{length, get_elem?}
use Rattle.chunk.specs.Chunk.{video_tag, audio_tag}
use Rattle.fields.proofs.Impossible.{impossible}
use Rattle.error.specs.Answer.{accepted}
use Rattle.demuxer.specs.Position.{count_limit, InRange}
use Rattle.demuxer.specs.declared.position.Position.{Position}
use Rattle.walk.specs.Chunks.{Chunk, chunk_of, walk_of}
use Rattle.walk.specs.Walk.{kind_tag, ran_out, Walk, stop, chunk}
use Rattle.walk.specs.declared.Kind.{Kind}
use Rattle.walk.specs.declared.Kind.TheVariants.{Frame, Sound}
use Rattle.walk.proofs.Chunked.{tag-held}
use Rattle.chunk_index.specs.Entry.{entry_len, entry}
use Rattle.chunk_index.specs.Index.{recorded, records}
use Rattle.chunk_index.specs.declared.entry.ChunkIndexEntry.{ChunkIndexEntry}
use Rattle.chunk_index.proofs.Writing.{walked_small}
use Rattle.table.specs.Table.{ask_each, good_entry}
use Rattle.table.proofs.Records.{known_tag, good_few}
use Rattle.seek.specs.Seek.{beyond, past_last}
use Rattle.recording.specs.Indexed.{wholes_of, recorded_of}
use Rattle.recording.proofs.Positions.{passed, position_at}
use Rattle.recording.proofs.Tables.{records_of, recorded-whole, past-whole, AllFit}
use Rattle.recording.proofs.Drains.{Headed, ReadWalk, stops, cut_short, whole}

-- ---- the chunks

-- one that is cut is not whole, and has a record or none
wholes_cut : (kind : Kind) (part : List ℕ) (missing : ℕ) → 0 < missing → wholes_of (chunk kind part missing (stop ran_out)) ≡ []
unfolding wholes_of
wholes_cut kind part missing m = rw (ne_eqb missing 0 (λ e. omega arith))

pub by_record : (P : List Chunk → Type 0) (kind : Kind) (part : List ℕ) (missing : ℕ) → P [] → P (chunk_of kind part ∷ [])
    → P (recorded_of (chunk kind part missing (stop ran_out)))
unfolding recorded_of
by_record P kind part missing without with-one = on (recorded kind part missing)
  where
    on : (t : Bool) → P (cond t (chunk_of kind part ∷ []) [])
    on true = with-one
    on false = without

-- a whole one has
pub recorded_on : (kind : Kind) (payload : List ℕ) (rest : Walk) → recorded_of (chunk kind payload 0 rest) ≡ chunk_of kind payload ∷ recorded_of rest
unfolding recorded_of
recorded_on kind payload rest = rw (recorded-whole kind payload)

-- so all of a finished recording have
pub all_recorded : (cs : List Chunk) (n : ℕ) → recorded_of (walk_of cs n) ≡ cs
unfolding recorded_of walk_of
all_recorded [] n = refl
all_recorded (chunk_of kind payload ∷ cs) n =
    recorded_on kind payload (walk_of cs n) ∙ ap (λ (l : List Chunk). chunk_of kind payload ∷ l) (all_recorded cs n)

-- and of every file those with a record are the whole ones and perhaps one more
pub data OneMore : List Chunk → List Chunk → Type 0 where
  none_more : OneMore [] []
  one-cut : {c : Chunk} → OneMore [] (c ∷ [])
  one-whole : {c : Chunk} {ws rs : List Chunk} → OneMore ws rs → OneMore (c ∷ ws) (c ∷ rs)

pub one_more : {file : List ℕ} {p : Position} {v : Walk} → ReadWalk file p v → OneMore (wholes_of v) (recorded_of v)
unfolding wholes_of
one_more (stops h r) = unfold recorded_of in none_more
one_more (cut_short {kind = kind} {part = part} {missing = missing} h m r) =
    subst (λ (ws : List Chunk). OneMore ws (recorded_of (chunk kind part missing (stop ran_out)))) (sym (wholes_cut kind part missing m))
    (by_record (OneMore []) kind part missing none_more one-cut)
one_more (whole {kind = kind} {payload = payload} {rest = rest} h r later) =
    subst (OneMore (chunk_of kind payload ∷ wholes_of rest)) (sym (recorded_on kind payload rest)) (one-whole (one_more later))

pub least : {ws rs : List Chunk} → OneMore ws rs → length ws ≤ length rs
least none_more = omega arith
least one-cut = omega arith
least (one-whole m) = let i = least m in omega arith

pub most : {ws rs : List Chunk} → OneMore ws rs → length rs ≤ suc (length ws)
most none_more = omega arith
most one-cut = omega arith
most (one-whole m) = let i = most m in omega arith

-- and up to the last whole one both stand at the same places
pub same-position : {ws rs : List Chunk} → OneMore ws rs → (p : Position) (k : ℕ) → k ≤ length ws → position_at p k rs ≡ position_at p k ws
unfolding position_at
same-position none_more p zero h = refl
same-position none_more p (suc k) h = refl
same-position one-cut p zero h = refl
same-position one-cut p (suc k) h = absurd (not-suc-le-zero h)
same-position (one-whole m) p zero h = refl
same-position (one-whole {c = chunk_of kind payload} m) p (suc k) h = same-position m (passed p kind payload) k (le_of_suc-le-suc h)

-- ---- their records

pub records_are : {file : List ℕ} {p : Position} {v : Walk} → ReadWalk file p v → records p v ≡ records_of p (recorded_of v)
unfolding records records_of
records_are (stops h r) = unfold recorded_of in refl
records_are {p = p} (cut_short {kind = kind} {part = part} {missing = missing} h m r) = unfold recorded_of in on (recorded kind part missing)
  where
    on : (t : Bool) → cond t (entry kind p ∷ []) [] ≡ records_of p (cond t (chunk_of kind part ∷ []) [])
    on true = refl
    on false = refl
records_are {p = p} (whole {kind = kind} {payload = payload} {rest = rest} h r later) =
    rw (recorded_on kind payload rest, recorded-whole kind payload, past-whole p kind payload)
    (ap (λ (es : List ChunkIndexEntry). entry kind p ∷ es) (records_are later))

-- record number k has the position of chunk number k
pub record-position : (p : Position) (rs : List Chunk) (k : ℕ) (e : ChunkIndexEntry) → get_elem? (records_of p rs) k ≡ some e
    → (k < length rs) × (position_at p k rs ≡ e.position)
unfolding records_of position_at
record-position p [] k e h = impossible cc
record-position p (chunk_of kind payload ∷ rs) zero e h =
    let s : entry kind p ≡ e = cc in
    (omega arith, ap (λ (x : ChunkIndexEntry). x.position) s)
record-position p (chunk_of kind payload ∷ rs) (suc k) e h =
    let i = record-position (passed p kind payload) rs k e h in
    (suc-le-suc i.0, i.1)

-- each stands where a header does
pub record Met (e : ChunkIndexEntry) : Type 0 where
  pub kind : Kind
  pub tag_is : e.tag ≡ kind_tag kind
  pub headed : Headed e.position

abbrev pub AllMet : List ChunkIndexEntry → Type 0
AllMet [] = Unit
AllMet (e ∷ es) = Met e × AllMet es

pub all_met : {file : List ℕ} {p : Position} {v : Walk} → ReadWalk file p v → AllMet (records_of p (recorded_of v))
unfolding records_of
all_met (stops h r) = unfold recorded_of in tt
all_met {p = p} (cut_short {kind = kind} {part = part} {missing = missing} h m r) =
    by_record (λ (rs : List Chunk). AllMet (records_of p rs)) kind part missing tt (record { kind = kind; tag_is = refl; headed = h }, tt)
all_met {p = p} (whole {kind = kind} {payload = payload} {rest = rest} h r later) =
    subst (λ (rs : List Chunk). AllMet (records_of p rs)) (sym (recorded_on kind payload rest))
    (record { kind = kind; tag_is = refl; headed = h }, all_met later)

few-samples : (e : ChunkIndexEntry) → Met e → e.position.samples.0 < count_limit
few-samples e h = omega (arith, h.headed.walked.samples_le, h.headed.within)

pub all_fit : (es : List ChunkIndexEntry) → AllMet es → AllFit es
all_fit [] h = tt
all_fit (e ∷ es) (h, hs) = (
  record {
    tag_fits = subst (λ (tag : ℕ). tag < 256 ^ 4) (sym h.tag_is) (tag-held h.kind);
    small = walked_small e.position h.headed.walked h.headed.within;
    samples_fit = let f = few-samples e h in omega arith;
  },
  all_fit es hs,
)

known-met : (kind : Kind) → (eqb (kind_tag kind) video_tag || eqb (kind_tag kind) audio_tag) ≡ true
known-met Frame = refl
known-met Sound = refl

pub all_good : (place : ℕ) (es : List ChunkIndexEntry) → AllMet es → ask_each good_entry 43 place es ≡ accepted tt
unfolding ask_each
all_good place [] h = refl
all_good place (e ∷ es) (h, hs) =
    let known : known_tag e ≡ true = ap (λ (tag : ℕ). eqb tag video_tag || eqb tag audio_tag) h.tag_is ∙ known-met h.kind in
    rw (good_few e (few-samples e h) ∙ known) (all_good (place + entry_len) es hs)

-- the position that a seek to the end leaves is in range
counted_in : (t : Bool) (n : ℕ) → n < count_limit → cond t (n + 1) n ≤ count_limit
counted_in true n h = omega arith
counted_in false n h = omega arith

beyond-range : (e : ChunkIndexEntry) → Met e → InRange (beyond e)
beyond-range e h =
    let w = h.headed.walked in
    let i = h.headed.within in
    record {
      cursor_in = omega arith;
      frames_in = counted_in (eqb e.tag video_tag) e.position.frames.0 (omega (arith, w.chunks_le));
      samples_in = let f = few-samples e h in omega arith;
      blocks_in = counted_in (eqb e.tag audio_tag) e.position.blocks.0 (omega (arith, w.chunks_le));
    }

pub last-range : (p : Position) (es : List ChunkIndexEntry) → InRange p → AllMet es → InRange (past_last p es)
unfolding past_last
last-range p [] r h = r
last-range p (e ∷ es) r (h, hs) = last-range (beyond e) es (beyond-range e h) hs
