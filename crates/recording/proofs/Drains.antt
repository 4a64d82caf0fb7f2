-- Reads of any file, along its walk: at a whole chunk every walker that has not ended is given its packet, and where the walk stops, or a chunk is
-- cut, End. So reads until their first End give the drain of the whole chunks, and leave the walker where the walk stops. Assumes nothing.
use mathlib.Core.Path.{◌≡◌, refl, sym, ap, ◌∙◌, subst}
use Rattle.std.proofs.Common.{Option}
use mathlib.Core.Bool.{Bool, true, false}
use mathlib.Core.List.{List, [], ◌∷◌}
use mathlib.Core.Option.{some}
use Prim.Native.Nat.{ℕ, zero, suc, ◌+◌, ◌≤◌, ◌<◌}
use native.Mathlib.Nat.{le_of_suc-le-suc, not-suc-le-zero}
use native.Mathlib.Omega.{arith}
use borrow.Author.Tests.{ne_eqb}
use lib.ListN.{length, get_elem?}
use Rattle.error.specs.Answer.{accepted}
use Rattle.error.proofs.Answers.{never}
use Rattle.fields.specs.File.{file_limit}
use Rattle.fields.specs.Le.{Bytes}
use Rattle.prelude.specs.Layout.{prelude_len}
use Rattle.demuxer.specs.Head.{head_at}
use Rattle.demuxer.specs.Packet.{Shown}
use Rattle.demuxer.specs.Position.{start, InRange}
use Rattle.demuxer.specs.Read.{Reading, packet, End, cut_off, at_trailer, payload_at, read_head, read_of}
use Rattle.demuxer.specs.declared.head.Head.{Head}
use Rattle.demuxer.specs.declared.head.Head.TheVariants as head
use Rattle.demuxer.specs.declared.position.Position.{Position}
use Rattle.demuxer.specs.declared.walker.Walker.{Walker}
use Rattle.demuxer.proofs.Sentences.{looks}
use Rattle.walk.specs.Chunks.{Chunk, chunk_of, walk_of}
use Rattle.walk.specs.Steps.{past_at, Walked}
use Rattle.walk.specs.Walk.{chunk_at, on_head, step_at, Stop, ran_out, trailer, unknown_tag, Walk, stop, chunk, walk, file_walk}
use Rattle.walk.specs.declared.ChunkAt.{ChunkAt}
use Rattle.walk.specs.declared.Kind.{Kind}
use Rattle.walk.specs.declared.Kind.TheVariants.{Frame, Sound}
use Rattle.walk.specs.declared.Step.TheVariants as step
use Rattle.walk.proofs.Walks.{Goes, step_means, whole-inside, cut_outside, cut-last, past-cursor, along}
use Rattle.walk.proofs.Chunked.{head_of, on_head_lem}
use Rattle.walk.proofs.Walked.{walked_start, walked_range, walked_past}
use Rattle.chunk_index.specs.Index.{tags_known}
use Rattle.chunk_index.proofs.Folds.{whole-recorded, known_on}
use Rattle.recording.specs.Drain.{drain_from}
use Rattle.recording.specs.Machine.{PacketsLeft, none_left, one_more}
use Rattle.recording.specs.Indexed.{wholes_of, stop_of}
use Rattle.recording.specs.Cut.{ReadsUntilEnd, ends, gives}
use Rattle.recording.proofs.Positions.{passed, past-passed, shown_at, position_at, drain_at, drain-cons}
use Rattle.recording.proofs.Readings.{read_whole, read-cut}

-- those of a finished recording are all its chunks, and it stops at the trailer
pub all_whole : (cs : List Chunk) (n : ℕ) → wholes_of (walk_of cs n) ≡ cs
unfolding wholes_of walk_of
all_whole [] n = refl
all_whole (chunk_of kind payload ∷ cs) n = ap (λ (l : List Chunk). chunk_of kind payload ∷ l) (all_whole cs n)

pub at-trailer : (cs : List Chunk) (n : ℕ) → stop_of (walk_of cs n) ≡ trailer n
unfolding stop_of walk_of
at-trailer [] n = refl
at-trailer (chunk_of kind payload ∷ cs) n = at-trailer cs n

-- ---- the reads at each position of a walk

-- a walker that has not ended, with these marks
abbrev pub standing : Position → Bool → Option ℕ → Walker
standing p cut t = record { position = p; end = false; cut = cut; trailer = t }

-- what End leaves where a walk stops; at an unknown tag there is no End
abbrev pub ended_by : Stop → Walker → Walker
ended_by ran_out w = cut_off w
ended_by (trailer n) w = at_trailer w
ended_by unknown_tag w = record { position = w.position; end = true; cut = w.cut; trailer = w.trailer }

-- a position that a walk can stand at, and one where a header stands
pub record Stood (p : Position) : Type 0 where
  pub walked : Walked p
  pub within : p.cursor ≤ file_limit

pub record Headed (p : Position) : Type 0 where
  pub walked : Walked p
  pub within : p.cursor + 8 ≤ file_limit

-- a walk from a position on, with what every read at each of its positions gives
pub data ReadWalk (file : List ℕ) : Position → Walk → Type 0 where
  stops : {p : Position} {s : Stop} → Stood p
      → ((cut : Bool) (t : Option ℕ) → read_of file (standing p cut t) ≡ record { answer = End; walker = ended_by s (standing p cut t) })
      → ReadWalk file p (stop s)
  cut_short : {p : Position} {kind : Kind} {part : List ℕ} {missing : ℕ} → Headed p → 0 < missing
      → ((cut : Bool) (t : Option ℕ) → read_of file (standing p cut t) ≡ record { answer = End; walker = cut_off (standing p cut t) })
      → ReadWalk file p (chunk kind part missing (stop ran_out))
  whole : {p : Position} {kind : Kind} {payload : List ℕ} {rest : Walk} → Headed p
      → ((cut : Bool) (t : Option ℕ)
      → read_of file (standing p cut t) ≡ record { answer = packet (shown_at p kind payload); walker = standing (passed p kind payload) cut t })
      → ReadWalk file (passed p kind payload) rest → ReadWalk file p (chunk kind payload 0 rest)

module _ (file : List ℕ) (bytes : Bytes file) (fits : length file ≤ file_limit) where
  -- the tags from a position on are known
  abbrev Known : Position → Type 0
  Known p = tags_known p.cursor (walk file p.cursor) ≡ accepted tt

  abbrev ReadsFrom : Position → Type 0
  ReadsFrom p = ReadWalk file p (walk file p.cursor)

  module _ (p : Position) (h : Stood p) (known : Known p) where
    -- a read looks at what stands there
    reads : {x : Head} → head_at file p.cursor ≡ x → (cut : Bool) (t : Option ℕ) → read_of file (standing p cut t) ≡ read_head file (standing p cut t) x
    reads e cut t = looks file (standing p cut t) fits (walked_range p h.walked h.within) refl e

    abbrev Later : Type 0
    Later = (c : ChunkAt) → Goes file p.cursor c → Stood (past_at file p c) → Known (past_at file p c) → ReadsFrom (past_at file p c)

    -- a chunk, by how much of it is missing
    on_chunk : Later → (kind : Kind) (size : ℕ) → head_at file p.cursor ≡ head_of kind size → ReadsFrom p
    unfolding step_at
    on_chunk later kind size e = by c.missing refl
      where
        c : ChunkAt
        c = chunk_at file p.cursor kind size

        g : Goes file p.cursor c
        g = step_means file p.cursor (step.Chunk c) (ap (on_head file p.cursor) e ∙ on_head_lem file p.cursor kind size)

        headed : Headed p
        headed = record { walked = h.walked; within = let t = g.there in omega arith }

        payload : List ℕ
        payload = payload_at file p.cursor size

        -- past a whole one
        next : c.missing ≡ 0 → past_at file p c ≡ passed p kind payload
        next m = past-passed p kind payload (let s = g.size_is in omega arith)

        on : c.missing ≡ 0 → ReadsFrom (past_at file p c)
        on m =
            let n = past-cursor file p c in
            later c g
            (record {
              walked = walked_past file p c bytes fits g h.walked;
              within = let i = whole-inside file p.cursor c g m in omega arith;
            })
            (ap (λ (at : ℕ). tags_known at (walk file at)) n ∙ sym (known_on file p.cursor c g (whole-recorded c m)) ∙ known)

        by : (n : ℕ) → c.missing ≡ n → ReadsFrom p
        by zero m =
            let inside = whole-inside file p.cursor c g m in
            let is : walk file p.cursor ≡ chunk kind payload 0 (walk file (passed p kind payload).cursor) =
            g.is
            ∙ ap (λ (n : ℕ). chunk kind payload n (walk file (p.cursor + (8 + size)))) m
            ∙ ap (λ (at : ℕ). chunk kind payload 0 (walk file at)) (sym (past-cursor file p c) ∙ ap (λ (q : Position). q.cursor) (next m)) in
            rw is
            (whole headed
            (λ cut t.
            reads e cut t ∙ read_whole file (standing p cut t) size kind inside
            ∙ ap (λ (q : Position). record { answer = packet (shown_at p kind payload); walker = standing q cut t }) (next m))
            (subst ReadsFrom (next m) (on m)))
        by (suc n) m =
            let short : 0 < c.missing = omega arith in
            rw (g.is ∙ ap (chunk kind payload c.missing) (cut-last file p.cursor c g short))
            (cut_short headed short
            (λ cut t. reads e cut t ∙ read-cut file (standing p cut t) size kind (cut_outside file p.cursor c g short)))

    -- by what stands there
    by_head : Later → ReadsFrom p
    unfolding step_at tags_known
    by_head later = on (head_at file p.cursor) refl
      where
        on : (x : Head) → head_at file p.cursor ≡ x → ReadsFrom p
        on head.Short e = rw (step_means file p.cursor step.RanOut (ap (on_head file p.cursor) e)) (stops h (reads e))
        on head.Trailer e = rw (step_means file p.cursor step.Trailer (ap (on_head file p.cursor) e)).is (stops h (reads e))
        on head.Unknown e =
            never (sym known ∙ ap (tags_known p.cursor) (step_means file p.cursor step.UnknownTag (ap (on_head file p.cursor) e)))
        on (head.Video size) e = on_chunk later Frame size e
        on (head.Audio size) e = on_chunk later Sound size e

  -- from the prelude's end on
  pub read_walk : tags_known prelude_len (file_walk file) ≡ accepted tt → ReadWalk file start (file_walk file)
  read_walk known =
      along file (λ p. Stood p → Known p → ReadsFrom p) (λ p later h k. by_head p h k (λ c g. later c g)) start
      (record { walked = walked_start; within = omega arith }) known

-- ---- the read at each position

-- position k of these whole chunks, after which the walk stops
pub data ReadAt (file : List ℕ) (p : Position) (ws : List Chunk) (s : Stop) (k : ℕ) : Type 0 where
  gives_one : (shown : Shown) → k < length ws → get_elem? (drain_at p ws) k ≡ some shown
      → ((cut : Bool) (t : Option ℕ)
      → read_of file (standing (position_at p k ws) cut t) ≡ record { answer = packet shown; walker = standing (position_at p (suc k) ws) cut t })
      → ReadAt file p ws s k
  gives_none : length ws ≡ k
      → ((cut : Bool) (t : Option ℕ)
      → read_of file (standing (position_at p k ws) cut t) ≡ record { answer = End; walker = ended_by s (standing (position_at p k ws) cut t) })
      → ReadAt file p ws s k

no_chunk : {file : List ℕ} {p : Position} {s : Stop}
    → ((cut : Bool) (t : Option ℕ) → read_of file (standing p cut t) ≡ record { answer = End; walker = ended_by s (standing p cut t) })
    → (k : ℕ) → k ≤ 0 → ReadAt file p [] s k
unfolding position_at
no_chunk r zero l = gives_none refl r
no_chunk r (suc k) l = absurd (not-suc-le-zero l)

one_on : {file : List ℕ} {p : Position} {ws : List Chunk} {s : Stop} {k : ℕ} (kind : Kind) (payload : List ℕ)
    → ReadAt file (passed p kind payload) ws s k → ReadAt file p (chunk_of kind payload ∷ ws) s (suc k)
unfolding position_at
one_on {p = p} {ws} kind payload (gives_one shown l e r) = gives_one shown (omega arith) (rw (drain-cons p kind payload ws) e) r
one_on kind payload (gives_none e r) = gives_none (ap suc e) r

pub read_at : {file : List ℕ} {p : Position} {v : Walk} → ReadWalk file p v → (k : ℕ) → k ≤ length (wholes_of v) → ReadAt file p (wholes_of v) (stop_of v) k
unfolding wholes_of stop_of position_at
read_at (stops h r) k l = no_chunk r k l
read_at (cut_short {missing = missing} h m r) k l =
    let n = ne_eqb missing 0 (λ e. omega arith) in
    rw n (no_chunk r k (rw n at l))
read_at {p = p} (whole {kind = kind} {payload = payload} {rest = rest} h r later) zero l =
    gives_one (shown_at p kind payload) (omega arith) (rw (drain-cons p kind payload (wholes_of rest))) r
read_at (whole {kind = kind} {payload = payload} h r later) (suc k) l = one_on kind payload (read_at later k (le_of_suc-le-suc l))

-- each position is in range
pub ranged : {file : List ℕ} {p : Position} {v : Walk} → ReadWalk file p v → (k : ℕ) → k ≤ length (wholes_of v) → InRange (position_at p k (wholes_of v))
unfolding wholes_of position_at
ranged {p = p} (stops h r) zero l = walked_range p h.walked h.within
ranged {p = p} (stops h r) (suc k) l = walked_range p h.walked h.within
ranged {p = p} (cut_short {missing = missing} h m r) zero l = walked_range p h.walked (omega (arith, h.within))
ranged {p = p} (cut_short {missing = missing} h m r) (suc k) l =
    rw (ne_eqb missing 0 (λ e. omega arith)) (walked_range p h.walked (omega (arith, h.within)))
ranged {p = p} (whole h r later) zero l = walked_range p h.walked (omega (arith, h.within))
ranged (whole h r later) (suc k) l = ranged later k (le_of_suc-le-suc l)

-- ---- reads until End

-- they give the packets of the whole chunks, and leave the walker where the walk stops
pub reads-drain : {file : List ℕ} {p : Position} {v : Walk} → ReadWalk file p v → (cut : Bool) (t : Option ℕ)
    → ReadsUntilEnd file (standing p cut t) (drain_at p (wholes_of v))
    (ended_by (stop_of v) (standing (position_at p (length (wholes_of v)) (wholes_of v)) cut t))
unfolding wholes_of stop_of drain_from position_at
reads-drain (stops h r) cut t = ends (r cut t)
reads-drain (cut_short {missing = missing} h m r) cut t = rw (ne_eqb missing 0 (λ e. omega arith)) (ends (r cut t))
reads-drain {p = p} (whole {kind = kind} {payload = payload} {rest = rest} h r later) cut t =
    rw (drain-cons p kind payload (wholes_of rest)) (gives (r cut t) (reads-drain later cut t))

-- the packets of such reads are those that are left
pub packets-left : {file : List ℕ} {w last : Walker} {ps : List Shown} → ReadsUntilEnd file w ps last → PacketsLeft file w ps
packets-left (ends r) = none_left (ap (λ (x : Reading). x.answer) r)
packets-left {file} (gives {ps = ps} r rest) =
    one_more (ap (λ (x : Reading). x.answer) r)
    (subst (λ (w : Walker). PacketsLeft file w ps) (sym (ap (λ (x : Reading). x.walker) r)) (packets-left rest))
