-- A finished recording that was cut, against the whole of it: the chunks with a record in the cut file stand where they do in the whole and are stamped
-- alike, by induction along the walk over the cut file (`CutWalk`), so a seek goes to the same one; and what a call gives is a packet of the drain of
-- the cut file's whole chunks, which are the survivors. Assumes nothing.
use mathlib.Core.Path.{◌≡◌, refl, sym, ap, ◌∙◌, subst, transport}
use Rattle.error.specs.Refusal.{said}
use mathlib.Core.Bool.{Bool, true, false, cond}
use mathlib.Core.List.{List, [], ◌∷◌}
use mathlib.Core.Option.{Option, none, some}
use Prim.Native.Nat.{ℕ, zero, suc, ◌-◌, ◌≤◌, ◌<◌, min}
use native.Mathlib.Nat.{le_of_suc-le-suc, not-suc-le-zero}
use native.Mathlib.Omega.{arith}
use lib.Dec.{leb}
use lib.IntN.{ℤ}
use lib.ListN.{length, take, drop, get_elem?}
use Rattle.error.specs.Answer.{accepted}
use Rattle.fields.specs.Le.{Bytes}
use Rattle.fields.proofs.Impossible.{impossible}
use Rattle.fields.proofs.Laws.{bytes_take}
use Rattle.demuxer.specs.Packet.{Shown}
use Rattle.demuxer.specs.Position.{start}
use Rattle.demuxer.specs.Read.{packet, End, fresh}
use Rattle.demuxer.specs.Read as read_answers
use Rattle.demuxer.specs.declared.position.Position.{Position}
use Rattle.walk.specs.Chunks.{Chunk, chunk_of, walk_of}
use Rattle.walk.specs.Walk.{Walk, file_walk}
use Rattle.walk.specs.declared.Kind.{Kind}
use Rattle.walk.specs.declared.Kind.TheVariants.{Frame, Sound}
use Rattle.walk.proofs.Cut.{CutWalk, few, inside, whole}
use Rattle.seek.specs.Seek.{stamp_of, seek_of}
use Rattle.recording.specs.Grammar.{Finished}
use Rattle.recording.specs.Drain.{drain, drain_from}
use Rattle.recording.specs.Machine.{Call, read, seek, refuses, on_read, on_seek, first, machine_step}
use Rattle.recording.specs.Machine.{CallAnswer, read_answer, seek_answer, answers, after, Agrees, AllAgree, PacketsLeft, OwnIndex}
use Rattle.recording.specs.Indexed.{wholes_of, recorded_of, file_step, file_says}
use Rattle.recording.specs.Cut.{survivors}
use Rattle.recording.specs.CutJumps.{FromWhole, AllFromWhole, recorded_in, SameJump, CutAgainstWhole}
use Rattle.recording.proofs.Positions.{passed, shown_at, position_at, drain_at}
use Rattle.recording.proofs.Tables.{finished-walk}
use Rattle.recording.proofs.Drains.{all_whole}
use Rattle.recording.proofs.Recorded.{by_record, recorded_on, all_recorded, one_more, least, most}
use Rattle.recording.proofs.Seeks.{meets, first-cons}
use Rattle.recording.proofs.Indexed.{Jumped, lists, own_jump}
use Rattle.recording.proofs.Cuts.{cut-walk, reads, survivors_are, as_many}
use Rattle.recording.proofs.Within.{whole_part, first-within}

-- ---- along the walk over the cut file

-- what is sought is not the payload
same_meets : (stream : ℕ) (request : ℤ) (p : Position) (kind : Kind) (part payload : List ℕ)
    → meets stream request (shown_at p kind part) ≡ meets stream request (shown_at p kind payload)
same_meets stream request p Frame part payload = refl
same_meets stream request p Sound part payload = refl

module _ (n stream : ℕ) (request : ℤ) where
  -- the first of the chunks with a record, as of all
  abbrev First : Position → List Chunk → List Chunk → Type 0
  First p cs rs = first stream request (drain_at p rs) ≡ min (first stream request (drain_at p cs)) (length rs)

  first-none : (p : Position) (cs : List Chunk) → First p cs []
  unfolding first drain_from
  first-none p cs = omega arith

  first_more : (p : Position) (kind : Kind) (part payload : List ℕ) (cs rs : List Chunk) → First (passed p kind payload) cs rs
      → first stream request (drain_at (passed p kind part) rs) ≡ first stream request (drain_at (passed p kind payload) rs)
      → First p (chunk_of kind payload ∷ cs) (chunk_of kind part ∷ rs)
  first_more p kind part payload cs rs i e =
      rw (first-cons stream request p kind part rs, first-cons stream request p kind payload cs, same_meets stream request p kind part payload)
      (on (meets stream request (shown_at p kind payload)))
    where
      on : (t : Bool)
          → cond t 0 (suc (first stream request (drain_at (passed p kind part) rs)))
          ≡ min (cond t 0 (suc (first stream request (drain_at (passed p kind payload) cs)))) (suc (length rs))
      on true = omega arith
      on false = omega arith

  first-cut : {at : ℕ} {cs : List Chunk} {v : Walk} → CutWalk n at cs v → (p : Position) → First p cs (recorded_of v)
  first-cut {cs = cs} (few l) p = unfold recorded_of in first-none p cs
  first-cut (inside {kind = kind} {payload = payload} {part = part} {missing = missing} {cs = cs} a b z) p =
      by_record (First p (chunk_of kind payload ∷ cs)) kind part missing (first-none p (chunk_of kind payload ∷ cs))
      (first_more p kind part payload cs [] (first-none (passed p kind payload) cs) (unfold first drain_from in refl))
  first-cut (whole {kind = kind} {payload = payload} {cs = cs} {rest = rest} l later) p =
      subst (First p (chunk_of kind payload ∷ cs)) (sym (recorded_on kind payload rest))
      (first_more p kind payload payload cs (recorded_of rest) (first-cut later (passed p kind payload)) refl)

module _ (n : ℕ) where
  -- no more chunks have a record than there are
  few-recorded : {at : ℕ} {cs : List Chunk} {v : Walk} → CutWalk n at cs v → length (recorded_of v) ≤ length cs
  few-recorded (few l) = unfold recorded_of in omega arith
  few-recorded (inside {kind = kind} {payload = payload} {part = part} {missing = missing} {cs = cs} a b z) =
      by_record (λ (rs : List Chunk). length rs ≤ length (chunk_of kind payload ∷ cs)) kind part missing (omega arith) (omega arith)
  few-recorded (whole {kind = kind} {payload = payload} {cs = cs} {rest = rest} l later) =
      let i = few-recorded later in
      let e = ap length (recorded_on kind payload rest) in
      omega arith

  -- one that has stands where it does in the whole
  abbrev SamePlace : Position → List Chunk → List Chunk → Type 0
  SamePlace p cs rs = (k : ℕ) → k < length rs → position_at p k rs ≡ position_at p k cs

  place-cut : {at : ℕ} {cs : List Chunk} {v : Walk} → CutWalk n at cs v → (p : Position) → SamePlace p cs (recorded_of v)
  unfolding position_at
  place-cut (few l) p = λ k h. absurd (unfold recorded_of in not-suc-le-zero h)
  place-cut (inside {kind = kind} {payload = payload} {part = part} {missing = missing} {cs = cs} a b z) p =
      by_record (SamePlace p (chunk_of kind payload ∷ cs)) kind part missing (λ k h. absurd (not-suc-le-zero h)) on
    where
      on : SamePlace p (chunk_of kind payload ∷ cs) (chunk_of kind part ∷ [])
      on zero h = refl
      on (suc k) h = absurd (not-suc-le-zero (le_of_suc-le-suc h))
  place-cut (whole {kind = kind} {payload = payload} {cs = cs} {rest = rest} l later) p =
      subst (SamePlace p (chunk_of kind payload ∷ cs)) (sym (recorded_on kind payload rest)) (on (place-cut later (passed p kind payload)))
    where
      on : SamePlace (passed p kind payload) cs (recorded_of rest) → SamePlace p (chunk_of kind payload ∷ cs) (chunk_of kind payload ∷ recorded_of rest)
      on i zero h = refl
      on i (suc k) h = i k (le_of_suc-le-suc h)

-- ---- packets of the drain

-- an answer that agrees with the machine gives a packet of these, if any
abbrev From : List Shown → CallAnswer → Type 0
From ps (read_answer (packet p)) = (k : ℕ) × (get_elem? ps k ≡ some p)
From ps (read_answer End) = Unit
From ps (read_answer (read_answers.refused r)) = ⊥
From ps (seek_answer a) = Unit

from_step : (v : Walk) (k : ℕ) (c : Call) (a : CallAnswer) → Agrees (file_step v k c).says a → From (drain (wholes_of v)) a
unfolding file_step machine_step
from_step v k read a g = on (get_elem? (drain (wholes_of v)) k) refl g
  where
    on : (x : Option Shown) → get_elem? (drain (wholes_of v)) k ≡ x → Agrees (on_read k x).says a → From (drain (wholes_of v)) a
    on (some p) e g = subst (From (drain (wholes_of v))) (sym g) (k, e)
    on none e g = subst (From (drain (wholes_of v))) (sym g) tt
from_step v k (seek stream request) a g = on (leb stream 1) (get_elem? (drain (recorded_of v)) (first stream request (drain (recorded_of v)))) g
  where
    on : (t : Bool) (x : Option Shown)
        → Agrees (cond t (on_seek (first stream request (drain (recorded_of v))) x) (record { says = refuses; place = k })).says a
        → From (drain (wholes_of v)) a
    on true (some p) g = subst (From (drain (wholes_of v))) (sym g) tt
    on true none g = subst (From (drain (wholes_of v))) (sym g.1) tt
    on false x g = subst (From (drain (wholes_of v))) (sym g) tt

-- the first ones of a list
first_some : {A : Type 0} (m : ℕ) (l : List A) (k : ℕ) (x : A) → get_elem? (take m l) k ≡ some x → (k < length (take m l)) × (get_elem? l k ≡ some x)
first_some zero l k x e = impossible cc
first_some (suc m) [] k x e = impossible cc
first_some (suc m) (y ∷ l) zero x e = (omega arith, e)
first_some (suc m) (y ∷ l) (suc k) x e = let i = first_some m l k x e in (omega arith, i.1)

drop-first : {A : Type 0} (m k : ℕ) (l : List A) → drop k (take m l) ≡ take (m - k) (drop k l)
drop-first m zero l = let z : m ≡ m - 0 = omega arith in ap (λ (i : ℕ). take i l) z
drop-first zero (suc k) l = let z : 0 ≡ 0 - suc k = omega arith in ap (λ (i : ℕ). take i (drop (suc k) l)) z
drop-first {A} (suc m) (suc k) [] = take_none (suc m - suc k)
  where
    take_none : (i : ℕ) → ◌≡◌ {A = List A} [] (take i [])
    take_none zero = refl
    take_none (suc i) = refl
drop-first (suc m) (suc k) (x ∷ l) =
    let z : m - k ≡ suc m - suc k = omega arith in
    drop-first m k l ∙ ap (λ (i : ℕ). take i (drop k l)) z

-- ---- a finished recording, cut to n bytes

module _ (file : List ℕ) (cs : List Chunk) (bytes : Bytes file) (fin : Finished file cs) (n : ℕ) (short : n < length file) where
  abbrev v : Walk
  v = file_walk (take n file)

  survivors-first : survivors n cs ≡ take (length (survivors n cs)) (drain cs)
  survivors-first = first-within whole_part n _ cs (drain cs)

  -- a packet of the cut file's is one of the whole's
  from-whole : (a : CallAnswer) → From (drain (wholes_of v)) a → FromWhole cs n a
  from-whole (read_answer (packet p)) (k, e) =
      let s : get_elem? (survivors n cs) k ≡ some p = ap (λ (ps : List Shown). get_elem? ps k) (survivors_are file cs fin n short) ∙ e in
      let i = first_some (length (survivors n cs)) (drain cs) k p (rw survivors-first at s) in
      (k, subst (λ (ps : List Shown). k < length ps) (sym survivors-first) i.0, i.1)
  from-whole (read_answer End) f = tt
  from-whole (read_answer (read_answers.refused r)) f = f
  from-whole (seek_answer a) f = tt

  all_from : (k : ℕ) (calls : List Call) (said : List CallAnswer) → AllAgree (file_says v k calls) said → AllFromWhole cs n said
  unfolding file_says
  all_from k [] [] g = tt
  all_from k [] (a ∷ said) g = absurd g
  all_from k (c ∷ calls) [] g = absurd g
  all_from k (c ∷ calls) (a ∷ said) g = (from-whole a (from_step v k c a g.0), all_from (file_step v k c).place calls said g.1)

  packets : (table : List ℕ) → OwnIndex (take n file) table → (calls : List Call) → AllFromWhole cs n (answers (take n file) table fresh calls)
  packets table own calls = all_from 0 calls _ (lists (take n file) (bytes_take n file bytes) table own calls).agree

  as_recorded : (length (survivors n cs) ≤ length (recorded_in file n)) × (length (recorded_in file n) ≤ suc (length (survivors n cs)))
  as_recorded =
      let m = one_more (reads file cs fin n short bytes) in
      let e = as_many file cs fin n short in
      (let l = least m in omega arith, let l = most m in omega arith)

  module _ (table : List ℕ) (own : OwnIndex (take n file) table) (calls : List Call) (full : List ℕ) (whole-own : OwnIndex file full)
      (others : List Call) (stream : ℕ) (s : stream ≤ 1) (request : ℤ) (h : first stream request (drain cs) < length (recorded_in file n)) where
    abbrev to : ℕ
    to = first stream request (drain cs)

    -- where the seek goes in the cut file
    cut_to : first stream request (drain (recorded_in file n)) ≡ to
    cut_to = let m = first-cut n stream request (cut-walk file cs fin n short) start in omega arith

    cut_jump : Jumped (take n file) v to stream (seek_of table (after (take n file) table fresh calls) stream request)
    cut_jump =
        subst (λ (k : ℕ). Jumped (take n file) v k stream (seek_of table (after (take n file) table fresh calls) stream request)) cut_to
        (own_jump (take n file) (bytes_take n file bytes) table own calls stream s request
        (subst (λ (k : ℕ). k < length (recorded_in file n)) (sym cut_to) h))

    -- and in the whole, whose chunks are all whole and have records
    whole_jump : Jumped file (walk_of cs 0) to stream (seek_of full (after file full fresh others) stream request)
    whole_jump =
        let o = own_jump file bytes full whole-own others stream s request in
        let w = finished-walk file cs fin in
        let rs : recorded_of (file_walk file) ≡ cs = ap recorded_of w ∙ all_recorded cs 0 in
        let e : first stream request (drain (recorded_of (file_walk file))) ≡ to = ap (λ (l : List Chunk). first stream request (drain l)) rs in
        let l = few-recorded n (cut-walk file cs fin n short) in
        let m = ap length rs in
        let k : first stream request (drain (recorded_of (file_walk file))) < length (recorded_of (file_walk file)) = omega arith in
        transport (λ i. Jumped file (w i) (e i) stream (seek_of full (after file full fresh others) stream request)) (o k)

    same : SameJump file cs n to (seek_of table (after (take n file) table fresh calls) stream request)
        (seek_of full (after file full fresh others) stream request)
    same =
        let c = cut_jump in
        let w = whole_jump in
        let rs = all_recorded cs 0 in
        let place : position_at start to (recorded_in file n) ≡ position_at start to (recorded_of (walk_of cs 0)) =
        place-cut n (cut-walk file cs fin n short) start to h ∙ ap (position_at start to) (sym rs) in
        let left : drop to (drain (wholes_of v)) ≡ drop to (survivors n cs) = ap (drop to) (sym (survivors_are file cs fin n short)) in
        record {
          stamp = λ p e.
              let q = sym (w.stamp p (ap (λ (l : List Chunk). get_elem? (drain l) to) rs ∙ e)) in
              (c.answer ∙ ap (λ (x : Position). accepted (stamp_of stream x)) place ∙ ap accepted q, w.answer ∙ ap accepted q);
          position = c.position ∙ place ∙ sym w.position;
          whole_left = subst (PacketsLeft file _) (ap (λ (l : List Chunk). drop to (drain l)) (all_whole cs 0)) w.left;
          cut_left = subst (PacketsLeft (take n file) _) left c.left;
          first_ones = ap (drop to) survivors-first ∙ drop-first (length (survivors n cs)) to (drain cs);
        }

pub cut_against_whole : CutAgainstWhole
cut_against_whole =
    record {
      packets = packets;
      one_more = as_recorded;
      same_chunk = λ file cs fin n short stream request. first-cut n stream request (cut-walk file cs fin n short) start;
      jumps = λ file cs bytes fin n short table own calls full whole-own others stream s request h.
          same file cs bytes fin n short table own calls full whole-own others stream s request h;
    }
