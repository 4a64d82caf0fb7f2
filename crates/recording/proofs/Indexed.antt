-- Every list of reads and seeks on a file that has an index answers as the plain machine of that file. By one invariant, of a walker against a
-- position of the machine, and one step for each kind of call: a read by what reads give along the walk (Drains), a seek by what it finds among the
-- records (Seeks). Assumes nothing.
use mathlib.Core.Path.{◌≡◌, refl, sym, ap, ◌∙◌, subst}
use Rattle.std.specs.Prelude.{Some}
use mathlib.Core.Bool.{Bool, true, false, not, cond, ◌||◌}
use mathlib.Core.List.{List, [], ◌∷◌}
use mathlib.Core.Option.{Option, none, some}
use Prim.Native.Nat.{ℕ, zero, suc, ◌+◌, ◌%◌, ◌≤◌, ◌<◌}
use native.Mathlib.Nat.{le_of_suc-le-suc, not-suc-le-zero}
use native.Mathlib.Omega.{arith}
use borrow.Author.Tests.{eq-eqb, le-leb, leb-true}
use lib.Dec.{leb}
use lib.IntN.{ℤ, pos}
use lib.ListN.{length, take, drop, get_elem?}
use lib.Seq.{take-length}
use Rattle.prelude.specs.Layout.{prelude_len}
use Rattle.error.specs.Answer.{accepted, refused, numbered}
use Rattle.error.proofs.Answers.{accepted-same, then-passed, ask-passed}
use Rattle.fields.proofs.Impossible.{impossible}
use Rattle.fields.specs.File.{file_limit, within_limit}
use Rattle.fields.specs.Le.{Bytes}
use Rattle.demuxer.specs.Packet.{Shown}
use Rattle.demuxer.specs.Position.{start, InRange}
use Rattle.demuxer.specs.Read.{ReadAnswer, End, fresh, read_of}
use Rattle.demuxer.specs.declared.position.Position.{Position}
use Rattle.demuxer.specs.declared.walker.Walker.{Walker}
use Rattle.demuxer.proofs.Ranges.{in_range_lem}
use Rattle.walk.specs.Chunks.{Chunk, chunks_bytes}
use Rattle.walk.specs.Walk.{Stop, ran_out, trailer, unknown_tag, Walk, stop, chunk, file_walk}
use Rattle.walk.specs.declared.Kind.TheVariants.{Frame}
use Rattle.chunk_index.specs.Entry.{entry_len, table_bytes, entries_of}
use Rattle.chunk_index.specs.Index.{records, tags_known, index_of}
use Rattle.chunk_index.specs.declared.entry.ChunkIndexEntry.{ChunkIndexEntry}
use Rattle.table.specs.Table.{table_questions}
use Rattle.seek.specs.Seek.{stamp_of, find, past_last, Seeking, landed, seek_of}
use Rattle.seek.proofs.Seeks.{no_stream, all_pass, when_refused, when_accepted}
use Rattle.chunk_index.proofs.Entries.{length-table}
use Rattle.recording.specs.Drain.{drain, drain_from}
use Rattle.recording.specs.Machine.{Call, read, seek, ends, goes, MachineStep, on_read, on_seek, first, refuses, machine_step}
use Rattle.recording.specs.Machine.{read_answer, seek_answer, CallOutcome, call, answers, after, Agrees, AllAgree, PacketsLeft, none_left}
use Rattle.recording.specs.Machine as machine
use Rattle.recording.specs.Machine.{AtChunk, OwnIndex}
use Rattle.recording.specs.Indexed.{wholes_of, recorded_of, stop_of, file_step, file_says, file_after, Marks, unmarked, marked_by, marks_after}
use Rattle.recording.specs.Indexed.{cut_by, trailer_by, Marked, LeftAlong, AgreedAlong, FileAgreement}
use Rattle.recording.proofs.Positions.{position_at, length-drain, counted}
use Rattle.recording.proofs.Tables.{records_of, table_back}
use Rattle.recording.proofs.Seeks.{Finds, hit, miss, finds}
use Rattle.recording.proofs.Recorded.{one_more, least, most, same-position, records_are, record-position, all_met, all_fit, all_good, last-range}
use Rattle.demuxer.proofs.Sentences.{read_sentences}
use Rattle.recording.proofs.Drains.{standing, ended_by, ReadWalk, read_walk, ReadAt, gives_one, gives_none, read_at, ranged}

-- a walk with one frame, of which 2 bytes are missing: a jump goes to it and a read gives End there; a jump clears end, and not what a read has met
at_a_cut_frame : let v = chunk Frame (1 ∷ []) 2 (stop ran_out) in
    (file_step v 0 (seek 0 (pos 0)) ≡ record { says = goes 0; place = 0 })
    × (file_step v 0 read ≡ record { says = ends; place = 0 })
    × (marked_by (record { end = true; met = true }) (goes 0) ≡ record { end = false; met = true })
unfolding wholes_of recorded_of drain_from first machine_step file_step
at_a_cut_frame = (refl, refl, refl)

-- ---- the invariant: a walker against a position of the machine and its marks

-- where the walk stops
abbrev stop_at : Walk → ℕ
stop_at v = prelude_len + length (chunks_bytes (wholes_of v))

-- the walker that stands at a position with these marks
abbrev pub walker_at : Walk → Position → Marks → Walker
walker_at v p m =
    record { position = p; end = m.end; cut = cut_by (stop_of v) m.met; trailer = trailer_by (stop_of v) (stop_at v) m.met }

-- not ended: at whole chunk k, or past all of them
pub record Going (v : Walk) (w : Walker) (k : ℕ) (m : Marks) : Type 0 where
  pub is : w ≡ walker_at v (position_at start k (wholes_of v)) m
  pub going : m.end ≡ false
  pub within : k ≤ length (wholes_of v)

-- ended: at a record that is cut, or somewhere in range
pub record Over (v : Walk) (w : Walker) (k : ℕ) (m : Marks) : Type 0 where
  pub is : w ≡ walker_at v w.position m
  pub over : m.end ≡ true
  pub range : InRange w.position
  pub past : length (wholes_of v) ≤ k
  pub inside : k ≤ length (recorded_of v)
  pub at_record : k < length (recorded_of v) → w.position ≡ position_at start k (recorded_of v)

pub data Invariant (v : Walk) (w : Walker) (k : ℕ) (m : Marks) : Type 0 where
  on_the_way : Going v w k m → Invariant v w k m
  at_the_end : Over v w k m → Invariant v w k m

-- one call of either kind: it agrees, and keeps the invariant
pub record Turn (v : Walk) (m : Marks) (c : CallOutcome) (s : MachineStep) : Type 0 where
  pub agrees : Agrees s.says c.answer
  pub keeps : Invariant v c.walker s.place (marked_by m s.says)

pub begins : (v : Walk) → Invariant v fresh 0 unmarked
unfolding position_at
begins v = on_the_way (record { is = unmarked-is (stop_of v); going = refl; within = omega arith })
  where
    unmarked-is : (s : Stop)
        → fresh ≡ record { position = start; end = false; cut = cut_by s false; trailer = trailer_by s (stop_at v) false }
    unmarked-is ran_out = refl
    unmarked-is (trailer n) = refl
    unmarked-is unknown_tag = refl

-- the marks of a walker
by_walker : {v : Walk} {w : Walker} {p : Position} {m : Marks} → w ≡ walker_at v p m → Marked v m w
by_walker e =
    record {
      end_is = ap (λ (x : Walker). x.end) e;
      cut_is = ap (λ (x : Walker). x.cut) e;
      trailer_is = ap (λ (x : Walker). x.trailer) e;
    }

pub marked : {v : Walk} {w : Walker} {k : ℕ} {m : Marks} → Invariant v w k m → Marked v m w
marked (on_the_way i) = by_walker i.is
marked (at_the_end i) = by_walker i.is

-- a read that meets the stop
meets_stop : (s : Stop) (p : Position) (at : ℕ) → p.cursor ≡ at → (met : Bool)
    → ended_by s (standing p (cut_by s met) (trailer_by s at met))
    ≡ record { position = p; end = true; cut = cut_by s true; trailer = trailer_by s at true }
meets_stop ran_out p at e met = refl
meets_stop (trailer n) p at e met = λ i. record { position = p; end = true; cut = false; trailer = Some (e i) }
meets_stop unknown_tag p at e met = refl

get_elem_none : (l : List Shown) (k : ℕ) → length l ≤ k → get_elem? l k ≡ none
get_elem_none [] k h = refl
get_elem_none (x ∷ l) zero h = absurd (not-suc-le-zero h)
get_elem_none (x ∷ l) (suc k) h = get_elem_none l k (le_of_suc-le-suc h)

drop-none : (l : List Shown) (k : ℕ) → get_elem? l k ≡ none → drop k l ≡ []
drop-none [] zero e = refl
drop-none [] (suc k) e = refl
drop-none (x ∷ l) zero e = impossible cc
drop-none (x ∷ l) (suc k) e = drop-none l k e

drop_some : (l : List Shown) (k : ℕ) (x : Shown) → get_elem? l k ≡ some x → drop k l ≡ x ∷ drop (suc k) l
drop_some [] zero x e = impossible cc
drop_some [] (suc k) x e = impossible cc
drop_some (y ∷ l) zero x e = ap (λ (z : Shown). z ∷ l) cc
drop_some (y ∷ l) (suc k) x e = drop_some l k x e

told : {a b : ReadAnswer} → read_answer a ≡ read_answer b → a ≡ b
told e = cc

pub none-past : (cs : List Chunk) (k : ℕ) → length cs ≤ k → get_elem? (drain cs) k ≡ none
none-past cs k h = get_elem_none (drain cs) k (omega (arith, length-drain start cs))

-- a read after the end changes no mark
still_over : (m : Marks) → m.end ≡ true → m ≡ marked_by m ends
still_over m over = λ j. record { end = over j; met = sym (ap (λ (end : Bool). not end || m.met) over) j }

-- a seek that goes to record number k
pub record Jumped (file : List ℕ) (v : Walk) (k stream : ℕ) (s : Seeking) : Type 0 where
  pub answer : s.answer ≡ accepted (stamp_of stream (position_at start k (recorded_of v)))
  pub position : s.walker.position ≡ position_at start k (recorded_of v)
  pub left : PacketsLeft file s.walker (drop k (drain (wholes_of v)))
  pub stamp : (p : Shown) → get_elem? (drain (recorded_of v)) k ≡ some p → p.stamp ≡ stamp_of stream (position_at start k (recorded_of v))

sought-place : (k : ℕ) (x : Option Shown) → (on_seek k x).place ≡ k
sought-place k (some p) = refl
sought-place k none = refl

module _ (file : List ℕ) (fits : length file ≤ file_limit) (v : Walk) (r : ReadWalk file start v) where
  pub in_walk : (w : Walker) (k : ℕ) (m : Marks) → Invariant v w k m → InRange w.position
  in_walk w k m (on_the_way i) = subst (λ (x : Walker). InRange x.position) (sym i.is) (ranged r k i.within)
  in_walk w k m (at_the_end i) = i.range

  -- ---- a read

  abbrev pub reading : Walker → CallOutcome
  reading w = record { answer = read_answer (read_of file w).answer; walker = (read_of file w).walker }

  abbrev pub read_step : ℕ → MachineStep
  read_step k = on_read k (get_elem? (drain (wholes_of v)) k)

  going-is : (w : Walker) (k : ℕ) (m : Marks) → Going v w k m
      → w ≡ standing (position_at start k (wholes_of v)) (cut_by (stop_of v) m.met) (trailer_by (stop_of v) (stop_at v) m.met)
  going-is w k m i =
      i.is
      ∙ ap
      (λ (end : Bool).
      record {
        position = position_at start k (wholes_of v);
        end = end;
        cut = cut_by (stop_of v) m.met;
        trailer = trailer_by (stop_of v) (stop_at v) m.met;
      })
      i.going

  read_on : (w : Walker) (k : ℕ) (m : Marks) → Going v w k m → ReadAt file start (wholes_of v) (stop_of v) k → Turn v m (reading w) (read_step k)
  read_on w k m i (gives_one shown l e reads) =
      let o = ap (read_of file) (going-is w k m i) ∙ reads (cut_by (stop_of v) m.met) (trailer_by (stop_of v) (stop_at v) m.met) in
      rw (o, e)
      (record {
        agrees = refl;
        keeps =
            on_the_way (record {
              is = ap (λ (end : Bool). walker_at v (position_at start (suc k) (wholes_of v)) (record { end = end; met = m.met })) (sym i.going);
              going = i.going;
              within = l;
            });
      })
  read_on w k m i (gives_none e reads) =
      let p : Position = position_at start k (wholes_of v) in
      let c : p.cursor ≡ stop_at v =
      (counted start k (wholes_of v)).cursor_is
      ∙ ap (λ (n : ℕ). prelude_len + length (chunks_bytes (take n (wholes_of v)))) (sym e)
      ∙ ap (λ (l : List Chunk). prelude_len + length (chunks_bytes l)) (take-length (wholes_of v)) in
      let o : read_of file w ≡ record { answer = End; walker = walker_at v p (record { end = true; met = true }) } =
      ap (read_of file) (going-is w k m i)
      ∙ reads (cut_by (stop_of v) m.met) (trailer_by (stop_of v) (stop_at v) m.met)
      ∙ ap (λ (x : Walker). record { answer = End; walker = x }) (meets_stop (stop_of v) p (stop_at v) c m.met) in
      rw (o, none-past (wholes_of v) k (omega arith))
      (record {
        agrees = refl;
        keeps =
            at_the_end (record {
              is = ap (λ (end : Bool). walker_at v p (record { end = true; met = not end || m.met })) (sym i.going);
              over = refl;
              range = ranged r k i.within;
              past = omega arith;
              inside = let l = least (one_more r) in omega arith;
              at_record = λ h. sym (same-position (one_more r) start k i.within);
            });
      })

  read-over : (w : Walker) (k : ℕ) (m : Marks) → Over v w k m → Turn v m (reading w) (read_step k)
  read-over w k m i =
      rw (
        read_sentences.ended file w fits i.range (ap (λ (x : Walker). x.end) i.is ∙ i.over),
        none-past (wholes_of v) k i.past,
      )
      (record {
        agrees = refl;
        keeps =
            at_the_end (record {
              is = i.is ∙ ap (walker_at v w.position) (still_over m i.over);
              over = refl;
              range = i.range;
              past = i.past;
              inside = i.inside;
              at_record = i.at_record;
            });
      })

  pub read-turn : (w : Walker) (k : ℕ) (m : Marks) → Invariant v w k m → Turn v m (reading w) (read_step k)
  read-turn w k m (on_the_way i) = read_on w k m i (read_at r k i.within)
  read-turn w k m (at_the_end i) = read-over w k m i

  -- ---- what is left

  -- by the packet at the position, and what is left after it
  left_by : (w : Walker) (k : ℕ) (m : Marks) → Invariant v w k m → (x : Option Shown) → get_elem? (drain (wholes_of v)) k ≡ x
      → ((p : Shown) → get_elem? (drain (wholes_of v)) k ≡ some p → Invariant v (read_of file w).walker (suc k) m
      → PacketsLeft file (read_of file w).walker (drop (suc k) (drain (wholes_of v))))
      → PacketsLeft file w (drop k (drain (wholes_of v)))
  left_by w k m i none e later =
      let t : Turn v m (reading w) (on_read k none) = rw e at (read-turn w k m i) in
      rw (drop-none (drain (wholes_of v)) k e) (none_left {w = w} (told t.agrees))
  left_by w k m i (some p) e later =
      let t : Turn v m (reading w) (on_read k (some p)) = rw e at (read-turn w k m i) in
      rw (drop_some (drain (wholes_of v)) k p e) (machine.one_more {w = w} (told t.agrees) (later p e t.keeps))

  lefts : (n : ℕ) (w : Walker) (k : ℕ) (m : Marks) → length (wholes_of v) ≤ k + n → Invariant v w k m → PacketsLeft file w (drop k (drain (wholes_of v)))
  lefts zero w k m h i =
      left_by w k m i _ refl (λ p e j. let z : none ≡ some p = sym (none-past (wholes_of v) k (omega arith)) ∙ e in impossible cc)
  lefts (suc n) w k m h i = left_by w k m i _ refl (λ p e j. lefts n (read_of file w).walker (suc k) m (omega arith) j)

  pub left_of : (w : Walker) (k : ℕ) (m : Marks) → Invariant v w k m → PacketsLeft file w (drop k (drain (wholes_of v)))
  left_of w k m i = lefts (length (wholes_of v)) w k m (omega arith) i

  -- at a record the walker stands where that does
  pub at_place : (w : Walker) (k : ℕ) (m : Marks) → Invariant v w k m → k < length (recorded_of v) → w.position ≡ position_at start k (recorded_of v)
  at_place w k m (on_the_way i) h =
      ap (λ (x : Walker). x.position) i.is ∙ sym (same-position (one_more r) start k i.within)
  at_place w k m (at_the_end i) h = i.at_record h

  pub stand : (w : Walker) (k : ℕ) (m : Marks) → Invariant v w k m → k < length (recorded_of v) → AtChunk (recorded_of v) k w
  stand w k m i h =
      let n = counted start k (recorded_of v) in
      let e = at_place w k m i h in
      record {
        cursor_is = ap (λ (p : Position). p.cursor) e ∙ n.cursor_is;
        frames_is = ap (λ (p : Position). p.frames.0) e ∙ omega arith;
        samples_is = ap (λ (p : Position). p.samples.0) e ∙ omega arith;
        blocks_is = ap (λ (p : Position). p.blocks.0) e ∙ omega arith;
      }

  of_record : (w : Walker) (k : ℕ) (m : Marks) → Invariant v w k m → (e : ChunkIndexEntry) → get_elem? (records start v) k ≡ some e
      → w.position ≡ e.position
  of_record w k m i e h =
      let q = record-position start (recorded_of v) k e (rw (records_are r) at h) in
      at_place w k m i q.0 ∙ q.1

  -- what the invariant says after a list of calls
  pub leaves : (calls : List Call) (w : Walker) → Invariant v w (file_after v 0 calls) (marks_after unmarked (file_says v 0 calls))
      → LeftAlong file v calls w
  leaves calls w i =
      record {
        left = left_of _ _ _ i;
        stands = stand _ _ _ i;
        at_record = of_record _ _ _ i;
        marked = marked i;
      }

  module _ (table : List ℕ) (is : table ≡ table_bytes (records_of start (recorded_of v))) where
    -- ---- the index

    entries_are : entries_of table ≡ records_of start (recorded_of v)
    entries_are = ap entries_of is ∙ table_back (records_of start (recorded_of v)) (all_fit (records_of start (recorded_of v)) (all_met r))

    table_good : table_questions table ≡ accepted tt
    table_good =
        let n : length table % entry_len ≡ 0 = omega (arith, ap length is, length-table (records_of start (recorded_of v))) in
        rw (eq-eqb (length table % entry_len) 0 n, entries_are) (all_good 0 (records_of start (recorded_of v)) (all_met r))

    -- ---- a seek

    abbrev pub seeking : Walker → ℕ → ℤ → CallOutcome
    seeking w stream request = record { answer = seek_answer (seek_of table w stream request).answer; walker = (seek_of table w stream request).walker }

    abbrev pub seek_step : ℕ → ℤ → MachineStep
    seek_step stream request =
        on_seek (first stream request (drain (recorded_of v))) (get_elem? (drain (recorded_of v)) (first stream request (drain (recorded_of v))))

    seek_lands : (w : Walker) (stream : ℕ) (request : ℤ) → leb stream 1 ≡ true → InRange w.position
        → seek_of table w stream request
        ≡ landed (records_of start (recorded_of v)) w stream (find stream request (records_of start (recorded_of v)))
    seek_lands w stream request s range =
        when_accepted table w stream request (all_pass table w stream s table_good (in_range_lem w.position range))
        ∙ ap (λ (es : List ChunkIndexEntry). landed es w stream (find stream request es)) entries_are

    seek_refused : (w : Walker) (stream : ℕ) (request : ℤ) → leb stream 1 ≡ false
        → seek_of table w stream request ≡ record { answer = refused (numbered 42 0); walker = w }
    seek_refused w stream request s = when_refused table w stream request (no_stream table w stream s)

    land_turn : (w : Walker) (k : ℕ) (m : Marks) → Invariant v w k m → (stream : ℕ) (request : ℤ) → leb stream 1 ≡ true
        → Finds stream request start (recorded_of v) → Turn v m (seeking w stream request) (seek_step stream request)
    land_turn w k m i stream request s (hit f) =
        let n : f.num ≤ length (wholes_of v) = let l = most (one_more r) in omega (arith, f.inside) in
        let p = f.at-is ∙ same-position (one_more r) start f.num n in
        let marks = marked i in
        rw (seek_lands w stream request s (in_walk w k m i), f.found, f.first-is, f.shown-is)
        (record {
          agrees = ap (λ (n : ℕ). seek_answer (accepted n)) (sym f.stamp-is);
          keeps =
              on_the_way (record {
                is = λ j. record { position = p j; end = false; cut = marks.cut_is j; trailer = marks.trailer_is j };
                going = refl;
                within = n;
              });
        })
    land_turn w k m i stream request s (miss a b) =
        let marks = marked i in
        let p : Position = past_last w.position (records_of start (recorded_of v)) in
        rw (seek_lands w stream request s (in_walk w k m i), a, b, none-past (recorded_of v) (length (recorded_of v)) (omega arith))
        (record {
          agrees = (_, refl);
          keeps =
              at_the_end (record {
                is = λ j. record { position = p; end = true; cut = marks.cut_is j; trailer = marks.trailer_is j };
                over = refl;
                range = last-range w.position (records_of start (recorded_of v)) (in_walk w k m i) (all_met r);
                past = least (one_more r);
                inside = omega arith;
                at_record = λ h. absurd (omega arith);
              });
        })

    -- one that goes to a record: its stamp, where it stands and what is left
    pub jump : (w : Walker) (k : ℕ) (m : Marks) → Invariant v w k m → (stream : ℕ) (request : ℤ) → leb stream 1 ≡ true
        → first stream request (drain (recorded_of v)) < length (recorded_of v)
        → Jumped file v (first stream request (drain (recorded_of v))) stream (seek_of table w stream request)
    jump w k m i stream request s l = on (finds stream request start (recorded_of v) (leb-true stream 1 s))
      where
        on : Finds stream request start (recorded_of v)
            → Jumped file v (first stream request (drain (recorded_of v))) stream (seek_of table w stream request)
        on (hit f) =
            let to : ℕ = first stream request (drain (recorded_of v)) in
            let is = f.at-is ∙ ap (λ (n : ℕ). position_at start n (recorded_of v)) (sym f.first-is) in
            let lands = seek_lands w stream request s (in_walk w k m i) ∙ ap (landed (records_of start (recorded_of v)) w stream) f.found in
            let t = land_turn w k m i stream request s (hit f) in
            record {
              answer = ap (λ (q : Seeking). q.answer) lands ∙ ap (λ (p : Position). accepted (stamp_of stream p)) is;
              position = ap (λ (q : Seeking). q.walker.position) lands ∙ is;
              left =
                  left_of _ to _
                  (subst (λ (n : ℕ). Invariant v (seek_of table w stream request).walker n (marked_by m (seek_step stream request).says))
                  (sought-place to (get_elem? (drain (recorded_of v)) to)) t.keeps);
              stamp = λ p e.
                  let same : some p ≡ some f.shown = sym e ∙ ap (get_elem? (drain (recorded_of v))) f.first-is ∙ f.shown-is in
                  let q : p ≡ f.shown = cc in
                  ap (λ (x : Shown). x.stamp) q ∙ f.stamp-is ∙ ap (stamp_of stream) is;
            }
        on (miss a b) = absurd (omega arith)

    -- ---- one call

    pub turn : (w : Walker) (k : ℕ) (m : Marks) (c : Call) → Invariant v w k m → Turn v m (call file table w c) (file_step v k c)
    unfolding call file_step machine_step
    turn w k m read i = read-turn w k m i
    turn w k m (seek stream request) i = go _ refl
      where
        go : (t : Bool) → leb stream 1 ≡ t
            → Turn v m (seeking w stream request) (cond t (seek_step stream request) (record { says = refuses; place = k }))
        go true s = land_turn w k m i stream request s (finds stream request start (recorded_of v) (leb-true stream 1 s))
        go false s = rw (seek_refused w stream request s) (record { agrees = refl; keeps = i })

    -- ---- a list of calls

    pub record Run (w : Walker) (k : ℕ) (m : Marks) (calls : List Call) : Type 0 where
      pub agree : AllAgree (file_says v k calls) (answers file table w calls)
      pub holds : Invariant v (after file table w calls) (file_after v k calls) (marks_after m (file_says v k calls))

    pub run : (w : Walker) (k : ℕ) (m : Marks) (calls : List Call) → Invariant v w k m → Run w k m calls
    unfolding file_says file_after marks_after answers after
    run w k m [] i = record { agree = tt; holds = i }
    run w k m (c ∷ calls) i =
        let t = turn w k m c i in
        let s = run (call file table w c).walker (file_step v k c).place (marked_by m (file_step v k c).says) calls t.keeps in
        record { agree = (t.agrees, s.agree); holds = s.holds }

    pub agreed : (calls : List Call) → AgreedAlong file v calls (after file table fresh calls) (answers file table fresh calls)
    agreed calls =
        let s = run fresh 0 unmarked calls (begins v) in
        record {
          agree = s.agree;
          leaves = leaves calls _ s.holds;
        }

-- ---- every file whose index is accepted

-- what an accepted index tells
pub record Indexed (file : List ℕ) (es : List ChunkIndexEntry) : Type 0 where
  pub fits : length file ≤ file_limit
  pub known : tags_known prelude_len (file_walk file) ≡ accepted tt
  pub are : records start (file_walk file) ≡ es

pub indexed : (file : List ℕ) {es : List ChunkIndexEntry} → index_of file ≡ accepted es → Indexed file es
unfolding index_of
indexed file e =
    let a = ask-passed (within_limit file) 10 0 _ e in
    let b = then-passed (tags_known prelude_len (file_walk file)) (λ _. accepted (records start (file_walk file))) a.1 in
    record { fits = leb-true (length file) file_limit a.0; known = b.0; are = accepted-same b.1 }

module _ (file : List ℕ) (bytes : Bytes file) (table : List ℕ) (own : OwnIndex file table) where
  pub own-reads : ReadWalk file start (file_walk file)
  own-reads = let i = indexed file own.indexed in read_walk file bytes i.fits i.known

  pub own-table : table ≡ table_bytes (records_of start (recorded_of (file_walk file)))
  own-table = own.is ∙ ap table_bytes (sym (indexed file own.indexed).are ∙ records_are own-reads)

  pub lists : (calls : List Call) → FileAgreement file table calls
  lists calls = agreed file (indexed file own.indexed).fits (file_walk file) own-reads table own-table calls

  -- the one-step lemma and what follows from the invariant, for what is built on them
  pub own_turn : (w : Walker) (k : ℕ) (m : Marks) (c : Call) → Invariant (file_walk file) w k m
      → Turn (file_walk file) m (call file table w c) (file_step (file_walk file) k c)
  own_turn = turn file (indexed file own.indexed).fits (file_walk file) own-reads table own-table

  pub own_range : (w : Walker) (k : ℕ) (m : Marks) → Invariant (file_walk file) w k m → InRange w.position
  own_range = in_walk file (indexed file own.indexed).fits (file_walk file) own-reads

  pub own-leaves : (calls : List Call) (w : Walker)
      → Invariant (file_walk file) w (file_after (file_walk file) 0 calls) (marks_after unmarked (file_says (file_walk file) 0 calls))
      → LeftAlong file (file_walk file) calls w
  own-leaves = leaves file (indexed file own.indexed).fits (file_walk file) own-reads

  -- a seek after a list of calls
  pub own_jump : (calls : List Call) (stream : ℕ) → stream ≤ 1 → (request : ℤ)
      → let rs = recorded_of (file_walk file) in
      first stream request (drain rs) < length rs
      → Jumped file (file_walk file) (first stream request (drain rs)) stream (seek_of table (after file table fresh calls) stream request)
  own_jump calls stream s request l =
      let i = indexed file own.indexed in
      let ran = run file i.fits (file_walk file) own-reads table own-table fresh 0 unmarked calls (begins (file_walk file)) in
      jump file i.fits (file_walk file) own-reads table own-table _ _ _ ran.holds stream request (le-leb stream 1 s) l
