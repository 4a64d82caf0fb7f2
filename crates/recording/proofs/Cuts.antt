-- A finished recording, cut to n bytes: by the walk over them (walk/proofs/Cut), of which reads, index, summary and check are folds. Assumes nothing.
use mathlib.Core.Path.{◌≡◌, refl, sym, ap, ◌∙◌, subst, transport}
use Rattle.std.proofs.Common.{Some, None}
use mathlib.Core.Bool.{Bool, true, false}
use mathlib.Core.List.{List, ◌∷◌}
use Prim.Native.Nat.{ℕ, ◌+◌, ◌≤◌, ◌<◌, min}
use native.Mathlib.Decide.{dec_le}
use native.Mathlib.Nat.{zero-add, lt_of_not-le}
use native.Mathlib.Omega.{arith}
use borrow.Author.Tests.{le-leb, lt-leb, ne_eqb}
use lib.Dec.{leb}
use lib.ListN.{length, take, length-take}
use lib.Seq.{take-take, take-length}
use Rattle.error.specs.Answer.{Answer, accepted, refused, numbered, and_then}
use Rattle.error.proofs.Answers.{accepted-same}
use Rattle.fields.specs.File.{file_limit}
use Rattle.fields.specs.Le.{Bytes}
use Rattle.fields.proofs.Laws.{bytes_take}
use Rattle.prelude.specs.Layout.{prelude_len, layout, first_cut}
use Rattle.prelude.specs.Prelude.{parse_of, strict_of}
use Rattle.prelude.specs.declared.prelude.AmvPrelude.{AmvPrelude}
use Rattle.prelude.proofs.Cut.{parse-cut, strict-cut}
use Rattle.prelude.proofs.Local.{parse_local, strict_local}
use Rattle.prelude.proofs.Sentences.{prelude_sentences}
use Rattle.demuxer.specs.Head.{count_of}
use Rattle.demuxer.specs.Packet.{Shown}
use Rattle.demuxer.specs.Position.{start}
use Rattle.demuxer.specs.Read.{fresh}
use Rattle.demuxer.specs.declared.position.Position.{Position}
use Rattle.walk.specs.Chunks.{Chunk, chunk_of, chunks_bytes}
use Rattle.walk.specs.Walk.{ran_out, trailer, Walk, walk, file_walk}
use Rattle.walk.specs.declared.Kind.{Kind}
use Rattle.walk.specs.declared.Kind.TheVariants.{Frame, Sound}
use Rattle.walk.proofs.Walks.{by_cursor}
use Rattle.walk.proofs.Cut.{CutWalk, few, inside, whole, cut_walked}
use Rattle.chunk_index.specs.Entry.{entry}
use Rattle.chunk_index.specs.Index.{recorded, records, tags_known, index_of}
use Rattle.chunk_index.specs.Summary.{summary_of}
use Rattle.chunk_index.specs.declared.entry.ChunkIndexEntry.{ChunkIndexEntry}
use Rattle.finished.specs.Check.{check_from, all_paired, check_chunks, check_of}
use Rattle.recording.specs.Grammar.{Finished}
use Rattle.recording.specs.Drain.{drain, drain_from, frames, samples, blocks}
use Rattle.recording.specs.Indexed.{wholes_of, stop_of}
use Rattle.recording.specs.Summary.{packet_counts}
use Rattle.recording.specs.Cut.{whole_chunk, recorded_part, end_within, survivors, ReadsUntilEnd, offset_of, ended_at, Survives, CutRecordings}
use Rattle.recording.proofs.Positions.{passed, past-passed, shown_at, position_at, drain_at, drain-cons, length-drain, counted}
use Rattle.recording.proofs.Drains.{all_whole, at-trailer, standing, ended_by, ReadWalk, read_walk, reads-drain}
use Rattle.recording.proofs.Within.{length_more, whole_part, recorded_part_lem, none_within, kept-within, lost_within, first-within, kept-number, all_kept}
use Rattle.recording.proofs.Summaries.{walk_counts}
use Rattle.recording.proofs.Tables.{records_of, either, recorded-whole, past-whole, tags_known_lem, finished-walk, index-finished}
use Rattle.recording.proofs.Checks.{within, finished-strict}
use Rattle.recording.proofs.Writes.{unfinished}

-- ---- along the walk over the cut file

module _ (n : ℕ) where
  -- its whole chunks are the first ones
  wholes_first : {at : ℕ} {cs : List Chunk} {w : Walk} → CutWalk n at cs w → wholes_of w ≡ take (length (wholes_of w)) cs
  unfolding wholes_of
  wholes_first (few l) = refl
  wholes_first (inside {missing = missing} a b z) = rw (ne_eqb missing 0 (λ e. omega arith))
  wholes_first (whole {kind = kind} {payload = payload} l rest) = ap (λ (cs : List Chunk). chunk_of kind payload ∷ cs) (wholes_first rest)

  -- it runs out
  runs_out : {at : ℕ} {cs : List Chunk} {w : Walk} → CutWalk n at cs w → stop_of w ≡ ran_out
  unfolding stop_of
  runs_out (few l) = refl
  runs_out (inside a b z) = refl
  runs_out (whole l rest) = runs_out rest

  -- all its tags are known
  all_known : {at : ℕ} {cs : List Chunk} {w : Walk} → CutWalk n at cs w → (from : ℕ) → tags_known from w ≡ accepted tt
  unfolding tags_known
  all_known (few l) from = refl
  all_known (inside {kind = kind} {part = part} {missing = missing} a b z) from = either (recorded kind part missing) (accepted tt)
  all_known (whole {kind = kind} {payload = payload} l rest) from = rw (recorded-whole kind payload) (all_known rest _)

  -- the packets of its whole chunks are those whose chunk ends within the cut
  survive : {at : ℕ} {cs : List Chunk} {w : Walk} → CutWalk n at cs w → (p : Position)
      → end_within whole_chunk n at cs (drain_at p cs) ≡ drain_at p (wholes_of w)
  unfolding wholes_of drain_from
  survive {at} {cs} (few l) p = none_within whole_part n at cs (drain_at p cs) l
  survive {at} (inside {kind = kind} {payload = payload} {missing = missing} {cs = cs} a b z) p =
      rw (ne_eqb missing 0 (λ e. omega arith), drain-cons p kind payload cs) (lost_within whole_part n at (chunk_of kind payload) cs _ _ (omega arith))
  survive {at} (whole {kind = kind} {payload = payload} {cs = cs} {rest = rest} l later) p =
      rw (drain-cons p kind payload cs, drain-cons p kind payload (wholes_of rest))
      (kept-within whole_part n at (chunk_of kind payload) cs _ _ l ∙ ap (λ (ps : List Shown). shown_at p kind payload ∷ ps) (survive later (passed p kind payload)))

  -- and its records those of the chunks whose recorded part does
  recorded-cut : (kind : Kind) (part : List ℕ) (missing at : ℕ) (payload : List ℕ) → at + 8 + length part ≡ n → length part + missing ≡ length payload
      → recorded kind part missing ≡ leb (at + recorded_part (chunk_of kind payload)) n
  recorded-cut Frame part missing at payload a b = sym (le-leb (at + 8) n (omega arith))
  recorded-cut Sound part missing at payload a b =
      elim (dec_le (at + (8 + min 8 (length payload))) n) [
        | yes l ↦ le-leb (min 8 (length part + missing)) (length part) (omega arith) ∙ sym (le-leb (at + (8 + min 8 (length payload))) n l)
        | no l ↦
            let m = lt_of_not-le l in
            lt-leb (min 8 (length part + missing)) (length part) (omega arith) ∙ sym (lt-leb (at + (8 + min 8 (length payload))) n m)
      ]

  records-cut : {at : ℕ} {cs : List Chunk} {w : Walk} → CutWalk n at cs w → (p : Position)
      → records p w ≡ end_within recorded_part n at cs (records_of p cs)
  unfolding records records_of
  records-cut {at} {cs} (few l) p = sym (none_within recorded_part_lem n at cs (records_of p cs) l)
  records-cut {at} (inside {kind = kind} {payload = payload} {part = part} {missing = missing} {cs = cs} a b z) p =
      unfold end_within in
      rw (
        recorded-cut kind part missing at payload a b,
        none_within recorded_part_lem n (at + (8 + length payload)) cs (records_of (passed p kind payload) cs) (omega arith),
      )
  records-cut {at} (whole {kind = kind} {payload = payload} {cs = cs} l rest) p =
      let m = recorded_part_lem.most (chunk_of kind payload) in
      rw (recorded-whole kind payload, past-whole p kind payload)
      (ap (λ (es : List ChunkIndexEntry). entry kind p ∷ es) (records-cut rest (passed p kind payload))
      ∙ sym (kept-within recorded_part_lem n at (chunk_of kind payload) cs _ _ (omega arith)))

  -- the check is refused at the first one that does not
  check-cut : {at : ℕ} {cs : List Chunk} {w : Walk} → CutWalk n at cs w → (p : Position) (paired : Bool)
      → check_from p paired w ≡ refused (numbered 60 (p.cursor + length (chunks_bytes (wholes_of w))))
  unfolding check_from wholes_of chunks_bytes
  check-cut (few l) p paired = ap (λ (place : ℕ). refused (numbered 60 place)) (omega arith)
  check-cut (inside {missing = missing} a b z) p paired =
      rw (ne_eqb missing 0 (λ e. omega arith)) (ap (λ (place : ℕ). refused (numbered 60 place)) (omega arith))
  check-cut (whole {kind = kind} {payload = payload} {rest = rest} l later) p paired =
      let on = ap (λ (q : Position). q.cursor) (sym (past-passed p kind payload refl)) ∙ by_cursor p kind (length payload) (count_of payload) in
      let more = length_more (chunk_of kind payload) (wholes_of rest) in
      rw (past-whole p kind payload)
      (check-cut later (passed p kind payload) paired ∙ ap (λ (place : ℕ). refused (numbered 60 place)) (omega arith))

-- ---- the walker that is left

same-position : {p q : Position} → p.cursor ≡ q.cursor → p.frames.0 ≡ q.frames.0 → p.samples.0 ≡ q.samples.0 → p.blocks.0 ≡ q.blocks.0 → p ≡ q
same-position c f s b =
    λ i. record { cursor = c i; frames = record { 0 = f i }; samples = record { 0 = s i }; blocks = record { 0 = b i } }

-- past the first k chunks
ended-position : (cs done : List Chunk) (k : ℕ) → done ≡ take k cs
    → position_at start (length done) done ≡ (ended_at cs k true None).position
ended-position cs done k e =
    let n = counted start (length done) done in
    let d : take (length done) done ≡ take k cs = take-length done ∙ e in
    same-position
    (n.cursor_is ∙ ap (λ (l : List Chunk). prelude_len + length (chunks_bytes l)) d)
    (n.frames_is ∙ zero-add _ ∙ ap frames d)
    (n.samples_is ∙ zero-add _ ∙ ap samples d)
    (n.blocks_is ∙ zero-add _ ∙ ap blocks d)

-- ---- a finished recording

module _ (file : List ℕ) (cs : List Chunk) (fin : Finished file cs) where
  -- its prelude is accepted
  parsed : parse_of file ≡ accepted fin.passes.0
  parsed = prelude_sentences.strict_is_more file fin.passes.0 (finished-strict file cs fin)

  shorter : (n : ℕ) → n < prelude_len
      → (parse_of (take n file) ≡ refused (numbered 11 (first_cut n layout)))
      × (strict_of (take n file) ≡ refused (numbered 11 (first_cut n layout)))
      × (check_of (take n file) ≡ refused (numbered 11 (first_cut n layout)))
  unfolding check_of
  shorter n h =
      let s = strict-cut n file h parsed in
      (parse-cut n file h parsed, s, ap (λ (x : Answer AmvPrelude). and_then x (λ _. check_chunks (take n file))) s)

  module _ (n : ℕ) where
    fits : length (take n file) ≤ file_limit
    fits = let f = fin.fits in simp length-take (omega arith)

    opens : prelude_len ≤ n → (parse_of (take n file) ≡ parse_of file) × (strict_of (take n file) ≡ strict_of file)
    opens h =
        let a = within (take n file) fits in
        let b = within file fin.fits in
        let t = take-take prelude_len n file h in (
          sym (parse_local (take n file) a) ∙ ap parse_of t ∙ parse_local file b,
          sym (strict_local (take n file) a) ∙ ap strict_of t ∙ strict_local file b,
        )

    module _ (short : n < length file) where
      pub cut-walk : CutWalk n prelude_len cs (file_walk (take n file))
      cut-walk = subst (λ (at : ℕ). CutWalk n at cs (walk (take n file) at)) fin.whole (cut_walked n file short fin.prelude cs fin.lengths fin.is)

      -- the survivors are the packets of the whole chunks
      pub survivors_are : survivors n cs ≡ drain (wholes_of (file_walk (take n file)))
      survivors_are = survive n cut-walk start

      pub as_many : length (survivors n cs) ≡ length (wholes_of (file_walk (take n file)))
      as_many = ap length survivors_are ∙ length-drain start (wholes_of (file_walk (take n file)))

      first_chunks : wholes_of (file_walk (take n file)) ≡ take (length (survivors n cs)) cs
      first_chunks = wholes_first n cut-walk ∙ ap (λ (k : ℕ). take k cs) (sym as_many)

      checked : prelude_len ≤ n → check_of (take n file) ≡ refused (numbered 60 (offset_of cs (length (survivors n cs))))
      unfolding check_of
      checked h =
          ap (λ (x : Answer AmvPrelude). and_then x (λ _. check_chunks (take n file))) ((opens h).1 ∙ finished-strict file cs fin)
          ∙ check-cut n cut-walk start (all_paired (take n file))
          ∙ ap (λ (l : List Chunk). refused (numbered 60 (prelude_len + length (chunks_bytes l)))) first_chunks

      pub reads : Bytes file → ReadWalk (take n file) start (file_walk (take n file))
      reads bytes = read_walk (take n file) (bytes_take n file bytes) fits (all_known n cut-walk prelude_len)

      drained : Bytes file → ReadsUntilEnd (take n file) fresh (survivors n cs) (ended_at cs (length (survivors n cs)) true None)
      drained bytes =
          let r = reads-drain (reads bytes) false None in
          let p = ended-position cs (wholes_of (file_walk (take n file))) (length (survivors n cs)) first_chunks in
          transport (λ i. ReadsUntilEnd (take n file) fresh (sym survivors_are i) (ended_by (runs_out n cut-walk i) (standing (p i) false None))) r

      survives : Bytes file → Survives file cs n
      unfolding index_of summary_of
      survives bytes =
          let room = le-leb (length (take n file)) file_limit fits in
          let known = all_known n cut-walk prelude_len in
          record {
            drained = drained bytes;
            first_packets = first-within whole_part n prelude_len cs (drain cs);
            ends_within = kept-number n prelude_len cs (drain cs) (length-drain start cs);
            none_lost = λ l. all_kept n prelude_len cs (drain cs) (length-drain start cs) (rw (take-length cs) at l);
            indexed = λ es e.
                rw (room, known)
                (ap accepted
                (records-cut n cut-walk start
                ∙ ap (end_within recorded_part n prelude_len cs) (accepted-same (sym (index-finished file cs fin) ∙ e))));
            first_records = first-within recorded_part_lem n prelude_len cs;
            counted =
                rw (room, known)
                (ap accepted (walk_counts (reads bytes) ∙ ap packet_counts (sym survivors_are)));
          }

  -- all of it
  at-full-length : Bytes file
      → ReadsUntilEnd (take (length file) file) fresh (drain cs) (ended_at cs (length cs) false (Some (offset_of cs (length cs))))
  at-full-length bytes =
      let w = finished-walk file cs fin in
      let r = reads-drain (read_walk file bytes fin.fits (ap (tags_known prelude_len) w ∙ tags_known_lem prelude_len cs 0)) false None in
      let d : wholes_of (file_walk file) ≡ cs = ap wholes_of w ∙ all_whole cs 0 in
      let s : stop_of (file_walk file) ≡ trailer 0 = ap stop_of w ∙ at-trailer cs 0 in
      let p = ap (λ (l : List Chunk). position_at start (length l) l) d ∙ ended-position cs cs (length cs) (sym (take-length cs)) in
      rw (take-length file) (transport (λ i. ReadsUntilEnd file fresh (drain (d i)) (ended_by (s i) (standing (p i) false None))) r)

pub cut_recordings : CutRecordings
cut_recordings =
    record {
      shorter = shorter;
      opens = opens;
      survives = λ file cs bytes fin n h. survives file cs fin n h bytes;
      checked = λ file cs fin n l h. checked file cs fin n h l;
      whole = λ file cs bytes fin. at-full-length file cs fin bytes;
      unfinished = unfinished;
    }
