-- Every list of writing calls that completes a file leaves a finished one, which drains to the accepted packets. Assumes nothing.
use mathlib.Core.Path.{◌≡◌, refl, sym, ap, ◌∙◌}
use Rattle.error.specs.Refusal.{said}
use mathlib.Core.Logic.{◌⊎◌, inl, inr}
use mathlib.Core.Bool.{Bool, true, false, cond, ◌&&◌}
use mathlib.Core.List.Memᴰ
use mathlib.Core.List.{List, [], ◌∷◌, ◌++◌, append_assoc, append-nil, Memᴰ}
use Prim.Native.Nat.{ℕ, zero, suc, ◌+◌, ◌^◌, ◌≤◌, ◌<◌}
use native.Mathlib.Omega.{arith}
use borrow.Author.Tests.{ne_eqb}
use lib.Dec.{ltb}
use lib.ListN.{length, length-append, length-take}
use lib.Seq.{take-append-le, drop-append-le}
use Rattle.demuxer.specs.Head.{count_of}
use Rattle.fields.proofs.Impossible.{impossible}
use Rattle.prelude.specs.Layout.{prelude_len}
use Rattle.chunk.specs.Chunk.{trailer_bytes, payload_limit}
use Rattle.error.specs.Answer.{Answer, accepted, refused}
use Rattle.error.specs.declared.Refusal.{Refusal}
use Rattle.fields.specs.File.{file_limit}
use Rattle.fields.specs.Le.{le_bytes, put}
use Rattle.fields.proofs.Laws.{length-le_bytes}
use Rattle.duration.specs.Duration.{packed_of, run_length}
use Rattle.duration.proofs.RunLengths.{run_small}
use Rattle.prelude.specs.Built.{prelude_bytes}
use Rattle.prelude.specs.Prelude.{strict_of}
use Rattle.prelude.proofs.BuiltLaws.{length-prelude, patched, strict-built}
use Rattle.walk.specs.declared.Kind.{Kind}
use Rattle.walk.specs.declared.Kind.TheVariants.{Frame, Sound}
use Rattle.walk.specs.Chunks.{Chunk, chunk_of, chunk_bytes, chunks_bytes, Lengths}
use Rattle.muxer.specs.Writer.{fresh, WriteOutcome, packet_bytes, patch_run_length, header_questions, header_call, packet_call, trailer_call}
use Rattle.muxer.specs.declared.Settings.{Settings}
use Rattle.muxer.specs.declared.Writer.{Writer}
use Rattle.muxer.proofs.Steps.{Open, HeaderPassed, header-passed}
use Rattle.muxer.proofs.Writes.{file_of, prelude_for, outcome-accepted, header_refused, header-accepted}
use Rattle.muxer.proofs.Writes.{packet-refused, packet-accepted, trailer-refused, trailer-accepted}
use Rattle.recording.specs.Drain.{drain, drain_from}
use Rattle.recording.specs.Grammar.{Passes, Finished}
use Rattle.recording.specs.WriteLists.{WriteCall, header, packet, trailer, write_step, kept, accepted_calls, writer_after, buffer_after, written_file}
use Rattle.recording.specs.WriteLists.{Sent, sent_by, sent_in, Held, Completed, Drains, WritesDrain}
use Rattle.recording.specs.Indexed.{wholes_of}
use Rattle.recording.specs.Cut.{UnderWay}
use Rattle.recording.proofs.Tables.{finished-walk}
use Rattle.recording.proofs.Drains.{all_whole}

-- ---- chunks, one more

chunks_snoc : (cs : List Chunk) (c : Chunk) → chunks_bytes (cs ++ (c ∷ [])) ≡ chunks_bytes cs ++ chunk_bytes c
unfolding chunks_bytes
chunks_snoc [] c = append-nil (chunk_bytes c)
chunks_snoc (x ∷ cs) c = rw (chunks_snoc cs c) (sym (append_assoc (chunk_bytes x) (chunks_bytes cs) (chunk_bytes c)))

lengths_snoc : (cs : List Chunk) (kind : Kind) (payload : List ℕ) → Lengths cs → length payload ≤ payload_limit → Lengths (cs ++ (chunk_of kind payload ∷ []))
lengths_snoc [] kind payload l h = (h, tt)
lengths_snoc (chunk_of k p ∷ cs) kind payload l h = (l.0, lengths_snoc cs kind payload l.1 h)

-- a write within the first of two lists
put_front : (xs ys : List ℕ) (off : ℕ) (bytes : List ℕ) → off + length bytes ≤ length xs → put (xs ++ ys) off bytes ≡ put xs off bytes ++ ys
unfolding put
put_front xs ys off bytes h = rw (take-append-le off xs ys (omega arith), drop-append-le (off + length bytes) xs ys h) (simp append_assoc)

-- ---- a call's chunk, and what chunks send

abbrev kind_for : ℕ → Kind
kind_for zero = Frame
kind_for (suc n) = Sound

abbrev chunks_for : WriteCall → List Chunk
chunks_for header = []
chunks_for (packet payload stream) = chunk_of (kind_for stream) payload ∷ []
chunks_for trailer = []

abbrev stream_for : Kind → ℕ
stream_for Frame = 0
stream_for Sound = 1

abbrev sent_of : List Chunk → List Sent
sent_of [] = []
sent_of (chunk_of kind payload ∷ cs) = record { stream = stream_for kind; payload = payload } ∷ sent_of cs

packet-chunk : (stream : ℕ) (payload : List ℕ) → packet_bytes stream payload ≡ chunk_bytes (chunk_of (kind_for stream) payload)
unfolding packet_bytes chunk_bytes
packet-chunk zero payload = refl
packet-chunk (suc n) payload = rw (ne_eqb (suc n) 0 (λ e. omega arith))

packet-sent : (stream : ℕ) (payload : List ℕ) → stream ≤ 1 → sent_of (chunks_for (packet payload stream)) ≡ sent_by (packet payload stream ∷ [])
unfolding sent_by
packet-sent zero payload h = refl
packet-sent (suc zero) payload h = refl
packet-sent (suc (suc n)) payload h = absurd (omega arith)

sent-append : (cs ds : List Chunk) → sent_of (cs ++ ds) ≡ sent_of cs ++ sent_of ds
sent-append [] ds = refl
sent-append (chunk_of kind payload ∷ cs) ds = ap (λ (l : List Sent). record { stream = stream_for kind; payload = payload } ∷ l) (sent-append cs ds)

sent-cons : (c : WriteCall) (calls : List WriteCall) → sent_by (c ∷ calls) ≡ sent_by (c ∷ []) ++ sent_by calls
unfolding sent_by
sent-cons header calls = refl
sent-cons (packet payload stream) calls = refl
sent-cons trailer calls = refl

sent-drained : (frames samples : ℕ) (cs : List Chunk) → sent_in (drain_from frames samples cs) ≡ sent_of cs
unfolding sent_in drain_from
sent-drained frames samples [] = refl
sent-drained frames samples (chunk_of Frame payload ∷ cs) =
    ap (λ (l : List Sent). record { stream = 0; payload = payload } ∷ l) (sent-drained (frames + 1) samples cs)
sent-drained frames samples (chunk_of Sound payload ∷ cs) =
    ap (λ (l : List Sent). record { stream = 1; payload = payload } ∷ l) (sent-drained frames (samples + count_of payload) cs)

-- ---- the file by the writer's state

-- a header that was accepted came first
header-fresh : (w : Writer) (buf : List ℕ) → (header_call w buf).answer ≡ accepted tt → HeaderPassed w (length buf)
unfolding header_call
header-fresh w buf e = header-passed w (length buf) (outcome-accepted (header_questions w (length buf)) w buf _ _ e).0

false_true : {A : Type 0} {b : Bool} → b ≡ true → b ≡ false → A
false_true p q = impossible cc

module _ (s : Settings) (held : Held s) (fps_positive : 0 < s.fps) (one_channel : s.channels ≡ 1) where
  abbrev prelude_with : ℕ → List ℕ
  prelude_with duration = prelude_bytes s.width s.height s.fps duration s.rate s.channels

  passes_with : (duration : ℕ) → duration < 256 ^ 4 → Passes (prelude_with duration)
  passes_with duration h = (
    _,
    ap (λ (n : ℕ). strict_of (prelude_bytes s.width s.height s.fps duration s.rate n)) one_channel
        ∙ strict-built
        (record {
          width_held = omega (arith, held.width_held);
          height_held = omega (arith, held.height_held);
          fps_held = omega (arith, held.fps_held);
          duration_held = h;
          rate_held = omega (arith, held.rate_held);
          channels_held = omega arith;
        })
        fps_positive,
  )

  -- the patched file is one with another duration
  patch_front : (w : Writer) (rest : List ℕ) → (d : ℕ) × (d < 256 ^ 4) × (patch_run_length w (prelude_with 0 ++ rest) ≡ prelude_with d ++ rest)
  unfolding patch_run_length
  patch_front w rest = go (ltb 0 w.settings.fps && ltb 0 w.frames)
    where
      n : ℕ
      n = packed_of (run_length w.frames w.settings.fps)

      go : (b : Bool) → (d : ℕ) × (d < 256 ^ 4) × (cond b (put (prelude_with 0 ++ rest) 84 (le_bytes 4 n)) (prelude_with 0 ++ rest) ≡ prelude_with d ++ rest)
      go true =
          let l : length (le_bytes 4 n) ≡ 4 = length-le_bytes 4 n in
          let k : length (prelude_with 0) ≡ prelude_len = length-prelude s.width s.height s.fps 0 s.rate s.channels in (
            n,
            run_small w.frames w.settings.fps,
            put_front (prelude_with 0) rest 84 (le_bytes 4 n) (omega arith)
                ∙ ap (λ (xs : List ℕ). xs ++ rest) (patched s.width s.height s.fps 0 s.rate s.channels n),
          )
      go false = (0, omega arith, refl)

  -- not begun, and no chunk
  record Idle (w : Writer) (cs : List Chunk) : Type 0 where
    begun : w.begun ≡ false
    going : w.ended ≡ false
    same : w.settings ≡ s
    none : cs ≡ []

  -- begun: the prelude and the chunks so far
  record Going (w : Writer) (buf : List ℕ) (cs : List Chunk) : Type 0 where
    ready : Open w
    file : file_of w buf ≡ prelude_with 0 ++ chunks_bytes cs
    lengths : Lengths cs

  record Ended (w : Writer) (buf : List ℕ) (cs : List Chunk) : Type 0 where
    begun : w.begun ≡ true
    ended : w.ended ≡ true
    finished : Finished (file_of w buf) cs

  data State (w : Writer) (buf : List ℕ) (cs : List Chunk) : Type 0 where
    idle : Idle w cs → State w buf cs
    under_way : Going w buf cs → State w buf cs
    over : Ended w buf cs → State w buf cs

  is-idle : (w : Writer) (buf : List ℕ) (cs : List Chunk) → State w buf cs → w.begun ≡ false → Idle w cs
  is-idle w buf cs (idle i) e = i
  is-idle w buf cs (under_way i) e = false_true i.ready.begun e
  is-idle w buf cs (over i) e = false_true i.begun e

  is-going : (w : Writer) (buf : List ℕ) (cs : List Chunk) → State w buf cs → Open w → Going w buf cs
  is-going w buf cs (idle i) o = false_true o.begun i.begun
  is-going w buf cs (under_way i) o = i
  is-going w buf cs (over i) o = false_true i.ended o.going

  is-over : (w : Writer) (buf : List ℕ) (cs : List Chunk) → State w buf cs → w.ended ≡ true → Finished (file_of w buf) cs
  is-over w buf cs (idle i) e = false_true e i.going
  is-over w buf cs (under_way i) e = false_true e i.ready.going
  is-over w buf cs (over i) e = i.finished

  -- ---- one call

  -- accepted
  record Moves (w : Writer) (cs : List Chunk) (c : WriteCall) (o : WriteOutcome) : Type 0 where
    passed : o.answer ≡ accepted tt
    state : State o.writer o.buffer (cs ++ chunks_for c)
    sends : sent_of (chunks_for c) ≡ sent_by (c ∷ [])
    was_going : w.ended ≡ false
    begun : o.writer.begun ≡ true
    ended : c ≡ trailer → o.writer.ended ≡ true

  data Turn (w : Writer) (buf : List ℕ) (cs : List Chunk) (c : WriteCall) (o : WriteOutcome) : Type 0 where
    stays : (r : Refusal) → o ≡ record { answer = refused r; writer = w; buffer = buf } → Turn w buf cs c o
    moves : Moves w cs c o → Turn w buf cs c o

  refuses : (w : Writer) (buf : List ℕ) (cs : List Chunk) (c : WriteCall) (o : WriteOutcome) (r : Refusal) → o.answer ≡ refused r
      → (o.writer ≡ w) × (o.buffer ≡ buf) → Turn w buf cs c o
  refuses w buf cs c o r e k = stays r (λ i. record { answer = e i; writer = k.0 i; buffer = k.1 i })

  header-turn : (w : Writer) (buf : List ℕ) (cs : List Chunk) → State w buf cs → Turn w buf cs header (header_call w buf)
  header-turn w buf cs i = go _ refl
    where
      go : (a : Answer Unit) → (header_call w buf).answer ≡ a → Turn w buf cs header (header_call w buf)
      go (refused r) e = refuses w buf cs header (header_call w buf) r e (header_refused w buf e)
      go (accepted u) e =
          let p = header-fresh w buf e in
          let t = header-accepted w buf e in
          let k = is-idle w buf cs i p.fresh in
          let r : Open (header_call w buf).writer = rw t.writer t.ready in
          moves (record {
            passed = e;
            state =
                under_way (record {
                  ready = r;
                  file = t.file ∙ ap prelude_for k.same ∙ rw (append-nil, k.none) (unfold chunks_bytes in (sym (append-nil (prelude_with 0))));
                  lengths = rw (append-nil, k.none) tt;
                });
            sends = unfold sent_by in refl;
            was_going = p.going;
            begun = r.begun;
            ended = λ q. impossible cc;
          })

  packet-turn : (w : Writer) (buf : List ℕ) (cs : List Chunk) (payload : List ℕ) (stream : ℕ) → State w buf cs
      → Turn w buf cs (packet payload stream) (packet_call w payload stream buf)
  packet-turn w buf cs payload stream i = go _ refl
    where
      go : (a : Answer Unit) → (packet_call w payload stream buf).answer ≡ a → Turn w buf cs (packet payload stream) (packet_call w payload stream buf)
      go (refused r) e = refuses w buf cs (packet payload stream) (packet_call w payload stream buf) r e (packet-refused w payload stream buf e)
      go (accepted u) e =
          let t = packet-accepted w payload stream buf e in
          let c : Chunk = chunk_of (kind_for stream) payload in
          let k = is-going w buf cs i t.passed.ready in
          let r : Open (packet_call w payload stream buf).writer = rw t.writer t.ready in
          moves (record {
            passed = e;
            state =
                under_way (record {
                  ready = r;
                  file = t.file
                      ∙ ap (λ (xs : List ℕ). xs ++ packet_bytes stream payload) k.file
                      ∙ ap (λ (xs : List ℕ). (prelude_with 0 ++ chunks_bytes cs) ++ xs) (packet-chunk stream payload)
                      ∙ append_assoc (prelude_with 0) (chunks_bytes cs) (chunk_bytes c)
                      ∙ ap (λ (xs : List ℕ). prelude_with 0 ++ xs) (sym (chunks_snoc cs c));
                  lengths = lengths_snoc cs (kind_for stream) payload k.lengths t.passed.short;
                });
            sends = packet-sent stream payload t.passed.known;
            was_going = t.passed.ready.going;
            begun = r.begun;
            ended = λ q. impossible cc;
          })

  -- a file of the prelude, the chunks and the trailer, patched
  closed : (w : Writer) (buf file : List ℕ) (cs : List Chunk) → Going w buf cs → file ≡ patch_run_length w (file_of w buf ++ trailer_bytes)
      → length file ≤ file_limit → Finished file cs
  closed w buf file cs k e l =
      let p = patch_front w (chunks_bytes cs ++ trailer_bytes) in
      record {
        prelude = prelude_with p.0;
        passes = passes_with p.0 p.1;
        whole = length-prelude s.width s.height s.fps p.0 s.rate s.channels;
        is = e
            ∙ ap (λ (xs : List ℕ). patch_run_length w (xs ++ trailer_bytes)) k.file
            ∙ ap (λ (xs : List ℕ). patch_run_length w xs) (append_assoc (prelude_with 0) (chunks_bytes cs) trailer_bytes)
            ∙ p.2;
        fits = l;
        lengths = k.lengths;
      }

  trailer-turn : (w : Writer) (buf : List ℕ) (cs : List Chunk) → State w buf cs → Turn w buf cs trailer (trailer_call w buf)
  trailer-turn w buf cs i = go _ refl
    where
      go : (a : Answer Unit) → (trailer_call w buf).answer ≡ a → Turn w buf cs trailer (trailer_call w buf)
      go (refused r) e = refuses w buf cs trailer (trailer_call w buf) r e (trailer-refused w buf e)
      go (accepted u) e =
          let t = trailer-accepted w buf e in
          let r = t.passed.ready in
          let k = is-going w buf cs i r in
          let n : (trailer_call w buf).writer.written ≡ w.written + 8 = ap (λ (x : Writer). x.written) t.writer in
          let m = t.passed.limit in
          let l : length (file_of (trailer_call w buf).writer (trailer_call w buf).buffer) ≤ file_limit =
          omega (arith, length-take (trailer_call w buf).writer.written (trailer_call w buf).buffer) in
          let b : (trailer_call w buf).writer.begun ≡ true = ap (λ (x : Writer). x.begun) t.writer ∙ r.begun in
          let d : (trailer_call w buf).writer.ended ≡ true = ap (λ (x : Writer). x.ended) t.writer in
          moves (record {
            passed = e;
            state = over (record { begun = b; ended = d; finished = rw append-nil (closed w buf _ cs k t.file l) });
            sends = unfold sent_by in refl;
            was_going = r.going;
            begun = b;
            ended = λ q. d;
          })

  turn : (w : Writer) (buf : List ℕ) (cs : List Chunk) (c : WriteCall) → State w buf cs → Turn w buf cs c (write_step w buf c)
  unfolding write_step
  turn w buf cs header i = header-turn w buf cs i
  turn w buf cs (packet payload stream) i = packet-turn w buf cs payload stream i
  turn w buf cs trailer i = trailer-turn w buf cs i

  -- ---- a list of calls

  -- from a writer with chunks to the last one: more chunks, which send what the accepted calls do, and the marks
  record Left (w : Writer) (cs : List Chunk) (last : Writer) (buf : List ℕ) (said : List WriteCall) : Type 0 where
    chunks : List Chunk
    state : State last buf (cs ++ chunks)
    sends : sent_of chunks ≡ sent_by said
    begins : Memᴰ header said ⊎ (w.begun ≡ true) → last.begun ≡ true
    ends : Memᴰ trailer said ⊎ (w.ended ≡ true) → last.ended ≡ true

  left_on : (w : Writer) (cs : List Chunk) (c : WriteCall) (o : WriteOutcome) (last : Writer) (buf : List ℕ) (said : List WriteCall) → Moves w cs c o
      → Left o.writer (cs ++ chunks_for c) last buf said → Left w cs last buf (c ∷ said)
  left_on w cs c o last buf said m l =
      record {
        chunks = chunks_for c ++ l.chunks;
        state = rw (← append_assoc cs (chunks_for c) l.chunks) l.state;
        sends = sent-append (chunks_for c) l.chunks
            ∙ ap (λ (x : List Sent). x ++ sent_of l.chunks) m.sends
            ∙ ap (λ (x : List Sent). sent_by (c ∷ []) ++ x) l.sends
            ∙ sym (sent-cons c said);
        begins = λ _. l.begins (inr m.begun);
        ends = ended;
      }
    where
      ended : Memᴰ trailer (c ∷ said) ⊎ (w.ended ≡ true) → last.ended ≡ true
      ended (inl k) = elim (Memᴰ.cases_cons k) [ inl x ↦ l.ends (inr (m.ended (sym x))) | inr x ↦ l.ends (inl x) ]
      ended (inr e) = false_true e m.was_going

  one_on : (w : Writer) (buf : List ℕ) (cs : List Chunk) (c : WriteCall) (calls : List WriteCall) (o : WriteOutcome) → State w buf cs → Turn w buf cs c o
      → ((v : Writer) (b : List ℕ) (ds : List Chunk) → State v b ds
      → Left v ds (writer_after v b calls) (buffer_after v b calls) (accepted_calls v b calls))
      → Left w cs (writer_after o.writer o.buffer calls) (buffer_after o.writer o.buffer calls)
      (kept o.answer c (accepted_calls o.writer o.buffer calls))
  one_on w buf cs c calls o i (stays r e) ih = rw e (ih w buf cs i)
  one_on w buf cs c calls o i (moves m) ih =
      rw m.passed
      (left_on w cs c o (writer_after o.writer o.buffer calls) (buffer_after o.writer o.buffer calls)
      (accepted_calls o.writer o.buffer calls) m (ih o.writer o.buffer (cs ++ chunks_for c) m.state))

  run : (w : Writer) (buf : List ℕ) (cs : List Chunk) (calls : List WriteCall) → State w buf cs
      → Left w cs (writer_after w buf calls) (buffer_after w buf calls) (accepted_calls w buf calls)
  unfolding writer_after buffer_after accepted_calls
  run w buf cs [] i =
      record {
        chunks = [];
        state = rw append-nil i;
        sends = unfold sent_by in refl;
        begins = none;
        ends = none;
      }
    where
      none : {c : WriteCall} {b : Bool} → Memᴰ c [] ⊎ (b ≡ true) → b ≡ true
      none (inl k) = absurd (Memᴰ.not-nil k)
      none (inr e) = e
  run w buf cs (c ∷ calls) i = one_on w buf cs c calls (write_step w buf c) i (turn w buf cs c i) (λ v b ds j. run v b ds calls j)

  -- from a fresh writer
  from-fresh : (buf : List ℕ) (calls : List WriteCall)
      → Left (fresh s) [] (writer_after (fresh s) buf calls) (buffer_after (fresh s) buf calls) (accepted_calls (fresh s) buf calls)
  from-fresh buf calls = run (fresh s) buf [] calls (idle (record { begun = refl; going = refl; same = refl; none = refl }))

-- ---- demand 3 for the writer

written : (s : Settings) (buf : List ℕ) (calls : List WriteCall) → Completed s buf calls
    → Drains (written_file (fresh s) buf calls) (accepted_calls (fresh s) buf calls)
written s buf calls c =
    let k = c.closed in
    let l = from-fresh s c.held k.fps_positive k.one_channel buf calls in
    let over = l.ends (inl k.ended) in
    record {
      chunks = l.chunks;
      finished = is-over s c.held k.fps_positive k.one_channel _ _ _ l.state over;
      drains = sent-drained 0 0 l.chunks ∙ l.sends;
    }

-- ---- a recording under way

-- with a trailer behind it
module _ (s : Settings) (buf : List ℕ) (calls : List WriteCall) (u : UnderWay s buf calls) where
  not_idle : (cs : List Chunk) → State s u.held u.fps_positive u.one_channel (writer_after (fresh s) buf calls) (buffer_after (fresh s) buf calls) cs
      → (writer_after (fresh s) buf calls).begun ≡ true
      → Going s u.held u.fps_positive u.one_channel (writer_after (fresh s) buf calls) (buffer_after (fresh s) buf calls) cs
  not_idle cs (idle i) e = false_true e i.begun
  not_idle cs (under_way i) e = i
  not_idle cs (over i) e = false_true i.ended u.going

  pub unfinished : Drains (written_file (fresh s) buf calls ++ trailer_bytes) (accepted_calls (fresh s) buf calls)
  unfinished =
      let l = from-fresh s u.held u.fps_positive u.one_channel buf calls in
      let g = not_idle l.chunks l.state (l.begins (inl u.begun)) in
      let file : List ℕ = written_file (fresh s) buf calls in
      let prelude : List ℕ = prelude_bytes s.width s.height s.fps 0 s.rate s.channels in
      let n = length-append file trailer_bytes in
      let m = length-take (writer_after (fresh s) buf calls).written (buffer_after (fresh s) buf calls) in
      record {
        chunks = l.chunks;
        finished =
            record {
              prelude = prelude;
              passes = passes_with s u.held u.fps_positive u.one_channel 0 (omega arith);
              whole = length-prelude s.width s.height s.fps 0 s.rate s.channels;
              is = ap (λ (xs : List ℕ). xs ++ trailer_bytes) g.file ∙ append_assoc prelude (chunks_bytes l.chunks) trailer_bytes;
              fits = let r = u.room in omega arith;
              lengths = g.lengths;
            };
        drains = sent-drained 0 0 l.chunks ∙ l.sends;
      }

-- a finished file is that of one list of chunks
pub one_list : (file : List ℕ) (cs ds : List Chunk) → Finished file cs → Finished file ds → cs ≡ ds
one_list file cs ds f g =
    sym (all_whole cs 0) ∙ ap wholes_of (sym (finished-walk file cs f) ∙ finished-walk file ds g) ∙ all_whole ds 0

pub writes : WritesDrain
writes s buf calls held =
    record {
      finish = λ k. written s buf calls (record { held = held; closed = k });
      apart = λ k t other more d e.
          let f = written s buf calls (record { held = held; closed = k }) in
          let g = written t other more d in
          sym f.drains ∙ ap (λ (cs : List Chunk). sent_in (drain cs)) (one_list _ f.chunks g.chunks f.finished (rw e g.finished)) ∙ g.drains;
    }
