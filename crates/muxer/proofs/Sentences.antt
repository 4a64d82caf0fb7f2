-- 01's sentences about the three writing calls hold: each call is an outcome of its questions, and what an accepted one leaves is a law of
-- its own. Assumes nothing.
use mathlib.Core.Path.{◌≡◌, refl, ap, ◌∙◌}
use mathlib.Core.Bool.{Bool, true, false, not, cond, ◌&&◌}
use mathlib.Core.List.{List, [], ◌∷◌, ◌++◌}
use Prim.Native.Nat.{ℕ, ◌+◌, ◌≤◌, ◌<◌, min}
use native.Mathlib.Omega.{arith}
use borrow.Author.Tests.{lt-ltb, le-ltb}
use lib.Dec.{leb, ltb, eqb}
use lib.ListN.{length, length-append, length-take}
use Rattle.chunk.specs.Chunk.{payload_limit, trailer_bytes}
use Rattle.duration.specs.Duration.{packed_of, unpacked_of, run_length}
use Rattle.duration.proofs.RunLengths.{run_small}
use Rattle.duration.proofs.Sentences.{run_length_sentences}
use Rattle.error.specs.Answer.{Answer, accepted, refused, ask}
use Rattle.error.specs.Sentences.{one_of, RefusedBy}
use Rattle.fields.specs.Le.{le, le_bytes, put}
use Rattle.fields.proofs.Laws.{le-put}
use Rattle.prelude.specs.Layout.{prelude_len}
use Rattle.muxer.specs.Sentences.{Lent, left, file_in, RefusedAt, PacketAdded, WriteSentences}
use Rattle.muxer.specs.Writer.{outcome, fits, has_prelude, frame_limit, packet_bytes, patch_run_length, ask_open, header_questions, packet_questions}
use Rattle.muxer.specs.Writer.{trailer_questions, header_call, packet_call, trailer_call}
use Rattle.muxer.specs.declared.Writer.{Writer}
use Rattle.muxer.proofs.Steps.{TrailerPassed}
use Rattle.muxer.proofs.Writes.{header_refused, packet-refused, trailer-refused, header-accepted, packet-accepted, trailer-accepted}

-- ---- questions with one place

-- of questions: each number is one of these, each place is this one
record Asks (numbers : List ℕ) (place : ℕ) (a : Answer Unit) : Type 0 where
  by : RefusedBy numbers a
  at : RefusedAt place a

none : (numbers : List ℕ) (place : ℕ) → Asks numbers place (accepted tt)
none numbers place = record { by = tt; at = tt }

asks : (numbers : List ℕ) (place : ℕ) (b : Bool) (number : ℕ) (rest : Answer Unit) → one_of numbers number ≡ true → Asks numbers place rest
    → Asks numbers place (ask b number place rest)
asks numbers place true number rest n r = r
asks numbers place false number rest n r = record { by = n; at = refl }

opens : (numbers : List ℕ) (w : Writer) (rest : Answer Unit) → one_of numbers 51 ≡ true → one_of numbers 55 ≡ true → one_of numbers 56 ≡ true
    → Asks numbers w.written rest → Asks numbers w.written (ask_open w rest)
opens numbers w rest a b c r =
    let p = w.written in
    let third : Answer Unit = ask (has_prelude w) 56 p rest in
    asks numbers p w.begun 51 (ask (not w.ended) 55 p third) a
    (asks numbers p (not w.ended) 55 third b (asks numbers p (has_prelude w) 56 rest c r))

header_asks : (w : Writer) (room : ℕ) → Asks (50 ∷ 55 ∷ 56 ∷ 54 ∷ []) w.written (header_questions w room)
unfolding header_questions
header_asks w room =
    let ns : List ℕ = 50 ∷ 55 ∷ 56 ∷ 54 ∷ [] in
    let p = w.written in
    let last : Answer Unit = ask (fits prelude_len room) 54 p (accepted tt) in
    let third : Answer Unit = ask (has_prelude w) 56 p last in
    asks ns p (not w.begun) 50 (ask (not w.ended) 55 p third) refl
    (asks ns p (not w.ended) 55 third refl
    (asks ns p (has_prelude w) 56 last refl (asks ns p (fits prelude_len room) 54 (accepted tt) refl (none ns p))))

packet_asks : (w : Writer) (size stream room : ℕ)
    → Asks (51 ∷ 55 ∷ 56 ∷ 52 ∷ 53 ∷ 54 ∷ []) w.written (packet_questions w size stream room)
unfolding packet_questions
packet_asks w size stream room =
    let ns : List ℕ = 51 ∷ 55 ∷ 56 ∷ 52 ∷ 53 ∷ 54 ∷ [] in
    let p = w.written in
    let f : Bool = fits (w.written + (8 + size)) room in
    let last : Answer Unit = ask f 54 p (accepted tt) in
    let second : Answer Unit = ask (leb stream 1) 53 p last in
    opens ns w (ask (leb size payload_limit) 52 p second) refl refl refl
    (asks ns p (leb size payload_limit) 52 second refl
    (asks ns p (leb stream 1) 53 last refl (asks ns p f 54 (accepted tt) refl (none ns p))))

trailer_asks : (w : Writer) (room : ℕ) → Asks (51 ∷ 55 ∷ 56 ∷ 54 ∷ []) w.written (trailer_questions w room)
unfolding trailer_questions
trailer_asks w room =
    let ns : List ℕ = 51 ∷ 55 ∷ 56 ∷ 54 ∷ [] in
    let f : Bool = fits (w.written + 8) room in
    opens ns w (ask f 54 w.written (accepted tt)) refl refl refl (asks ns w.written f 54 (accepted tt) refl (none ns w.written))

-- ---- an outcome answers as its questions do

outcome_asks : (numbers : List ℕ) (place : ℕ) (q : Answer Unit) (w : Writer) (buf : List ℕ) (next : Writer) (after : List ℕ)
    → Asks numbers place q → Asks numbers place (outcome q w buf next after).answer
outcome_asks numbers place (accepted u) w buf next after a = record { by = tt; at = tt }
outcome_asks numbers place (refused r) w buf next after a = a

header-said : (l : Lent) → Asks (50 ∷ 55 ∷ 56 ∷ 54 ∷ []) l.writer.written (header_call l.writer l.buffer).answer
unfolding header_call
header-said l = outcome_asks _ _ (header_questions l.writer (length l.buffer)) l.writer l.buffer _ _ (header_asks l.writer (length l.buffer))

packet-said : (payload : List ℕ) (stream : ℕ) (l : Lent)
    → Asks (51 ∷ 55 ∷ 56 ∷ 52 ∷ 53 ∷ 54 ∷ []) l.writer.written (packet_call l.writer payload stream l.buffer).answer
unfolding packet_call
packet-said payload stream l =
    outcome_asks _ _ (packet_questions l.writer (length payload) stream (length l.buffer)) l.writer l.buffer _ _
    (packet_asks l.writer (length payload) stream (length l.buffer))

trailer-said : (l : Lent) → Asks (51 ∷ 55 ∷ 56 ∷ 54 ∷ []) l.writer.written (trailer_call l.writer l.buffer).answer
unfolding trailer_call
trailer-said l =
    outcome_asks _ _ (trailer_questions l.writer (length l.buffer)) l.writer l.buffer _ _
    (trailer_asks l.writer (length l.buffer))

same_lent : {l m : Lent} → (m.writer ≡ l.writer) × (m.buffer ≡ l.buffer) → m ≡ l
same_lent e = λ i. record { writer = e.0 i; buffer = e.1 i }

-- ---- what an accepted packet leaves

at_cap : (b : Bool) (frames : ℕ) → frames ≡ frame_limit → cond b (min (frames + 1) frame_limit) frames ≡ frames
at_cap true frames h = omega arith
at_cap false frames h = refl

packet_adds : (payload : List ℕ) (stream : ℕ) (l : Lent) → (packet_call l.writer payload stream l.buffer).answer ≡ accepted tt
    → PacketAdded payload stream l (left (packet_call l.writer payload stream l.buffer))
unfolding packet_bytes
packet_adds payload stream l e =
    let t = packet-accepted l.writer payload stream l.buffer e in
    let w = t.writer in
    record {
      file = t.file;
      frame = λ s h. ap (λ (v : Writer). v.frames) w ∙ rw s (omega arith);
      full = λ h. ap (λ (v : Writer). v.frames) w ∙ at_cap (eqb stream 0) l.writer.frames h;
      sound = λ s. ap (λ (v : Writer). v.frames) w ∙ rw s refl;
      settings = ap (λ (v : Writer). v.settings) w;
      begun = ap (λ (v : Writer). v.begun) w ∙ t.passed.ready.begun;
      ended = ap (λ (v : Writer). v.ended) w ∙ t.passed.ready.going;
    }

-- ---- the run length

-- the file reaches past its field
long : (l : Lent) → TrailerPassed l.writer (length l.buffer) → 84 ≤ length (file_in l ++ trailer_bytes)
long l p =
    let h = p.ready.prelude in
    let i = p.inside in
    simp (length-append, length-take) (omega arith)

module _ (w : Writer) (xs : List ℕ) where
  patched : 0 < w.settings.fps → 0 < w.frames
      → patch_run_length w xs ≡ put xs 84 (le_bytes 4 (packed_of (run_length w.frames w.settings.fps)))
  unfolding patch_run_length
  patched f n = rw (lt-ltb 0 w.settings.fps f, lt-ltb 0 w.frames n)

  read_back : 84 ≤ length xs → 0 < w.settings.fps → 0 < w.frames
      → unpacked_of (le 4 (patch_run_length w xs) 84) ≡ run_length w.frames w.settings.fps
  read_back h f n =
      rw (patched f n, le-put 4 xs 84 _ h (run_small w.frames w.settings.fps))
      (run_length_sentences.packed_back w.frames w.settings.fps)

  at-fps_0 : w.settings.fps ≡ 0 → patch_run_length w xs ≡ xs
  unfolding patch_run_length
  at-fps_0 f = rw (le-ltb 0 w.settings.fps (omega arith))

  at-no-frames : w.frames ≡ 0 → patch_run_length w xs ≡ xs
  unfolding patch_run_length
  at-no-frames n = go (ltb 0 w.settings.fps) (ltb 0 w.frames) (le-ltb 0 w.frames (omega arith))
    where
      ys : List ℕ
      ys = put xs 84 (le_bytes 4 (packed_of (run_length w.frames w.settings.fps)))

      go : (a b : Bool) → b ≡ false → cond (a && b) ys xs ≡ xs
      go true b e = rw e
      go false b e = refl

pub write_sentences : WriteSentences
write_sentences =
    record {
      starts = λ s. refl;
      header =
          record {
            gives_back = λ l r e. same_lent (header_refused l.writer l.buffer e);
            numbered = λ l. (header-said l).by;
            placed = λ l. (header-said l).at;
          };
      packet =
          λ payload stream.
          record {
            gives_back = λ l r e. same_lent (packet-refused l.writer payload stream l.buffer e);
            numbered = λ l. (packet-said payload stream l).by;
            placed = λ l. (packet-said payload stream l).at;
          };
      trailer =
          record {
            gives_back = λ l r e. same_lent (trailer-refused l.writer l.buffer e);
            numbered = λ l. (trailer-said l).by;
            placed = λ l. (trailer-said l).at;
          };
      header_added =
          λ l e.
          let t = header-accepted l.writer l.buffer e in
          let w = t.writer in
          record {
            file = t.file;
            begun = ap (λ (v : Writer). v.begun) w;
            written = ap (λ (v : Writer). v.written) w;
            frames = ap (λ (v : Writer). v.frames) w;
            settings = ap (λ (v : Writer). v.settings) w;
          };
      packet_added = packet_adds;
      trailer_added =
          λ l e.
          let t = trailer-accepted l.writer l.buffer e in
          let w = t.writer in
          record {
            file = λ f n. t.file ∙ patched l.writer _ f n;
            run_length_lem = λ f n. rw t.file (read_back l.writer _ (long l t.passed) f n);
            no_fps = λ f. t.file ∙ at-fps_0 l.writer _ f;
            no_frames = λ n. t.file ∙ at-no-frames l.writer _ n;
            ended = ap (λ (v : Writer). v.ended) w;
            written = ap (λ (v : Writer). v.written) w;
            frames = ap (λ (v : Writer). v.frames) w;
            settings = ap (λ (v : Writer). v.settings) w;
          };
    }
