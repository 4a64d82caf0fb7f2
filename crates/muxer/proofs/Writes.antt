-- What the three calls do to the file, the first bytes-written bytes of the buffer. Assumes nothing.
use mathlib.Core.Path.{◌≡◌, refl, ap, ◌∙◌}
use mathlib.Core.Bool.{Bool, true, false, cond, ◌&&◌}
use mathlib.Core.List.{List, ◌++◌}
use Prim.Native.Nat.{ℕ, ◌+◌, ◌≤◌}
use native.Mathlib.Omega.{arith}
use lib.Dec.{ltb}
use lib.ListN.{length, take, length-append}
use Rattle.chunk.specs.Chunk.{stream_tag, trailer_bytes}
use Rattle.duration.specs.Duration.{packed_of, run_length}
use Rattle.error.specs.Answer.{Answer, accepted, refused}
use Rattle.error.specs.declared.Refusal.{Refusal}
use Rattle.fields.specs.Le.{le_bytes, put}
use Rattle.fields.proofs.Laws.{length-put, take_put, take-put-inside, length-le_bytes}
use Rattle.fields.proofs.Impossible.{impossible}
use Rattle.prelude.specs.Built.{prelude_bytes}
use Rattle.prelude.specs.Layout.{prelude_len}
use Rattle.prelude.proofs.BuiltLaws.{length-prelude}
use Rattle.muxer.specs.Writer.{outcome, packet_bytes, patch_run_length, header_questions, packet_questions, trailer_questions, after_header}
use Rattle.muxer.specs.Writer.{after_packet, after_trailer, header_call, packet_call, trailer_call}
use Rattle.muxer.specs.declared.Settings.{Settings}
use Rattle.muxer.specs.declared.Writer.{Writer}
use Rattle.muxer.proofs.Steps.{Open, PacketPassed, TrailerPassed, header-passed, packet-passed, trailer-passed}

-- the file so far
abbrev pub file_of : Writer → List ℕ → List ℕ
file_of w buf = take w.written buf

-- the prelude of a new file
abbrev pub prelude_for : Settings → List ℕ
prelude_for s = prelude_bytes s.width s.height s.fps 0 s.rate s.channels

-- ---- an outcome by its answer

-- a refusal keeps the state and the buffer
pub outcome-refused : (q : Answer Unit) (w : Writer) (buf : List ℕ) (next : Writer) (after : List ℕ) {r : Refusal}
    → (outcome q w buf next after).answer ≡ refused r
    → ((outcome q w buf next after).writer ≡ w) × ((outcome q w buf next after).buffer ≡ buf)
outcome-refused (accepted u) w buf next after e = impossible cc
outcome-refused (refused r) w buf next after e = (refl, refl)

pub outcome-accepted : (q : Answer Unit) (w : Writer) (buf : List ℕ) (next : Writer) (after : List ℕ)
    → (outcome q w buf next after).answer ≡ accepted tt
    → (q ≡ accepted tt) × ((outcome q w buf next after).writer ≡ next) × ((outcome q w buf next after).buffer ≡ after)
outcome-accepted (accepted u) w buf next after e = (refl, refl, refl)
outcome-accepted (refused r) w buf next after e = impossible cc

outcome-length : (q : Answer Unit) (w : Writer) (buf : List ℕ) (next : Writer) (after : List ℕ)
    → (q ≡ accepted tt → length after ≡ length buf) → length (outcome q w buf next after).buffer ≡ length buf
outcome-length (accepted u) w buf next after h = h refl
outcome-length (refused r) w buf next after h = refl

take-cond : (b : Bool) (n : ℕ) (xs ys : List ℕ) → take n (cond b xs ys) ≡ cond b (take n xs) (take n ys)
take-cond true n xs ys = refl
take-cond false n xs ys = refl

pub length-packet : (stream : ℕ) (payload : List ℕ) → length (packet_bytes stream payload) ≡ 8 + length payload
unfolding packet_bytes
length-packet stream payload =
    let a : length (le_bytes 4 (stream_tag stream)) ≡ 4 = length-le_bytes 4 (stream_tag stream) in
    let b : length (le_bytes 4 (length payload)) ≡ 4 = length-le_bytes 4 (length payload) in
    simp length-append (omega arith)

length_patch : (w : Writer) (xs : List ℕ) → 88 ≤ length xs → length (patch_run_length w xs) ≡ length xs
unfolding patch_run_length
length_patch w xs h = go (ltb 0 w.settings.fps && ltb 0 w.frames)
  where
    v : List ℕ
    v = le_bytes 4 (packed_of (run_length w.frames w.settings.fps))

    go : (b : Bool) → length (cond b (put xs 84 v) xs) ≡ length xs
    go true = let l : length v ≡ 4 = length-le_bytes 4 (packed_of (run_length w.frames w.settings.fps)) in length-put xs 84 v (omega arith)
    go false = refl

-- the patch is made within the file
take_patch : (w : Writer) (xs : List ℕ) (n : ℕ) → 88 ≤ n → n ≤ length xs → take n (patch_run_length w xs) ≡ patch_run_length w (take n xs)
unfolding patch_run_length
take_patch w xs n h l =
    let v = le_bytes 4 (packed_of (run_length w.frames w.settings.fps)) in
    let t = ltb 0 w.settings.fps && ltb 0 w.frames in
    let lv : length v ≡ 4 = length-le_bytes 4 (packed_of (run_length w.frames w.settings.fps)) in
    take-cond t n (put xs 84 v) xs ∙ ap (λ (ys : List ℕ). cond t ys (take n xs)) (take-put-inside xs 84 v n (omega arith) l)

-- ---- the header

module _ (w : Writer) (buf : List ℕ) where
  pub header_refused : {r : Refusal} → (header_call w buf).answer ≡ refused r → ((header_call w buf).writer ≡ w) × ((header_call w buf).buffer ≡ buf)
  unfolding header_call
  header_refused e = outcome-refused (header_questions w (length buf)) w buf _ _ e

  -- the file is the prelude, and takes packets
  pub record HeaderTaken : Type 0 where
    pub writer : (header_call w buf).writer ≡ after_header w
    pub ready : Open (after_header w)
    pub file : file_of (header_call w buf).writer (header_call w buf).buffer ≡ prelude_for w.settings

  pub header-accepted : (header_call w buf).answer ≡ accepted tt → HeaderTaken
  unfolding header_call
  header-accepted e =
      let s = w.settings in
      let o = outcome-accepted (header_questions w (length buf)) w buf _ _ e in
      let l : length (prelude_for s) ≡ prelude_len = length-prelude s.width s.height s.fps 0 s.rate s.channels in
      let p = header-passed w (length buf) o.0 in
      let h = p.inside in
      record {
        writer = o.1;
        ready = record { begun = refl; going = p.going; prelude = omega arith };
        file = rw (o.1, o.2) (take_put buf 0 (prelude_for s) prelude_len (omega arith) (omega arith));
      }

  pub header-length : length (header_call w buf).buffer ≡ length buf
  unfolding header_call
  header-length =
      let s = w.settings in
      let l : length (prelude_for s) ≡ prelude_len = length-prelude s.width s.height s.fps 0 s.rate s.channels in
      outcome-length (header_questions w (length buf)) w buf _ _
      (λ e. let h = (header-passed w (length buf) e).inside in length-put buf 0 (prelude_for s) (omega arith))

-- ---- a packet

module _ (w : Writer) (payload : List ℕ) (stream : ℕ) (buf : List ℕ) where
  pub packet-refused : {r : Refusal} → (packet_call w payload stream buf).answer ≡ refused r
      → ((packet_call w payload stream buf).writer ≡ w) × ((packet_call w payload stream buf).buffer ≡ buf)
  unfolding packet_call
  packet-refused e = outcome-refused (packet_questions w (length payload) stream (length buf)) w buf _ _ e

  -- the file grows by exactly the packet
  pub record PacketTaken : Type 0 where
    pub passed : PacketPassed w (length payload) stream (length buf)
    pub writer : (packet_call w payload stream buf).writer ≡ after_packet w (length payload) stream
    pub ready : Open (after_packet w (length payload) stream)
    pub file : file_of (packet_call w payload stream buf).writer (packet_call w payload stream buf).buffer ≡ file_of w buf ++ packet_bytes stream payload

  pub packet-accepted : (packet_call w payload stream buf).answer ≡ accepted tt → PacketTaken
  unfolding packet_call
  packet-accepted e =
      let o = outcome-accepted (packet_questions w (length payload) stream (length buf)) w buf _ _ e in
      let p = packet-passed w (length payload) stream (length buf) o.0 in
      let r = p.ready in
      let i = p.inside in
      let l = length-packet stream payload in
      record {
        passed = p;
        writer = o.1;
        ready = record { begun = r.begun; going = r.going; prelude = let h = r.prelude in omega arith };
        file = rw (o.1, o.2) (take_put buf w.written (packet_bytes stream payload) (w.written + (8 + length payload)) (omega arith) (omega arith));
      }

  pub packet-length : length (packet_call w payload stream buf).buffer ≡ length buf
  unfolding packet_call
  packet-length =
      let l = length-packet stream payload in
      outcome-length (packet_questions w (length payload) stream (length buf)) w buf _ _
      (λ e.
      let i = (packet-passed w (length payload) stream (length buf) e).inside in
      length-put buf w.written (packet_bytes stream payload) (omega arith))

-- ---- the trailer

module _ (w : Writer) (buf : List ℕ) where
  pub trailer-refused : {r : Refusal} → (trailer_call w buf).answer ≡ refused r → ((trailer_call w buf).writer ≡ w) × ((trailer_call w buf).buffer ≡ buf)
  unfolding trailer_call
  trailer-refused e = outcome-refused (trailer_questions w (length buf)) w buf _ _ e

  -- the file grows by exactly the trailer, and then has the run length
  pub record TrailerTaken : Type 0 where
    pub passed : TrailerPassed w (length buf)
    pub writer : (trailer_call w buf).writer ≡ after_trailer w
    pub file : file_of (trailer_call w buf).writer (trailer_call w buf).buffer ≡ patch_run_length w (file_of w buf ++ trailer_bytes)

  pub trailer-accepted : (trailer_call w buf).answer ≡ accepted tt → TrailerTaken
  unfolding trailer_call
  trailer-accepted e =
      let o = outcome-accepted (trailer_questions w (length buf)) w buf _ _ e in
      let p = trailer-passed w (length buf) o.0 in
      let h = p.ready.prelude in
      let i = p.inside in
      let l : length (put buf w.written trailer_bytes) ≡ length buf = length-put buf w.written trailer_bytes (omega arith) in
      record {
        passed = p;
        writer = o.1;
        file = rw (o.1, o.2)
            (take_patch w (put buf w.written trailer_bytes) (w.written + 8) (omega arith) (omega arith)
            ∙ ap (λ (xs : List ℕ). patch_run_length w xs) (take_put buf w.written trailer_bytes (w.written + 8) (omega arith) refl));
      }

  pub trailer-length : length (trailer_call w buf).buffer ≡ length buf
  unfolding trailer_call
  trailer-length =
      outcome-length (trailer_questions w (length buf)) w buf _ _
      (λ e.
      let p = trailer-passed w (length buf) e in
      let h = p.ready.prelude in
      let i = p.inside in
      let l : length (put buf w.written trailer_bytes) ≡ length buf = length-put buf w.written trailer_bytes (omega arith) in
      length_patch w (put buf w.written trailer_bytes) (omega arith) ∙ l)
