-- What the writer's functions cite: room, the questions asked first, and bytes put one after another. Assumes nothing.
use mathlib.Core.Path.{◌≡◌, refl, sym, ap, ◌∙◌}
use mathlib.Core.Bool.{Bool, true, false, not}
use mathlib.Core.List.{List, ◌++◌, append_assoc}
use Prim.Native.Nat.{ℕ, ◌+◌, ◌≤◌}
use native.Mathlib.Omega.{arith}
use borrow.Author.Tests.{leb-true, not-true}
use lib.Dec.{leb}
use lib.ListN.{length, length-append}
use Rattle.chunk.specs.Chunk.{stream_tag, payload_limit}
use Rattle.std.specs.Prelude.{Result, Ok, Err, IsErr, IsErrAnd}
use Rattle.std.proofs.lemmas.Result.{err_from_is_err_and}
use Rattle.error.specs.Answer.{Answer, accepted, refused, ask, and_then}
use Rattle.error.specs.Refusal.{refusal_of, said}
use Rattle.error.specs.declared.AmvError.{AmvError}
use Rattle.error.specs.declared.Refusal.{Refusal}
use Rattle.error.proofs.Answers.{never, accepted-same, passed_on, then-passed, ask-passed, both}
use Rattle.fields.specs.File.{file_limit}
use Rattle.fields.specs.Le.{le_bytes, put}
use Rattle.fields.proofs.Laws.{put-put, length-le_bytes}
use Rattle.prelude.specs.Layout.{prelude_len}
use Rattle.muxer.specs.Writer.{outcome, MeetsOutcome, fits, has_prelude, packet_bytes, ask_open, packet_questions, trailer_questions, header_questions}
use Rattle.muxer.specs.Steps.{told}
use Rattle.muxer.specs.declared.Writer.{Writer}

-- ---- room

pub fits-ends : (end room : ℕ) → fits end room ≡ true → (end ≤ room) × (end ≤ file_limit)
fits-ends end room h =
    let p = both (leb end room) (leb end file_limit) h in
    (leb-true end room p.0, leb-true end file_limit p.1)

-- ---- the questions that a packet and the trailer ask first

abbrev yes : Answer Unit
yes = accepted tt

three : (p : ℕ) (rest : Answer Unit) (a b c : Bool)
    → ask a 51 p (ask b 55 p (ask c 56 p rest)) ≡ and_then (ask a 51 p (ask b 55 p (ask c 56 p yes))) (λ _. rest)
three p rest false b c = refl
three p rest true false c = refl
three p rest true true false = refl
three p rest true true true = refl

-- what they refuse is refused, whatever is asked after them
pub open_err : (w : Writer) (rest : Answer Unit) {r : Refusal} → refused r ≡ ask_open w (accepted tt) → ask_open w rest ≡ refused r
open_err w rest e = three w.written rest w.begun (not w.ended) (has_prelude w) ∙ ap (λ (x : Answer Unit). and_then x (λ _. rest)) (sym e)

-- where they pass, what is asked after them decides
pub open_ok : (w : Writer) (rest : Answer Unit) → accepted tt ≡ ask_open w (accepted tt) → ask_open w rest ≡ rest
open_ok w rest e = three w.written rest w.begun (not w.ended) (has_prelude w) ∙ ap (λ (x : Answer Unit). and_then x (λ _. rest)) (sym e)

-- what a call that begins with them needs, at the exit of its `?` and past it
pub ruleset opened = (passed_on, open_err, open_ok)

-- ---- bytes

-- a tag, a length and a payload, each put right after the one before
pub put-packet : (xs : List ℕ) (off stream : ℕ) (payload : List ℕ) {ys zs ws : List ℕ} → off + (8 + length payload) ≤ length xs
    → ys ≡ put xs off (le_bytes 4 (stream_tag stream)) → zs ≡ put ys (off + 4) (le_bytes 4 (length payload)) → ws ≡ put zs (off + 8) payload
    → ws ≡ put xs off (packet_bytes stream payload)
unfolding packet_bytes
put-packet xs off stream payload h p q r =
    let a = le_bytes 4 (stream_tag stream) in
    let b = le_bytes 4 (length payload) in
    let la : length a ≡ 4 = length-le_bytes 4 (stream_tag stream) in
    let lb : length b ≡ 4 = length-le_bytes 4 (length payload) in
    let lab : length (a ++ b) ≡ 8 = simp length-append (omega arith) in
    let ea : off + 4 ≡ off + length a = omega arith in
    let eb : off + 8 ≡ off + length (a ++ b) = omega arith in
    let two : put (put xs off a) (off + 4) b ≡ put xs off (a ++ b) =
    ap (λ (n : ℕ). put (put xs off a) n b) ea ∙ put-put xs off a b (omega arith) in
    let three : put (put xs off (a ++ b)) (off + 8) payload ≡ put xs off ((a ++ b) ++ payload) =
    ap (λ (n : ℕ). put (put xs off (a ++ b)) n payload) eb ∙ put-put xs off (a ++ b) payload (omega arith) in
    r
    ∙ ap (λ (l : List ℕ). put l (off + 8) payload) (q ∙ ap (λ (l : List ℕ). put l (off + 4) b) p ∙ two)
    ∙ three
    ∙ ap (λ (l : List ℕ). put xs off l) (append_assoc a b payload)

-- ---- what an accepted run has passed

pub record HeaderPassed (w : Writer) (room : ℕ) : Type 0 where
  pub fresh : w.begun ≡ false
  pub going : w.ended ≡ false
  pub inside : prelude_len ≤ room

pub header-passed : (w : Writer) (room : ℕ) → header_questions w room ≡ accepted tt → HeaderPassed w room
unfolding header_questions
header-passed w room h =
    let a = ask-passed (not w.begun) 50 w.written _ h in
    let b = ask-passed (not w.ended) 55 w.written _ a.1 in
    let c = ask-passed (has_prelude w) 56 w.written _ b.1 in
    let d = ask-passed (fits prelude_len room) 54 w.written _ c.1 in
    record { fresh = not-true w.begun a.0; going = not-true w.ended b.0; inside = (fits-ends prelude_len room d.0).0 }

-- a writer that takes packets
pub record Open (w : Writer) : Type 0 where
  pub begun : w.begun ≡ true
  pub going : w.ended ≡ false
  pub prelude : prelude_len ≤ w.written

open_passed : (w : Writer) (rest : Answer Unit) → ask_open w rest ≡ accepted tt → Open w × (rest ≡ accepted tt)
open_passed w rest h =
    let a = ask-passed w.begun 51 w.written _ h in
    let b = ask-passed (not w.ended) 55 w.written _ a.1 in
    let c = ask-passed (has_prelude w) 56 w.written rest b.1 in
    (record { begun = a.0; going = not-true w.ended b.0; prelude = leb-true prelude_len w.written (rw a.0 at c.0) }, c.1)

pub record PacketPassed (w : Writer) (size stream room : ℕ) : Type 0 where
  pub ready : Open w
  pub short : size ≤ payload_limit
  pub known : stream ≤ 1
  pub inside : w.written + (8 + size) ≤ room
  pub limit : w.written + (8 + size) ≤ file_limit

pub packet-passed : (w : Writer) (size stream room : ℕ) → packet_questions w size stream room ≡ accepted tt → PacketPassed w size stream room
unfolding packet_questions
packet-passed w size stream room h =
    let o = open_passed w _ h in
    let a = ask-passed (leb size payload_limit) 52 w.written _ o.1 in
    let b = ask-passed (leb stream 1) 53 w.written _ a.1 in
    let c = ask-passed (fits (w.written + (8 + size)) room) 54 w.written _ b.1 in
    let d = fits-ends (w.written + (8 + size)) room c.0 in
    record { ready = o.0; short = leb-true size payload_limit a.0; known = leb-true stream 1 b.0; inside = d.0; limit = d.1 }

pub record TrailerPassed (w : Writer) (room : ℕ) : Type 0 where
  pub ready : Open w
  pub inside : w.written + 8 ≤ room
  pub limit : w.written + 8 ≤ file_limit

pub trailer-passed : (w : Writer) (room : ℕ) → trailer_questions w room ≡ accepted tt → TrailerPassed w room
unfolding trailer_questions
trailer-passed w room h =
    let o = open_passed w _ h in
    let a = ask-passed (fits (w.written + 8) room) 54 w.written _ o.1 in
    let d = fits-ends (w.written + 8) room a.0 in
    record { ready = o.0; inside = d.0; limit = d.1 }

-- the questions of a packet give its length: where they refuse, and where they pass
pub length_err : (q : Answer Unit) (n : ℕ) {r : Refusal} → refused r ≡ and_then q (λ _. accepted n) → refused r ≡ q
length_err (accepted u) n e = never (sym e)
length_err (refused s) n e = cc

pub length_ok : (q : Answer Unit) (n : ℕ) {m : ℕ} → accepted m ≡ and_then q (λ _. accepted n) → (q ≡ accepted tt) × (n ≡ m)
length_ok q n e = let p = then-passed q (λ _. accepted n) (sym e) in (p.0, accepted-same p.1)

-- ---- a call's two ends

module _ {q : Answer Unit} (w : Writer) (buf : List ℕ) (next : Writer) (after : List ℕ) where
  pub meets_err : (e : AmvError) (r : Result Writer AmvError) → refused (refusal_of e) ≡ q → (IsErr r × IsErrAnd r (λ y. y ≡ e))
      → MeetsOutcome (outcome q w buf next after) (told w r) buf
  meets_err e r k h =
      let p = err_from_is_err_and r h.1 in
      let d : r ≡ Err e = p.1 ∙ ap Err p.2 in
      record {
        answer = ap (λ (x : Result Writer AmvError). said (told w x).result) d ∙ ap (λ (x : Answer Unit). (outcome x w buf next after).answer) k;
        writer = ap (λ (x : Result Writer AmvError). (told w x).writer) d ∙ ap (λ (x : Answer Unit). (outcome x w buf next after).writer) k;
        buffer = ap (λ (x : Answer Unit). (outcome x w buf next after).buffer) k;
      }

  pub meets_ok : {writer : Writer} {buffer : List ℕ} → accepted tt ≡ q → writer ≡ next → buffer ≡ after
      → MeetsOutcome (outcome q w buf next after) (told w (Ok writer)) buffer
  meets_ok k a b =
      record {
        answer = ap (λ (x : Answer Unit). (outcome x w buf next after).answer) k;
        writer = a ∙ ap (λ (x : Answer Unit). (outcome x w buf next after).writer) k;
        buffer = b ∙ ap (λ (x : Answer Unit). (outcome x w buf next after).buffer) k;
      }
