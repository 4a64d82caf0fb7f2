-- The check accepts exactly the files of the grammar, and its totals are the drain's. Assumes nothing.
use mathlib.Core.Path.{◌≡◌, refl, sym, ap, ap₂, ◌∙◌}
use mathlib.Core.Bool.{Bool, true}
use mathlib.Core.List.{List, [], ◌∷◌, ◌++◌, append_assoc, append-nil}
use Prim.Native.Nat.{ℕ, zero, suc, ◌+◌, ◌-◌, ◌^◌, ◌≤◌, ◌<◌}
use native.Mathlib.Nat.{zero-add}
use native.Mathlib.Omega.{arith}
use borrow.Author.Tests.{le-leb, leb-true, eqb-true}
use lib.Dec.{eqb}
use lib.ListN.{length, take, drop, length-append, length-take, take-append-drop, drop_of_length-le}
use lib.Seq.{take_at, drop-drop}
use Rattle.chunk.specs.Chunk.{trailer_bytes}
use Rattle.chunk.specs.Interleave.{interleave}
use Rattle.error.specs.Answer.{Answer, accepted, and_then}
use Rattle.error.proofs.Answers.{never, then-accepted, ask-passed}
use Rattle.fields.specs.File.{file_limit, within_limit}
use Rattle.fields.specs.Le.{le_bytes, Bytes}
use Rattle.fields.proofs.Laws.{le-lt, le_bytes-le}
use Rattle.prelude.specs.Layout.{prelude_len}
use Rattle.prelude.specs.Prelude.{parse_of, validated_of, strict_of}
use Rattle.prelude.specs.declared.prelude.AmvPrelude.{AmvPrelude}
use Rattle.prelude.proofs.Layouts.{parsed-length}
use Rattle.prelude.proofs.Local.{strict_local}
use Rattle.demuxer.specs.Head.{trailer_tag, trailer_size, head_at}
use Rattle.demuxer.specs.Position.{start}
use Rattle.demuxer.specs.Read.{payload_at}
use Rattle.demuxer.specs.declared.head.Head.{Head}
use Rattle.demuxer.specs.declared.head.Head.TheVariants as head
use Rattle.demuxer.specs.declared.position.Position.{Position}
use Rattle.demuxer.proofs.Headed.{Headed, Heads, headed}
use Rattle.walk.specs.Walk.{ran_out, Walk, stop, on_head, step_at, on_step, walk_for, walk, file_walk, past, kind_tag}
use Rattle.walk.specs.declared.Kind.{Kind}
use Rattle.walk.specs.declared.Kind.TheVariants.{Frame, Sound}
use Rattle.walk.specs.Chunks.{Chunk, chunk_of, chunk_bytes, chunks_bytes, Lengths, walk_of}
use Rattle.finished.specs.Check.{passes, tags_of, check_from, all_paired, check_chunks, check_of}
use Rattle.walk.proofs.Chunked.{length-chunk}
use Rattle.recording.specs.Check.{chunk_tags, totals_of, CheckIsGrammar}
use Rattle.finished.specs.declared.Totals.{Totals}
use Rattle.recording.specs.Drain.{frames, samples, blocks}
use Rattle.recording.specs.Grammar.{Finished}
use Rattle.recording.proofs.Tables.{finished-walk}

-- ---- a finished file is accepted

pub within : (file : List ℕ) → length file ≤ file_limit → within_limit file ≡ true
within file h = le-leb (length file) file_limit h

-- the strict parse of a finished file is that of its prelude
pub finished-strict : (file : List ℕ) (cs : List Chunk) (f : Finished file cs) → strict_of file ≡ accepted f.passes.0
finished-strict file cs f =
    sym (strict_local file (within file f.fits))
    ∙ ap strict_of (ap (take prelude_len) f.is ∙ take_at f.prelude (chunks_bytes cs ++ trailer_bytes) prelude_len f.whole)
    ∙ f.passes.1

tags_walked : (cs : List Chunk) (n : ℕ) → tags_of (walk_of cs n) ≡ chunk_tags cs
unfolding tags_of walk_of chunk_tags
tags_walked [] n = refl
tags_walked (chunk_of kind payload ∷ cs) n = ap (λ (l : List ℕ). kind_tag kind ∷ l) (tags_walked cs n)

-- the totals from a position on
abbrev totals_from : Position → Bool → List Chunk → Totals
totals_from p paired cs =
    record {
      frames = p.frames.0 + frames cs;
      blocks = p.blocks.0 + blocks cs;
      samples = p.samples.0 + samples cs;
      trailer = p.cursor + length (chunks_bytes cs);
      paired = paired;
    }

same-totals : {a b : Totals} → a.frames ≡ b.frames → a.blocks ≡ b.blocks → a.samples ≡ b.samples → a.trailer ≡ b.trailer → a.paired ≡ b.paired → a ≡ b
same-totals f b s t q = λ i. record { frames = f i; blocks = b i; samples = s i; trailer = t i; paired = q i }

checked : (p : Position) (paired : Bool) (cs : List Chunk) → check_from p paired (walk_of cs 0) ≡ accepted (totals_from p paired cs)
unfolding check_from walk_of frames samples blocks chunks_bytes
checked p paired [] = ap accepted (same-totals (omega arith) (omega arith) (omega arith) (omega arith) refl)
checked p paired (chunk_of Frame payload ∷ cs) =
    checked (past p Frame payload 0) paired cs
    ∙ ap accepted
    (same-totals (omega arith) (omega arith) (omega arith)
    (omega (arith, length-append (chunk_bytes (chunk_of Frame payload)) (chunks_bytes cs), length-chunk Frame payload)) refl)
checked p paired (chunk_of Sound payload ∷ cs) =
    checked (past p Sound payload 0) paired cs
    ∙ ap accepted
    (same-totals (omega arith) (omega arith) (omega arith)
    (omega (arith, length-append (chunk_bytes (chunk_of Sound payload)) (chunks_bytes cs), length-chunk Sound payload)) refl)

pub check-accepts : (file : List ℕ) (cs : List Chunk) → Finished file cs → check_of file ≡ accepted (totals_of cs)
unfolding check_of
check-accepts file cs f =
    let w = finished-walk file cs f in
    let t : tags_of (file_walk file) ≡ chunk_tags cs = ap tags_of w ∙ tags_walked cs 0 in
    let s = finished-strict file cs f in
    ap (λ (x : Answer AmvPrelude). and_then x (λ _. check_chunks file)) s
    ∙ (λ i. check_from start (passes (interleave (t i))) (w i))
    ∙ checked start (passes (interleave (chunk_tags cs))) cs
    ∙ ap accepted (same-totals (zero-add (frames cs)) (zero-add (blocks cs)) (zero-add (samples cs)) refl refl)

-- ---- what is accepted is finished

-- the eight bytes of a header, and what follows
header-bytes : (file : List ℕ) (at tag size : ℕ) → Bytes file → Headed file at tag size → drop at file ≡ le_bytes 4 tag ++ (le_bytes 4 size ++ drop (at + 8) file)
header-bytes file at tag size b h =
    let a : le_bytes 4 tag ≡ take 4 (drop at file) = ap (le_bytes 4) (sym h.tag_is) ∙ le_bytes-le 4 file at b (omega (arith, h.there)) in
    let c : le_bytes 4 size ≡ take 4 (drop (at + 4) file) = ap (le_bytes 4) (sym h.size_is) ∙ le_bytes-le 4 file (at + 4) b (omega (arith, h.there)) in
    let d : drop 4 (drop at file) ≡ drop (at + 4) file = drop-drop 4 at file in
    let n : at + 4 + 4 ≡ at + 8 = omega arith in
    let e : drop 4 (drop (at + 4) file) ≡ drop (at + 8) file = drop-drop 4 (at + 4) file ∙ ap (λ (m : ℕ). drop m file) n in
    sym (take-append-drop 4 (drop at file))
    ∙ ap₂ (λ (x y : List ℕ). x ++ y) (sym a) (d ∙ sym (take-append-drop 4 (drop (at + 4) file)) ∙ ap₂ (λ (x y : List ℕ). x ++ y) (sym c) e)

-- what was accepted from an offset on: chunks and the trailer, and nothing more
record Chunked (file : List ℕ) (at : ℕ) : Type 0 where
  chunks : List Chunk
  are : drop at file ≡ chunks_bytes chunks ++ trailer_bytes
  held : Lengths chunks

-- one chunk more in front
chunk_more : (file : List ℕ) (at size : ℕ) (kind : Kind) → Bytes file → Headed file at (kind_tag kind) size
    → size - length (payload_at file at size) ≡ 0 → Chunked file (at + (8 + size)) → Chunked file at
unfolding chunks_bytes chunk_bytes
chunk_more file at size kind b h m c =
    let l : length (payload_at file at size) ≤ size = simp length-take (omega arith) in
    let n : length (payload_at file at size) ≡ size = omega arith in
    let s : size < 256 ^ 4 = rw (← h.size_is) (le-lt 4 file (at + 4) b) in
    let k : at + 8 + size ≡ at + (8 + size) = omega arith in
    let r : drop (at + 8) file ≡ payload_at file at size ++ drop (at + (8 + size)) file =
    sym (take-append-drop size (drop (at + 8) file))
    ∙ ap (λ (x : List ℕ). payload_at file at size ++ x) (drop-drop size (at + 8) file ∙ ap (λ (j : ℕ). drop j file) k) in
    let p : List ℕ = payload_at file at size in
    record {
      chunks = chunk_of kind p ∷ c.chunks;
      are =
          header-bytes file at (kind_tag kind) size b h
          ∙ ap₂ (λ (j : ℕ) (x : List ℕ). le_bytes 4 (kind_tag kind) ++ (le_bytes 4 j ++ x)) (sym n) (r ∙ ap (λ (x : List ℕ). p ++ x) c.are)
          ∙ simp append_assoc;
      held = (omega arith, c.held);
    }

trailer-last : (file : List ℕ) (at : ℕ) → Bytes file → Headed file at trailer_tag trailer_size → length file - (at + 8) ≡ 0 → Chunked file at
unfolding chunks_bytes le_bytes
trailer-last file at b h z =
    let e : drop (at + 8) file ≡ [] = drop-none (at + 8) file (omega arith) in
    record {
      chunks = [];
      are =
          header-bytes file at trailer_tag trailer_size b h
          ∙ ap (λ (x : List ℕ). le_bytes 4 trailer_tag ++ (le_bytes 4 trailer_size ++ x)) e
          ∙ ap (λ (x : List ℕ). le_bytes 4 trailer_tag ++ x) (append-nil (le_bytes 4 trailer_size));
      held = tt;
    }
  where
    drop-none : (n : ℕ) (xs : List ℕ) → length xs ≤ n → drop n xs ≡ []
    drop-none n xs h = drop_of_length-le xs h

-- by what stands at the offset, where the rest is known
on_accepted : (file : List ℕ) (at : ℕ) (p : Position) (paired : Bool) (t : Totals) (w : ℕ → Walk)
    → ((next : ℕ) (q : Position) → check_from q paired (w next) ≡ accepted t → Chunked file next) → Bytes file
    → (h : Head) → Heads file at h → check_from p paired (on_step file at w (on_head file at h)) ≡ accepted t → Chunked file at
unfolding check_from Heads
on_accepted file at p paired t w rest b head.Short d e = never (sym e)
on_accepted file at p paired t w rest b head.Trailer d e =
    let a = ask-passed (eqb (length file - (at + 8)) 0) 61 p.cursor _ e in
    trailer-last file at b d (eqb-true (length file - (at + 8)) 0 a.0)
on_accepted file at p paired t w rest b head.Unknown d e = never (sym e)
on_accepted file at p paired t w rest b (head.Video size) d e =
    let m : ℕ = size - length (payload_at file at size) in
    let a = ask-passed (eqb m 0) 60 p.cursor _ e in
    chunk_more file at size Frame b d (eqb-true m 0 a.0) (rest (at + (8 + size)) (past p Frame (payload_at file at size) m) a.1)
on_accepted file at p paired t w rest b (head.Audio size) d e =
    let m : ℕ = size - length (payload_at file at size) in
    let a = ask-passed (eqb m 0) 60 p.cursor _ e in
    chunk_more file at size Sound b d (eqb-true m 0 a.0) (rest (at + (8 + size)) (past p Sound (payload_at file at size) m) a.1)

accepted-chunks : (n : ℕ) (file : List ℕ) (at : ℕ) (p : Position) (paired : Bool) (t : Totals) → Bytes file
    → check_from p paired (walk_for n file at) ≡ accepted t → Chunked file at
unfolding walk_for step_at
accepted-chunks zero file at p paired t b e = ends e
  where
    ends : check_from p paired (stop ran_out) ≡ accepted t → Chunked file at
    ends x = unfold check_from in never (sym x)
accepted-chunks (suc n) file at p paired t b e =
    on_accepted file at p paired t (walk_for n file) (λ next q x. accepted-chunks n file next q paired t b x) b (head_at file at) (headed file at) e

pub check-only : (file : List ℕ) → Bytes file → (t : Totals) → check_of file ≡ accepted t → (cs : List Chunk) × Finished file cs
unfolding check_of walk strict_of parse_of
check-only file b t e =
    let s = then-accepted (strict_of file) (λ _. check_chunks file) e in
    let q = then-accepted (parse_of file) (λ p. validated_of p file) s.1 in
    let l : prelude_len ≤ length file = parsed-length file q.1 in
    let f : within_limit file ≡ true = (ask-passed (within_limit file) 10 0 _ q.1).0 in
    let c = accepted-chunks (length file) file prelude_len start (all_paired file) t b s.2 in (
      c.chunks,
      record {
        prelude = take prelude_len file;
        passes = (s.0, strict_local file f ∙ s.1);
        whole = simp length-take (omega arith);
        is = sym (take-append-drop prelude_len file) ∙ ap (λ (x : List ℕ). take prelude_len file ++ x) c.are;
        fits = leb-true (length file) file_limit f;
        lengths = c.held;
      },
    )

pub check-is_grammar : CheckIsGrammar
check-is_grammar = record { accepts = check-accepts; only = check-only }
