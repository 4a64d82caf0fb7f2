-- 01's sentences about one read hold. Where the bytes at the cursor are given, the read is followed through them; what is said of every read
-- goes by its eight cases. Assumes nothing.
use mathlib.Core.Path.{◌≡◌, refl, sym, ap, ◌∙◌}
use Rattle.std.proofs.Common.{Some}
use mathlib.Core.Bool.{Bool, true, false}
use mathlib.Core.List.{List, [], ◌∷◌, ◌++◌}
use Prim.Native.Nat.{ℕ, ◌+◌, ◌≤◌, ◌<◌}
use native.Mathlib.Nat.{add-zero}
use native.Mathlib.Omega.{arith}
use borrow.Author.Tests.{le-leb, lt-leb, eqb-true, ne_eqb}
use lib.Dec.{eqb}
use lib.ListN.{length, length-append}
use Rattle.chunk.specs.Chunk.{video_tag, audio_tag, trailer_bytes, payload_limit, kind_of}
use Rattle.chunk.specs.declared.ChunkKind.TheVariants.{Other}
use Rattle.error.proofs.Answers.{clash, both}
use Rattle.error.specs.Answer.{refused}
use Rattle.error.specs.Sentences.{RefusedBy}
use Rattle.error.specs.declared.Refusal.{Refusal}
use Rattle.fields.specs.Capped.{u32_max}
use Rattle.fields.specs.File.{file_limit}
use Rattle.fields.specs.Le.{le, le_bytes}
use Rattle.fields.proofs.Laws.{le-append-right, le-le_bytes}
use Rattle.fields.proofs.Impossible.{impossible}
use Rattle.demuxer.specs.Head.{trailer_tag, trailer_size, is_trailer, kind_head, head_at, count_of}
use Rattle.demuxer.specs.Read.{Reading, ReadAnswer, packet, End, payload_at, read_frame, read_sound, read_head, read_chunk, read_of}
use Rattle.demuxer.specs.Read as read
use Rattle.demuxer.specs.Packet.{packet_duration}
use Rattle.demuxer.specs.Position.{InRange}
use Rattle.demuxer.specs.Sentences.{Gives, moved, AtCursor, headed, as_answer, ReadSentences}
use Rattle.demuxer.specs.declared.head.Head.{Head}
use Rattle.demuxer.specs.declared.walker.Walker.{Walker}
use Rattle.demuxer.proofs.Bodies.{count-is}
use Rattle.demuxer.proofs.Heads.{head_out}
use Rattle.demuxer.proofs.Outcomes.{refused-stays}
use Rattle.demuxer.proofs.Ranges.{in_range_lem}
use Rattle.demuxer.proofs.Readings.{read_cases}
use Rattle.demuxer.proofs.Steps.{read_on, read_ended}
use Rattle.demuxer.proofs.Suffixes.{chunk_suffix, trailer_suffix, payload_suffix}

-- ---- by the bytes at the cursor

-- a read that 10 and 32 let pass looks at the cursor
pub looks : (file : List ℕ) (w : Walker) → length file ≤ file_limit → InRange w.position → w.end ≡ false
    → {h : Head} → head_at file w.position.cursor ≡ h → read_of file w ≡ read_head file w h
unfolding read_chunk
looks file w within range going e = read_on file w (le-leb (length file) file_limit within) (in_range_lem w.position range) going ∙ ap (read_head file w) e

module _ (file : List ℕ) {here : List ℕ} (w : Walker) (a : AtCursor file w here) (going : w.end ≡ false) where
  -- what stands where these bytes do
  stands : {h : Head} → head_at (a.before ++ here) (length a.before) ≡ h → read_of file w ≡ read_head file w h
  stands e = looks file w a.within a.range going ((λ i. head_at (a.is i) (a.cursor i)) ∙ e)

  reaches : length file ≡ w.position.cursor + length here
  reaches = let c = a.cursor in let l = ap length a.is ∙ length-append a.before here in omega arith

length-headed : (tag size : ℕ) (bytes : List ℕ) → length (headed tag size bytes) ≡ 8 + length bytes
unfolding le_bytes
length-headed tag size bytes = simp length-append (omega arith)

-- a header that is not the trailer's
no-trailer : (tag size : ℕ) → (le_bytes 4 tag ++ le_bytes 4 size ≡ trailer_bytes → ⊥) → (b : Bool) → is_trailer tag size ≡ b → b ≡ false
unfolding le_bytes
no-trailer tag size n false e = refl
no-trailer tag size n true e =
    let t = both (eqb tag trailer_tag) (eqb size trailer_size) e in
    let x : tag ≡ trailer_tag = eqb-true tag trailer_tag t.0 in
    let y : size ≡ trailer_size = eqb-true size trailer_size t.1 in
    absurd (n (rw (x, y)))

other_kind : (tag : ℕ) → (tag ≡ video_tag → ⊥) → (tag ≡ audio_tag → ⊥) → kind_of tag ≡ Other tag
other_kind tag v s = rw (ne_eqb tag video_tag v, ne_eqb tag audio_tag s)

cut_short : (file : List ℕ) (w : Walker) (size : ℕ) → length file < w.position.cursor + 8 + size
    → (read_frame file w size ≡ record { answer = End; walker = read.cut_off w }) × (read_sound file w size ≡ record { answer = End; walker = read.cut_off w })
unfolding read_frame read_sound
cut_short file w size h = let t = lt-leb (w.position.cursor + 8 + size) (length file) h in (rw t, rw t)

module _ (file part : List ℕ) (w : Walker) (tag size : ℕ) (a : AtCursor file w (headed tag size part)) (going : w.end ≡ false)
    (t : tag ≤ u32_max) (s : size ≤ payload_limit) where
  kind-read : is_trailer tag size ≡ false → read_of file w ≡ read_head file w (kind_head (kind_of tag) size)
  kind-read n = stands file w a going (chunk_suffix a.before part tag size (omega arith) (omega arith) n)

  past_end : length part < size → length file < w.position.cursor + 8 + size
  past_end h = let l = reaches file w a going in let m = length-headed tag size part in omega arith

module _ (file payload rest : List ℕ) (w : Walker) (tag : ℕ) (a : AtCursor file w (headed tag (length payload) (payload ++ rest)))
    (going : w.end ≡ false) where
  payload-is : payload_at file w.position.cursor (length payload) ≡ payload
  payload-is = (λ i. payload_at (a.is i) (a.cursor i) (length payload)) ∙ payload_suffix a.before payload rest tag (length payload)

  inside : w.position.cursor + 8 + length payload ≤ length file
  inside =
      let l = reaches file w a going in
      let m = length-headed tag (length payload) (payload ++ rest) in
      let n = length-append payload rest in
      omega arith

-- a whole frame and a whole block
pub frame-read : (file payload rest : List ℕ) (w : Walker) → AtCursor file w (headed video_tag (length payload) (payload ++ rest)) → w.end ≡ false
    → length payload ≤ payload_limit
    → let p = w.position in
    Gives file w (packet (record { stream = 0; payload = payload; stamp = p.frames.0; duration = Some 1 }))
    (moved w (p.cursor + (8 + length payload)) (p.frames.0 + 1) p.samples.0 p.blocks.0)
unfolding read_frame
frame-read file payload rest w a going s =
    kind-read file (payload ++ rest) w video_tag (length payload) a going (omega arith) s refl
    ∙ rw (
      le-leb (w.position.cursor + 8 + length payload) (length file) (inside file payload rest w video_tag a going),
      payload-is file payload rest w video_tag a going,
    )

pub sound-read : (file payload rest : List ℕ) (w : Walker) → AtCursor file w (headed audio_tag (length payload) (payload ++ rest)) → w.end ≡ false
    → length payload ≤ payload_limit
    → let p = w.position in
    Gives file w (packet (record { stream = 1; payload = payload; stamp = p.samples.0; duration = (packet_duration (count_of payload)) }))
    (moved w (p.cursor + (8 + length payload)) p.frames.0 (p.samples.0 + count_of payload) (p.blocks.0 + 1))
unfolding read_sound
sound-read file payload rest w a going s =
    kind-read file (payload ++ rest) w audio_tag (length payload) a going (omega arith) s refl
    ∙ rw (
      le-leb (w.position.cursor + 8 + length payload) (length file) (inside file payload rest w audio_tag a going),
      payload-is file payload rest w audio_tag a going,
    )

counted : (state rest : List ℕ) (n : ℕ) → length state ≡ 4 → n ≤ u32_max → count_of (state ++ (le_bytes 4 n ++ rest)) ≡ n
counted state rest n e h =
    let xs : List ℕ = state ++ (le_bytes 4 n ++ rest) in
    let four : le 4 xs 4 ≡ n =
    ap (le 4 xs) (sym (add-zero (length state) ∙ e))
    ∙ le-append-right 4 state (le_bytes 4 n ++ rest) 0
    ∙ le-le_bytes 4 n rest (omega arith) in
    let l : 8 ≤ length xs = unfold le_bytes in simp length-append (omega arith) in
    count-is xs ∙ rw (le-leb 8 (length xs) l, four)

-- ---- of every read

refused-read : (x : ReadAnswer) {r : Refusal} → as_answer x ≡ refused r → x ≡ read.refused r
refused-read (packet p) e = impossible cc
refused-read End e = impossible cc
refused-read (read.refused q) e = cc

only_short : (file : List ℕ) (w : Walker) → w.cut ≡ false → (read_of file w).walker.cut ≡ true
    → length file < w.position.cursor + 8 + le 4 file (w.position.cursor + 4)
only_short file w c =
    let clear : w.cut ≡ true → length file < w.position.cursor + 8 + le 4 file (w.position.cursor + 4) = λ e. clash e c in
    read_cases file w (λ (q : Reading). q.walker.cut ≡ true → length file < w.position.cursor + 8 + le 4 file (w.position.cursor + 4))
    clear clear clear (λ h e. h) clear clear clear clear

no-packet : {A : Type 0} {p : _} → packet p ≡ End → A
no-packet e = impossible cc

end_stays : (file : List ℕ) (w : Walker) → (read_of file w).answer ≡ End → (read_of file w).walker.position ≡ w.position
end_stays file w =
    read_cases file w (λ (q : Reading). q.answer ≡ End → q.walker.position ≡ w.position)
    (λ e. refl) (λ e. refl) (λ e. refl) (λ h e. refl) (λ e. refl) (λ e. refl) no-packet no-packet

pub read_sentences : ReadSentences
unfolding le_bytes
read_sentences =
    record {
      starts = refl;
      first = refl;
      ended = λ file w within range over. read_ended file w (le-leb (length file) file_limit within) (in_range_lem w.position range) over;
      few = λ file w within range going h. looks file w within range going (head_out file w.position.cursor h);
      trailer =
          λ file rest w a going.
          stands file w a going (trailer_suffix a.before rest trailer_tag trailer_size (omega arith) (omega arith) refl);
      unknown =
          λ file rest w tag size a going t s v x n.
          kind-read file rest w tag size a going t s (no-trailer tag size n _ refl) ∙ ap (λ k. read_head file w (kind_head k size)) (other_kind tag v x);
      frame_cut =
          λ file part w size a going h s.
          kind-read file part w video_tag size a going (omega arith) s refl
          ∙ (cut_short file w size (past_end file part w video_tag size a going (omega arith) s h)).0;
      sound_cut =
          λ file part w size a going h s.
          kind-read file part w audio_tag size a going (omega arith) s refl
          ∙ (cut_short file w size (past_end file part w audio_tag size a going (omega arith) s h)).1;
      frame = frame-read;
      sound = λ file payload rest w count a going s c h. sound-read file payload rest w a going s ∙ rw (c, ne_eqb count 0 (λ e. omega arith));
      silence = λ file payload rest w a going s c. sound-read file payload rest w a going s ∙ rw (c, add-zero w.position.samples.0);
      count = counted;
      no_count = λ payload h. count-is payload ∙ rw (lt-leb 8 (length payload) h);
      only_short_sets_cut = only_short;
      end_moves_nothing = end_stays;
      gives_back = λ file w r e. refused-stays file w (refused-read (read_of file w).answer e);
      numbers =
          λ file w.
          read_cases file w (λ (q : Reading). RefusedBy (10 ∷ 32 ∷ 31 ∷ []) (as_answer q.answer)) refl refl tt (λ h. tt) tt refl tt tt;
    }
