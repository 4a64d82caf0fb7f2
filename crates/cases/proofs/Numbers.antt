-- A case for every number: antt computes them; where a length is given, it is put in first. Assumes nothing.
use mathlib.Core.Path.{◌≡◌, refl, ap, ◌∙◌}
use mathlib.Core.Bool.{Bool, true, false, cond}
use mathlib.Core.List.{List, []}
use Prim.Native.Nat.{ℕ}
use lib.ListN.{length}
use Rattle.error.specs.Answer.{Answer, accepted, refused}
use Rattle.fields.specs.File.{within_limit}
use Rattle.fields.specs.Le.{le, le_bytes, put}
use Rattle.chunk.specs.Chunk.{chunk_header_of}
use Rattle.chunk.specs.Interleave.{interleave_from}
use Rattle.parse.specs.Header.{header_fields, header_of, header_sentinels}
use Rattle.parse.specs.Preamble.{preamble_of}
use Rattle.parse.specs.WaveFormat.{cb_size_of, wave_format_fields, wave_format_sentinels}
use Rattle.prelude.specs.Built.{prelude_bytes}
use Rattle.prelude.specs.Layout.{layout, ask_word, ask_body, ask_items}
use Rattle.prelude.specs.Prelude.{prelude_fields, parse_of, zeros, zero_ranges, validated_of, strict_of}
use Rattle.demuxer.specs.Head.{head_at, count_of}
use Rattle.demuxer.specs.Position.{in_range}
use Rattle.demuxer.specs.Read.{Reading, End, refuse, read_frame, read_sound, read_chunk, read_of}
use Rattle.demuxer.specs.declared.walker.Walker.{Walker}
use Rattle.demuxer.proofs.Steps.{read_ended}
use Rattle.walk.specs.Walk.{step_at, walk_for, walk}
use Rattle.walk.specs.Chunks.{chunk_bytes, chunks_bytes}
use Rattle.chunk_index.specs.Entry.{entry_bytes, table_bytes, entry_at, entries_from}
use Rattle.chunk_index.specs.Index.{records, tags_known, index_of, build_of}
use Rattle.chunk_index.specs.Summary.{counts_from, summary_of}
use Rattle.table.specs.Table.{ask_each}
use Rattle.seek.specs.Seek.{seek_questions, find, past_last, seek_of}
use Rattle.muxer.specs.declared.Writer.{Writer}
use Rattle.muxer.specs.Writer.{outcome, header_questions, header_call, packet_questions, packet_call, trailer_questions, trailer_call}
use Rattle.finished.specs.Check.{tags_of, check_from, check_of}
use Rattle.cases.specs.Example.{E}
use Rattle.cases.specs.Numbers.{over, writer_at, P, T, Numbers}

-- ---- what stands behind a question whose answer is known

no-then : {A : Type 0} {t : Bool} (x y : A) → t ≡ false → cond t x y ≡ y
no-then x y e = rw e

read-long : (file : List ℕ) (w : Walker) → length file ≡ 4294967296 → read_of file w ≡ refuse 10 0 w
unfolding read_of
read-long file w e = no-then {t = within_limit file} _ _ (rw e)

read-longest : (file : List ℕ) → length file ≡ 4294967295 → read_of file over ≡ record { answer = End; walker = over }
unfolding in_range
read-longest file e = read_ended file over (rw e) refl refl

-- a writing call answers as its questions do
asked : (q : Answer Unit) (w next : Writer) (buf after : List ℕ) → (outcome q w buf next after).answer ≡ q
asked (accepted u) w next buf after = refl
asked (refused r) w next buf after = refl

packet-asked : (w : Writer) (payload : List ℕ) (stream : ℕ) (buf : List ℕ)
    → (packet_call w payload stream buf).answer ≡ packet_questions w (length payload) stream (length buf)
unfolding packet_call
packet-asked w payload stream buf = asked (packet_questions w (length payload) stream (length buf)) w _ buf _

trailer-asked : (w : Writer) (buf : List ℕ) → (trailer_call w buf).answer ≡ trailer_questions w (length buf)
unfolding trailer_call
trailer-asked w buf = asked (trailer_questions w (length buf)) w _ buf _

pub numbers : Numbers
unfolding le le_bytes put interleave_from header_fields header_of header_sentinels cb_size_of wave_format_fields wave_format_sentinels preamble_of chunk_header_of
    prelude_bytes layout ask_word ask_body ask_items prelude_fields parse_of zeros zero_ranges validated_of strict_of head_at count_of in_range read_frame read_sound
    read_chunk read_of step_at walk_for walk chunk_bytes chunks_bytes entry_bytes table_bytes entry_at entries_from records tags_known index_of build_of counts_from summary_of
    ask_each seek_questions find past_last seek_of tags_of check_from check_of header_questions header_call packet_questions packet_call trailer_questions trailer_call E
    P T
numbers =
    record {
      ten_parse = λ file e. rw e;
      ten_strict = λ file e. rw e;
      ten_read = λ file w e. ap (λ (q : Reading). q.answer) (read-long file w e);
      ten_index = λ file e. rw e;
      ten_summary = λ file e. rw e;
      ten_check = λ file e. rw e;
      ten_not = λ file e. ap (λ (q : Reading). q.answer) (read-longest file e);
      eleven = refl;
      eleven_size = refl;
      eleven_last = refl;
      twelve = refl;
      thirteen = refl;
      fourteen = refl;
      fifteen = refl;
      sixteen = refl;
      seventeen = refl;
      eighteen_36 = refl;
      eighteen_63 = refl;
      eighteen_108 = refl;
      eighteen_163 = refl;
      eighteen_172 = refl;
      eighteen_207 = refl;
      eighteen_228 = refl;
      eighteen_275 = refl;
      nineteen = refl;
      twenty = refl;
      twenty_one = refl;
      twenty_two = refl;
      twenty_three = refl;
      twenty_four = refl;
      twenty_five = λ body e. rw e;
      twenty_six = refl;
      twenty_six_not = refl;
      twenty_eight = λ body e. rw e;
      twenty_eight_not = λ body e. rw e;
      twenty_nine = λ s e. rw e;
      thirty_one_read = refl;
      thirty_one_index = refl;
      thirty_one_later = refl;
      thirty_one_before = refl;
      thirty_one_summary = refl;
      thirty_one_check = refl;
      thirty_two_not = refl;
      thirty_two_cursor = refl;
      thirty_two_frames = refl;
      thirty_two_samples = refl;
      thirty_two_blocks = refl;
      thirty_two_seek = refl;
      forty = refl;
      forty_not = refl;
      forty_last = refl;
      forty_one = refl;
      forty_two = refl;
      forty_three = refl;
      forty_three_samples = refl;
      forty_three_not = refl;
      forty_three_second = refl;
      fifty = refl;
      fifty_one_packet = refl;
      fifty_one_trailer = refl;
      fifty_two = λ payload buf e. packet-asked (writer_at true false 316) payload 2 buf ∙ rw e;
      fifty_two_not = λ payload e. packet-asked (writer_at true false 316) payload 0 [] ∙ rw e;
      fifty_three = refl;
      fifty_four_header = refl;
      fifty_four_header_not = refl;
      fifty_four_packet = refl;
      fifty_four_packet_not = refl;
      fifty_four_trailer = refl;
      fifty_four_trailer_not = refl;
      fifty_four_limit = λ buf e. trailer-asked (writer_at true false 4294967288) buf ∙ rw e;
      fifty_four_limit_not = λ buf e. trailer-asked (writer_at true false 4294967287) buf ∙ rw e;
      fifty_five_header = refl;
      fifty_five_packet = refl;
      fifty_five_trailer = refl;
      fifty_six_packet = refl;
      fifty_six_trailer = refl;
      sixty = refl;
      sixty_payload = refl;
      sixty_trailer = refl;
      sixty_four = refl;
      sixty_four_odd = refl;
      totals = refl;
      summary = refl;
      summary_cut = refl;
      summary_last_frame = refl;
      summary_last_block = refl;
    }
