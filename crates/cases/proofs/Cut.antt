-- E at every length and E under way, computed. From 316 on both parses read the same 316 bytes: what they answer is computed once. Assumes nothing.
use mathlib.Core.Path.{◌≡◌, refl, sym, ap, ◌∙◌}
use mathlib.Core.Bool.{true}
use mathlib.Core.List.Memᴰ
use mathlib.Core.List.{List, map}
use Prim.Native.Nat.{ℕ, zero, suc, ◌≤◌}
use native.Mathlib.Omega.{arith}
use borrow.Author.Tests.{le-leb}
use lib.ListN.{length, take, replicate, length-take}
use lib.Seq.{take-take}
use Rattle.fields.specs.File.{file_limit, within_limit}
use Rattle.fields.specs.Le.{le, le_bytes, put}
use Rattle.chunk.specs.Interleave.{interleave_from}
use Rattle.parse.specs.Header.{header_fields, header_sentinels}
use Rattle.parse.specs.Preamble.{preamble_of}
use Rattle.parse.specs.WaveFormat.{cb_size_of, wave_format_fields, wave_format_sentinels}
use Rattle.prelude.specs.Built.{prelude_bytes}
use Rattle.prelude.specs.Layout.{layout, ask_word, ask_body, ask_items}
use Rattle.prelude.specs.Prelude.{prelude_fields, parse_of, zeros, zero_ranges, validated_of, strict_of}
use Rattle.prelude.proofs.Local.{parse_local, strict_local}
use Rattle.demuxer.specs.Head.{head_at, count_of}
use Rattle.demuxer.specs.Position.{in_range}
use Rattle.demuxer.specs.Read.{read_frame, read_sound, read_chunk, read_of}
use Rattle.demuxer.specs.Read as demuxer
use Rattle.walk.specs.Walk.{step_at, walk_for, walk}
use Rattle.walk.specs.Chunks.{chunk_bytes, chunks_bytes}
use Rattle.chunk_index.specs.Index.{records, tags_known, index_of}
use Rattle.chunk_index.specs.Summary.{counts_from, summary_of}
use Rattle.finished.specs.Check.{tags_of, check_from, check_chunks, check_of}
use Rattle.muxer.specs.Writer.{fresh, header_questions, header_call, packet_bytes, packet_questions, packet_call}
use Rattle.recording.specs.Cut.{UnderWay}
use Rattle.recording.specs.WriteLists.{write_step, accepted_calls, writer_after, buffer_after, written_file}
use Rattle.cases.specs.Cut.{Told, drain_for, told, cuts, opened, settings, calls, Cut}
use Rattle.cases.specs.Example.{E}
use Rattle.cases.proofs.Cases.{cases}

within : (n : ℕ) → within_limit (take n E) ≡ true
within n = le-leb (length (take n E)) file_limit (rw (length-take n E, cases.size) (omega arith))

parsed : (parse_of (take 316 E) ≡ opened) × (strict_of (take 316 E) ≡ opened)
unfolding le le_bytes header_fields header_sentinels cb_size_of wave_format_fields wave_format_sentinels prelude_bytes layout ask_word ask_body ask_items
    prelude_fields parse_of zeros zero_ranges validated_of strict_of E
parsed = (refl, refl)

-- what the calls say of a file of which both parses give the prelude of E
unfoldable after : List ℕ → Told
after file =
    record { parse = opened; check = check_chunks file; drained = drain_for 3 file demuxer.fresh; index = index_of file; summary = summary_of file }

told-after : (n : ℕ) → 316 ≤ n → told (take n E) ≡ after (take n E)
unfolding told after check_of
told-after n h =
    let same = take-take 316 n E h in
    let p = sym (parse_local (take n E) (within n)) ∙ ap parse_of same ∙ parsed.0 in
    let s = sym (strict_local (take n E) (within n)) ∙ ap strict_of same ∙ parsed.1 in
    rw (p, s)

all_after : (n more : ℕ) → 316 ≤ n → map told (cuts n more E) ≡ map after (cuts n more E)
unfolding cuts
all_after n zero h = refl
all_after n (suc more) h = rw (told-after n h, all_after (suc n) more (omega arith))

-- ---- E under way

under_way : UnderWay settings (replicate 345 0) calls
unfolding le_bytes put prelude_bytes header_questions header_call packet_bytes packet_questions packet_call write_step accepted_calls writer_after
under_way =
    record {
      held = record { width_held = omega arith; height_held = omega arith; fps_held = omega arith; rate_held = omega arith };
      fps_positive = omega arith;
      one_channel = refl;
      begun = Memᴰ.head refl;
      going = refl;
      room = omega arith;
    }

leaves : (written_file (fresh settings) (replicate 345 0) calls ≡ take 345 E) × (written_file (fresh settings) (replicate 344 0) calls ≡ take 327 E)
unfolding le_bytes put prelude_bytes header_questions header_call packet_bytes packet_questions packet_call chunk_bytes chunks_bytes write_step writer_after
    buffer_after E
leaves = (refl, refl)

pub cut : Cut
unfolding le le_bytes interleave_from preamble_of prelude_bytes layout ask_word ask_body ask_items parse_of strict_of head_at count_of in_range read_frame
    read_sound read_chunk read_of step_at walk_for walk chunk_bytes chunks_bytes records tags_known index_of counts_from summary_of tags_of check_from check_of
    drain_for told cuts after E
cut =
    record {
      below_316 = refl;
      from_316 = all_after 316 38 (omega arith);
      under_way = under_way;
      leaves = leaves.0;
      leaves_less = leaves.1;
    }
