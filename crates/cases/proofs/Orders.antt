-- The order of the questions, computed: each table by one test. Assumes nothing.
use mathlib.Core.Path.{refl}
use mathlib.Core.List.{[], ◌∷◌}
use native.Mathlib.Omega.{arith}
use Rattle.fields.specs.Le.{le, le_bytes, put}
use Rattle.duration.specs.Duration.{packed_of, unpacked_of, run_length, of_seconds}
use Rattle.duration.specs.OnlyAboveCap.{run_length_before}
use Rattle.chunk.specs.Chunk.{video_tag, chunk_header_of, chunk_header_at}
use Rattle.chunk.specs.Interleave.{interleave_from}
use Rattle.parse.specs.Header.{header_fields, header_sentinels}
use Rattle.parse.specs.Preamble.{preamble_of}
use Rattle.parse.specs.WaveFormat.{cb_size_of, wave_format_fields, wave_format_sentinels}
use Rattle.prelude.specs.Built.{prelude_bytes}
use Rattle.prelude.specs.Layout.{layout, ask_word, ask_body, ask_items}
use Rattle.prelude.specs.Prelude.{prelude_fields, parse_of, zeros, zero_ranges, validated_of, strict_of}
use Rattle.demuxer.specs.Position.{in_range}
use Rattle.demuxer.specs.Read.{read_of}
use Rattle.chunk_index.specs.Entry.{entry_bytes, table_bytes, entry_at, entries_from}
use Rattle.table.specs.Table.{ask_each}
use Rattle.seek.specs.Seek.{seek_questions, find, past_last, seek_of}
use Rattle.seek.specs.StreamFirst.{questions_before, seek_before}
use Rattle.muxer.specs.Writer.{header_questions, header_call, packet_questions, packet_call, patch_run_length, trailer_questions, trailer_call}
use Rattle.finished.specs.Check.{check_of}
use Rattle.cases.specs.Cases.{position}
use Rattle.cases.specs.Numbers.{P}
use Rattle.cases.specs.Orders.{spoiling, each_first, each_cut, Orders}

pub orders : Orders
unfolding le le_bytes put interleave_from header_fields header_sentinels cb_size_of wave_format_fields wave_format_sentinels preamble_of chunk_header_of prelude_bytes
    layout ask_word ask_body ask_items prelude_fields parse_of zeros zero_ranges validated_of strict_of in_range read_of check_of header_questions header_call
    packet_questions packet_call trailer_questions trailer_call patch_run_length packed_of unpacked_of run_length of_seconds run_length_before spoiling each_first
    each_cut P chunk_header_at entry_bytes table_bytes entry_at entries_from ask_each seek_questions find past_last seek_of questions_before seek_before
orders =
    record {
      parsed = refl;
      strict = refl;
      cut = refl;
      ended_late = refl;
      check_prelude = refl;
      stream_first_lem = refl;
      length_second = refl;
      records_third = refl;
      walker_last = refl;
      stream_before = refl;
      stream_now = refl;
      both_wrong = record { no_stream = omega arith; ragged = λ e. omega arith };
      stream_alone = λ b. b.ragged refl;
      table_alone = λ b. let h = b.no_stream in omega arith;
      second_bad =
          record {
            before = record { tag = video_tag; position = position 316 0 0 0 } ∷ [];
            first = record { tag = 0; position = position 0 0 0 0 };
            later = [];
            is = refl;
            passed = (refl, tt);
            no = refl;
            there = refl;
          };
      none_bad = record { whole = refl; records = (refl, (refl, tt)) };
      fresh_near = record { cursor_in = omega arith; frames_in = omega arith; samples_in = omega arith; blocks_in = omega arith };
      farther_not = λ r. let h = r.cursor_in in omega arith;
      fifty_first = refl;
      fifty_one_packet = refl;
      fifty_one_trailer = refl;
      fifty_five_packet = refl;
      fifty_five_trailer = refl;
      fifty_six = λ payload e. refl;
      count_last = refl;
      header = refl;
      header_at = refl;
      header_at_short = refl;
      preamble = refl;
      packed = refl;
      unpacked = refl;
      run_length_lem = refl;
      no_fps = refl;
      before_cap = refl;
      at_cap = refl;
      trailer_cap = refl;
      far_before = refl;
      above_cap = record { rate = omega arith; above = omega arith };
      up_to_cap = λ a. let h = a.above in omega arith;
      no_rate = λ a. let h = a.rate in omega arith;
    }
