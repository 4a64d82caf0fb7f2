-- Document 01's ten cases and what 02 says of them hold: antt computes them. Assumes nothing.
use mathlib.Core.Path.{refl}
use borrow.Author.Tests.{ne_eqb}
use Rattle.fields.specs.Le.{le, le_bytes}
use Rattle.duration.specs.Duration.{packed_of, run_length, of_seconds}
use Rattle.duration.specs.OnlyAboveCap.{run_length_before}
use Rattle.chunk.specs.Interleave.{interleave_from}
use Rattle.parse.specs.Header.{header_fields, header_sentinels}
use Rattle.parse.specs.Preamble.{preamble_of}
use Rattle.parse.specs.WaveFormat.{cb_size_of, wave_format_fields, wave_format_of, wave_format_sentinels}
use Rattle.prelude.specs.Built.{prelude_bytes}
use Rattle.prelude.specs.Layout.{layout, ask_word, ask_body, ask_items}
use Rattle.prelude.specs.Prelude.{prelude_fields, parse_of, zeros, zero_ranges, validated_of, strict_of}
use Rattle.demuxer.specs.Head.{head_at, count_of}
use Rattle.demuxer.specs.Packet.{payload_of, shown_of}
use Rattle.demuxer.specs.Position.{in_range}
use Rattle.demuxer.specs.Read.{read_frame, read_sound, read_chunk, read_of}
use Rattle.walk.specs.Walk.{step_at, walk_for, walk}
use Rattle.walk.specs.Chunks.{chunk_bytes, chunks_bytes}
use Rattle.chunk_index.specs.Entry.{entry_bytes, table_bytes, entry_at, entries_from}
use Rattle.chunk_index.specs.Index.{records, tags_known, index_of}
use Rattle.chunk_index.specs.Summary.{counts_from, summary_of}
use Rattle.table.specs.Table.{ask_each}
use Rattle.seek.specs.Seek.{seek_questions, find, past_last, seek_of}
use Rattle.finished.specs.Check.{tags_of, check_from, check_of}
use Rattle.cases.specs.Cases.{Cases}
use Rattle.cases.specs.Example.{E}

pub cases : Cases
unfolding le le_bytes packed_of run_length of_seconds run_length_before interleave_from header_fields header_sentinels cb_size_of wave_format_fields wave_format_of
    wave_format_sentinels prelude_bytes layout ask_word ask_body ask_items prelude_fields parse_of zeros zero_ranges validated_of strict_of preamble_of head_at count_of
    payload_of shown_of in_range read_frame read_sound read_chunk read_of step_at walk_for walk chunk_bytes chunks_bytes entry_bytes table_bytes entry_at entries_from
    records tags_known index_of counts_from summary_of ask_each seek_questions find past_last seek_of tags_of check_from check_of E
cases =
    record {
      one = refl;
      two_before = refl;
      two = refl;
      three_million = refl;
      three_needs_one = λ micros n. rw (ne_eqb micros 1 n);
      three_more = refl;
      three_needs_none = λ micros n. rw (ne_eqb micros 0 n);
      three_refused = refl;
      four = refl;
      four_needs = λ average n. rw (ne_eqb average 4294967295 n);
      five_none = refl;
      five_v = refl;
      five_va = refl;
      five_a = refl;
      five_vv = refl;
      six_17 = λ body e. rw e;
      six_18 = λ body e. rw e;
      six_cb = λ body e. rw e;
      size = refl;
      indexed = refl;
      seven = refl;
      seven_stamp = refl;
      eight_walker = refl;
      eight_stamp = refl;
      nine_packet = refl;
      nine_end = refl;
      nine_344 = refl;
      nine_343 = refl;
      nine_342 = refl;
      nine_summary = refl;
      nine_whole = refl;
      ten = λ byte. refl;
      ten_passes = refl;
    }
