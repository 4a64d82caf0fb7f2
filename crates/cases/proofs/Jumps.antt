-- Reads and jumps on a recording that is cut, computed call by call. Assumes nothing.
use mathlib.Core.Path.{refl}
use Rattle.chunk.specs.Interleave.{interleave_from}
use Rattle.fields.specs.Le.{le, le_bytes}
use Rattle.parse.specs.Header.{header_fields, header_sentinels}
use Rattle.parse.specs.Preamble.{preamble_of}
use Rattle.parse.specs.WaveFormat.{cb_size_of, wave_format_fields, wave_format_sentinels}
use Rattle.prelude.specs.Built.{prelude_bytes}
use Rattle.prelude.specs.Layout.{layout, ask_word, ask_body, ask_items}
use Rattle.prelude.specs.Prelude.{prelude_fields, parse_of, zeros, zero_ranges, validated_of, strict_of}
use Rattle.demuxer.specs.Head.{head_at, count_of}
use Rattle.demuxer.specs.Position.{in_range}
use Rattle.demuxer.specs.Read.{read_frame, read_sound, read_chunk, read_of}
use Rattle.walk.specs.Walk.{step_at, walk_for, walk}
use Rattle.walk.specs.Chunks.{chunk_bytes, chunks_bytes}
use Rattle.chunk_index.specs.Entry.{entry_bytes, table_bytes, entry_at, entries_from}
use Rattle.chunk_index.specs.Index.{records, tags_known, index_of}
use Rattle.finished.specs.Check.{tags_of, check_from, check_of}
use Rattle.table.specs.Table.{ask_each}
use Rattle.seek.specs.Seek.{seek_questions, find, past_last, seek_of}
use Rattle.recording.specs.Drain.{drain_from}
use Rattle.recording.specs.Machine.{first, machine_step, call}
use Rattle.recording.specs.Indexed.{wholes_of, recorded_of, file_step}
use Rattle.cases.specs.Jumps.{after316, J, ran, Jumps}

pub jumps : Jumps
unfolding interleave_from le le_bytes header_fields header_sentinels preamble_of cb_size_of wave_format_fields wave_format_sentinels prelude_bytes layout ask_word ask_body
    ask_items prelude_fields parse_of zeros zero_ranges validated_of strict_of head_at count_of in_range read_frame read_sound read_chunk read_of step_at walk_for walk
    chunk_bytes chunks_bytes entry_bytes table_bytes entry_at entries_from records tags_known index_of tags_of check_from check_of ask_each seek_questions find past_last
    seek_of drain_from first machine_step call wholes_of recorded_of file_step after316 J ran
jumps =
    record {
      finished = refl;
      whole_index = record { entries = _; indexed = refl; is = refl };
      cut_index = record { entries = _; indexed = refl; is = refl };
      shorter_index = record { entries = _; indexed = refl; is = refl };
      cut = refl;
      sent = refl;
      shorter = refl;
      cut_frame = refl;
      whole = refl;
      any_prelude = refl;
      empty = refl;
      empty_read = refl;
      goes_there = (refl, refl, refl);
      goes_to_end_lem = (refl, refl);
      damaged = refl;
      before = (refl, refl);
    }
