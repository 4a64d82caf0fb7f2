-- The words of states and answers, computed. Assumes nothing.
use mathlib.Core.Path.{refl}
use Rattle.fields.specs.Le.{le, le_bytes, put}
use Rattle.chunk.specs.Interleave.{interleave_from}
use Rattle.parse.specs.Header.{header_fields, header_sentinels}
use Rattle.parse.specs.Preamble.{preamble_of}
use Rattle.parse.specs.WaveFormat.{cb_size_of, wave_format_fields, wave_format_sentinels}
use Rattle.prelude.specs.Built.{prelude_bytes}
use Rattle.prelude.specs.Layout.{layout, ask_word, ask_body, ask_items}
use Rattle.prelude.specs.Prelude.{prelude_fields, parse_of, zeros, zero_ranges, validated_of, strict_of}
use Rattle.demuxer.specs.Head.{head_at, count_of}
use Rattle.demuxer.specs.Position.{in_range}
use Rattle.demuxer.specs.Read.{read_frame, read_sound, read_chunk, read_of}
use Rattle.walk.specs.Walk.{step_at, walk_for, walk}
use Rattle.walk.specs.Chunks.{chunk_bytes, chunks_bytes}
use Rattle.chunk_index.specs.Entry.{entry_bytes, table_bytes, entry_at, entries_from}
use Rattle.chunk_index.specs.Index.{records, tags_known, index_of, build_of}
use Rattle.chunk_index.specs.Summary.{counts_from, summary_of}
use Rattle.table.specs.Table.{ask_each}
use Rattle.text.specs.Text.{digits, right}
use Rattle.page.specs.Page.{page_line, page_lines, page_questions, print_of}
use Rattle.seek.specs.Seek.{seek_questions, find, past_last, seek_of}
use Rattle.finished.specs.Check.{tags_of, check_from, check_of}
use Rattle.words.specs.State.{walker_legal, settings_legal, writer_legal}
use Rattle.cases.specs.Example.{E}
use Rattle.cases.specs.Numbers.{P, T}
use Rattle.cases.specs.Words.{Words}

pub words : Words
unfolding le le_bytes put interleave_from header_fields header_sentinels cb_size_of wave_format_fields wave_format_sentinels preamble_of prelude_bytes layout ask_word
    ask_body ask_items prelude_fields parse_of zeros zero_ranges validated_of strict_of head_at count_of in_range read_frame read_sound read_chunk read_of step_at walk_for walk
    chunk_bytes chunks_bytes entry_bytes table_bytes entry_at entries_from records tags_known index_of build_of counts_from summary_of ask_each seek_questions find
    past_last seek_of digits right page_line page_lines page_questions print_of tags_of check_from check_of walker_legal settings_legal writer_legal E P T
words =
    record {
      walker = refl;
      walker_cut = refl;
      writer = refl;
      parse = refl;
      read = refl;
      end = refl;
      seek = refl;
      index = refl;
      page = refl;
      summary = refl;
      check = refl;
      check_paired = refl;
      end_2 = refl;
      cut_2 = refl;
      large = refl;
      width = refl;
      height = refl;
      fps = refl;
      rate = refl;
      channels = refl;
      begun_2 = refl;
      ended_2 = refl;
      largest = refl;
    }
