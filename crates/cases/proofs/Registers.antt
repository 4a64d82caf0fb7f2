-- The steps of the register block, computed byte by byte. Assumes nothing.
use mathlib.Core.Path.{refl}
use Rattle.fields.specs.Le.{le, le_bytes, put}
use Rattle.parse.specs.Preamble.{preamble_of}
use Rattle.prelude.specs.Built.{prelude_bytes}
use Rattle.demuxer.specs.Head.{head_at, count_of}
use Rattle.demuxer.specs.Position.{in_range}
use Rattle.demuxer.specs.Read.{read_frame, read_sound, read_chunk, read_of}
use Rattle.walk.specs.Chunks.{chunk_bytes, chunks_bytes}
use Rattle.chunk_index.specs.Entry.{entry_bytes, table_bytes, entry_at, entries_from}
use Rattle.table.specs.Table.{ask_each}
use Rattle.seek.specs.Seek.{seek_questions, find, past_last, seek_of}
use Rattle.recording.specs.Machine.{call}
use Rattle.registers.specs.Registers.{commanded, command_in, pending_of, block_after, step_of}
use Rattle.cases.specs.Example.{E}
use Rattle.cases.specs.Numbers.{P, T}
use Rattle.cases.specs.Registers.{Registers}

pub registers : Registers
unfolding le le_bytes put preamble_of prelude_bytes head_at count_of in_range read_frame read_sound read_chunk read_of chunk_bytes chunks_bytes entry_bytes table_bytes
    entry_at entries_from ask_each seek_questions find past_last seek_of call commanded command_in pending_of block_after step_of E P T
registers =
    record {
      seventy_four_0 = λ file table w. refl;
      seventy_four_15 = λ file table w block e. rw e;
      seventy_four_17 = λ file table w block e. rw e;
      seventy_four_not = refl;
      seventy_five_4 = λ file table w. refl;
      seventy_five_255 = λ file table w. refl;
      seventy_five_not = refl;
      length_first = refl;
      command_second = refl;
      played = (refl, (refl, (refl, (refl, (refl, (refl, (refl, (refl, tt))))))));
      cut = (refl, (refl, (refl, (refl, tt))));
      refused = (refl, (refl, (refl, (refl, tt))));
      refused_tag = refl;
      refused_record = refl;
      refused_seek = refl;
      any_table = λ table. refl;
      any_file = λ file. refl;
      any_both = λ file table. refl;
      apart_read = refl;
      apart_picture = refl;
      apart_sound = refl;
      apart_refused = refl;
      apart_none = refl;
      raised = refl;
      raised_pending = refl;
      raised_not = refl;
      stayed = refl;
      fell = refl;
      kept = refl;
      acknowledged = refl;
      acknowledged_raised = refl;
      high = refl;
      request_at = refl;
      request_above = refl;
      request_least = refl;
      request_greatest = refl;
    }
