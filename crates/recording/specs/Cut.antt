-- Which packets survive a supply drop: M-107 of document 02, as a claim about every finished recording and every length that it is cut to.
-- Assumes nothing.
use Rattle.std.specs.Prelude.{◌≡◌, ℕ, suc, ◌+◌, ◌≤◌, ◌<◌, min, Bool, true, false, cond, leb, length, take}
use Rattle.std.specs.Prelude.{Option, Some, None}
use mathlib.Core.List.{List, [], ◌∷◌, ◌++◌, Memᴰ}
use Rattle.chunk.specs.Chunk.{trailer_bytes}
use Rattle.error.specs.Answer.{accepted, refused, numbered}
use Rattle.fields.specs.File.{file_limit}
use Rattle.fields.specs.Le.{Bytes}
use Rattle.prelude.specs.Layout.{prelude_len, layout, first_cut}
use Rattle.prelude.specs.Prelude.{parse_of, strict_of}
use Rattle.demuxer.specs.Packet.{Shown}
use Rattle.demuxer.specs.Read.{packet, End, fresh, read_of}
use Rattle.demuxer.specs.declared.walker.Walker.{Walker}
use Rattle.walk.specs.Chunks.{Chunk, chunk_of, chunks_bytes}
use Rattle.walk.specs.declared.Kind.TheVariants.{Frame, Sound}
use Rattle.chunk_index.specs.Index.{index_of}
use Rattle.chunk_index.specs.Summary.{summary_of}
use Rattle.chunk_index.specs.declared.entry.ChunkIndexEntry.{ChunkIndexEntry}
use Rattle.finished.specs.Check.{check_of}
use Rattle.muxer.specs.Writer as muxer
use Rattle.muxer.specs.declared.Settings.{Settings}
use Rattle.recording.specs.Grammar.{Finished}
use Rattle.recording.specs.Drain.{drain, frames, samples, blocks}
use Rattle.recording.specs.Summary.{packet_counts}
use Rattle.recording.specs.WriteLists.{WriteCall, header, accepted_calls, writer_after, written_file, Held, Drains}

-- ---- "whose chunk ends within the cut"

-- all of a chunk: tag, length and payload
abbrev pub whole_chunk : Chunk → ℕ
whole_chunk (chunk_of kind payload) = 8 + length payload

-- and as much of it as its record in the index asks for: "A frame is recorded though its body is cut; sound only if min(8, length) payload bytes
-- are there."
abbrev pub recorded_part : Chunk → ℕ
recorded_part (chunk_of Frame payload) = 8
recorded_part (chunk_of Sound payload) = 8 + min 8 (length payload)

-- Of a list with one element for each chunk, the elements of those chunks whose first bytes, so many, end within the first n of the file. The
-- first chunk stands at an offset. All chunks are looked at: that what is kept is the beginning of the list is proved, not put here.
unfoldable pub end_within : {A : Type 0} → (Chunk → ℕ) → ℕ → ℕ → List Chunk → List A → List A
end_within part n at [] xs = []
end_within part n at (c ∷ cs) [] = []
end_within part n at (c ∷ cs) (x ∷ xs) =
    let rest = end_within part n (at + whole_chunk c) cs xs in
    cond (leb (at + part c) n) (x ∷ rest) rest

-- "exactly the packets whose chunk ends within the cut"
abbrev pub survivors : ℕ → List Chunk → List Shown
survivors n cs = end_within whole_chunk n prelude_len cs (drain cs)

-- ---- "draining"

-- reads alone, from a walker: packets until the first End, and the walker that it leaves
pub data ReadsUntilEnd (file : List ℕ) : Walker → List Shown → Walker → Type 0 where
  ends : {w last : Walker} → read_of file w ≡ record { answer = End; walker = last } → ReadsUntilEnd file w [] last
  gives : {w next last : Walker} {p : Shown} {ps : List Shown} → read_of file w ≡ record { answer = packet p; walker = next }
      → ReadsUntilEnd file next ps last → ReadsUntilEnd file w (p ∷ ps) last

-- the offset of chunk number k; where there is none, the trailer's
abbrev pub offset_of : List Chunk → ℕ → ℕ
offset_of cs k = prelude_len + length (chunks_bytes (take k cs))

-- a walker that has ended there, past k chunks, with these marks
abbrev pub ended_at : List Chunk → ℕ → Bool → Option ℕ → Walker
ended_at cs k cut trailer =
    record {
      position =
          record {
            cursor = offset_of cs k;
            frames = record { 0 = frames (take k cs) };
            samples = record { 0 = samples (take k cs) };
            blocks = record { 0 = blocks (take k cs) };
          };
      end = true;
      cut = cut;
      trailer = trailer;
    }

-- what reads, index and summary give of the first n bytes of a file with these chunks
pub record Survives (file : List ℕ) (cs : List Chunk) (n : ℕ) : Type 0 where
  -- "draining gives exactly the packets whose chunk ends within the cut .. then End with cut set", and no trailer is met
  pub drained : ReadsUntilEnd (take n file) fresh (survivors n cs) (ended_at cs (length (survivors n cs)) true None)
  -- "equal to the first ones of the full drain"
  pub first_packets : survivors n cs ≡ take (length (survivors n cs)) (drain cs)
  -- packet number k is among them exactly when its chunk ends within the cut, a second time: by where the next chunk, or the trailer, starts
  pub ends_within : (k : ℕ) → k < length cs
      → (offset_of cs (suc k) ≤ n → k < length (survivors n cs)) × (k < length (survivors n cs) → offset_of cs (suc k) ≤ n)
  -- a cut just before the trailer, or inside it, loses no packet
  pub none_lost : offset_of cs (length cs) ≤ n → survivors n cs ≡ drain cs
  -- the index has the records of the chunks that 01 records, which are the first ones of the whole file's index
  pub indexed : (es : List ChunkIndexEntry) → index_of file ≡ accepted es → index_of (take n file) ≡ accepted (end_within recorded_part n prelude_len cs es)
  pub first_records : (es : List ChunkIndexEntry)
      → end_within recorded_part n prelude_len cs es ≡ take (length (end_within recorded_part n prelude_len cs es)) es
  -- the summary counts the survivors
  pub counted : summary_of (take n file) ≡ accepted (packet_counts (survivors n cs))

-- ---- a recording that was never finished

-- of calls from a fresh writer a header was accepted and no trailer yet, with "fps above 0 and one channel", and a trailer would end within the limit
pub record UnderWay (s : Settings) (buf : List ℕ) (calls : List WriteCall) : Type 0 where
  pub held : Held s
  pub fps_positive : 0 < s.fps
  pub one_channel : s.channels ≡ 1
  pub begun : Memᴰ header (accepted_calls (muxer.fresh s) buf calls)
  pub going : (writer_after (muxer.fresh s) buf calls).ended ≡ false
  pub room : (writer_after (muxer.fresh s) buf calls).written + 8 ≤ file_limit

-- ---- the claim

-- "Whichever length a finished recording is cut to"
pub record CutRecordings : Type 0 where
  -- "the prelude reading refuses a file shorter than 316 with 11", at the first item that is not whole; so do the strict one and the check
  pub shorter : (file : List ℕ) (cs : List Chunk) → Finished file cs → (n : ℕ) → n < prelude_len
      → let place = first_cut n layout in
      (parse_of (take n file) ≡ refused (numbered 11 place))
      × (strict_of (take n file) ≡ refused (numbered 11 place))
      × (check_of (take n file) ≡ refused (numbered 11 place))
  -- from 316 on it gives what it gives of the whole
  pub opens : (file : List ℕ) (cs : List Chunk) → Finished file cs → (n : ℕ) → prelude_len ≤ n
      → (parse_of (take n file) ≡ parse_of file) × (strict_of (take n file) ≡ strict_of file)
  -- "From 316 up to one byte less than the whole": and below, where no chunk ends
  pub survives : (file : List ℕ) (cs : List Chunk) → Bytes file → Finished file cs → (n : ℕ) → n < length file → Survives file cs n
  -- the check is refused with 60 at the first chunk that does not survive, at the trailer's offset where all do
  pub checked : (file : List ℕ) (cs : List Chunk) → Finished file cs → (n : ℕ) → prelude_len ≤ n → n < length file
      → check_of (take n file) ≡ refused (numbered 60 (offset_of cs (length (survivors n cs))))
  -- "At full length the trailer is found and cut stays clear."
  pub whole : (file : List ℕ) (cs : List Chunk) → Bytes file → Finished file cs
      → ReadsUntilEnd (take (length file) file) fresh (drain cs) (ended_at cs (length cs) false (Some (offset_of cs (length cs))))
  -- The supply drops while a recording is written, so that it was never finished. Such a file is one of these cuts: followed by a trailer
  -- it is a finished recording, which drains to the packets that were accepted.
  pub unfinished : (s : Settings) (buf : List ℕ) (calls : List WriteCall) → UnderWay s buf calls
      → Drains (written_file (muxer.fresh s) buf calls ++ trailer_bytes) (accepted_calls (muxer.fresh s) buf calls)
