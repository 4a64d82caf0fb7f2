-- A list of writing calls as numbers, its verdicts as numbers, and the claim about them. Assumes nothing.
use Rattle.std.specs.Prelude.{◌≡◌, ℕ, ◌*◌, ◌≤◌, ◌<◌, Bool, true, false, cond, List, [], ◌∷◌, eqb, length, get_or, take}
use Rattle.std.specs.Prelude.{None, Result, Ok, Err}
use Rattle.error.specs.Answer.{Answer, number_of, place_of}
use Rattle.fields.specs.Le.{put}
use Rattle.demuxer.specs.Packet.{payload_of}
use Rattle.muxer.specs.Writer.{fresh}
use Rattle.muxer.specs.declared.Settings.{Settings}
use Rattle.muxer.specs.declared.Writer.{Writer}
use Rattle.recording.specs.WriteLists.{WriteCall, header, packet, trailer, write_step, writer_after, buffer_after, WritesAgreed}
use Rattle.rows.specs.Rows.{one_length, calls_from, CallStep, rows_of, numbers, rows_in}
use Rattle.rows.specs.declared.RowsError.{RowsError}
use Rattle.rows.specs.declared.RowsError.TheVariants.{Unequal, NoRoom}

-- a list of calls as numbers
pub record Lists : Type 0 where
  pub kinds : List ℕ
  pub streams : List ℕ
  pub starts : List ℕ
  pub lens : List ℕ
  pub payloads : List ℕ

abbrev pub lists : List ℕ → List ℕ → List ℕ → List ℕ → List ℕ → Lists
lists kinds streams starts lens payloads = record { kinds = kinds; streams = streams; starts = starts; lens = lens; payloads = payloads }

-- a call by its kind: 0 a header, 1 a packet, every other a trailer
abbrev pub call_of : ℕ → ℕ → List ℕ → WriteCall
call_of kind stream payload = cond (eqb kind 0) header (cond (eqb kind 1) (packet payload stream) trailer)

-- the part of some bytes from a start on, of a length; none of it where they do not reach so far
abbrev pub payload_in : List ℕ → ℕ → ℕ → List ℕ
payload_in payloads start len = payload_of payloads (record { stream = 0; start = start; len = len; stamp = 0; duration = None })

abbrev pub call_at : Lists → ℕ → WriteCall
call_at l i = call_of (get_or l.kinds i 0) (get_or l.streams i 0) (payload_in l.payloads (get_or l.starts i 0) (get_or l.lens i 0))

abbrev pub calls_of : Lists → List WriteCall
calls_of l = calls_from (call_at l) 0 (length l.kinds)

abbrev pub verdict : Answer Unit → List ℕ
verdict a = number_of a ∷ place_of a ∷ []

-- what a call finds: the writer, and the buffer
pub record State : Type 0 where
  pub writer : Writer
  pub buffer : List ℕ

abbrev pub begun : Settings → List ℕ → State
begun s buf = record { writer = fresh s; buffer = buf }

-- a call puts its verdict, and the next one finds the writer and the buffer that it leaves
abbrev pub step : CallStep State WriteCall
step =
    record {
      row = λ s c. verdict (write_step s.writer s.buffer c).answer;
      next = λ s c. record { writer = (write_step s.writer s.buffer c).writer; buffer = (write_step s.writer s.buffer c).buffer };
    }

-- what a run of n calls leaves: the state, every byte of the buffer, every number of the verdicts and after them
pub record Run (s : Settings) (buf verdicts : List ℕ) (calls : List WriteCall) (n : ℕ) (w : Writer) (after left : List ℕ) : Type 0 where
  pub room : n * 2 ≤ length verdicts
  pub writer_is : w ≡ writer_after (fresh s) buf calls
  pub buffer_is : after ≡ buffer_after (fresh s) buf calls
  pub verdicts_are : left ≡ put verdicts 0 (numbers (rows_of step (begun s buf) calls))

-- the slices are of one length
abbrev pub equal : Lists → Bool
equal l = one_length (length l.kinds) (length l.streams ∷ length l.starts ∷ length l.lens ∷ [])

-- all calls are run, or none: slices of unequal length and verdicts without room leave every byte and number as it was
abbrev pub Replayed : Lists → Settings → List ℕ → List ℕ → Result Writer RowsError → List ℕ → List ℕ → Type 0
Replayed l s buf verdicts (Ok w) after left = (equal l ≡ true) × Run s buf verdicts (calls_of l) (length l.kinds) w after left
Replayed l s buf verdicts (Err Unequal) after left = (equal l ≡ false) × ((after ≡ buf) × (left ≡ verdicts))
Replayed l s buf verdicts (Err NoRoom) after left =
    (equal l ≡ true) × ((length verdicts < length l.kinds * 2) × ((after ≡ buf) × (left ≡ verdicts)))

-- the calls that the verdicts say were accepted
unfoldable pub accepted_by : List (List ℕ) → List WriteCall → List WriteCall
accepted_by [] cs = []
accepted_by (v ∷ vs) [] = []
accepted_by (v ∷ vs) (c ∷ cs) = cond (eqb (get_or v 0 0) 0) (c ∷ accepted_by vs cs) (accepted_by vs cs)

abbrev pub accepted_in : List ℕ → ℕ → List WriteCall → List WriteCall
accepted_in left n calls = accepted_by (rows_in 2 n left) calls

-- demand 3 for the writer, of what the function returns: the file is "the first bytes-written bytes" of the buffer
abbrev pub Kept : Lists → Settings → Result Writer RowsError → List ℕ → List ℕ → Type 0
Kept l s (Ok w) after left = WritesAgreed s (take w.written after) (accepted_in left (length l.kinds) (calls_of l))
Kept l s (Err e) after left = Unit
