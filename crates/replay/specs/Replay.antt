-- A list of reads and seeks as numbers, its answers as numbers, and the claim about them. Assumes nothing.
use Rattle.std.specs.Prelude.{◌≡◌, ℕ, ◌+◌, ◌*◌, ◌≤◌, ◌<◌, Bool, true, false, cond, List, [], ◌∷◌, eqb, ℤ, pos, length, get_or}
use Rattle.std.specs.Prelude.{Option, Some, None, Result, Ok, Err}
use Rattle.error.specs.Answer.{Answer, accepted, refused, numbered}
use Rattle.fields.specs.Le.{put}
use Rattle.demuxer.specs.Packet.{shown_of}
use Rattle.demuxer.specs.Read.{ReadAnswer, packet, End, fresh}
use Rattle.demuxer.specs.Read as read_answers
use Rattle.demuxer.specs.declared.walker.Walker.{Walker}
use Rattle.recording.specs.Machine.{Call, read, seek, CallAnswer, read_answer, seek_answer, call, answers, after, OwnIndex}
use Rattle.recording.specs.Indexed.{FileAgreed}
use Rattle.rows.specs.Rows.{one_length, calls_from, CallStep, rows_of, numbers, rows_in}
use Rattle.rows.specs.declared.RowsError.{RowsError}
use Rattle.rows.specs.declared.RowsError.TheVariants.{Unequal, NoRoom}
use Rattle.replay.specs.declared.Row.{Row}

-- a call as numbers: its kind, 0 for a read, and for a seek its stream and request
abbrev pub call_of : ℕ → ℕ → ℤ → Call
call_of kind stream request = cond (eqb kind 0) read (seek stream request)

-- call i of the slices
abbrev pub call_at : List ℕ → List ℕ → List ℤ → ℕ → Call
call_at kinds streams requests i = call_of (get_or kinds i 0) (get_or streams i 0) (get_or requests i (pos 0))

abbrev pub calls_of : List ℕ → List ℕ → List ℤ → List Call
calls_of kinds streams requests = calls_from (call_at kinds streams requests) 0 (length kinds)

-- a row's six numbers
abbrev pub row_words : Row → List ℕ
row_words r = r.said ∷ r.first ∷ r.second ∷ r.third ∷ r.fourth ∷ r.fifth ∷ []

abbrev pub refusal_row : ℕ → ℕ → ℕ → Row
refusal_row said number place = record { said = said; first = number; second = place; third = 0; fourth = 0; fifth = 0 }

-- a packet's: stream, start and length of its payload, stamp and duration, if it has one
abbrev pub packet_row : ℕ → ℕ → ℕ → ℕ → Option ℕ → Row
packet_row stream start len stamp (Some n) = record { said = 1; first = stream; second = start; third = len; fourth = stamp; fifth = n }
packet_row stream start len stamp None = record { said = 2; first = stream; second = start; third = len; fourth = stamp; fifth = 0 }

-- the row of an answer to a call that a walker got: a packet's payload starts past the 8 bytes at that walker's cursor
abbrev pub read_row : Walker → ReadAnswer → Row
read_row w (packet p) = packet_row p.stream (w.position.cursor + 8) (length p.payload) p.stamp p.duration
read_row w End = refusal_row 0 0 0
read_row w (read_answers.refused r) = refusal_row 3 r.number r.place

abbrev pub sought_row : Answer ℕ → Row
sought_row (accepted stamp) = record { said = 4; first = stamp; second = 0; third = 0; fourth = 0; fifth = 0 }
sought_row (refused r) = refusal_row 5 r.number r.place

abbrev pub row_of : Walker → CallAnswer → Row
row_of w (read_answer a) = read_row w a
row_of w (seek_answer a) = sought_row a

-- a call puts the row of its answer, and the next one gets the walker that it leaves
abbrev pub step : List ℕ → List ℕ → CallStep Walker Call
step file table = record { row = λ w c. row_words (row_of w (call file table w c).answer); next = λ w c. (call file table w c).walker }

-- the other way round, the answer that a row says: a packet's payload is the part of the file that the row names
abbrev pub packet_answer : List ℕ → Row → Option ℕ → CallAnswer
packet_answer file r d =
    read_answer (packet (shown_of file (record { stream = r.first; start = r.second; len = r.third; stamp = r.fourth; duration = d })))

unfoldable pub row_answer : List ℕ → Row → CallAnswer
row_answer file r =
    cond (eqb r.said 0) (read_answer End)
    (cond (eqb r.said 1) (packet_answer file r (Some r.fifth))
    (cond (eqb r.said 2) (packet_answer file r None)
    (cond (eqb r.said 3) (read_answer (read_answers.refused (numbered r.first r.second)))
    (cond (eqb r.said 4) (seek_answer (accepted r.first)) (seek_answer (refused (numbered r.first r.second)))))))

-- a row by its six numbers
abbrev pub row_by : List ℕ → Row
row_by r =
    record { said = get_or r 0 0; first = get_or r 1 0; second = get_or r 2 0; third = get_or r 3 0; fourth = get_or r 4 0; fifth = get_or r 5 0 }

unfoldable pub answers_by : List ℕ → List (List ℕ) → List CallAnswer
answers_by file [] = []
answers_by file (r ∷ rs) = row_answer file (row_by r) ∷ answers_by file rs

-- the answers that the first n rows say
abbrev pub answers_in : List ℕ → List ℕ → ℕ → List CallAnswer
answers_in file rows n = answers_by file (rows_in 6 n rows)

-- what a run of n calls leaves: the last call's walker, the calls' answers in order, and every number of the rows and after them
pub record Run (file table : List ℕ) (calls : List Call) (n : ℕ) (rows : List ℕ) (w : Walker) (left : List ℕ) : Type 0 where
  pub room : n * 6 ≤ length rows
  pub walker_is : w ≡ after file table fresh calls
  pub said_are : answers_in file left n ≡ answers file table fresh calls
  pub rows_are : left ≡ put rows 0 (numbers (rows_of (step file table) fresh calls))

-- the three slices are of one length
abbrev pub equal : List ℕ → List ℕ → List ℤ → Bool
equal kinds streams requests = one_length (length kinds) (length streams ∷ length requests ∷ [])

-- all calls are run, or none: slices of unequal length and rows without room leave every number as it was
abbrev pub Replayed : List ℕ → List ℕ → List ℕ → List ℕ → List ℤ → List ℕ → Result Walker RowsError → List ℕ → Type 0
Replayed file table kinds streams requests rows (Ok w) left =
    (equal kinds streams requests ≡ true) × Run file table (calls_of kinds streams requests) (length kinds) rows w left
Replayed file table kinds streams requests rows (Err Unequal) left = (equal kinds streams requests ≡ false) × (left ≡ rows)
Replayed file table kinds streams requests rows (Err NoRoom) left =
    (equal kinds streams requests ≡ true) × ((length rows < length kinds * 6) × (left ≡ rows))

-- what is claimed of reads and seeks, of what the function returns on every file whose index is accepted, and its own index; of a finished recording
-- that is demand 3 (recording/specs/Indexed: `IndexedFiles`, field `finished`)
abbrev pub Compared : List ℕ → List ℕ → List ℕ → List ℕ → List ℤ → Result Walker RowsError → List ℕ → Type 0
Compared file table kinds streams requests (Ok w) left =
    OwnIndex file table → FileAgreed file (calls_of kinds streams requests) w (answers_in file left (length kinds))
Compared file table kinds streams requests (Err e) left = Unit
