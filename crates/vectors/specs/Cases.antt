-- How a stored case is taken apart. Assumes nothing.
use Rattle.std.specs.Prelude.{◌≡◌, ℕ, zero, suc, ◌+◌, ◌*◌, ◌%◌, ◌<◌, ◌≤◌, min, cond, List, [], ◌∷◌, ◌++◌, length, take, drop, ℤ, pos, negsuc, ◌==◌, slice_index, slice_range, Option, None, Some, Ok, Err}
use Rattle.std.specs.declared.result.Result.{Result}
use Rattle.fields.specs.Le.{le}
use Rattle.chunk_index.specs.Index.{build_of}
use Rattle.page.specs.Page.{print_of}
use Rattle.muxer.specs.Writer.{header_call, packet_call, trailer_call}
use Rattle.capi.specs.Calls.{block_after_call, buffer_after_call}
use Rattle.vectors.specs.declared.case.Case.{Case}
use Rattle.vectors.specs.declared.case.Cut.{Cut}
use Rattle.vectors.specs.declared.function.Function.{Function}
use Rattle.vectors.specs.declared.function.Function.TheVariants.{BuildChunkIndex, WriteHeader, WritePacket, PrintIndex, RegisterStep}
use Rattle.vectors.specs.Functions.{Names}

-- a case: a byte that names its function, the lengths of two byte strings, twelve words, then the two strings. Where the second of them begins
abbrev pub second_at : List ℕ → ℕ → ℕ
second_at input at = at + 113 + le 8 input (at + 1)

-- where the case ends
abbrev pub case_end : List ℕ → ℕ → ℕ
case_end input at = at + 113 + le 8 input (at + 1) + le 8 input (at + 9)

-- its twelve words: three parameters, and nine words of a state
abbrev pub head_of : List ℕ → ℕ → List ℕ
head_of input at =
    le 8 input (at + 17) ∷ le 8 input (at + 25) ∷ le 8 input (at + 33) ∷ le 8 input (at + 41) ∷ le 8 input (at + 49) ∷ le 8 input (at + 57)
    ∷ le 8 input (at + 65) ∷ le 8 input (at + 73) ∷ le 8 input (at + 81) ∷ le 8 input (at + 89) ∷ le 8 input (at + 97) ∷ le 8 input (at + 105) ∷ []

-- the parts of a case that the input has whole
pub record Whole (input : List ℕ) (at : ℕ) (c : Case) : Type 0 where
  pub named : Names (slice_index input at) c.function
  pub head : c.words ≡ head_of input at
  pub first_string : c.first.now ≡ slice_range input (at + 113) (second_at input at)
  pub second_string : c.second.now ≡ slice_range input (second_at input at) (case_end input at)
  pub next : c.end ≡ case_end input at
  pub there : case_end input at ≤ length input

-- a case taken apart, or that the input ends before its end
abbrev pub Parts : List ℕ → ℕ → Option Case → Type 0
Parts input at (Some c) = Whole input at c
Parts input at None = length input < case_end input at

-- a step over the cases of an input: from one offset to the next, or to the input's end where it ends inside a case
abbrev pub Steps : List ℕ → ℕ → Option (Result Case Cut) → ℕ → Type 0
Steps input at None after = (length input ≤ at) × (after ≡ at)
Steps input at (Some (Ok c)) after = (at < length input) × Parts input at (Some c) × (after ≡ c.end)
Steps input at (Some (Err cut)) after = (at < length input) × Parts input at None × (cut.at ≡ at) × (after ≡ length input)

-- a signed request: -1 by the mark 1, -2^63 by the mark 2
abbrev pub request_of : ℕ → ℕ → ℤ
request_of request mark = cond (mark == 1) (negsuc 0) (cond (mark == 2) (negsuc 9223372036854775807) (pos (request % 9223372036854775808)))

-- the state in a case's words: a walker's seven, a writer's nine
abbrev pub walker_in : List ℕ → List ℕ
walker_in head =
    slice_index head 3 ∷ slice_index head 4 ∷ slice_index head 5 ∷ slice_index head 6 ∷ slice_index head 7 ∷ slice_index head 8 ∷ slice_index head 9 ∷ []

abbrev pub writer_in : List ℕ → List ℕ
writer_in head =
    slice_index head 3 ∷ slice_index head 4 ∷ slice_index head 5 ∷ slice_index head 6 ∷ slice_index head 7 ∷ slice_index head 8 ∷ slice_index head 9 ∷ slice_index head 10
    ∷ slice_index head 11 ∷ []

-- the first n tags of some bytes, four bytes each
unfoldable pub tags_in : List ℕ → ℕ → List ℕ
tags_in bytes zero = []
tags_in bytes (suc n) = tags_in bytes n ++ (le 4 bytes (4 * n) ∷ [])

-- the stream in a case's words: the low 32 bits of the first
abbrev pub stream_in : List ℕ → ℕ
stream_in head = slice_index head 0 % 4294967296

-- the file and the table in a step's bytes: the file first, as long as the first word says, or all of them where it says more
abbrev pub file_len : List ℕ → List ℕ → ℕ
file_len bytes head = min (length bytes) (slice_index head 0)

abbrev pub file_in : List ℕ → List ℕ → List ℕ
file_in bytes head = take (file_len bytes head) bytes

abbrev pub table_in : List ℕ → List ℕ → List ℕ
table_in bytes head = drop (file_len bytes head) bytes

-- the lent bytes after a case's call: a table, a page, a register block, or a writer's buffer
abbrev pub lent_after : Function → List ℕ → List ℕ → List ℕ → List ℕ
lent_after BuildChunkIndex bytes head lent = (build_of bytes lent).table
lent_after WriteHeader bytes head lent = buffer_after_call (λ w. header_call w lent) (writer_in head) lent
lent_after WritePacket bytes head lent = buffer_after_call (λ w. packet_call w bytes (stream_in head) lent) (writer_in head) lent
lent_after PrintIndex bytes head lent = (print_of bytes lent).page
lent_after RegisterStep bytes head lent = block_after_call (file_in bytes head) (table_in bytes head) (walker_in head) lent
lent_after _ bytes head lent = buffer_after_call (λ w. trailer_call w lent) (writer_in head) lent
