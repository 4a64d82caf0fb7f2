-- What each exported function answers and leaves, over the definitions of 01's and 02's calls. Assumes nothing.
use Rattle.std.specs.Prelude.{◌≡◌, ℕ, Bool, cond, List, [], ◌∷◌, ℤ}
use Rattle.error.specs.Answer.{Answer, and_then}
use Rattle.prelude.specs.Prelude.{parse_of, strict_of}
use Rattle.demuxer.specs.Read.{read_of}
use Rattle.demuxer.specs.declared.walker.Walker.{Walker}
use Rattle.chunk_index.specs.Index.{build_of}
use Rattle.chunk_index.specs.Summary.{summary_of}
use Rattle.chunk_index.specs.declared.summary.ChunkCounts.{ChunkCounts}
use Rattle.seek.specs.Seek.{seek_of}
use Rattle.muxer.specs.Writer.{WriteOutcome}
use Rattle.muxer.specs.declared.Writer.{Writer}
use Rattle.finished.specs.Check.{check_of}
use Rattle.page.specs.Page.{print_of}
use Rattle.sound.specs.Sound.{decode_of}
use Rattle.finished.specs.declared.Totals.{Totals}
use Rattle.registers.specs.Registers.{step_of}
use Rattle.words.specs.Out.{OutSays, given, checked, unless_refused, shown_words, read_words, prelude_words}
use Rattle.words.specs.State.{mark_word, walker_of, walker_words, writer_of, writer_words}

-- one number
abbrev pub single : ℕ → List ℕ
single n = n ∷ []

-- frames, blocks
abbrev pub counts_words : ChunkCounts → List ℕ
counts_words s = s.frames ∷ s.blocks ∷ []

abbrev pub summary_answer : List ℕ → Answer (List ℕ)
summary_answer file = given counts_words (summary_of file)

-- frames, blocks, samples, trailer, paired
abbrev pub totals_words : Totals → List ℕ
totals_words t = t.frames ∷ t.blocks ∷ t.samples ∷ t.trailer ∷ mark_word t.paired ∷ []

abbrev pub check_answer : List ℕ → Answer (List ℕ)
check_answer file = given totals_words (check_of file)

-- count
abbrev pub index_answer : List ℕ → List ℕ → Answer (List ℕ)
index_answer file table = given single (build_of file table).answer

-- lines
abbrev pub page_answer : List ℕ → List ℕ → Answer (List ℕ)
page_answer table page = given single (print_of table page).answer

-- /* place, count */ of a block's samples
abbrev pub samples_answer : List ℕ → List ℤ → Answer (List ℕ)
samples_answer block samples = given single (decode_of block samples).answer

-- the prelude's fields
abbrev pub parse_answer : List ℕ → Bool → Answer (List ℕ)
parse_answer file strict = given prelude_words (cond strict (strict_of file) (parse_of file))

-- the walker's words after a call
abbrev pub walker_after_call : (Walker → Walker) → List ℕ → List ℕ
walker_after_call next ws = unless_refused ws (walker_of ws) (λ w. walker_words (next w))

-- what a call over a walker's words returns and leaves: `out`, of n words, and the walker's
pub record WalkerCall (n : ℕ) (answer : Walker → Answer (List ℕ)) (next : Walker → Walker) (ws : List ℕ) (returned : ℕ) (out wsAfter : List ℕ) : Type 0 where
  pub says : OutSays n (and_then (walker_of ws) answer) returned out
  pub walker : wsAfter ≡ walker_after_call next ws

-- a packet or End
abbrev pub next_answer : List ℕ → Walker → Answer (List ℕ)
next_answer file w = read_words w (read_of file w).answer

abbrev pub next_walker : List ℕ → Walker → Walker
next_walker file w = (read_of file w).walker

-- the stamp
abbrev pub seek_answer : List ℕ → ℕ → ℤ → Walker → Answer (List ℕ)
seek_answer table stream request w = given single (seek_of table w stream request).answer

abbrev pub seek_walker : List ℕ → ℕ → ℤ → Walker → Walker
seek_walker table stream request w = (seek_of table w stream request).walker

-- the packet of a step's read, or none
abbrev pub step_answer : List ℕ → List ℕ → List ℕ → Walker → Answer (List ℕ)
step_answer file table block w = given (shown_words w) (step_of file table w block).answer

abbrev pub step_walker : List ℕ → List ℕ → List ℕ → Walker → Walker
step_walker file table block w = (step_of file table w block).walker

-- the block after a step
abbrev pub block_after_call : List ℕ → List ℕ → List ℕ → List ℕ → List ℕ
block_after_call file table ws block = unless_refused block (walker_of ws) (λ w. (step_of file table w block).block)

-- what a step over a walker's words returns and leaves, by the block before it: `out` and the walker's words, and the block after it
pub record StepCall (file table ws before : List ℕ) (returned : ℕ) (out wsAfter after : List ℕ) : Type 0 where
  pub call : WalkerCall 7 (step_answer file table before) (step_walker file table before) ws returned out wsAfter
  pub block : after ≡ block_after_call file table ws before

-- the writer's words and the buffer after a writing call
abbrev pub writer_after_call : (Writer → WriteOutcome) → List ℕ → List ℕ
writer_after_call call ws = unless_refused ws (writer_of ws) (λ w. writer_words (call w).writer)

abbrev pub buffer_after_call : (Writer → WriteOutcome) → List ℕ → List ℕ → List ℕ
buffer_after_call call ws buf = unless_refused buf (writer_of ws) (λ w. (call w).buffer)

-- what a writing call over a writer's words returns and leaves: `out`, the writer's words and the buffer
pub record WriterCall (call : Writer → WriteOutcome) (ws buf : List ℕ) (returned : ℕ) (out wsAfter bufAfter : List ℕ) : Type 0 where
  pub says : OutSays 1 (and_then (writer_of ws) (λ w. checked (call w).answer)) returned out
  pub writer : wsAfter ≡ writer_after_call call ws
  pub buffer : bufAfter ≡ buffer_after_call call ws buf
