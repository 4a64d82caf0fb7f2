-- What a refused call leaves: 01's "It returns the state it was given and changes no lent byte". Assumes nothing.
use Rattle.std.specs.Prelude.{◌≡◌, ℕ, List, ℤ, length}
use Rattle.error.specs.Answer.{refused, and_then}
use Rattle.error.specs.declared.Refusal.{Refusal}
use Rattle.chunk_index.specs.Index.{build_of}
use Rattle.page.specs.Page.{print_of}
use Rattle.sound.specs.Sound.{decode_of}
use Rattle.recording.specs.WriteLists.{WriteCall}
use Rattle.words.specs.Out.{checked}
use Rattle.words.specs.State.{walker_of, writer_of}
use Rattle.capi.specs.Calls.{index_answer, page_answer, samples_answer, walker_after_call, next_answer, next_walker, seek_answer, seek_walker}
use Rattle.capi.specs.Calls.{step_answer, step_walker, block_after_call, writer_after_call, buffer_after_call}
use Rattle.capi.specs.Lists.{step}

-- every word of the state, every byte of the table, page, block or buffer and every sample is as it was
pub record RefusalsKeep : Type 0 where
  pub index : (file table : List ℕ) (r : Refusal) → index_answer file table ≡ refused r → (build_of file table).table ≡ table
  pub page : (table page : List ℕ) (r : Refusal) → page_answer table page ≡ refused r → (print_of table page).page ≡ page
  pub samples : (block : List ℕ) (samples : List ℤ) (r : Refusal) → samples_answer block samples ≡ refused r
      → (decode_of block samples).samples ≡ samples
  pub next : (file ws : List ℕ) (r : Refusal) → length ws ≡ 7 → and_then (walker_of ws) (next_answer file) ≡ refused r
      → walker_after_call (next_walker file) ws ≡ ws
  pub seek : (table ws : List ℕ) (stream : ℕ) (request : ℤ) (r : Refusal) → length ws ≡ 7
      → and_then (walker_of ws) (seek_answer table stream request) ≡ refused r → walker_after_call (seek_walker table stream request) ws ≡ ws
  pub write : (buf ws : List ℕ) (c : WriteCall) (r : Refusal) → length ws ≡ 9
      → and_then (writer_of ws) (λ w. checked (step buf c w).answer) ≡ refused r
      → (writer_after_call (step buf c) ws ≡ ws) × (buffer_after_call (step buf c) ws buf ≡ buf)
  -- of a step: 74 and 75 "change no byte", and 1 none either
  pub step : (file table ws block : List ℕ) (r : Refusal) → length ws ≡ 7 → and_then (walker_of ws) (step_answer file table block) ≡ refused r
      → (walker_after_call (step_walker file table block) ws ≡ ws) × (block_after_call file table ws block ≡ block)
