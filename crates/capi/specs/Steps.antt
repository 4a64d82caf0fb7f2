-- Steps on the way: what functions below the step of a register block promise it. Nothing here need be believed. Assumes nothing.
use Rattle.std.specs.Prelude.{◌≡◌, ℕ, List, ◌∷◌}
use Rattle.std.specs.Int.{w64}
use Rattle.std.proofs.Common.{to_z}
use Rattle.error.specs.Answer.{accepted}
use Rattle.demuxer.specs.Read.{read_of}
use Rattle.demuxer.specs.declared.walker.Walker.{Walker}
use Rattle.recording.specs.Machine.{read_answer, seek_answer}
use Rattle.registers.specs.Registers.{Performed, done_of, packet_of}
use Rattle.registers.specs.Steps.{told_by}
use Rattle.registers.specs.declared.Told.{Told}
use Rattle.seek.specs.Seek.{seek_of}
use Rattle.words.specs.Out.{shown_words}
use Rattle.words.specs.State.{walker_of, walker_words}

-- a command that was performed on the words of a walker: what is told of it, `out`, and the walker's words after it
pub record DoneInWords (w : Walker) (p : Performed) (told : Told) (out wsAfter : List ℕ) : Type 0 where
  pub tells : told ≡ told_by p.done
  pub words : out ≡ 0 ∷ shown_words w (packet_of p.done)
  pub walker : wsAfter ≡ walker_words p.walker

-- on whichever walker the words spell
abbrev pub Performs : (Walker → Performed) → List ℕ → Told → List ℕ → List ℕ → Type 0
Performs performed ws told out wsAfter =
    (w : Walker) → walker_of ws ≡ accepted w → DoneInWords w (performed w) told out wsAfter

-- a read
abbrev pub read_performed : List ℕ → Walker → Performed
read_performed file w = record { done = done_of (read_answer (read_of file w).answer); walker = (read_of file w).walker }

-- a seek, by its request's bits
abbrev pub seek_performed : List ℕ → ℕ → ℕ → Walker → Performed
seek_performed table stream request w =
    record { done = done_of (seek_answer (seek_of table w stream (to_z w64 request)).answer); walker = (seek_of table w stream (to_z w64 request)).walker }
