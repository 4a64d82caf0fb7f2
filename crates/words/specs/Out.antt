-- What a call returns and leaves in `out`. Assumes nothing.
use Rattle.std.specs.Prelude.{◌≡◌, ℕ, ◌+◌, ◌-◌, List, [], ◌∷◌, length, replicate, Option, Some, None}
use Rattle.error.specs.Answer.{Answer, accepted, refused, number_of, and_then}
use Rattle.demuxer.specs.Packet.{Shown}
use Rattle.demuxer.specs.Read.{ReadAnswer, packet, End}
use Rattle.demuxer.specs.Read as read
use Rattle.demuxer.specs.declared.walker.Walker.{Walker}
use Rattle.prelude.specs.declared.prelude.AmvPrelude.{AmvPrelude}

-- an answer as words: 0 and what the call gives, or the place and nothing else
abbrev pub out_of : ℕ → Answer (List ℕ) → List ℕ
out_of n (accepted words) = 0 ∷ words
out_of n (refused r) = r.place ∷ replicate (n - 1) 0

abbrev pub Accepted : {A : Type 0} → Answer A → Type 0
Accepted (accepted x) = Unit
Accepted (refused r) = ⊥

-- what a call returns, and the n words of its `out` as it leaves them; no refusal has the number 0
pub record OutSays (n : ℕ) (answer : Answer (List ℕ)) (returned : ℕ) (out : List ℕ) : Type 0 where
  pub number : returned ≡ number_of answer
  pub words : out ≡ out_of n answer
  pub zero : returned ≡ 0 → Accepted answer

-- an answer's value as words
abbrev pub given : {A : Type 0} → (A → List ℕ) → Answer A → Answer (List ℕ)
given words answer = and_then answer (λ x. accepted (words x))

-- a call that only checks gives no words
abbrev pub checked : Answer Unit → Answer (List ℕ)
checked answer = given (λ _. []) answer

-- what a refusal leaves as it was: a state's words, or lent bytes
abbrev pub unless_refused : {S : Type 0} → List ℕ → Answer S → (S → List ℕ) → List ℕ
unless_refused before (accepted s) after = after s
unless_refused before (refused r) after = before

-- no duration is 0
abbrev pub shown_duration : Option ℕ → ℕ
shown_duration (Some n) = n
shown_duration None = 0

-- a packet: 1, stream, the payload's offset and length, stamp, duration
abbrev pub packet_words : ℕ → ℕ → ℕ → ℕ → Option ℕ → List ℕ
packet_words stream start len stamp duration = 1 ∷ stream ∷ start ∷ len ∷ stamp ∷ shown_duration duration ∷ []

-- the packet that a read or a step gave: its words, or zeros for none. The payload starts past the 8 bytes at the cursor.
abbrev pub shown_words : Walker → Option Shown → List ℕ
shown_words w (Some p) = packet_words p.stream (w.position.cursor + 8) (length p.payload) p.stamp p.duration
shown_words w None = replicate 6 0

-- what a read gives: a packet, or none for End
abbrev pub read_words : Walker → ReadAnswer → Answer (List ℕ)
read_words w (packet p) = accepted (shown_words w (Some p))
read_words w End = accepted (shown_words w None)
read_words w (read.refused r) = refused r

-- the fields of a prelude in offset order, and the first chunk's offset
abbrev pub prelude_words : AmvPrelude → List ℕ
prelude_words p =
    let h = p.header in
    let f = p.audio_format in
    h.micros_per_frame ∷ h.width ∷ h.height ∷ h.fps ∷ h.flag_one ∷ h.reserved_30 ∷ h.duration_packed
    ∷ f.format_tag ∷ f.channels ∷ f.samples_per_sec ∷ f.avg_bytes_per_sec ∷ f.block_align ∷ f.bits_per_sample ∷ f.cb_size
    ∷ p.movi_payload_start ∷ []
