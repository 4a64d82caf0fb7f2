-- The 8 bytes before the nibbles of a sound block. Assumes nothing.
use Rattle.std.specs.Prelude.{ℕ, ◌+◌, ◌-◌, ◌/◌, cond, List, leb, ltb, length, get_or}
use Rattle.std.specs.Prelude.{Result, Ok, Err}
use Rattle.std.specs.Prelude.{Option, Some, None}
use Rattle.error.specs.declared.AmvError.{AmvError}
use Rattle.error.specs.Answer.{Answer, accepted, refused, ask}
use Rattle.error.specs.Refusal.{refusal_of}
use Rattle.fields.specs.Le.{le, le_bytes}
use Rattle.parse.specs.declared.preamble.AmvAudioPreamble.{AmvAudioPreamble}

-- 01: "`AmvAudioPreamble::parse` 8? 25"; its count is "the u32 at payload 4"
unfoldable pub preamble_of : List ℕ → Answer AmvAudioPreamble
preamble_of body = ask (leb 8 (length body)) 25 0 (accepted (record { state = le 4 body 0; decoded_sample_count = le 4 body 4 }))

-- 01: "`validate_sentinels` there: count above 0? 26"
abbrev pub preamble_sentinels : AmvAudioPreamble → Answer Unit
preamble_sentinels p = ask (ltb 0 p.decoded_sample_count) 26 0 (accepted tt)

-- a byte of the block's first four
unfoldable pub state_byte : ℕ → AmvAudioPreamble → ℕ
state_byte i p = get_or (le_bytes 4 p.state) i 0

-- two samples to a byte, a last single one in a byte of its own
abbrev pub nibble_bytes : ℕ → ℕ
nibble_bytes samples = (samples + 1) / 2

-- what a block has beyond the length that it must have
abbrev pub padding_slack : ℕ → ℕ → Option ℕ
padding_slack exact total = cond (leb exact total) (Some (total - exact)) None
