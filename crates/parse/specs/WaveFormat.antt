-- The `WAVEFORMATEX` of the sound. Assumes nothing.
use Rattle.std.specs.Prelude.{◌≡◌, ℕ, ◌*◌, min, cond, List, leb, eqb, length}
use Rattle.std.specs.Prelude.{Result, Ok, Err}
use Rattle.error.specs.declared.AmvError.{AmvError}
use Rattle.error.specs.Answer.{Answer, accepted, refused, ask}
use Rattle.error.specs.Refusal.{refusal_of}
use Rattle.fields.specs.Capped.{u32_max}
use Rattle.fields.specs.Le.{le}
use Rattle.parse.specs.declared.wave_format.AmvWaveFormat.{AmvWaveFormat}

-- 01: "cbSize is 0 under 20"
unfoldable pub cb_size_of : List ℕ → ℕ
cb_size_of body = cond (leb 20 (length body)) (le 2 body 16) 0

-- Microsoft's WAVEFORMATEX
unfoldable pub wave_format_fields : List ℕ → AmvWaveFormat
wave_format_fields body =
    record {
      format_tag = le 2 body 0;
      channels = le 2 body 2;
      samples_per_sec = le 4 body 4;
      avg_bytes_per_sec = le 4 body 8;
      block_align = le 2 body 12;
      bits_per_sample = le 2 body 14;
      cb_size = cb_size_of body;
    }

-- 01: "`AmvWaveFormat::parse` 18? 27"
unfoldable pub wave_format_of : List ℕ → Answer AmvWaveFormat
wave_format_of body = ask (leb 18 (length body)) 27 0 (accepted (wave_format_fields body))

-- 01: "twice the rate capped at 4,294,967,295"
abbrev pub average_of : ℕ → ℕ
average_of rate = min (rate * 2) u32_max

-- the original's `AmvWaveFormat::new`: one channel of 16-bit PCM at a rate
abbrev pub new_wave_format : ℕ → AmvWaveFormat
new_wave_format rate =
    record {
      format_tag = 1;
      channels = 1;
      samples_per_sec = rate;
      avg_bytes_per_sec = average_of rate;
      block_align = 2;
      bits_per_sample = 16;
      cb_size = 0;
    }

-- 01: "Format 1? 19. One channel? 20. Average as written above? 21. Align 2? 22. Bits 16? 23. cbSize 0? 24. Places: field offsets."
unfoldable pub wave_format_sentinels : AmvWaveFormat → Answer Unit
wave_format_sentinels f =
    ask (eqb f.format_tag 1) 19 284
    (ask (eqb f.channels 1) 20 286
    (ask (eqb f.avg_bytes_per_sec (average_of f.samples_per_sec)) 21 292
    (ask (eqb f.block_align 2) 22 296
    (ask (eqb f.bits_per_sample 16) 23 298
    (ask (eqb f.cb_size 0) 24 300
    (accepted tt))))))

-- what `new` makes is accepted, at every rate
abbrev pub NewPasses : Type 0
NewPasses = (rate : ℕ) → wave_format_sentinels (new_wave_format rate) ≡ accepted tt
