-- What `AmvWaveFormat::new` makes passes its questions: all but the average compute, and the average is asked against itself.
-- Assumes nothing.
use mathlib.Core.Path.{refl}
use borrow.Author.Tests.{eq-eqb}
use Rattle.parse.specs.WaveFormat.{NewPasses, average_of, wave_format_sentinels}

pub new_passes : NewPasses
unfolding wave_format_sentinels
new_passes rate = rw (eq-eqb (average_of rate) (average_of rate) refl)
