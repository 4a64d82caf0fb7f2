-- Steps on the way: what functions below the calls promise each other. Nothing here need be believed. Assumes nothing.
use Rattle.std.specs.Prelude.{Result, Ok, Err}
use Rattle.error.specs.declared.AmvError.{AmvError}
use Rattle.muxer.specs.declared.Writer.{Writer}
use Rattle.muxer.specs.declared.Wrote.{Wrote}

-- a call's answer, and the state that the next call gets: the new one, or where the call is refused the one that it was given
abbrev pub told : Writer → Result Writer AmvError → Wrote
told before (Ok next) = record { result = Ok tt; writer = next }
told before (Err e) = record { result = Err e; writer = before }
