-- The invariant of the loop of `play::play`: what is left to be played from here ends in the walker that playing all of it ends in, and the file
-- stays.
use Rattle.std.proofs.Common.{◌≡◌, length, ◌-◌}
use Rattle.play.specs.Recording.{played}
use Rattle.play.proofs.play.Given as goal

abbrev pub invariant-loop : goal.invariant-loop
invariant-loop g l =
    (l.reader.file ≡ l.fn.reader.file)
    × (played (l.end - l.counter) l.fn.reader.file.now l.reader.walker ≡ played (length l.fn.reader.file.now) l.fn.reader.file.now l.fn.reader.walker)
