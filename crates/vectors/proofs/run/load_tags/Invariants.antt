-- The invariant of the loop of `vectors::run::load_tags`: the array has the first `i` tags at its front.
use Rattle.std.proofs.Common.{◌≡◌}
use Rattle.fields.specs.Le.{put}
use Rattle.vectors.specs.Cases.{tags_in}
use Rattle.vectors.proofs.run.load_tags.Given as goal

abbrev pub invariant-loop-i : goal.invariant-loop-i
invariant-loop-i l = l.to ≡ put l.fn.to 0 (tags_in l.bytes l.i)
