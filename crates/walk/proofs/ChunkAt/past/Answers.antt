-- `walk::ChunkAt::past` meets its contract. The kind that was matched fixes how the position goes on, and a walked position at a header stays walked.
-- Assumes nothing.
use Prim.Native.Nat.{ℕ, ◌≤◌}
use mathlib.Core.Path.{sym, ap, ◌∙◌}
use native.Mathlib.Omega.{arith}
use lib.ListN.{length, length-take}
use Rattle.fields.specs.Capped.{u32_max}
use Rattle.demuxer.specs.Head.{count_of}
use Rattle.demuxer.specs.Position.{past_sound}
use Rattle.demuxer.specs.Read.{payload_at}
use Rattle.walk.specs.Walk.{past_by}
use Rattle.walk.specs.declared.Kind.{Kind}
use Rattle.walk.proofs.Walked.{walked_range, walked_frame, count_small, walked_sound}
use Rattle.walk.proofs.ChunkAt.past.Goals as goal

pub returns-in-Sound : goal.returns-in-Sound
returns-in-Sound c =
    let a = c.args in
    let e = c.past_sound.ensures in
    let n = c.sample_count-count.ensures in
    let payload = payload_at a.file.now a.position.cursor a.self.size in
    let l : length payload ≤ a.self.size = simp length-take (omega arith) in
    let h : count_of payload ≤ u32_max = omega (arith, n) in (
      e
          ∙ ap (λ (k : ℕ). past_sound a.position a.self.size k) n
          ∙ sym (ap (λ (k : Kind). past_by a.position k a.self.size (count_of payload)) c.in-Sound.is),
      rw (e, n)
          (walked_sound a.position c.requires.walked (omega (arith, c.requires.file_len_bound, c.requires.cursor_in_bounds)) a.self.size (count_of payload) (omega arith)
          (count_small payload a.self.size l h)),
    )
