-- `sound::state::State::after` meets its contract: the level and the step index after the nibble are those that the two calls give.
-- Assumes nothing.
use mathlib.Core.Path.{ap, ◌∙◌}
use Prim.Native.Nat.{ℕ}
use lib.IntN.{ℤ}
use mir.Syntax.{w16, w32}
use mir.Val.{SFits}
use mir.ValLaws.{to_z-of_z}
use Rattle.std.proofs.Common.{rules}
use Rattle.sound.specs.Sound.{decode_nibble, held_level, level_after, moved_by}
use Rattle.sound.proofs.state.State.after.Goals as goal

pub returns : goal.returns
unfolding level_after
returns c =
    let s = c.self.inside in
    let nibble = c.args.nibble in
    let level : SFits w16 s.level = search rules in
    let moved : SFits w32 c.moved_level.result = record { sfits = c.moved_level.type_inv } in
    let held : SFits w16 c.held_level.result = record { sfits = c.held_level.type_inv } in
    (λ i. record {
      level =
          (to_z-of_z w16 c.held_level.result held
          ∙ c.held_level.ensures
          ∙ ap (λ (z : ℤ). held_level z) (to_z-of_z w32 c.moved_level.result moved ∙ c.moved_level.ensures)
          ∙ ap (λ (z : ℤ). held_level (moved_by nibble z c.rise.result)) (to_z-of_z w16 s.level level)
          ∙ ap (λ (by : ℕ). held_level (moved_by nibble s.level by)) c.rise.ensures)
          i;
      index = c.after.ensures i;
    })
    ∙ ap (decode_nibble nibble) c.self.view_is
