-- `fields::read_le` meets its contract: what the bytes of the part spell is the field (`le_part`). Assumes nothing.
use mathlib.Core.Path.{◌∙◌}
use Prim.Native.Nat.{◌+◌, ◌-◌}
use native.Mathlib.Omega.{arith}
use Rattle.fields.proofs.Laws.{le_part}
use Rattle.fields.proofs.read_le.Goals as goal

pub returns : goal.returns
returns g c =
    let a = c.args in
    c.load.ensures
    ∙ le_part g.T.LittleEndian.WIDTH (a.off + c.WIDTH.result - a.off) a.buf.now a.off (omega (arith, c.WIDTH.ensures))
