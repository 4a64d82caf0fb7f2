-- `sound::put_samples` meets its contract. The loop's invariant is `Putting`, and a turn is `next`; what is stored is the sample (`stored_is`).
-- Assumes nothing.
use mathlib.Core.Path.{◌≡◌, refl, ap, ◌∙◌}
use native.Mathlib.Omega.{arith}
use native.Mathlib.Nat.{sub-zero}
use Prim.Native.Nat.{◌/◌}
use lib.ListN.{length-take}
use lib.Seq.{get_or-take}
use Rattle.sound.proofs.Stores.{next, odd_end, even-end, stored_is, rest}
use Rattle.sound.proofs.put_samples.Goals as goal

pub loop-i-init : goal.loop-i-init
loop-i-init c =
    let a = c.args in
    record { long = refl; left_is = ap (rest a.bytes.now a.samples.now a.first 0 0) (sub-zero a.count) }

pub loop-i-preserved : goal.loop-i-preserved
loop-i-preserved c =
    let bytes = c.args.bytes.now in
    let whole = length-take (c.args.count / 2) bytes in
    let first = c.after-state in
    let second = c.after-state-in-loop-i in
    next c.loop-i.invariant first.result second.result _ _ c.from-byte.result (omega arith) (omega arith)
    (c.from-byte.ensures ∙ get_or-take (c.args.count / 2) bytes c.loop-i.i 0 (omega arith))
    first.ensures
    second.ensures
    (stored_is _ first.result c.sample.type_inv c.sample.ensures)
    (stored_is _ second.result c.sample-in-loop-i.type_inv c.sample-in-loop-i.ensures)

-- ---- the last sample

pub returns-then-count-eq1 : goal.returns-then-count-eq1
returns-then-count-eq1 c =
    let whole = length-take (c.args.count / 2) c.args.bytes.now in
    let last = c.after-last in
    let end : c.args.count / 2 ≡ c.loop-i.i = omega arith in
    odd_end c.loop-i.invariant last.result _ _ (omega arith) (omega arith) (rw end at c.from.ensures) last.ensures
    (stored_is _ last.result c.sample-then-count-eq1.type_inv c.sample-then-count-eq1.ensures)

pub returns-else-count-eq1 : goal.returns-else-count-eq1
returns-else-count-eq1 c = even-end c.loop-i.invariant (omega (arith, length-take (c.args.count / 2) c.args.bytes.now))
