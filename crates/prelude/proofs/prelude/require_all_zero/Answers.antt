-- See Invariants.
use Rattle.std.proofs.Common.{◌≡◌, ◌+◌, ◌-◌, arith, sym, ◌∙◌}
use Rattle.prelude.specs.Prelude.{zeros}
use Rattle.prelude.proofs.Zeros.{zeros_on, zeros-no}
use Rattle.prelude.proofs.prelude.require_all_zero.Goals as goal

pub returns-then-file-at-ne0 : goal.returns-then-file-at-ne0
returns-then-file-at-ne0 c =
    let l = c.loop-at in
    let a = c.args in
    sym (zeros-no a.file.now l.at (a.place + a.len) (omega arith) c.if-file-at-ne0.true) ∙ l.invariant

pub loop-at-preserved : goal.loop-at-preserved
loop-at-preserved c =
    let l = c.loop-at in
    let a = c.args in
    sym (zeros_on a.file.now l.at (a.place + a.len) (omega arith) c.if-file-at-ne0.false) ∙ l.invariant

pub returns : goal.returns
unfolding zeros
returns c =
    let l = c.loop-at in
    let a = c.args in
    let e : a.place + a.len - l.at ≡ 0 = omega arith in
    rw e at l.invariant
