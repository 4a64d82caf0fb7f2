-- `rows::put_row` meets its contract, by the invariant of its loop (Invariants). Assumes nothing.
use mathlib.Core.Path.{sym, ap, ◌∙◌}
use native.Mathlib.Omega.{arith}
use Prim.Native.Nat.{ℕ, ◌+◌, ◌*◌}
use mathlib.Core.List.{List}
use lib.ListN.{get_or, set}
use Rattle.fields.proofs.Laws.{put-nothing}
use Rattle.rows.proofs.Laws.{put_more}
use Rattle.rows.proofs.put_row.Goals as goal

pub loop-k-init : goal.loop-k-init
loop-k-init g c = sym (put-nothing c.args.rows.now (c.args.i * g.row.N))

pub loop-k-preserved : goal.loop-k-preserved
loop-k-preserved g c =
    let a = c.args in
    let l = c.loop-k in
    let at = a.i * g.row.N in
    ap (λ (xs : List ℕ). set xs (at + l.k) (get_or a.row.now l.k 0)) l.invariant
    ∙ put_more a.rows.now at a.row.now l.k (omega arith) (omega arith)
