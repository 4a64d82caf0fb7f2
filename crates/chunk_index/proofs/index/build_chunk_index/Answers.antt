-- `chunk_index::index::build_chunk_index` meets its contract. The count is that of the records, so the room that was asked is the room they
-- take; what is then written, or refused, is what the definition builds from them.
-- Assumes nothing.
use mathlib.Core.Path.{sym, ap, ◌∙◌}
use Rattle.chunk_index.specs.Steps.{count_records}
use Rattle.error.proofs.Answers.{passed_on}
use native.Mathlib.Omega.{arith}
use Rattle.error.specs.Answer.{accepted}
use Rattle.chunk_index.specs.Index.{Built}
use Rattle.chunk_index.proofs.Building.{build_limit, build_refused, counted_all, build_short, build_room}
use Rattle.chunk_index.proofs.index.build_chunk_index.Goals as goal

pub returns-in_default : goal.returns-in_default
returns-in_default c =
    let b = build_limit c.args.file.now c.args.table.now c.in_default.ensures in
    record { result_value = sym (ap (λ (x : Built). x.answer) b); table_after = sym (ap (λ (x : Built). x.table) b) }

pub returns-in_err-count : goal.returns-in_err-count
returns-in_err-count c =
    let a = c.args in
    let f = c.in-Some.ensures in
    let b = build_refused a.file.now a.table.now f.0 (ap count_records (sym f.1) ∙ sym c.in_err-count.ensures) in
    record { result_value = passed_on _ _ c.from_residual.ensures ∙ sym (ap (λ (x : Built). x.answer) b); table_after = sym (ap (λ (x : Built). x.table) b) }

pub returns-then-table-count : goal.returns-then-table-count
returns-then-table-count c =
    let a = c.args in
    let f = c.in-Some.ensures in
    let k = ap count_records (sym f.1) ∙ sym c.in_ok-count.ensures in
    let b = build_short a.file.now a.table.now f.0 k (omega (arith, c.if-table-count.true, counted_all a.file.now a.table.now f.0 k)) in
    record { result_value = sym (ap (λ (x : Built). x.answer) b); table_after = sym (ap (λ (x : Built). x.table) b) }

pub write_records-requires : goal.write_records-requires
write_records-requires c =
    let a = c.args in
    let f = c.in-Some.ensures in
    let k = ap count_records (sym f.1) ∙ sym c.in_ok-count.ensures in
    rw f.1 (omega (arith, c.if-table-count.false, counted_all a.file.now a.table.now f.0 k))

pub returns : goal.returns
returns c =
    let a = c.args in
    let f = c.in-Some.ensures in
    let k = ap count_records (sym f.1) ∙ sym c.in_ok-count.ensures in
    let n = counted_all a.file.now a.table.now f.0 k in
    let b = build_room a.file.now a.table.now f.0 k (omega (arith, c.if-table-count.false, n)) in
    record {
      result_value = ap accepted n ∙ sym (ap (λ (x : Built). x.answer) b);
      table_after = rw f.1 at c.write_records.ensures ∙ sym (ap (λ (x : Built). x.table) b);
    }
