-- `page::print_index` meets its contract. Refused by the questions, it leaves the page; accepted, its lines are those of `put_lines`, which the questions
-- have made room for (`passed`).
-- Assumes nothing.
use native.Mathlib.Omega.{arith}
use Rattle.std.proofs.Common.{rules}
use mathlib.Core.Path.{sym, ap, ◌∙◌}
use Prim.Native.Nat.{ℕ, ◌/◌}
use lib.ListN.{length}
use Rattle.error.proofs.Answers.{passed_on}
use Rattle.error.specs.Answer.{accepted}
use Rattle.chunk_index.specs.Entry.{entry_len}
use Rattle.chunk_index.proofs.Entries.{length-entries}
use Rattle.page.specs.Page.{Printing}
use Rattle.page.proofs.Lines.{questions_passed, print_refused, printed}
use Rattle.page.proofs.print_index.Goals as goal

pub put_lines-requires : goal.put_lines-requires
put_lines-requires c =
    let p = questions_passed c.args.table.now _ (sym c.in_ok-ask_page.ensures) in
    record { table_in_bounds = rw (c.new-text.ensures.len, c.new-text.ensures.bytes) (omega (arith, p.fits)); table_value = p.narrow }

pub returns-in_err-ask_page : goal.returns-in_err-ask_page
returns-in_err-ask_page c =
    let a = c.args in
    let p = print_refused a.table.now a.page.now (sym c.in_err-ask_page.ensures) in
    record {
      result_value = passed_on _ _ c.from_residual.ensures ∙ ap (λ (r : Printing). r.answer) (sym p);
      page_after = ap (λ (r : Printing). r.page) (sym p);
    }

pub returns : goal.returns
returns c =
    let a = c.args in
    let t = a.table.now in
    let p = printed t a.page.now (sym c.in_ok-ask_page.ensures) in
    let n = length-entries (length t / entry_len) t 0 in
    let w = rw (c.new-text.ensures.len, c.new-text.ensures.bytes) at c.put_lines.ensures.written.bytes in
    record {
      result_value = ap {A = ℕ} accepted (sym n) ∙ ap (λ (r : Printing). r.answer) (sym p);
      page_after = rw (p, ← w) (search rules);
    }
