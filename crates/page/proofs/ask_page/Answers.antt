-- `page::ask_page` meets its contract. 41 and 43 are what `ask_table` says (`table_ok`, `table_err`), 70 is what `ask_samples` says, and the last test is
-- the question 40.
-- Assumes nothing.
use mathlib.Core.Path.{◌≡◌, refl}
use Rattle.error.proofs.Answers.{passed_on}
use mathlib.Core.List.{List}
use Prim.Native.Nat.{ℕ, ◌*◌, ◌/◌, ◌≤◌, ◌<◌}
use native.Mathlib.Omega.{arith}
use borrow.Author.Tests.{le-leb, lt-leb}
use lib.Dec.{leb}
use lib.ListN.{length}
use Rattle.error.specs.Answer.{accepted, ask, and_then}
use Rattle.chunk_index.specs.Entry.{entry_len, entries_of}
use Rattle.table.specs.Table.{ask_each, table_questions}
use Rattle.chunk_index.proofs.Entries.{length-entries}
use Rattle.table.proofs.Records.{table_ok, table_err}
use Rattle.page.specs.Page.{columns, narrow_samples, page_questions}
use Rattle.page.proofs.ask_page.Goals as goal

-- what 41 and 43 have let pass goes on to 70 and 40
asked-before : (table : List ℕ) (room : ℕ) → table_questions table ≡ accepted tt
    → page_questions table room
    ≡ and_then (ask_each narrow_samples 70 0 (entries_of table)) (λ _. ask (leb (columns * length (entries_of table)) room) 40 0 (accepted tt))
unfolding page_questions
asked-before table room g = rw g

-- so many lines, whether by a division or by a product
no_room : (table : List ℕ) {room : ℕ} → room / columns < length table / entry_len → room < columns * length (entries_of table)
no_room table h = omega (arith, length-entries (length table / entry_len) table 0)

has_room : (table : List ℕ) {room : ℕ} → length table / entry_len ≤ room / columns → columns * length (entries_of table) ≤ room
has_room table h = omega (arith, length-entries (length table / entry_len) table 0)

pub returns-in_err-most : goal.returns-in_err-most
unfolding page_questions
returns-in_err-most c = rw (passed_on _ _ c.from_residual.ensures, table_err c.args.table.now c.in_err-most.ensures refl)

pub ask_samples-requires : goal.ask_samples-requires
ask_samples-requires c = (table_ok c.args.table.now c.in_ok-most.ensures refl).1

pub returns-in_err-ask_samples : goal.returns-in_err-ask_samples
returns-in_err-ask_samples c =
    let a = c.args in
    rw (
      passed_on _ _ c.from_residual-in_err-ask_samples.ensures,
      asked-before a.table.now a.room (table_ok a.table.now c.in_ok-most.ensures refl).0,
      ← c.in_err-ask_samples.ensures,
    )

pub returns-then-room-table : goal.returns-then-room-table
returns-then-room-table c =
    let a = c.args in
    let few : a.room < columns * length (entries_of a.table.now) = no_room a.table.now c.if-room-table.true in
    rw (
      asked-before a.table.now a.room (table_ok a.table.now c.in_ok-most.ensures refl).0,
      ← c.in_ok-ask_samples.ensures,
      lt-leb _ _ few,
    )

pub returns : goal.returns
returns c =
    let a = c.args in
    let enough : columns * length (entries_of a.table.now) ≤ a.room = has_room a.table.now c.if-room-table.false in
    rw (
      asked-before a.table.now a.room (table_ok a.table.now c.in_ok-most.ensures refl).0,
      ← c.in_ok-ask_samples.ensures,
      le-leb _ _ enough,
    )
