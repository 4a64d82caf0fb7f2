-- `vectors::case::head_of` meets its contract. Each word is what the closure reads at its place, so all of them are the twelve reads.
-- Assumes nothing.
use Rattle.std.proofs.Common.{ℕ, ◌+◌, ◌*◌, rules}
use Rattle.std.proofs.lemmas.List.FromFn.{fill_by_all}
use Rattle.fields.specs.Le.{le}
use Rattle.vectors.proofs.case.head_of.Goals as goal

pub returns : goal.returns
returns c =
    let word : ℕ → ℕ = λ k. le 8 c.args.input.now (c.args.at + (17 + 8 * k)) in
    let words = c.from_fn.ensures.items in
    fill_by_all word c.from_fn.result 12 0 words.long (λ k lt. let read = words.at k 0 lt in search rules)
