-- `vectors::print::print_number` meets its contract. `front` says that the text is the number's.
-- Assumes nothing.
use Rattle.std.proofs.Common.{subst, OnOk, ◌∙◌}
use Rattle.std.specs.Io.KnownBytes.{Appends}
use Rattle.vectors.proofs.Printed.{front}
use Rattle.vectors.proofs.print.print_number.Goals as goal

pub returns : goal.returns
returns g c =
    let w = rw (c.new-text.ensures.len) at c.put_number.ensures.written.written in
    subst (λ text. OnOk c.write_all.result (Appends (g.W.Write.contents c.args.printer.now) (g.W.Write.contents c.write_all.new.self) text))
    (c.as_bytes.ensures ∙ front w) c.write_all.ensures.bytes
