-- The invariant of the loop of `vectors::print::print_numbers`: the numbers so far are written.
use Rattle.std.proofs.Common.{take, map}
use Rattle.std.specs.Io.KnownBytes.{Appends}
use Rattle.vectors.specs.Printed.{numbers_text}
use Rattle.vectors.proofs.print.print_numbers.Given as goal

abbrev pub invariant-loop-item : goal.invariant-loop-item
invariant-loop-item g l =
    Appends (g.W.Write.contents l.initial.printer) (g.W.Write.contents l.printer) (numbers_text (map g.T.Printed.number (take l.item-index l.items)))
