-- `duration::AmvDuration::from_packed` meets its contract: the library's bytes of a number are `le_bytes` (`library_bytes`). Assumes nothing.
use mathlib.Core.List.{List}
use mathlib.Core.Path.{ap, ◌∙◌}
use Prim.Native.Nat.{ℕ}
use lib.ListN.{get_or}
use Rattle.fields.proofs.Laws.{library_bytes}
use Rattle.duration.specs.Duration.{unpacked_of}
use Rattle.duration.specs.declared.AmvDuration.{AmvDuration}
use Rattle.duration.proofs.AmvDuration.from_packed.Goals as goal

pub returns : goal.returns
unfolding unpacked_of
returns c =
    let parts : List ℕ → AmvDuration = λ bytes. record { seconds = get_or bytes 0 0; minutes = get_or bytes 1 0; hours = get_or bytes 2 0 } in
    ap parts (c.to_le_bytes.ensures ∙ library_bytes 4 c.args.packed)
