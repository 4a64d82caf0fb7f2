-- `store` of `u16` meets the trait's contract: the library's bytes of a number are `le_bytes` (`library_bytes`). Assumes nothing.
use Rattle.fields.proofs.Laws.{library_bytes}
use Rattle.fields.proofs.U16LittleEndian.store.Goals as goal

pub returns : goal.returns
returns c = rw (c.copy_from_slice.ensures.after, c.to_le_bytes.ensures) (library_bytes 2 c.args.self)
