-- `muxer::Writer::header` meets its contract. Where the questions pass, the prelude fits the buffer (`header-passed`); the two ends of the call are
-- `meets_err` and `meets_ok`.
-- Assumes nothing.
use Rattle.std.proofs.Common.{refl, sym}
use Rattle.muxer.specs.Writer.{header_call}
use Rattle.muxer.proofs.Steps.{header-passed, meets_err, meets_ok}
use Rattle.muxer.proofs.Writer.header.Goals as goal

pub returns-in_err-ask_header : goal.returns-in_err-ask_header
unfolding header_call
returns-in_err-ask_header c = meets_err c.args.self c.args.buf.now _ _ _ _ c.in_err-ask_header.ensures c.from_residual.ensures

pub put_prelude-requires : goal.put_prelude-requires
put_prelude-requires c = (header-passed c.args.self _ (sym c.in_ok-ask_header.ensures)).inside

pub returns : goal.returns
unfolding header_call
returns c = meets_ok c.args.self c.args.buf.now _ _ c.in_ok-ask_header.ensures refl c.put_prelude.ensures
