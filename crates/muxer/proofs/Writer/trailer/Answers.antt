-- `muxer::Writer::trailer` meets its contract. Where the questions pass, 8 bytes fit behind a whole prelude (`trailer-passed`), so offset 84 lies in the
-- buffer for the patch; the two ends of the call are `meets_err` and `meets_ok`.
-- Assumes nothing.
use Rattle.std.proofs.Common.{◌≡◌, refl, sym, ap, ◌∙◌, List, ℕ, length, rules, arith}
use Rattle.muxer.specs.Writer.{patch_run_length, trailer_call}
use Rattle.muxer.proofs.Steps.{trailer-passed, meets_err, meets_ok}
use Rattle.muxer.proofs.Writer.trailer.Goals as goal

pub returns-in_err-ask_trailer : goal.returns-in_err-ask_trailer
unfolding trailer_call
returns-in_err-ask_trailer c = meets_err c.args.self c.args.buf.now _ _ _ _ c.in_err-ask_trailer.ensures c.from_residual.ensures

pub copy_in-requires : goal.copy_in-requires
copy_in-requires c = (trailer-passed c.args.self _ (sym c.in_ok-ask_trailer.ensures)).inside

pub patch_run_length-requires : goal.patch_run_length-requires
patch_run_length-requires c =
    let p = trailer-passed c.args.self _ (sym c.in_ok-ask_trailer.ensures) in
    let prelude = p.ready.prelude in
    let inside = p.inside in
    let same : length c.copy_in.new.buf ≡ length c.args.buf.now = search rules in
    omega arith

pub overflow_add-result : goal.overflow_add-result
overflow_add-result c =
    let limit = (trailer-passed c.args.self _ (sym c.in_ok-ask_trailer.ensures)).limit in
    omega arith

pub returns : goal.returns
unfolding trailer_call
returns c =
    meets_ok c.args.self c.args.buf.now _ _ c.in_ok-ask_trailer.ensures refl
    (c.patch_run_length.ensures ∙ ap (λ (l : List ℕ). patch_run_length c.args.self l) c.copy_in.ensures)
