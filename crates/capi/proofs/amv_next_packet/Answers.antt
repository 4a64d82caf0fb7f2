-- `capi::amv_next_packet` meets its contract. After a packet only the position has moved (`packet-moves`), so four new words are all of the walker's
-- (`position-kept`); a refused read gives back the walker (`refused_read`).
-- Assumes nothing.
use Rattle.std.proofs.Common.{rules, length, Ok, Some}
use mathlib.Core.Path.{◌≡◌, sym, ap, subst, ◌∙◌}
use Rattle.error.specs.Answer.{accepted}
use Rattle.demuxer.specs.Read.{Placed}
use Rattle.demuxer.proofs.Outcomes.{packet-moves}
use Rattle.words.specs.State.{said_walker, walker_words}
use Rattle.words.proofs.Laws.{says-accepted, packet-placed}
use Rattle.words.proofs.States.{position-kept}
use Rattle.capi.specs.Calls.{next_walker}
use Rattle.capi.proofs.Laws.{known, walks, read_gave, refused_read}
use Rattle.capi.proofs.amv_next_packet.Goals as goal

pub returns-in-Ok-Some : goal.returns-in-Ok-Some
returns-in-Ok-Some c =
    let r = c.next_packet-answer.ensures in
    let w = c.in-Some.state in
    let file = c.args.file.now in
    let legal = known said_walker c.walker_of.ensures c.in-Some.is in
    let ok : c.next_packet-answer.result.answer ≡ Ok c.in-Ok-Some.field-0 = c.in-Ok-Some.is in
    let some : c.in-Ok-Some.field-0 ≡ Some c.in-Ok-Some.packet = rw ok at c.in-Ok-Some.field-0-is in
    let given = ok ∙ ap Ok some in
    let placed = packet-placed file w _ (subst (Placed file w) given r.placed) in
    walks 7 _ (next_walker file) _ legal
    (says-accepted 7 (read_gave file w r.result_value given ∙ ap accepted (sym placed)) c.packet_out.ensures)
    (c.at_position.ensures ∙ position-kept c.args.walker.now w _ legal ∙ ap walker_words (sym (packet-moves file w r.result_value given))
    ∙ ap (λ q. walker_words q.walker) r.result_value)

pub returns-in-Err : goal.returns-in-Err
returns-in-Err c =
    let a = c.args in
    let length_is : length a.walker.now ≡ 7 = search rules in
    refused_read a.file.now a.walker.now length_is (known said_walker c.walker_of.ensures c.in-Some.is) c.next_packet-answer.ensures.result_value
    c.in-Err.is c.refusal_out.ensures
