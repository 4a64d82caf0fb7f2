-- `prelude::prelude::AmvPrelude::read` meets its contract. The two bodies of a whole prelude are long enough for their readers (`header_body`,
-- `wave_format_body`), so no reader refuses; the accepted values are the two fields.
-- Assumes nothing.
use Rattle.std.proofs.Common.{sym, ◌∙◌}
use Rattle.error.specs.Answer.{accepted}
use Rattle.error.proofs.Answers.{never, accepted-same}
use Rattle.prelude.specs.Layout.{prelude_len}
use Rattle.prelude.specs.Prelude.{prelude_fields}
use Rattle.prelude.proofs.Bodies.{header_body, wave_format_body}
use Rattle.prelude.proofs.prelude.AmvPrelude.read.Goals as goal

pub returns-in_err-parse : goal.returns-in_err-parse
returns-in_err-parse c = never (sym (header_body c.args.file.now c.requires) ∙ sym c.in_err-parse.ensures)

pub returns-in_err-parse-2 : goal.returns-in_err-parse-2
returns-in_err-parse-2 c = never (sym (wave_format_body c.args.file.now c.requires) ∙ sym c.in_err-parse-2.ensures)

pub returns : goal.returns
unfolding prelude_fields
returns c =
    let h = accepted-same (c.in_ok-parse.ensures ∙ header_body c.args.file.now c.requires) in
    let f = accepted-same (c.in_ok-parse-2.ensures ∙ wave_format_body c.args.file.now c.requires) in
    λ i. accepted (record { header = h i; audio_format = f i; movi_payload_start = prelude_len })
