-- `vectors::run::load_tags` meets its contract. `tags_more` stores one tag.
-- Assumes nothing.
use Rattle.std.proofs.Common.{◌<◌, length, arith, rules}
use Rattle.vectors.proofs.Tags.{tags_first, tags_more}
use Rattle.vectors.proofs.run.load_tags.Goals as goal

pub loop-i-init : goal.loop-i-init
loop-i-init c = tags_first c.args.to.now c.args.bytes.now

pub loop-i-preserved : goal.loop-i-preserved
loop-i-preserved c =
    let room : c.loop-i.i < length c.args.to.now = search (rules, arith) in
    tags_more c.args.to.now c.args.bytes.now c.loop-i.i _ c.loop-i.invariant room (search rules)
