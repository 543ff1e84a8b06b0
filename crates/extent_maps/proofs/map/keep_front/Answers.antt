use Rattle.std.proofs.Common.{◌<◌, length, slice_set, ap, ◌∙◌, arith}
use Rattle.std.proofs.lemmas.Grind.{common_steps}
use Rattle.extent_maps.proofs.EditLemmas.{kept_front}
use Rattle.extent_maps.proofs.map.keep_front.Goals as goal

pub returns-then-count-gt0-clause-items : goal.returns-then-count-gt0-clause-items
returns-then-count-gt0-clause-items c d =
    let runs = c.args.runs.now.items in
    let within : c.args.at < length runs = grind (arith, common_steps, c.requires.within) in
    ap (slice_set runs c.args.at) c.front-front.ensures ∙ kept_front runs c.args.at c.args.count c.index.result.now d within c.index.ensures c.if-count-gt0.true
