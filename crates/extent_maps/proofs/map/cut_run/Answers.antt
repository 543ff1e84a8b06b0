use Rattle.std.proofs.Common.{◌≡◌, ◌+◌, ◌<◌, length, sym, ap, subst, ◌∙◌, arith}
use Rattle.std.proofs.lemmas.Grind.{common_steps}
use Rattle.extent_maps.specs.declared.run.PagePlace.TheVariants.{Absent}
use Rattle.extent_maps.specs.Runs.{ChangesPlace}
use Rattle.extent_maps.proofs.RunLemmas.{is_run_at}
use Rattle.extent_maps.proofs.EditLemmas.{cut_last, cut_middle, kept_by, rested_by, run_at}
use Rattle.extent_maps.proofs.map.cut_run.Goals as goal

pub returns-then-index-offset-clause-runs : goal.returns-then-index-offset-clause-runs
returns-then-index-offset-clause-runs c =
    let runs = c.args.runs.now.items in
    let run = c.index.result.now in
    let within : c.args.at < length runs = grind (arith, common_steps, c.requires.within) in
    let lower : c.args.offset < run.count = subst (λ r. c.args.offset < r.count) (sym c.index.ensures) (c.requires.page run) in
    let last : run.count ≡ c.args.offset + 1 = omega (arith, c.if-index-offset.true, lower) in
    let is = c.keep_front.ensures.items run ∙ ap (λ r. kept_by c.args.at runs c.args.offset r) (sym c.index.ensures) in
    (cut_last runs c.keep_front.new.runs.items c.args.at c.args.offset run within c.index.ensures c.requires.runs last is).order

pub returns-then-index-offset-clause-places : goal.returns-then-index-offset-clause-places
returns-then-index-offset-clause-places c d =
    let runs = c.args.runs.now.items in
    let run = c.index.result.now in
    let within : c.args.at < length runs = grind (arith, common_steps, c.requires.within) in
    let lower : c.args.offset < run.count = subst (λ r. c.args.offset < r.count) (sym c.index.ensures) (c.requires.page run) in
    let last : run.count ≡ c.args.offset + 1 = omega (arith, c.if-index-offset.true, lower) in
    let is = c.keep_front.ensures.items run ∙ ap (λ r. kept_by c.args.at runs c.args.offset r) (sym c.index.ensures) in
    let so = (cut_last runs c.keep_front.new.runs.items c.args.at c.args.offset run within c.index.ensures c.requires.runs last is).places in
    subst (λ r. ChangesPlace (r.page + c.args.offset) Absent runs c.keep_front.new.runs.items) (sym (run_at runs c.args.at run d within c.index.ensures)) so

pub put_rest-requires-clause-run : goal.put_rest-requires-clause-run
put_rest-requires-clause-run c d =
    let within : c.args.at < length c.args.runs.now.items = grind (arith, common_steps, c.requires.within) in
    is_run_at c.args.runs.now.items c.args.at d c.requires.runs within

pub returns-clause-runs : goal.returns-clause-runs
returns-clause-runs c =
    let runs = c.args.runs.now.items in
    let run = c.index.result.now in
    let within : c.args.at < length runs = grind (arith, common_steps, c.requires.within) in
    let lower : c.args.offset < run.count = subst (λ r. c.args.offset < r.count) (sym c.index.ensures) (c.requires.page run) in
    let more : c.args.offset + 1 < run.count = grind (arith, lower, c.if-index-offset.false) in
    let mids = c.in_ok-put_rest.ensures.ok run ∙ ap (λ r. rested_by c.args.at runs c.args.offset r) (sym c.index.ensures) in
    (cut_middle runs c.put_rest.new.runs.items c.keep_front-2.new.runs.items c.args.at c.args.offset run within c.index.ensures c.requires.runs more mids (c.keep_front-2.ensures.items run)).order

pub returns-clause-places : goal.returns-clause-places
returns-clause-places c d =
    let runs = c.args.runs.now.items in
    let run = c.index.result.now in
    let within : c.args.at < length runs = grind (arith, common_steps, c.requires.within) in
    let lower : c.args.offset < run.count = subst (λ r. c.args.offset < r.count) (sym c.index.ensures) (c.requires.page run) in
    let more : c.args.offset + 1 < run.count = grind (arith, lower, c.if-index-offset.false) in
    let mids = c.in_ok-put_rest.ensures.ok run ∙ ap (λ r. rested_by c.args.at runs c.args.offset r) (sym c.index.ensures) in
    let so = (cut_middle runs c.put_rest.new.runs.items c.keep_front-2.new.runs.items c.args.at c.args.offset run within c.index.ensures c.requires.runs more mids (c.keep_front-2.ensures.items run)).places in
    subst (λ r. ChangesPlace (r.page + c.args.offset) Absent runs c.keep_front-2.new.runs.items) (sym (run_at runs c.args.at run d within c.index.ensures)) so
