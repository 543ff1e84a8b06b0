use Rattle.std.proofs.Common.{◌<◌, length, ap, sym, subst, ◌∙◌, arith}
use Rattle.std.proofs.lemmas.Grind.{common_steps}
use Rattle.extent_maps.specs.Runs.{AreRuns, place_of}
use Rattle.extent_maps.proofs.EditLemmas.{joins_at, set_here}
use Rattle.extent_maps.proofs.map.extend.Goals as goal

pub with-run-requires-clause-run : goal.with-run-requires-clause-run
with-run-requires-clause-run c =
    let within : c.args.at < length c.args.runs.now.items = grind (arith, common_steps, c.requires.within) in
    (joins_at c.args.runs.now.items c.args.at c.index.result.now c.args.next.now within c.index.ensures c.requires.front c.requires.back c.requires.goes_on).last_is

pub with-run-requires-clause-joined : goal.with-run-requires-clause-joined
with-run-requires-clause-joined c =
    let within : c.args.at < length c.args.runs.now.items = grind (arith, common_steps, c.requires.within) in
    (joins_at c.args.runs.now.items c.args.at c.index.result.now c.args.next.now within c.index.ensures c.requires.front c.requires.back c.requires.goes_on).goes

pub returns-clause-runs : goal.returns-clause-runs
returns-clause-runs c =
    let runs = c.args.runs.now.items in
    let within : c.args.at < length runs = grind (arith, common_steps, c.requires.within) in
    let so = joins_at runs c.args.at c.index.result.now c.args.next.now within c.index.ensures c.requires.front c.requires.back c.requires.goes_on in
    subst AreRuns (sym (set_here runs c.args.at c.with-run.result within)) (rw c.with-run.ensures so.order)

pub returns-clause-places : goal.returns-clause-places
returns-clause-places c page =
    let runs = c.args.runs.now.items in
    let within : c.args.at < length runs = grind (arith, common_steps, c.requires.within) in
    let so = joins_at runs c.args.at c.index.result.now c.args.next.now within c.index.ensures c.requires.front c.requires.back c.requires.goes_on in
    ap (λ l. place_of l page) (set_here runs c.args.at c.with-run.result within) ∙ rw c.with-run.ensures (so.places page)
