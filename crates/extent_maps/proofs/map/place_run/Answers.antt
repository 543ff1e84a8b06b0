use Rattle.std.proofs.Common.{◌++◌, ◌∷◌, drop, sym, ap, subst, ◌∙◌}
use Rattle.extent_maps.specs.Runs.{AreRuns, place_of}
use Rattle.extent_maps.proofs.EditLemmas.{on_ok, put_places, take_runs}
use Rattle.extent_maps.proofs.map.place_run.Goals as goal

pub join_before-requires-clause-front : goal.join_before-requires-clause-front
join_before-requires-clause-front c =
    subst AreRuns (sym c.join_next-run.ensures.front) (take_runs c.args.runs.now.items c.args.at c.requires.runs)

pub join_before-requires-clause-before : goal.join_before-requires-clause-before
join_before-requires-clause-before c = rw (c.join_next-run.ensures.page, c.join_next-run.ensures.front) c.requires.before

pub returns-clause-places : goal.returns-clause-places
returns-clause-places c =
    let runs = c.args.runs.now.items in
    let at = c.args.at in
    let run = c.join_next-run.result in
    let rest = drop at c.join_next-run.new.runs.items in
    let so = put_places runs at c.args.run run rest c.requires.before c.join_next-run.ensures.places in
    on_ok c.join_before.result
    (λ is p. is p ∙ ap (λ l. place_of (l ++ run ∷ rest) p) c.join_next-run.ensures.front ∙ so p)
    c.join_before.ensures.places
