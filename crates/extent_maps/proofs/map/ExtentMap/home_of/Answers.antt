use Rattle.std.proofs.Common.{◌-◌, ◌<◌, get_or, length, sym, ap, subst, ◌∙◌}
use Rattle.extent_maps.specs.Runs.{Has, behind, place_of, placed}
use Rattle.extent_maps.proofs.RunLemmas.{place_at}
use Rattle.extent_maps.proofs.map.ExtentMap.home_of.Goals as goal

pub returns : goal.returns
returns c =
    let runs = c.self.inside.runs.items in
    let run = c.index.result.now in
    let within : c.in-Some.at < length runs = subst (λ l. c.in-Some.at < length l) c.deref.ensures.value c.in-Some.ensures.some.0 in
    let has = subst (λ l. Has c.args.page (get_or l c.in-Some.at run)) c.deref.ensures.value (c.in-Some.ensures.some.1 run) in
    let here = place_at runs c.in-Some.at run c.args.page c.self.invariant within has in
    c.place.ensures ∙ ap (λ r. placed (behind (c.args.page - r.page) r.first)) c.index.ensures ∙ sym here ∙ ap (λ l. place_of l c.args.page) c.self.view_is
