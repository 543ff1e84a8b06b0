use Rattle.std.proofs.Common.{◌≡◌, ◌+◌, ◌-◌, ◌<◌, ◌≤◌, length, get_or, sym, ap, subst, ◌∙◌, arith}
use Rattle.extent_maps.specs.declared.run.PagePlace.TheVariants.{Absent}
use Rattle.extent_maps.specs.Runs.{ChangesPlace, Has, behind, home_at, place_of, placed, with_place}
use Rattle.extent_maps.proofs.RunLemmas.{place_at}
use Rattle.extent_maps.proofs.map.cut_page.Goals as goal

pub returns-clause-places : goal.returns-clause-places
returns-clause-places c p =
    let runs = c.args.runs.now.items in
    let run = c.index.result.now in
    let has = subst (λ l. Has c.args.page (get_or l c.in-Some.at run)) c.deref.ensures.value (c.in-Some.ensures.some.1 run) in
    let begins : run.page ≤ c.args.page = subst (λ r. r.page ≤ c.args.page) (sym c.index.ensures) has.begins in
    let page : run.page + (c.args.page - run.page) ≡ c.args.page = omega (arith, begins) in
    let so = subst (λ r. ChangesPlace (r.page + (c.args.page - run.page)) Absent runs c.cut_run.new.runs.items) (sym c.index.ensures) (c.in_ok-cut_run.ensures.places run) in
    so p ∙ ap (λ q. with_place q Absent (place_of runs) p) page

pub returns-clause-home : goal.returns-clause-home
returns-clause-home c =
    let runs = c.args.runs.now.items in
    let run = c.index.result.now in
    let within : c.in-Some.at < length runs = subst (λ l. c.in-Some.at < length l) c.deref.ensures.value c.in-Some.ensures.some.0 in
    let has = subst (λ l. Has c.args.page (get_or l c.in-Some.at run)) c.deref.ensures.value (c.in-Some.ensures.some.1 run) in
    let here = place_at runs c.in-Some.at run c.args.page c.requires within has in
    let place = c.place-place.ensures ∙ ap (λ r. placed (behind (c.args.page - r.page) r.first)) c.index.ensures ∙ sym here in
    c.home.ensures ∙ ap home_at place
