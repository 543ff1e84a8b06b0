use Rattle.std.proofs.Common.{[], ◌∷◌, arith}
use Rattle.fileset_files.specs.extent_maps.Runs.{place_of}
use Rattle.file_release.specs.Steps.{IsHomeFrom, IsHomeWithin}
use Rattle.file_release.proofs.Given.{gives_by, held_so_far, more_homes}
use Rattle.file_release.proofs.Walks.{in_run}
use Rattle.file_release.proofs.giving_back.give_back_homes.Goals as goal

pub give_back-requires : goal.give_back-requires
give_back-requires c =
    held_so_far c.first_page-begin.result c.loop-page.page (place_of (c.args.run.now ∷ [])) c.args.kind c.args.group c.args.space.now c.loop-page.space c.loop-page.invariant c.requires.once c.requires.volumes
    c.home_in.result c.home_in.ensures (c.requires.held c.loop-page.page c.home_in.result c.home_in.ensures)

pub loop-page-preserved : goal.loop-page-preserved
loop-page-preserved c =
    more_homes c.first_page-begin.result c.loop-page.page (place_of (c.args.run.now ∷ [])) c.args.kind c.args.group c.args.space.now c.loop-page.space c.give_back.new.self c.loop-page.auto.page c.requires.once
    c.home_in.result c.home_in.ensures c.loop-page.invariant c.give_back.ensures

pub returns : goal.returns
returns c =
    let run = c.args.run.now in
    let begin = c.first_page-begin.result in
    gives_by (IsHomeWithin begin c.loop-page.page (place_of (run ∷ []))) (IsHomeFrom c.args.from (place_of (run ∷ []))) c.args.kind c.args.group c.args.space.now c.loop-page.space
    (λ home w. record { page = w.page; begins = omega (arith, w.begins, c.first_page-begin.ensures.begins); there = w.there })
    (λ home w.
    let at = in_run run w.page home w.there in
    record {
      page = w.page;
      begins = c.first_page-begin.ensures.least w.page at.begins w.begins;
      ends = omega (arith, at.ends, c.loop-page-test.false);
      there = w.there;
    })
    c.loop-page.invariant
