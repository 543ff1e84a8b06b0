use Rattle.std.proofs.Common.{◌≡◌, ◌∙◌, ◌+◌, ◌<◌, ℕ, [], ◌∷◌, List, take, length, ap, subst, sym, arith}
use Rattle.fileset_files.specs.domain_base.declared.place.Home.{Home}
use Rattle.fileset_files.specs.extent_maps.declared.run.PagePlace.TheVariants.{At}
use Rattle.fileset_files.specs.extent_maps.declared.run.Run.{Run}
use Rattle.fileset_files.specs.extent_maps.Runs.{AreRuns, place_of}
use Rattle.file_release.specs.Steps.{IsHomeFrom}
use Rattle.file_release.proofs.Given.{gives_both, held_after}
use Rattle.file_release.proofs.Walks.{in_front, in_map, is_run, never_both, next_apart, next_either, next_first, next_second}
use Rattle.file_release.proofs.giving_back.give_back_from.Goals as goal

pub give_back_run-requires-clause-run : goal.give_back_run-requires-clause-run
give_back_run-requires-clause-run c =
    let same = c.runs-runs.ensures.runs in
    let are : AreRuns c.runs-runs.result.now = subst AreRuns (sym same) c.runs-runs.ensures.longest in
    is_run c.runs-runs.result.now are c.loop-i.i c.index-runs-i.result (omega (arith, c.loop-i-test.true)) c.index-runs-i.is

pub give_back_run-requires-clause-volumes : goal.give_back_run-requires-clause-volumes
give_back_run-requires-clause-volumes c = λ page home there.
    let same = c.runs-runs.ensures.runs in
    let are : AreRuns c.runs-runs.result.now = subst AreRuns (sym same) c.runs-runs.ensures.longest in
    c.requires.volumes page home (ap (λ (rs : List Run). place_of rs page) (sym same)
    ∙ in_map c.runs-runs.result.now are c.loop-i.i c.index-runs-i.result (omega (arith, c.loop-i-test.true)) c.index-runs-i.is page home there)

pub give_back_run-requires-clause-held : goal.give_back_run-requires-clause-held
give_back_run-requires-clause-held c = λ page home there.
    let same = c.runs-runs.ensures.runs in
    let runs = c.runs-runs.result.now in
    let are : AreRuns runs = subst AreRuns (sym same) c.runs-runs.ensures.longest in
    let i = c.loop-i.i in
    let run = c.index-runs-i.result in
    let within : i < length runs = omega (arith, c.loop-i-test.true) in
    let at : (p : ℕ) (h : Home) → place_of runs p ≡ At h → place_of c.args.map.now p ≡ At h = (λ p h is. ap (λ (rs : List Run). place_of rs p) (sym same) ∙ is) in
    let once : (p q : ℕ) (h : Home) → place_of runs p ≡ At h → place_of runs q ≡ At h → p ≡ q = (λ p q h x y. c.requires.once p q h (at p h x) (at q h y)) in
    let here = at page home (in_map runs are i run within c.index-runs-i.is page home there) in
    held_after (IsHomeFrom c.args.from (place_of (take i runs))) c.args.kind c.args.group c.args.space.now c.loop-i.space c.loop-i.invariant
    (λ h w. c.requires.volumes w.page h (at w.page h (in_front runs are i run within c.index-runs-i.is w.page h w.there)))
    home (c.requires.volumes page home here)
    (λ w. never_both runs are i run within c.index-runs-i.is once w.page page home w.there there)
    (c.requires.held page home here)

pub loop-i-preserved : goal.loop-i-preserved
loop-i-preserved c =
    let same = c.runs-runs.ensures.runs in
    let runs = c.runs-runs.result.now in
    let are : AreRuns runs = subst AreRuns (sym same) c.runs-runs.ensures.longest in
    let i = c.loop-i.i in
    let run = c.index-runs-i.result in
    let within : i < length runs = omega (arith, c.loop-i-test.true) in
    let at : (p : ℕ) (h : Home) → place_of runs p ≡ At h → place_of c.args.map.now p ≡ At h = (λ p h is. ap (λ (rs : List Run). place_of rs p) (sym same) ∙ is) in
    let once : (p q : ℕ) (h : Home) → place_of runs p ≡ At h → place_of runs q ≡ At h → p ≡ q = (λ p q h x y. c.requires.once p q h (at p h x) (at q h y)) in
    gives_both (IsHomeFrom c.args.from (place_of (take i runs))) (IsHomeFrom c.args.from (place_of (run ∷ []))) (IsHomeFrom c.args.from (place_of (take (i + 1) runs))) c.args.kind c.args.group c.args.space.now c.loop-i.space c.give_back_run.new.space
    (λ home. next_either runs are i run within c.index-runs-i.is c.args.from home)
    (λ home. next_first runs are i run within c.index-runs-i.is c.args.from home)
    (λ home. next_second runs are i run within c.index-runs-i.is c.args.from home)
    (λ home. next_apart runs are i run within c.index-runs-i.is c.args.from home once)
    c.loop-i.invariant c.give_back_run.ensures
