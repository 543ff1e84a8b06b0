use Rattle.std.proofs.Common.{◌≡◌, ℕ, ◌<◌, ◌++◌, ◌∙◌, ap, arith, subst}
use Rattle.std.proofs.lemmas.Result.{on_ok_weaker}
use Rattle.free_space.specs.Runs.{run_before}
use Rattle.free_space.proofs.RunsFound.{AreFoundBehind, all_found, behind_none, behind_passed}
use Rattle.free_space.proofs.runs.push_runs.Goals as goal

pub loop-page-init : goal.loop-page-init
loop-page-init c = behind_none c.args.vol c.args.map.now c.args.runs.now.items

pub pass_page-requires-clause-there : goal.pass_page-requires-clause-there
pass_page-requires-clause-there c = subst (λ (n : ℕ). c.loop-page.page < n) c.pages-pages.ensures.value c.loop-page-test.true

pub pass_page-requires-clause-few : goal.pass_page-requires-clause-few
pass_page-requires-clause-few c = c.loop-page.invariant.found.tail.within

pub loop-page-preserved : goal.loop-page-preserved
loop-page-preserved c =
    behind_passed c.args.vol c.args.map.now c.loop-page.page c.loop-page.count c.in_ok-count.count c.args.runs.now.items c.loop-page.runs.items c.pass_page.new.runs.items c.loop-page.invariant
    (subst (λ (n : ℕ). c.loop-page.page < n) c.pages-pages.ensures.value c.loop-page-test.true) c.in_ok-count.ensures.used c.in_ok-count.ensures.free

pub push_run-requires : goal.push_run-requires
push_run-requires c = omega (arith, c.loop-page.invariant.found.tail.within, c.loop-page.auto.page-end)

pub returns : goal.returns
returns c =
    let vol = c.args.vol in
    let m = c.args.map.now in
    let count = c.loop-page.count in
    let old = c.args.runs.now.items in
    let now = c.loop-page.runs.items in
    let all : c.loop-page.page ≡ m.pages = omega (arith, c.loop-page-test.false, c.loop-page.auto.page-end, c.pages-pages.ensures.value) in
    on_ok_weaker c.push_run.result
    (λ put. all_found vol m count old now c.push_run.new.runs.items (subst (λ (n : ℕ). AreFoundBehind vol m n count old now) all c.loop-page.invariant)
    (put ∙ ap (λ (n : ℕ). now ++ run_before vol n count) c.pages-pages.ensures.value))
    c.push_run.ensures
