use Rattle.std.proofs.Common.{◌≡◌, ◌+◌, ◌-◌, ◌<◌, ◌∷◌, length, slice_set, take, drop, sym, ap, subst, ◌∙◌, arith}
use Rattle.std.proofs.lemmas.Grind.{common_steps}
use Rattle.extent_maps.specs.declared.run.Run.{Run}
use Rattle.extent_maps.specs.Runs.{BeginFrom, EndUpTo, IsPartedAt, IsRun, end_of, rest_from}
use Rattle.extent_maps.proofs.RunLemmas.{is_run_at, take_at}
use Rattle.extent_maps.proofs.PartLemmas.{ends_all, parted_between, parted_over}
use Rattle.extent_maps.proofs.map.move_rest.Goals as goal

pub returns-in_default-clause-parts : goal.returns-in_default-clause-parts
returns-in_default-clause-parts c =
    let runs = c.args.runs.now.items in
    let none : c.args.at ≡ 0 = omega (arith, c.in_default.ensures) in
    let ends : EndUpTo c.args.from (take c.args.at runs) = rw none tt in
    let begins : BeginFrom c.args.from (drop c.args.at runs) = subst (BeginFrom c.args.from) c.requires.tail c.requires.back in
    subst (IsPartedAt c.args.from runs (take c.args.at runs)) (sym c.requires.tail) (parted_between runs c.args.at c.args.from c.requires.runs ends begins)

pub end-requires : goal.end-requires
end-requires c =
    let before = c.in-Some.ensures in
    let within : c.in-Some.before < length c.args.runs.now.items = grind (arith, common_steps, before.0, before.1, c.requires.within) in
    subst IsRun (sym c.index.ensures) (is_run_at c.args.runs.now.items c.in-Some.before c.index.result.now c.requires.runs within)

pub behind-requires-clause-run : goal.behind-requires-clause-run
behind-requires-clause-run c =
    let before = c.in-Some.ensures in
    let within : c.in-Some.before < length c.args.runs.now.items = grind (arith, common_steps, before.0, before.1, c.requires.within) in
    subst IsRun (sym c.index.ensures) (is_run_at c.args.runs.now.items c.in-Some.before c.index.result.now c.requires.runs within)

pub returns-in_ok-insert_run-clause-parts : goal.returns-in_ok-insert_run-clause-parts
returns-in_ok-insert_run-clause-parts c =
    let runs = c.args.runs.now.items in
    let run = c.index.result.now in
    let before = c.in-Some.ensures in
    let within : c.in-Some.before < length runs = grind (arith, common_steps, before.0, before.1, c.requires.within) in
    let is : c.in-Some.before + 1 ≡ c.args.at = omega (arith, before.0, before.1) in
    let lower : c.in-Some.before < c.args.at = omega (arith, is) in
    let low : run.page < c.args.from = subst (λ r. r.page < c.args.from) (sym c.index.ensures) (take_at (λ (r : Run). r.page < c.args.from) runs c.args.at c.in-Some.before run c.requires.front lower within) in
    let high : c.args.from < end_of run = omega (arith, c.if-from-end.true, c.end.ensures) in
    let tail = c.in_ok-insert_run.ensures.ok ∙ ap (λ l. c.behind.result ∷ l) c.requires.tail ∙ ap (λ r. r ∷ drop c.args.at runs) c.behind.ensures in
    let so = parted_over runs c.in-Some.before c.args.at c.args.from run is within c.index.ensures c.requires.runs low high in
    subst (IsPartedAt c.args.from runs (take c.args.at (slice_set runs c.in-Some.before c.front.result))) (sym tail)
    (subst (λ r. IsPartedAt c.args.from runs (take c.args.at (slice_set runs c.in-Some.before r)) (rest_from (c.args.from - run.page) run ∷ drop c.args.at runs)) (sym c.front.ensures) so)

pub returns-else-from-end-clause-parts : goal.returns-else-from-end-clause-parts
returns-else-from-end-clause-parts c =
    let runs = c.args.runs.now.items in
    let run = c.index.result.now in
    let before = c.in-Some.ensures in
    let within : c.in-Some.before < length runs = grind (arith, common_steps, before.0, before.1, c.requires.within) in
    let is : c.in-Some.before + 1 ≡ c.args.at = omega (arith, before.0, before.1) in
    let ends = ends_all runs c.in-Some.before c.args.at c.args.from run is within c.index.ensures c.requires.runs (omega (arith, c.if-from-end.false, c.end.ensures)) in
    let begins : BeginFrom c.args.from (drop c.args.at runs) = subst (BeginFrom c.args.from) c.requires.tail c.requires.back in
    subst (IsPartedAt c.args.from runs (take c.args.at runs)) (sym c.requires.tail) (parted_between runs c.args.at c.args.from c.requires.runs ends begins)
