use Rattle.std.proofs.Common.{◌≡◌, ◌+◌, ◌-◌, ◌≤◌, true, false, length, take, sym, subst, ◌∙◌, arith}
use Rattle.std.proofs.lemmas.Grind.{common_steps}
use Rattle.extent_maps.specs.Runs.{AreRuns, goes_on_last}
use Rattle.extent_maps.proofs.EditLemmas.{goes_on_not_first, on_ok, put_apart}
use Rattle.extent_maps.proofs.map.join_before.Goals as goal

pub extend-requires-clause-back : goal.extend-requires-clause-back
extend-requires-clause-back c =
    let goes : goes_on_last (take c.args.at c.deref.result.now) c.args.run.now ≡ true = sym c.goes_on_before.ensures ∙ c.if-goes_on_before.true in
    let some = goes_on_not_first c.deref.result.now c.args.at c.args.run.now goes in
    let same : c.args.at - 1 + 1 ≡ c.args.at = omega (arith, some) in
    rw same c.requires.back

pub returns-clause-runs : goal.returns-clause-runs
returns-clause-runs c =
    let runs = c.args.runs.now.items in
    let within : c.args.at ≤ length runs = grind (arith, common_steps, c.requires.within) in
    let apart : goes_on_last (take c.args.at runs) c.args.run.now ≡ false = subst (λ l. goes_on_last (take c.args.at l) c.args.run.now ≡ false) c.deref.ensures.value (sym c.goes_on_before.ensures ∙ c.if-goes_on_before.false) in
    on_ok c.insert_run.result (λ is. subst AreRuns (sym is) (put_apart runs c.args.at c.args.run.now within c.requires.front c.requires.before c.requires.back apart)) c.insert_run.ensures.ok
