use Rattle.std.proofs.Common.{take, drop, subst}
use Rattle.extent_maps.specs.Runs.{BeginBehind, BeginUpTo, EndUpTo, PutsRun}
use Rattle.extent_maps.proofs.EditLemmas.{absent_in_front, behind_one, end_up_to, on_ok, one_page}
use Rattle.extent_maps.proofs.map.put_page.Goals as goal

pub place_run-requires-clause-before : goal.place_run-requires-clause-before
place_run-requires-clause-before c =
    let runs = c.args.runs.now.items in
    let at = c.count_up_to-at.result in
    let begin : BeginUpTo c.args.page (take at runs) = subst (λ l. BeginUpTo c.args.page (take at l)) c.deref.ensures.value c.count_up_to-at.ensures.front in
    let ends : EndUpTo c.args.page (take at runs) = end_up_to (take at runs) c.args.page begin (absent_in_front runs at c.args.page c.requires.absent) in
    rw c.one.ensures ends

pub place_run-requires-clause-behind : goal.place_run-requires-clause-behind
place_run-requires-clause-behind c =
    let runs = c.args.runs.now.items in
    let at = c.count_up_to-at.result in
    let begin : BeginBehind c.args.page (drop at runs) = subst (λ l. BeginBehind c.args.page (drop at l)) c.deref.ensures.value c.count_up_to-at.ensures.back in
    rw c.one.ensures (behind_one (drop at runs) c.args.page begin)

pub returns-clause-places : goal.returns-clause-places
returns-clause-places c =
    let runs = c.args.runs.now.items in
    let new = c.place_run.new.runs.items in
    on_ok c.place_run.result
    (λ is. one_page runs new c.args.page c.args.first (subst (λ r. PutsRun r runs new) c.one.ensures is))
    c.place_run.ensures.places
