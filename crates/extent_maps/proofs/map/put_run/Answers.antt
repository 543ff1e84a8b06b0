use Rattle.std.proofs.Common.{take, drop, refl, sym, subst, ◌∙◌}
use Rattle.extent_maps.specs.Runs.{BeginBefore, BeginFrom, EndUpTo, end_of}
use Rattle.extent_maps.proofs.PutLemmas.{free_between, free_front}
use Rattle.extent_maps.proofs.map.put_run.Goals as goal

pub returns-then-ends_before-clause-free : goal.returns-then-ends_before-clause-free
returns-then-ends_before-clause-free c =
    let runs = c.args.runs.now.items in
    let at = c.count_before-at.result in
    let run = c.args.run.now in
    let back : BeginFrom (end_of run) (drop at runs) = subst (λ n. BeginFrom n (drop at runs)) c.end.ensures (subst (λ l. BeginFrom c.end.result (drop at l)) c.deref.ensures.value c.count_before-at.ensures.back) in
    let ends : EndUpTo run.page (take at runs) = subst (λ l. EndUpTo run.page (take at l)) c.deref-2.ensures.value (c.ends_before.ensures.0 (c.if-ends_before.true)) in
    (λ t. free_between runs at run ends back, λ free. refl)

pub returns-clause-free : goal.returns-clause-free
returns-clause-free c =
    let runs = c.args.runs.now.items in
    let at = c.count_before-at.result in
    let run = c.args.run.now in
    let front : BeginBefore (end_of run) (take at runs) = subst (λ n. BeginBefore n (take at runs)) c.end.ensures (subst (λ l. BeginBefore c.end.result (take at l)) c.deref.ensures.value c.count_before-at.ensures.front) in (
      λ t. absurd cc,
      λ free.
          let ends : EndUpTo run.page (take at runs) = free_front runs at run c.requires.run c.requires.runs front free in
          let there = c.ends_before.ensures.1 (subst (λ l. EndUpTo run.page (take at l)) (sym c.deref-2.ensures.value) ends) in
          absurd (let no = sym c.if-ends_before.false ∙ there in cc),
    )
