use Rattle.std.proofs.Common.{◌≡◌, ◌≤◌, get_or, sym, subst, arith, ⊎_elim}
use Rattle.std.proofs.lemmas.Bool.{cases_lt}
use Rattle.sorted_sets.proofs.span_search.count_before.Goals as goal

pub returns-in-Ok-clause-front : goal.returns-in-Ok-clause-front
returns-in-Ok-clause-front c k d less =
    let there = c.in-Ok.ensures.place in
    omega (arith, c.requires k c.in-Ok.place d less there.within, there.has_key d)

pub returns-in-Ok-clause-back : goal.returns-in-Ok-clause-back
returns-in-Ok-clause-back c k d least within =
    let there = c.in-Ok.ensures.place in
    ⊎_elim (λ further. omega (arith, c.requires c.in-Ok.place k d further within, there.has_key d))
    (λ near. let same : k ≡ c.in-Ok.place = omega (arith, near, least) in subst (λ n. c.args.to ≤ (get_or c.args.spans.now n d).0) (sym same) (omega (arith, there.has_key d)))
    (cases_lt c.in-Ok.place k)
