use Rattle.std.proofs.Common.{inl, inr, ⊎_elim}
use Rattle.cell_faults.proofs.all.chain_faults.Goals as goal

pub returns : goal.returns
returns g c frame are home =
    let pages = g.M.MetaPages.pages c.args.pages.now in
    let leads = c.in_ok-found.ensures pages frame are home in
    let loose = c.in_ok-unchained.ensures pages frame are home in
    let again = c.in_ok-again.ensures frame are home in
    let limits = c.in_ok-limits.ensures frame are home in
    let holes = c.in_ok-holes.ensures frame are home in
    let first = c.in_ok-insert_set.ensures home in
    let second = c.in_ok-insert_set-2.ensures home in
    let third = c.in_ok-insert_set-3.ensures home in
    let fourth = c.in_ok-insert_set-4.ensures home in (
      λ is. ⊎_elim
          (λ in_third. ⊎_elim
          (λ in_second. ⊎_elim
          (λ in_first. ⊎_elim (λ lead. inl (leads.0 lead)) (λ one. inr (inl (loose.0 one))) (first.0 in_first))
          (λ page. inr (inr (inl (again.0 page)))) (second.0 in_second))
          (λ limit. inr (inr (inr (inl (limits.0 limit))))) (third.0 in_third))
          (λ hole. inr (inr (inr (inr (holes.0 hole))))) (fourth.0 is),
      λ fault. fourth.1 (⊎_elim (λ lead. inl (third.1 (inl (second.1 (inl (first.1 (inl (leads.1 lead))))))))
          (λ others. ⊎_elim (λ one. inl (third.1 (inl (second.1 (inl (first.1 (inr (loose.1 one))))))))
          (λ rest. ⊎_elim (λ page. inl (third.1 (inl (second.1 (inr (again.1 page))))))
          (λ last. ⊎_elim (λ limit. inl (third.1 (inr (limits.1 limit)))) (λ hole. inr (holes.1 hole)) last) rest) others) fault),
    )
