use Rattle.std.proofs.Common.{inl, inr, ⊎_elim}
use Rattle.tag_faults.proofs.all.pages_faults.Goals as goal

pub returns : goal.returns
returns g c home =
    let pages = c.in_ok-found.ensures home in
    let entries = c.in_ok-entries.ensures home in
    let roots = c.in_ok-roots.ensures home in
    let first = c.in_ok-insert_set.ensures home in
    let second = c.in_ok-insert_set-2.ensures home in (
      λ is. ⊎_elim
          (λ in_first. ⊎_elim (λ page. inl (pages.0 page)) (λ entry. inr (inl (entries.0 entry))) (first.0 in_first))
          (λ root. inr (inr (roots.0 root))) (second.0 is),
      λ fault. second.1 (⊎_elim (λ page. inl (first.1 (inl (pages.1 page))))
          (λ others. ⊎_elim (λ entry. inl (first.1 (inr (entries.1 entry)))) (λ root. inr (roots.1 root)) others) fault),
    )
