use Rattle.std.proofs.Common.{inl, inr, ⊎_elim}
use Rattle.cell_faults.specs.page_ways.Frame.{frame_in}
use Rattle.tag_faults.proofs.all.named_faults.Goals as goal

pub returns : goal.returns
returns g c home =
    let pages = g.M.MetaPages.pages c.args.pages.now in
    let alone = c.in_ok-found.ensures home in
    let sources = c.in_ok-sources.ensures home in
    let late = c.in_ok-late.ensures home in
    let quotas = c.in_ok-quotas.ensures pages (frame_in c.args.frame.now) c.requires home in
    let first = c.in_ok-insert_set.ensures home in
    let second = c.in_ok-insert_set-2.ensures home in
    let third = c.in_ok-insert_set-3.ensures home in (
      λ is. ⊎_elim
          (λ in_second. ⊎_elim
          (λ in_first. ⊎_elim (λ one. inl (alone.0 one)) (λ one. inr (inl (sources.0 one))) (first.0 in_first))
          (λ one. inr (inr (inl (late.0 one)))) (second.0 in_second))
          (λ one. inr (inr (inr (quotas.0 one)))) (third.0 is),
      λ fault. third.1 (⊎_elim (λ one. inl (second.1 (inl (first.1 (inl (alone.1 one))))))
          (λ others. ⊎_elim (λ one. inl (second.1 (inl (first.1 (inr (sources.1 one))))))
          (λ rest. ⊎_elim (λ one. inl (second.1 (inr (late.1 one)))) (λ one. inr (quotas.1 one)) rest) others) fault),
    )
