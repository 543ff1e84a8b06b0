use Rattle.std.proofs.Common.{inl, inr, ⊎_elim}
use Rattle.cell_faults.specs.page_ways.Frame.{frame_in}
use Rattle.tag_faults.proofs.TagsAll.{tags_all}
use Rattle.tag_faults.proofs.all.tags_faults.Goals as goal

pub returns : goal.returns
returns g c home =
    let pages = g.M.MetaPages.pages c.args.pages.now in
    let all = tags_all pages (frame_in c.args.frame.now) c.args.table.now home in
    let first = c.in_ok-found.ensures home in
    let named = c.in_ok-named.ensures home in
    let put = c.in_ok-insert_set.ensures home in
    let last = c.in_ok-insert_slot_fault.ensures home in (
      λ is. all.0 (⊎_elim
          (λ in_put. inl (⊎_elim (λ one. inl (first.0 one)) (λ one. inr (named.0 one)) (put.0 in_put)))
          (λ slot. inr slot) (last.0 is)),
      λ fault. last.1 (⊎_elim
          (λ earlier. inl (put.1 (⊎_elim (λ one. inl (first.1 one)) (λ one. inr (named.1 one)) earlier)))
          (λ slot. inr slot) (all.1 fault)),
    )
