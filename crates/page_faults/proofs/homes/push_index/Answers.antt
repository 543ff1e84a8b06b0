use Rattle.std.proofs.Common.{inl, inr, ⊎_elim}
use Rattle.tag_faults.specs.page_ways.Frame.{frame_in}
use Rattle.page_faults.proofs.HomesFound.{no_pages, pages_of}
use Rattle.page_faults.proofs.homes.push_index.Goals as goal

pub returns-in_default : goal.returns-in_default
returns-in_default g c home =
    let named = c.in_ok-first.ensures (frame_in c.args.frame.now) c.requires in
    let none = no_pages (g.M.MetaPages.pages c.args.pages.now) (frame_in c.args.frame.now) c.args.at.now c.in_ok-first.field-0 c.in_default.is named home in
    ((λ is. inl is), (λ which. ⊎_elim (λ is. is) (λ of. absurd (none of)) which))

pub returns : goal.returns
returns g c home =
    let named = c.in_ok-first.ensures (frame_in c.args.frame.now) c.requires in
    let all = pages_of (g.M.MetaPages.pages c.args.pages.now) (frame_in c.args.frame.now) c.args.at.now c.in_ok-first.field-0 named c.in-Some.first c.in-Some.is home in
    let put = c.in_ok-push_reached.ensures home in (
      λ is. ⊎_elim (λ was. inl was) (λ reached. inr (all.0 reached)) (put.0 is),
      λ which. put.1 (⊎_elim (λ was. inl was) (λ of. inr (all.1 of)) which),
    )
