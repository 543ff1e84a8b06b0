use Rattle.std.proofs.Common.{inl, inr, ⊎_elim}
use Rattle.tag_faults.specs.page_ways.Frame.{frame_in}
use Rattle.tag_faults.specs.sorted_sets.SpanMembers.{HasNumber}
use Rattle.tag_faults.specs.cell_chains.Runs.{page_in}
use Rattle.page_faults.proofs.RunsOutside.{met_all}
use Rattle.page_faults.proofs.wrong.look_at_member.Goals as goal

pub returns : goal.returns
returns c apart home =
    let frame = frame_in c.args.frame.now in
    let homes = c.args.homes.now in
    let runs = c.args.runs.now in
    let all = met_all frame homes runs c.args.vol c.requires (HasNumber c.in_ok-shared.shared)
    (λ run page among there is.
    let found = c.in_ok-shared.ensures apart run page among there is in
    let taken = c.in_ok-spans.ensures (page_in run page) in (
      (λ has. ⊎_elim (λ span. inl (taken.0 span)) (λ shared. inr shared) (found.0 has)),
      (λ which. found.1 (⊎_elim (λ of. inl (taken.1 of)) (λ shared. inr shared) which)),
    )) home in
    let put = c.in_ok-insert_all_met.ensures home in (
      λ is. ⊎_elim (λ was. inl was) (λ met. inr (all.0 met)) (put.0 is),
      λ which. put.1 (⊎_elim (λ was. inl was) (λ wrong. inr (all.1 wrong)) which),
    )
