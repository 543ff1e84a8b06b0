use Rattle.std.proofs.Common.{◌↔◌, inl, inr, ℕ, subst, ⊎_elim}
use Rattle.tag_faults.specs.page_ways.Frame.{frame_in}
use Rattle.tag_faults.specs.sorted_sets.SpanMembers.{HasNumber}
use Rattle.tag_faults.specs.cell_chains.Runs.{on}
use Rattle.page_faults.specs.Wrong.{HasWrongBitmap, IsOwnedBy, IsWrongBitmapOf}
use Rattle.page_faults.proofs.BitmapsFound.{bitmaps_by}
use Rattle.page_faults.proofs.bitmaps.look_at_volume.Goals as goal

pub returns : goal.returns
returns g c home =
    let pages = g.M.MetaPages.pages c.args.pages.now in
    let frame = frame_in c.args.frame.now in
    let homes = c.args.homes.now in
    let runs = c.args.runs.now in
    let Found : ℕ → Type 0 = HasNumber c.in_ok-owned.owned in
    let same : (n : ℕ) → Found n ↔ IsOwnedBy frame homes runs (on c.in-Some.vol n) =
    λ n.
    let owned = c.in_ok-owned.ensures n in
    let taken = c.in_ok-spans.ensures n in (
      (λ has. ⊎_elim (λ span. inl (taken.0 span)) (λ said. inr said) (owned.0 has)),
      (λ which. owned.1 (⊎_elim (λ of. inl (taken.1 of)) (λ said. inr said) which)),
    ) in
    let all = subst (λ v. HasWrongBitmap pages frame Found c.in-Some.vol home ↔ IsWrongBitmapOf pages frame homes runs home v) c.in-Some.ensures.value
    (bitmaps_by pages frame homes runs c.in-Some.vol (c.is_member.ensures.0 c.if-not-is_member.false) Found same home) in
    let put = c.in_ok-insert_all_wrong.ensures home in (
      λ is. ⊎_elim (λ was. inl was) (λ wrong. inr (all.0 wrong)) (put.0 is),
      λ which. put.1 (⊎_elim (λ was. inl was) (λ wrong. inr (all.1 wrong)) which),
    )
