use Rattle.std.proofs.Common.{◌∙◌, ◌*◌, ◌↔◌, inl, inr, IsTrue, sym, ap, subst, ⊎_elim}
use Rattle.std.specs.Option.{option_copied}
use Rattle.tag_faults.specs.disk_label.declared.anchor.Member.{Member}
use Rattle.tag_faults.specs.log_ring.Homes.{member_of}
use Rattle.tag_faults.specs.free_space.CheckBits.{IsWrongPage}
use Rattle.tag_faults.specs.page_ways.Frame.{frame_in}
use Rattle.tag_faults.specs.sorted_sets.SpanMembers.{HasNumber}
use Rattle.page_faults.proofs.BitmapsFound.{no_page, page_wrong}
use Rattle.page_faults.proofs.bitmaps.insert_wrong.Goals as goal

pub returns-in_default : goal.returns-in_default
returns-in_default g c home = (
  λ is. inl is,
  λ which. ⊎_elim (λ is. is)
      (λ wrong. absurd (no_page (g.M.MetaPages.pages c.args.pages.now) (frame_in c.args.frame.now) (HasNumber c.args.owned.now) c.args.vol c.args.number c.bitmap_home-home.result c.bitmap_home-home.ensures
      (sym (ap option_copied c.in_default.is) ∙ c.get.ensures) home wrong)) which,
)

pub returns : goal.returns
returns g c home =
    let pages = g.M.MetaPages.pages c.args.pages.now in
    let put = c.in_ok-insert_if.ensures home in
    let page = c.in-Some.page.now in
    let bad = c.is_wrong_page-wrong.result in
    let told = subst (λ n. IsTrue bad ↔ IsWrongPage page (HasNumber c.args.owned.now) (member_of c.args.frame.now.anchor c.args.vol).pages (65536 * n)) c.from-first.ensures
    (subst (λ (m : Member). IsTrue bad ↔ IsWrongPage page (HasNumber c.args.owned.now) m.pages (65536 * c.from-first.result)) c.member.ensures c.is_wrong_page-wrong.ensures) in
    let there = sym c.get.ensures ∙ ap option_copied c.in-Some.is in
    let all = page_wrong pages (frame_in c.args.frame.now) (HasNumber c.args.owned.now) c.args.vol c.args.number c.bitmap_home-home.result c.bitmap_home-home.ensures c.in-Some.page.now there c.is_wrong_page-wrong.result told home in (
      λ is. ⊎_elim (λ was. inl was) (λ here. inr (all.0 here)) (put.0 is),
      λ which. put.1 (⊎_elim (λ was. inl was) (λ wrong. inr (all.1 wrong)) which),
    )
