use Rattle.std.proofs.Common.{◌≡◌, ◌∙◌, Some, length, slice_get, sym, subst, arith, rules, vec_len}
use Rattle.std.proofs.lemmas.Option.{slice_get_read}
use mathlib.Core.Bool.{false≢true}
use Rattle.no_faults.proofs.OfDomainLayout.OnePage.{some_same}
use Rattle.attached_domain.specs.Signs.{LeadsSo}
use Rattle.attached_domain.proofs.Looked.{LeadsElse, none_leads, one_more}
use Rattle.attached_domain.proofs.tags.some_tag_says.Goals as goal

pub loop-i-preserved : goal.loop-i-preserved
loop-i-preserved g c =
    let pages = g.M.MetaPages.pages c.args.pages.now in
    let tags = c.in_ok-tags.tags in
    let here = c.index.result.now in
    let size : vec_len tags ≡ length tags.items = search rules in
    let at : slice_get tags.items c.loop-i.i ≡ Some here =
    slice_get_read tags.items (vec_len tags) c.loop-i.i here size (omega (arith, c.loop-i-test.true, c.len-i-end.ensures)) c.index.ensures in
    one_more (LeadsElse pages c.args.sign c.args.dir.now tags.items) c.loop-i.i c.loop-i.invariant
    (λ tag there leads. false≢true (sym c.if-branch.false ∙ c.in_ok-leads_so.ensures.1 (subst (LeadsSo pages c.args.sign c.args.dir.now) (some_same tag here (sym there ∙ at)) leads)))

pub returns : goal.returns
returns g c =
    let pages = g.M.MetaPages.pages c.args.pages.now in
    let tags = c.in_ok-tags.tags in
    let size : vec_len tags ≡ length tags.items = search rules in
    let none = none_leads pages c.args.sign c.args.dir.now tags.items c.in_ok-tags.ensures
    (λ k below. c.loop-i.invariant k (omega (arith, below, c.loop-i-test.false, c.loop-i.auto.i-end, c.len-i-end.ensures, size))) in
    ((λ is. absurd (false≢true is)), (λ says. absurd (none says)))
