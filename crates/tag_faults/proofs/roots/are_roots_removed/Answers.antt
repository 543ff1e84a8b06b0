use Rattle.std.proofs.Common.{◌≡◌, ◌∙◌, arith, get_or, refl, sym, subst, ⊎_elim}
use Rattle.std.proofs.lemmas.Bool.{cases_lt}
use mathlib.Core.Bool.{false≢true}
use Rattle.cell_faults.specs.page_ways.Frame.{frame_in}
use Rattle.cell_faults.proofs.OfSortedSets.Items.{item_of}
use Rattle.tag_faults.specs.Entries.{address_of}
use Rattle.tag_faults.specs.Roots.{IsRemovedAt, IsRootOf}
use Rattle.tag_faults.specs.declared.named.NamedCell.{NamedCell}
use Rattle.tag_faults.proofs.roots.are_roots_removed.Goals as goal

pub loop-entry-preserved : goal.loop-entry-preserved
loop-entry-preserved g c one (k, below, at) root =
    let pages = g.M.MetaPages.pages c.args.pages.now in
    let frame = frame_in c.args.frame.now in
    let entries = c.args.entries.now in
    let number = c.loop-entry.entry-index in
    let item = c.entry-item.result in
    let is = item_of {X = NamedCell} entries entries number item refl c.loop-entry-test.true c.entry-item.is in
    ⊎_elim (λ low. c.loop-entry.invariant one (k, low, at) root)
    (λ high.
    let here : k ≡ number = omega (arith, below, high) in
    let same : item ≡ one = sym (is one) ∙ subst (λ n. get_or entries n one ≡ one) here at in
    subst (λ (e : NamedCell). IsRemovedAt pages frame (address_of e)) same
    (c.in_ok-is_root_there.ensures.none (λ there. false≢true (sym c.if-branch.false ∙ there)) (subst (IsRootOf c.args.number) (sym same) root))) (cases_lt k number)

pub returns : goal.returns
returns g c = (
  λ is. λ one (k, within, at) root. c.loop-entry.invariant one (k, omega (arith, within, c.loop-entry-test.false), at) root,
  λ removed. refl,
)
