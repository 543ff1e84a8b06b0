use Rattle.std.proofs.Common.{◌≡◌, inl, inr, get_or, refl, ⊎_elim}
use Rattle.metadata_cells.specs.domain_base.declared.place.CellAt.{CellAt}
use Rattle.metadata_cells.specs.sorted_sets.Members.{IsIn}
use Rattle.metadata_cells.proofs.OfSortedSets.Items.{item_of}
use Rattle.metadata_cells.proofs.OfSortedSets.Below.{none_below}
use Rattle.cell_chains.specs.Says.{SaysAt}
use Rattle.cell_chains.proofs.Again.{again_all, again_more, again_none, said_more}
use Rattle.cell_chains.proofs.along.look_along.Goals as goal

pub loop-at-init : goal.loop-at-init
loop-at-init g c =
    let pages = g.M.MetaPages.pages c.args.pages.now in
    record {
      said = λ n. ((λ has. absurd (c.new-said.ensures n has)), (λ below. absurd (none_below c.args.cells.now (λ (at : CellAt). SaysAt pages c.args.what at n) below)));
      found = again_none pages c.args.what c.args.cells.now (IsIn c.args.found.now);
    }

pub loop-at-preserved : goal.loop-at-preserved
loop-at-preserved g c =
    let pages = g.M.MetaPages.pages c.args.pages.now in
    let what = c.args.what in
    let cells = c.args.cells.now in
    let number = c.loop-at.at-index in
    let at = c.at-item.result in
    let item : (d : CellAt) → get_or cells number d ≡ at = item_of cells cells number at refl c.loop-at-test.true c.at-item.is in
    record {
      said = λ n.
          let put = c.in_ok-look_at.ensures.said n in
          let more = said_more pages what cells number at item n in
          let before = c.loop-at.invariant.said n in (
            λ has. more.0 (⊎_elim (λ was. inl (before.0 was)) (λ says. inr says) (put.0 has)),
            λ below. put.1 (⊎_elim (λ low. inl (before.1 low)) (λ says. inr says) (more.1 below)),
          );
      found = again_more pages what cells number at item (IsIn c.args.found.now) (IsIn c.loop-at.found) (IsIn c.look_at.new.found) c.loop-at.invariant.found
          (λ home. let put = c.in_ok-look_at.ensures.found home in (
            λ is. ⊎_elim (λ was. inl was) (λ (same, (n, says, said)). inr (same, (n, says, (c.loop-at.invariant.said n).0 said))) (put.0 is),
            λ which. put.1 (⊎_elim (λ was. inl was) (λ (same, (n, says, said)). inr (same, (n, says, (c.loop-at.invariant.said n).1 said))) which),
          ));
    }

pub returns : goal.returns
returns g c =
    let pages = g.M.MetaPages.pages c.args.pages.now in
    again_all pages c.args.what c.args.cells.now (IsIn c.args.found.now) (IsIn c.loop-at.found) c.loop-at.at-index c.loop-at.invariant.found c.loop-at-test.false c.loop-at.auto.at-index-end
