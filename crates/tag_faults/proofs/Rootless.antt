-- Originals that are found to have no root are those of the rule.
use Rattle.std.proofs.Common.{◌↔◌, ◌≤◌, ℕ, List, length, refl, subst, arith}
use Rattle.cell_faults.specs.domain_base.declared.place.CellAt.{CellAt}
use Rattle.cell_faults.specs.domain_base.declared.place.Home.{Home}
use Rattle.cell_faults.specs.domain_base.declared.place.Tag.{Tag}
use Rattle.cell_faults.specs.page_store.Pages.{Pages}
use Rattle.cell_faults.specs.fileset_table.Table.{Table}
use Rattle.cell_faults.specs.name_space.Names.{root_tag}
use Rattle.cell_faults.specs.domain_layout.Reached.{Frame}
use Rattle.cell_faults.specs.domain_layout.TagRules.{HasEntry, HasNoRoot}
use Rattle.tag_faults.specs.Entries.{AreEntries, address_of, tag_of}
use Rattle.tag_faults.specs.Roots.{AreRootsRemoved, IsRemovedAt, LacksRoot}
use Rattle.tag_faults.specs.declared.named.NamedCell.{NamedCell}
use Rattle.tag_faults.proofs.Counted.{IsBelow, within_of}

module _ (pages : Pages) (frame : Frame) (table : Table) (entries : List NamedCell) (are : AreEntries pages frame table entries) where
  roots_of : (number : ℕ) → AreRootsRemoved pages frame entries number → (at : CellAt) (other : Home) → HasEntry pages frame table number root_tag at other → IsRemovedAt pages frame at
  roots_of number removed at other has =
      let one : NamedCell = record { number = number; slot = 1; seq = 1; vol = at.vol; cell = at.cell; page = at.page; home = other } in
      removed one ((are one).1 has) (refl, refl)

  roots_from : (number : ℕ) → ((at : CellAt) (other : Home) → HasEntry pages frame table number root_tag at other → IsRemovedAt pages frame at) → AreRootsRemoved pages frame entries number
  roots_from number removed one among (same, root) =
      let has : HasEntry pages frame table one.number (tag_of one) (address_of one) one.home = (are one).0 among in
      let here : HasEntry pages frame table number (tag_of one) (address_of one) one.home = subst (λ n. HasEntry pages frame table n (tag_of one) (address_of one) one.home) same has in
      removed (address_of one) one.home (subst (λ (t : Tag). HasEntry pages frame table number t (address_of one) one.home) root here)

  pub rootless_all : (number : ℕ) → length table.slots ≤ number → (home : Home) → IsBelow (LacksRoot pages frame table entries home) number ↔ HasNoRoot pages frame table home
  rootless_all number whole home = (
    λ (k, below, ((item, there, original, first), removed)).
        record { number = k; item = item; there = there; original = original; first = first; none = roots_of k removed },
    λ wrong. (
      wrong.number,
      omega (arith, within_of table.slots wrong.number wrong.item wrong.there, whole),
      ((wrong.item, wrong.there, wrong.original, wrong.first), roots_from wrong.number wrong.none),
    ),
  )
