-- Pages of the files of a slot.
use Rattle.std.proofs.Common.{◌≡◌, ◌∙◌, ℕ, List, Option, Some, None, Contains, refl, ap}
use Rattle.std.specs.Option.{option_map_or}
use Rattle.standing_laws.specs.domain_base.declared.place.CellAt.{CellAt}
use Rattle.standing_laws.specs.domain_base.declared.place.Home.{Home}
use Rattle.standing_laws.specs.domain_base.declared.place.Tag.{Tag}
use Rattle.standing_laws.specs.metadata_cells.Chain.{PlacedCell}
use Rattle.standing_laws.specs.extent_maps.declared.run.PagePlace.TheVariants.{Absent, At}
use Rattle.standing_laws.specs.file_chains.Files.{places_of}
use Rattle.standing_laws.specs.fileset_files.Files.{place_at}
use Rattle.standing_laws.specs.release_list.Standing.{place_in}
use Rattle.standing_laws.proofs.OfReleaseSteps.Tags.{IsNamed, named}
use Rattle.standing_laws.specs.domain_standing.Domain.{DomainNow}
use Rattle.standing_laws.specs.domain_standing.Holders.Holder.{of_file, of_index}
use Rattle.standing_laws.proofs.HomeLists.{in_get}
use Rattle.standing_laws.proofs.OtherSlots.{seen_place}
use Rattle.set_standing.specs.Around.{BytesFollow, StandsAtSlot}
use Rattle.set_standing.proofs.FilesKept.{KeepsBytesOf}

absent_not : (home : Home) → ¬ Absent ≡ At home
absent_not home is = cc

module _ (number : ℕ) (d : DomainNow) (around : StandsAtSlot number d) where
  -- a page of a tag's file is held for that
  pub record IsHeldFor (k : ℕ) (home : Home) (t : Tag) : Type 0 where
    pub cells : List PlacedCell
    pub there : around.chains t ≡ Some cells
    pub name : IsNamed around.files cells
    pub placed : place_in around.files name.at k ≡ At home

  pub held_for : (t : Tag) (k : ℕ) (home : Home) → place_at around.chains t k ≡ At home → IsHeldFor k home t
  held_for t k home at = by_chain (around.chains t) refl at
    where
      by_chain : (o : Option (List PlacedCell)) → around.chains t ≡ o → option_map_or (λ cs. places_of cs k) o Absent ≡ At home → IsHeldFor k home t
      by_chain None none at = absurd (absent_not home at)
      by_chain (Some cells) there at =
          let m = named around.files around.chains t cells there (around.well.among.same t) in
          record { cells = cells; there = there; name = m; placed = ap (λ o. option_map_or (λ cs. places_of cs k) o Absent) m.is ∙ at }

  -- so none is a page of an index
  pub not_in_index : (first : PlacedCell) (t : Tag) (k : ℕ) (home : Home) → place_at around.chains t k ≡ At home → ¬ Contains (around.indexes first.at) home
  not_in_index first t k home at inside =
      let h = held_for t k home at in
      let place = in_get (around.indexes first.at) home inside in
      index_or_file h.name.at k first.at place.0 (around.below.owned.once home (of_file h.name.at k) (of_index first.at place.0) h.placed place.1)
    where
      index_or_file : (a : CellAt) (page : ℕ) (b : CellAt) (place : ℕ) → of_file a page ≡ of_index b place → ⊥
      index_or_file a page b place e = cc

  -- where they stay, so do the bytes of a file
  pub page_bytes : (now : DomainNow) → BytesFollow d now → (t : Tag) (cells : List PlacedCell) → around.chains t ≡ Some cells → ((k : ℕ) (home : Home) → place_at around.chains t k ≡ At home → now.pages home ≡ d.pages home) → KeepsBytesOf d now cells
  page_bytes now bytes t cells there stays seen is file k home at =
      bytes home (stays k home (ap (λ o. option_map_or (λ cs. places_of cs k) o Absent) there ∙ seen_place cells seen k home at is))
