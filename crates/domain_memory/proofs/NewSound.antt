-- A domain of which no tag names a file, no slot quota cells and no list anything is as rules of pages ask beside.
use Rattle.std.proofs.Common.{◌≡◌, ◌∙◌, ℕ, true, false, List, [], ◌∷◌, Option, Some, None, Contains, slice_get, refl, sym, ap, subst, arith, ⊎_elim, true≢false}
use Rattle.std.specs.Option.{is_some, option_and_then, option_map_or}
use Rattle.standing_laws.specs.domain_base.declared.place.CellAt.{CellAt}
use Rattle.standing_laws.specs.domain_base.declared.place.Home.{Home}
use Rattle.standing_laws.specs.domain_base.declared.place.Tag.{Tag}
use Rattle.standing_laws.specs.cell_records.declared.record.Leftover.TheVariants.{Remove}
use Rattle.standing_laws.specs.metadata_cells.Chain.{PlacedCell}
use Rattle.standing_laws.specs.tag_dirs.Directory.{cell_of, has_home}
use Rattle.standing_laws.specs.tag_dirs.declared.dir.TagPlace.{TagPlace}
use Rattle.standing_laws.specs.extent_maps.declared.run.PagePlace.TheVariants.{Absent, At}
use Rattle.standing_laws.specs.file_chains.Files.{places_of}
use Rattle.standing_laws.specs.fileset_files.Shown.{index_of}
use Rattle.standing_laws.specs.index_pages.Homes.{AreIndexHomes}
use Rattle.standing_laws.specs.fileset_model.Filesets.{FilesetMap}
use Rattle.standing_laws.specs.fileset_table.declared.slot.SlotItem.{SlotItem}
use Rattle.standing_laws.specs.fileset_table.declared.slot.SlotItem.TheVariants as slot
use Rattle.standing_laws.specs.release_list.Listed.{left_of}
use Rattle.standing_laws.specs.release_list.Listing.{IsEmpty}
use Rattle.standing_laws.specs.release_list.declared.list.Entry.{Entry}
use Rattle.standing_laws.specs.domain_layout.Faults.{HasNoFault}
use Rattle.standing_laws.specs.domain_layout.Reached.{IsWithin}
use Rattle.standing_laws.specs.domain_layout.TagRules.{quota_of}
use Rattle.standing_laws.specs.domain_standing.Chains.{IsQuotaOf, IsTagged}
use Rattle.standing_laws.specs.domain_standing.Domain.{DomainNow, item_in}
use Rattle.standing_laws.specs.domain_standing.Holders.{Holder, Holds}
use Rattle.standing_laws.specs.domain_standing.Holders.Holder.{of_cells, of_file, of_index, of_log, of_table, of_tags, of_volume}
use Rattle.standing_laws.specs.domain_standing.Standing.{StandsDomain}
use Rattle.standing_laws.specs.Sound.{IsSound}
use Rattle.standing_laws.proofs.SoundTables.{faultless_cells, faultless_laters}

none_some : {P X : Type 0} (x : X) → None ≡ Some x → P
none_some x e = absurd (cc)

absent_at : {P : Type 0} (home : Home) → Absent ≡ At home → P
absent_at home e = absurd (cc)

in_nothing : {P X : Type 0} (xs : List X) (x : X) → xs ≡ [] → Contains xs x → P
in_nothing [] x none inside = absurd (omega (arith, inside.1))
in_nothing (y ∷ ys) x none inside = absurd (cc)

module _ (d : DomainNow) (all : FilesetMap) (stands : StandsDomain d all) (no_fault : HasNoFault d.pages d.frame) (untagged : (number : ℕ) → d.tags number ≡ []) (free : (number : ℕ) (item : SlotItem) → item_in d number ≡ Some item → item ≡ slot.Free)
    (nothing : IsEmpty d.list) where
  no_tag : (at : CellAt) → ¬ IsTagged d at
  no_tag at (number, tag, leads) = none_some at (sym (ap (λ (ps : List TagPlace). cell_of d.pages ps tag) (untagged number)) ∙ leads)

  no_quota : (at : CellAt) (number : ℕ) → ¬ IsQuotaOf d number at
  no_quota at number names = by_item (item_in d number) refl names
    where
      by_item : (o : Option SlotItem) → item_in d number ≡ o → option_and_then quota_of o ≡ Some at → ⊥
      by_item None there names = none_some at names
      by_item (Some item) there names = none_some at (ap quota_of (sym (free number item there)) ∙ names)

  not_going : (at : CellAt) (chain : List PlacedCell) → stands.files at ≡ Some chain → ¬ left_of chain ≡ Some Remove
  not_going at chain there left =
      let on = stands.chains.to_do at (ap (λ o. is_some (option_and_then left_of o)) there ∙ ap is_some left) in
      in_nothing d.list.entries on.0 nothing.0 on.1

  no_file : (at : CellAt) → stands.files at ≡ None
  no_file at = by_chain (stands.files at) refl
    where
      by_chain : (o : Option (List PlacedCell)) → stands.files at ≡ o → o ≡ None
      by_chain None there = refl
      by_chain (Some chain) there = absurd (⊎_elim (no_tag at) (λ rest. ⊎_elim (not_going at chain there) (λ quota. no_quota at quota.0 quota.1) rest) (stands.chains.named at chain there))

  no_index : (at : CellAt) → stands.indexes at ≡ []
  no_index at = by_homes (stands.indexes at) (subst (λ o. AreIndexHomes d.pages (option_and_then index_of o) (stands.indexes at)) (no_file at) (stands.chains.indexed at))
    where
      by_homes : (homes : List Home) → AreIndexHomes d.pages None homes → homes ≡ []
      by_homes [] are = refl
      by_homes (home ∷ homes) are = absurd are

  within : (home : Home) (holder : Holder) → ¬ holder ≡ of_volume → ¬ holder ≡ of_log → Holds d stands.files stands.indexes holder home → IsWithin d.frame home
  within home of_volume no_volume no_log held = absurd (no_volume refl)
  within home of_log no_volume no_log held = absurd (no_log refl)
  within home of_table no_volume no_log held = (stands.tables.may home held).0
  within home of_cells no_volume no_log held = faultless_cells d stands.tables.laid no_fault home held.0 held.1
  within home (of_tags n) no_volume no_log held = absurd (true≢false (sym held ∙ ap (λ (ps : List TagPlace). has_home ps home) (untagged n)))
  within home (of_index at k) no_volume no_log held = none_some home (sym (ap (λ (hs : List Home). slice_get hs k) (no_index at)) ∙ held)
  within home (of_file at page) no_volume no_log held = absent_at home (sym (ap (λ (o : Option (List PlacedCell)). option_map_or (λ cs. places_of cs page) o Absent) (no_file at)) ∙ held)

  pub new_sound : IsSound d
  new_sound = record {
    files = stands.files;
    indexes = stands.indexes;
    below = record { tables = stands.tables; chains = stands.chains; owned = stands.owned; rest = stands.rest };
    sound = record {
      within = within;
      laters = faultless_laters d stands.tables.laid no_fault;
      good = λ at home inside. in_nothing (stands.indexes at) home (no_index at) inside;
    };
  }
