-- The files that the tags of a slot name belong together with its tag directory, whatever is in the slot.
use Rattle.std.proofs.Common.{◌≡◌, ◌∙◌, ◌≤◌, ◌<◌, ⊎_elim, ℕ, true, false, List, Option, Some, None, IfSome, IsSomeAnd, refl, ap, arith}
use Rattle.std.proofs.lemmas.Bool.{cases_Bool}
use Rattle.std.specs.FinSet.{contains}
use Rattle.std.specs.Option.{option_and_then, option_map_or}
use Rattle.domain_standing.specs.domain_base.declared.place.Home.{Home}
use Rattle.domain_standing.specs.domain_base.declared.place.Tag.{Tag}
use Rattle.domain_standing.specs.page_store.Bitfiles.{same_tag}
use Rattle.domain_standing.specs.metadata_cells.Chain.{PlacedCell}
use Rattle.domain_standing.specs.extent_maps.declared.run.PagePlace.TheVariants.{Absent, At}
use Rattle.domain_standing.specs.free_space.Spaces.{IsHeld, volume_of}
use Rattle.domain_standing.specs.free_space.VolumeSpace.{VolumeSpace, is_waiting}
use Rattle.domain_standing.specs.file_chains.FileChanges.{AreOnTables}
use Rattle.domain_standing.specs.file_chains.Files.{places_of}
use Rattle.domain_standing.specs.fileset_files.Files.{place_at}
use Rattle.domain_standing.proofs.OfFilesetFiles.OneFile.{tags_same}
use Rattle.domain_standing.specs.fileset_files.Together.{AreFilePages, AreFilesOnTables, AreTagPages, AreTogether, IsEachHomeOnce}
use Rattle.domain_standing.specs.release_list.Standing.{Files, StandTogether, place_in}
use Rattle.domain_standing.proofs.OfReleaseList.Standings.{place_by, standing}
use Rattle.domain_standing.specs.release_steps.Tags.{start_of}
use Rattle.domain_standing.proofs.OfReleaseSteps.TagFile.{other_starts}
use Rattle.domain_standing.proofs.OfReleaseSteps.Tags.{IsNamed, named}
use Rattle.domain_standing.specs.domain_layout.Reached.{IsWithin}
use Rattle.domain_standing.specs.Chains.{HasFilesAmong, IndexesAt}
use Rattle.domain_standing.specs.Domain.{DomainNow}
use Rattle.domain_standing.specs.Holders.{AreHeldAt, AreHeldOn, Holder, Holds}
use Rattle.domain_standing.specs.Holders.Holder.{of_cells, of_log, of_tags, of_volume}
use Rattle.standing_laws.specs.Leads.{StandsBelow}
use Rattle.standing_laws.specs.Sound.{StandsSound}

none_at : (home : Home) → Absent ≡ At home → ⊥
none_at home e = cc

module _ (d : DomainNow) (files : Files) (indexes : IndexesAt) (below : StandsBelow d files indexes) (sound : StandsSound d files indexes) where
  -- what is held for something, but for volumes and the log, is used and does not wait
  pub held_for : (home : Home) (holder : Holder) → ¬ holder ≡ of_volume → ¬ holder ≡ of_log → 1 ≤ home.vol → Holds d files indexes holder home → IsHeld d.space home.vol home.page
  held_for home holder off_volume off_log low holds = by_volume (volume_of d.space home.vol) (below.owned.spaces home.vol low)
    where
      within : IsWithin d.frame home
      within = sound.within home holder off_volume off_log holds

      is_used : (v : VolumeSpace) → AreHeldOn d files indexes home.vol v → contains v.used home.page ≡ true
      is_used v is = ⊎_elim
          (λ used. used)
          (λ free. let inside : home.page < v.pages = omega (arith, within.1, is.count) in absurd (((is.free home.page inside).0 free).0 holder holds))
          (cases_Bool (contains v.used home.page))

      none_waits : (v : VolumeSpace) → AreHeldOn d files indexes home.vol v → is_waiting v home.page ≡ false
      none_waits v is = ⊎_elim (λ waits. absurd (is.waits home.page waits holder holds)) (λ none. none) (cases_Bool (is_waiting v home.page))

      by_volume : (o : Option VolumeSpace) → AreHeldAt d files indexes home.vol o → IsSomeAnd o (λ v. (contains v.used home.page ≡ true) × (is_waiting v home.page ≡ false))
      by_volume None none = absurd (none within.0)
      by_volume (Some v) is = (is_used v is.1, none_waits v is.1)

  module _ (n : ℕ) (has : HasFilesAmong d files n) where
    all : StandTogether d.space d.cells d.pages files
    all = below.chains.well.together

    tag_pages : AreTagPages d.space d.cells (d.tags n)
    tag_pages home inside = record {
      held = held_for home (of_tags n) (λ e. cc) (λ e. cc) (has.among.low home inside) inside;
      off_table = λ on. differ (below.owned.once home (of_tags n) of_cells inside ((sound.within home (of_tags n) (λ e. cc) (λ e. cc) inside).0, on));
    }
      where
        differ : ¬ of_tags n ≡ of_cells
        differ e = cc

    its : (t : Tag) (cs : List PlacedCell) → has.chains t ≡ Some cs → IsNamed files cs
    its t cs there = named files has.chains t cs there (has.among.same t)

    -- a page of a tag's file is one of the domain's
    record IsPlaced (t : Tag) (page : ℕ) (home : Home) : Type 0 where
      cells : List PlacedCell
      there : has.chains t ≡ Some cells
      name : IsNamed files cells
      placed : place_in files name.at page ≡ At home

    placed_in : (t : Tag) (page : ℕ) (home : Home) → place_at has.chains t page ≡ At home → IsPlaced t page home
    placed_in t page home at = by_chain (has.chains t) refl at
      where
        by_chain : (o : Option (List PlacedCell)) → has.chains t ≡ o → option_map_or (λ cs. places_of cs page) o Absent ≡ At home → IsPlaced t page home
        by_chain None there at = absurd (none_at home at)
        by_chain (Some cs) there at = let name = its t cs there in record { cells = cs; there = there; name = name; placed = place_by files name.at cs page name.is ∙ at }

    file_pages : AreFilePages d.space d.cells (d.tags n) has.chains
    file_pages t page home at = let it = placed_in t page home at in record {
      apart = all.held it.name.at page home it.placed;
      no_tags = has.among.no_tags it.name.at page home it.placed;
    }

    on_tables : AreFilesOnTables d.cells has.chains
    on_tables t = by_chain (has.chains t) refl
      where
        by_chain : (o : Option (List PlacedCell)) → has.chains t ≡ o → IfSome o (AreOnTables d.cells)
        by_chain None there = tt
        by_chain (Some cs) there = let name = its t cs there in (standing d.space d.cells d.pages files all name.at cs name.is).on_tables

    once : IsEachHomeOnce has.chains
    once s t p q home at_s at_t =
        let one = placed_in s p home at_s in
        let other = placed_in t q home at_t in
        let same = all.once one.name.at other.name.at p q home one.placed other.placed in (
          ⊎_elim
              (λ tags. tags_same s t tags)
              (λ apart. absurd (other_starts n (d.tags n) d.pages has.chains has.are files has.among.same t other.cells other.there other.name.at other.name.start s one.name.at apart (ap (option_and_then start_of) one.there ∙ one.name.start) same.0))
              (cases_Bool (same_tag s t)),
          same.1,
        )

    pub slot_together : AreTogether n (d.tags n) d.space d.cells d.pages has.chains
    slot_together = record {
      files = has.are;
      allocated = all.allocated;
      on_tables = on_tables;
      tag_pages = tag_pages;
      file_pages = file_pages;
      once = once;
    }
