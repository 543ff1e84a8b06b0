-- A domain stands on around a slot where a page of a file is put in place.
use Rattle.std.proofs.Common.{◌≡◌, ◌∙◌, ℕ, Bool, true, false, List, [], Option, Some, None, IfSome, Contains, refl, sym, ap, subst, true≢false}
use Rattle.std.proofs.lemmas.List.{append-nil}
use Rattle.std.specs.Option.{option_map_or}
use Rattle.standing_laws.specs.domain_base.declared.place.CellAt.{CellAt}
use Rattle.standing_laws.specs.domain_base.declared.place.Home.{Home}
use Rattle.standing_laws.specs.domain_base.declared.place.Kind.TheVariants.{Directory, File}
use Rattle.standing_laws.specs.domain_base.declared.place.Tag.{Tag}
use Rattle.standing_laws.specs.page_store.Bitfiles.{same_tag}
use Rattle.standing_laws.specs.page_store.Pages.{Pages}
use Rattle.standing_laws.specs.metadata_cells.CellPage.{cell_at, home_of}
use Rattle.standing_laws.specs.metadata_cells.Chain.{PlacedCell}
use Rattle.standing_laws.specs.tag_dirs.Directory.{cell_of, has_home}
use Rattle.standing_laws.specs.extent_maps.declared.run.PagePlace.TheVariants.{Absent, At}
use Rattle.standing_laws.specs.free_cells.Cells.{table_of}
use Rattle.standing_laws.specs.file_chains.Files.{places_of}
use Rattle.standing_laws.specs.fileset_files.Creation.{last_sequence}
use Rattle.standing_laws.specs.fileset_files.Files.{LeadsToFile, place_at}
use Rattle.standing_laws.specs.fileset_files.Together.{AreTogether}
use Rattle.standing_laws.proofs.OfFilesetFiles.OneFile.{tags_same}
use Rattle.standing_laws.proofs.OfStoredSet.Together.{together_away}
use Rattle.standing_laws.specs.release_list.Standing.{place_in}
use Rattle.standing_laws.proofs.OfReleaseSteps.Tags.{IsNamed, named}
use Rattle.standing_laws.specs.domain_layout.Filled.{Contents}
use Rattle.standing_laws.specs.domain_standing.Domain.{DomainNow}
use Rattle.standing_laws.specs.domain_standing.Holders.Holder.{of_file}
use Rattle.standing_laws.specs.Leads.{IsLiveOf, StandsBelow}
use Rattle.standing_laws.specs.OtherPages.{KeepsPlaces, KeepsWhere}
use Rattle.standing_laws.proofs.OthersStand.{others_stand}
use Rattle.standing_laws.proofs.SoundInPlace.{but_elsewhere}
use Rattle.set_standing.specs.Around.{BytesFollow, GoesOnAround, IsNamedIn, StandsAround}
use Rattle.set_standing.specs.Follow.{FilesFollow, TagFollows}
use Rattle.set_standing.proofs.Again.{at_slot, its_number, says_some}
use Rattle.set_standing.proofs.Aside.{stays_aside}
use Rattle.set_standing.proofs.FilesKept.{KeepsBytesOf, files_by, seen_directory, tag_same}
use Rattle.set_standing.proofs.Following.{kept_sequences, other_begins, same_sequences}
use Rattle.set_standing.proofs.OwnPages.{held_for, page_bytes}

module _ (number : ℕ) (tag : Tag) (page : ℕ) (d : DomainNow) (around : StandsAround number d) (pages : Pages) (contents : Contents) (directory : IsLiveOf Directory (around.chains tag)) (elsewhere : (home : Home) → ¬ place_at around.chains tag page ≡ At home → pages home ≡ d.pages home) where
  abbrev now : DomainNow
  now = record d { pages = pages; contents = contents }

  module _ (bytes : BytesFollow d now) where
    module _ (cs : List PlacedCell) (some : around.chains tag ≡ Some cs) where
      m : IsNamed around.files cs
      m = named around.files around.chains tag cs some (around.well.among.same tag)

      place_there : (home : Home) → place_at around.chains tag page ≡ At home → place_in around.files m.at page ≡ At home
      place_there home at = ap (λ o. option_map_or (λ cs. places_of cs page) o Absent) m.is ∙ sym (ap (λ o. option_map_or (λ cs. places_of cs page) o Absent) some) ∙ at

      keeps_where : KeepsWhere d now around.files around.indexes
      keeps_where home holder holds no_volume no_log no_file =
          elsewhere home (λ at. no_file m.at page (around.below.owned.once home holder (of_file m.at page) holds (place_there home at)))

      below_now : StandsBelow now around.files around.indexes
      below_now = others_stand d now around.files around.indexes around.below refl keeps_where

      on_table : (home : Home) → Contains (table_of d.cells home.vol) home.page → pages home ≡ d.pages home
      on_table home on = elsewhere home (λ at. (around.well.together.file_pages tag page home at).apart.off_table on)

      on_tag : (home : Home) → has_home (d.tags number) home ≡ true → pages home ≡ d.pages home
      on_tag home has = elsewhere home (λ at. both has (around.well.together.file_pages tag page home at).no_tags)
        where
          both : has_home (d.tags number) home ≡ true → has_home (d.tags number) home ≡ false → ⊥
          both is not = true≢false (sym is ∙ not)

      together_now : AreTogether number (d.tags number) d.space d.cells pages around.chains
      together_now = together_away d.pages pages d.cells on_table number (d.tags number) d.space around.chains on_tag around.well.together

      around_now : StandsAround number now
      around_now =
          let among = around.well.among in
          record {
            entry = around.entry;
            original = around.original;
            files = around.files;
            indexes = around.indexes;
            below = below_now;
            chains = around.chains;
            well = record {
              well = below_now.chains.well;
              together = together_now;
              among = record { same = among.same; live = among.live; trimmed = among.trimmed; low = among.low; no_tags = among.no_tags; not_listed = among.not_listed };
            };
            alone = around.alone;
            sound = but_elsewhere d now around.files around.indexes (IsNamedIn around.chains) around.sound refl keeps_where;
          }

      leads : LeadsToFile number (d.tags number) d.pages tag cs
      leads = subst (λ o. IfSome o (LeadsToFile number (d.tags number) d.pages tag)) some (around.well.together.files.some tag)

      -- the page is of no other tag's file
      page_elsewhere : (t : Tag) (k : ℕ) (home : Home) → same_tag t tag ≡ false → place_at around.chains t k ≡ At home → pages home ≡ d.pages home
      page_elsewhere t k home differ at = elsewhere home (λ mine.
          let h = held_for number d (at_slot number d around) t k home at in
          other_begins number (d.tags number) d.pages around.chains around.well.together.files around.files t tag h.cells cs h.there some differ h.name m
          (one_start h.name.at k m.at page (around.below.owned.once home (of_file h.name.at k) (of_file m.at page) h.placed (place_there home mine))))
        where
          one_start : (a : CellAt) (j : ℕ) (b : CellAt) (k : ℕ) → of_file a j ≡ of_file b k → a ≡ b
          one_start a j b k e = cc

      files_follow : FilesFollow None number d now
      files_follow = files_by number d now [] (sym (append-nil (d.tags number)))
          (same_sequences number d now refl (kept_sequences d.pages pages (d.tags number) around.well.together.files.directory on_tag)) around.chains around.chains around.well.together.files together_now.files
          each
        where
          each : (t : Tag) → TagFollows None d now (last_sequence d.pages (d.tags number) t.slot) t (around.chains t) (around.chains t)
          each t = tag_same d now (last_sequence d.pages (d.tags number) t.slot) t (around.chains t) (λ cells there. by_tag cells there (same_tag t tag) refl)
            where
              by_tag : (cells : List PlacedCell) → around.chains t ≡ Some cells → (b : Bool) → same_tag t tag ≡ b → KeepsBytesOf d now cells
              by_tag cells there true same = λ seen is file k home at.
                  let live = subst (IsLiveOf Directory) (sym (ap around.chains (tags_same t tag same)) ∙ there) directory in
                  let e : File ≡ Directory = sym file ∙ seen_directory cells seen live is in
                  absurd (cc)
              by_tag cells there false differ = page_bytes number d (at_slot number d around) now bytes t cells there (λ k home placed. page_elsewhere t k home differ placed)

      file_written : GoesOnAround None number d now
      file_written = (
        around_now,
        stays_aside number m.at d now around.files around.indexes around.below cs m.is (its_number number tag cs leads.is_of) (says_some d.pages (cell_of d.pages (d.tags number) tag) cs leads.leads) (λ n differ. refl) refl below_now.chains.well.together.allocated
            (λ at on other. ap (λ (o : Option (List ℕ)). cell_at (λ _. o) at) (on_table (home_of at) on))
            (λ home off. elsewhere home (λ at. off.no_page page (place_there home at)))
            (λ home off held. held) bytes refl refl files_follow,
      )

    pub page_written : GoesOnAround None number d now
    page_written = by_chain (around.chains tag) refl
      where
        by_chain : (o : Option (List PlacedCell)) → around.chains tag ≡ o → GoesOnAround None number d now
        by_chain None none = absurd (subst (IsLiveOf Directory) none directory)
        by_chain (Some cs) some = file_written cs some

pub is_written : (number : ℕ) (tag : Tag) (page : ℕ) (d now : DomainNow) (around : StandsAround number d) → KeepsPlaces d now → BytesFollow d now → IsLiveOf Directory (around.chains tag) → ((home : Home) → ¬ place_at around.chains tag page ≡ At home → now.pages home ≡ d.pages home) → GoesOnAround None number d now
is_written number tag page d now around same bytes directory elsewhere =
    subst (GoesOnAround None number d) (sym same) (page_written number tag page d around now.pages now.contents directory elsewhere bytes)
