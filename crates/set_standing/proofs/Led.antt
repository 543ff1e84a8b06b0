-- A domain stands on around a slot after a call on one of its tags.
use Rattle.std.proofs.Common.{◌≡◌, ◌∙◌, ◌≤◌, ◌++◌, ℕ, List, Some, slice_get, sym, ap}
use Rattle.std.specs.Option.{option_and_then, option_map_or}
use Rattle.standing_laws.specs.domain_base.declared.place.CellAt.{CellAt}
use Rattle.standing_laws.specs.domain_base.declared.place.Home.{Home}
use Rattle.standing_laws.specs.domain_base.declared.place.Tag.{Tag}
use Rattle.standing_laws.specs.extent_maps.declared.run.PagePlace.TheVariants.{Absent, At}
use Rattle.standing_laws.specs.metadata_cells.Chain.{PlacedCell}
use Rattle.standing_laws.specs.tag_dirs.declared.dir.TagPlace.{TagPlace}
use Rattle.standing_laws.specs.file_chains.Files.{places_of}
use Rattle.standing_laws.specs.fileset_files.Creation.{last_sequence}
use Rattle.standing_laws.specs.fileset_files.Files.{Chains}
use Rattle.standing_laws.specs.fileset_table.Table.{Table}
use Rattle.standing_laws.specs.release_list.Standing.{Files, place_in}
use Rattle.standing_laws.specs.release_steps.Calls.{Call, FilesetNow, no_call, one_more}
use Rattle.standing_laws.specs.release_steps.Tags.{start_of}
use Rattle.standing_laws.proofs.OfReleaseSteps.Tags.{named}
use Rattle.standing_laws.proofs.OfReleaseSteps.CallsWell.{stands_call}
use Rattle.standing_laws.proofs.OfReleaseSteps.SourcesStay.{sources_stay}
use Rattle.standing_laws.specs.domain_standing.Domain.{DomainNow}
use Rattle.standing_laws.specs.domain_standing.Holders.Holder.{of_file, of_volume}
use Rattle.standing_laws.specs.Leads.{LeadsOn, MayCall, fileset_now}
use Rattle.standing_laws.specs.Left.{LeavesNothing}
use Rattle.standing_laws.proofs.BelowStands.{below_stands}
use Rattle.standing_laws.proofs.OtherSlots.{bytes_same, links_of, seen_place, slot_stays}
use Rattle.standing_laws.proofs.ParentsElsewhere.{parents_elsewhere}
use Rattle.standing_laws.proofs.SlotsStand.{quotas_stay}
use Rattle.standing_laws.proofs.TablesTaken.{page_stays}
use Rattle.standing_laws.specs.Sound.{StandsSoundBut}
use Rattle.standing_laws.proofs.SoundCalled.{but_called}
use Rattle.standing_laws.proofs.SoundParted.{sound_more}
use Rattle.set_standing.specs.Around.{BytesFollow, ChangesSlot, GoesOnAround, IsNamedIn, StandsAround, StaysAround}
use Rattle.set_standing.specs.Follow.{FilesFollow, Said, TagsFollow}
use Rattle.set_standing.proofs.FilesKept.{KeepsBytesOf, files_by}
use Rattle.set_standing.proofs.NamesStay.{called_starts, still_named}
use Rattle.set_standing.proofs.OwnLimits.{limits_still}

module _ (number : ℕ) (tag : Tag) (d now : DomainNow) (around : StandsAround number d) (changes : ChangesSlot number d now) (chains_now : Chains) (files_now : Files)
    (call : Call number d.frame.version tag (fileset_now d number around.chains around.files) (fileset_now now number chains_now files_now))
    (may : MayCall d.table.made number d.frame.version tag (fileset_now d number around.chains around.files) (fileset_now now number chains_now files_now) call)
    (nothing : LeavesNothing number d.frame.version tag (fileset_now d number around.chains around.files) (fileset_now now number chains_now files_now) call)
  where
    abbrev was : FilesetNow
    was = fileset_now d number around.chains around.files

    abbrev is : FilesetNow
    is = fileset_now now number chains_now files_now

    abbrev pub leads : LeadsOn number tag d now around.chains chains_now around.files files_now
    leads = record {
      entry = around.entry;
      original = around.original;
      well = around.well;
      call = call;
      may = may;
      frame = changes.frame;
      table = changes.table;
      tags = changes.tags;
    }

    pub sound_now : StandsSoundBut (IsNamedIn chains_now) now files_now around.indexes
    sound_now = sound_more now files_now around.indexes (IsNamedIn around.chains) (IsNamedIn chains_now)
        (still_named around.chains chains_now (called_starts number d.table.made d.frame.version tag was is call may nothing))
        (but_called number tag d now around.chains chains_now around.files files_now around.indexes (IsNamedIn around.chains) around.below around.sound leads)

    abbrev pub around_now : StandsAround number now
    around_now = record {
      entry = around.entry;
      original = ap (λ (t : Table). slice_get t.slots number) changes.table ∙ around.original;
      files = files_now;
      indexes = around.indexes;
      below = below_stands number tag d now around.chains chains_now around.files files_now around.indexes around.below leads nothing;
      chains = chains_now;
      well = stands_call number d.frame.version tag was is around.well call;
      alone = λ at. sources_stay number d.frame.version tag was is (one_more was is no_call call) around.well at ∙ around.alone at;
      sound = sound_now;
    }

    -- a page of another file is the one that it was
    pub other_page : (at : CellAt) (page : ℕ) (home : Home) → place_in around.files at page ≡ At home → now.pages home ≡ d.pages home
    other_page at page home there = page_stays number tag d now around.chains chains_now around.files files_now around.indexes around.below leads (of_file at page) home there (λ e. cc) (λ e. cc)

    abbrev pub KeepsOthers : Type 0
    KeepsOthers = (at : CellAt) (page : ℕ) (home : Home) → ¬ option_and_then start_of (around.chains tag) ≡ Some at → place_in around.files at page ≡ At home → d.contents home ≡ now.contents home

    -- so the bytes of files stay
    pub bytes_kept : BytesFollow d now → (t : Tag) (cells : List PlacedCell) → around.chains t ≡ Some cells → KeepsBytesOf d now cells
    bytes_kept bytes t cells some seen is file page home at =
        let m = named around.files around.chains t cells some (around.well.among.same t) in
        bytes home (other_page m.at page home (ap (λ o. option_map_or (λ cs. places_of cs page) o Absent) m.is ∙ seen_place cells seen page home at is))

    -- what tags name follows, by the chains that there are
    pub follow : {said : Said} (more : List TagPlace) → now.tags number ≡ d.tags number ++ more → ((slot : ℕ) → last_sequence d.pages (d.tags number) slot ≤ last_sequence now.pages (now.tags number) slot)
        → TagsFollow said number d now around.chains chains_now → FilesFollow said number d now
    follow more grows sequences each = files_by number d now more grows sequences around.chains chains_now around.well.together.files around_now.well.together.files each

    stays : {said : Said} → KeepsOthers → FilesFollow said number d now → StaysAround said number d now
    stays kept files = record {
      frame = changes.frame;
      table = changes.table;
      tags = changes.tags;
      slots = λ other entry shape fileset differ at stood.
          slot_stays number tag d now around.chains chains_now around.files files_now around.indexes around.below leads other entry shape fileset differ at stood
          (bytes_same number tag d now around.chains chains_now around.files files_now around.indexes around.below leads other entry shape fileset differ at stood kept);
      parents = λ other differ stands had. parents_elsewhere number tag d now around.chains chains_now around.files files_now around.indexes around.below leads other differ stands had;
      files = files;
      limits = λ entry limits at.
          limits_still number d now around.files (around.below.chains.quotas number)
          (λ first cs some quotas.
          links_of now.pages first cs (quotas_stay number tag d now around.chains chains_now around.files files_now around.indexes around.below leads number first cs some quotas)) entry at limits;
      volumes = λ home of. page_stays number tag d now around.chains chains_now around.files files_now around.indexes around.below leads of_volume home of (λ e. cc) (λ e. cc);
    }

    pub led_as : {said : Said} → KeepsOthers → FilesFollow said number d now → GoesOnAround said number d now
    led_as kept files = (around_now, stays kept files)

    pub led : {said : Said} → BytesFollow d now → FilesFollow said number d now → GoesOnAround said number d now
    led bytes files = led_as (λ at page home none there. sym (bytes home (other_page at page home there))) files
