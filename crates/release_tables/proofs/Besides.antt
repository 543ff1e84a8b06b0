-- Two filesets of one domain go on beside each other.
use Rattle.std.proofs.Common.{◌≡◌, ◌∙◌, ℕ, true, false, List, [], ◌∷◌, Some, None, refl, sym, ⊎_elim}
use Rattle.std.proofs.lemmas.Bool.{cases_Bool, true≢false}
use Rattle.release_steps.specs.domain_base.declared.place.Home.{Home}
use Rattle.release_steps.specs.domain_base.declared.place.Tag.{Tag}
use Rattle.release_steps.specs.domain_base.declared.version.Version.{Version}
use Rattle.release_steps.specs.page_store.Pages.{Pages}
use Rattle.release_steps.specs.tag_dirs.declared.dir.TagPlace.{TagPlace}
use Rattle.release_steps.specs.tag_dirs.Directory.{has_home}
use Rattle.release_steps.specs.extent_maps.declared.run.PagePlace.TheVariants.{Absent, At}
use Rattle.release_steps.specs.free_cells.Cells.{Cells}
use Rattle.release_steps.specs.free_space.Spaces.{Spaces}
use Rattle.release_steps.specs.file_chains.Allocated.{AreAllocated}
use Rattle.release_steps.specs.file_chains.FileChanges.{LeavesOtherCells}
use Rattle.release_steps.specs.fileset_files.Creation.{Creates, LeavesBeside, TakesForFile, with_new}
use Rattle.release_steps.specs.fileset_files.declared.new_cells.NewFile.{NewFile}
use Rattle.release_steps.specs.fileset_files.Files.{Chains}
use Rattle.release_steps.proofs.OfFileRelease.Once.{absent_not}
use Rattle.release_steps.specs.release_list.Listing.{Listing}
use Rattle.release_steps.specs.release_list.Standing.{Files, with_file}
use Rattle.release_steps.specs.Beside.{StandsBeside}
use Rattle.release_steps.specs.Calls.{Call, FilesetNow, StandsWell, made, no_call, one_more}
use Rattle.release_steps.proofs.CallsWell.{stands_still}
use Rattle.release_steps.proofs.OtherFilesets.{other_filesets_same}
use Rattle.file_world.specs.First.{IsEmpty}
use Rattle.release_tables.specs.Called.{Parts, fileset_in}
use Rattle.release_tables.proofs.Wells.{no_files, none_stands}

abbrev parts : List TagPlace → Listing → Spaces → Cells → Pages → Parts
parts places list space cells pages = record { places = places; list = list; space = space; cells = cells; pages = pages }

abbrev pub no_chains : Chains
no_chains = λ t. None

-- ---- no file of either

module _ (space : Spaces) (cells : Cells) (pages : Pages) (allocated : AreAllocated space cells pages) where
  nowhere : (h : Home) → Absent ≡ At h → ⊥
  nowhere h is = absent_not h is

  pub nothing : (fileset : ℕ) → IsEmpty fileset [] space cells pages
  nothing fileset = record {
    together = record {
      files = record {
        directory = record { run = λ k. tt; apart = λ j k p q at_j at_k same. absurd (let e : None ≡ Some p = at_j in cc); first = tt };
        none = λ t is. refl;
        some = λ t. tt;
        apart = λ s t other. tt;
      };
      allocated = allocated;
      on_tables = λ t. tt;
      tag_pages = λ h has. absurd (true≢false (sym has));
      file_pages = λ t p h at. absurd (nowhere h at);
      once = λ s t p q h at_s at_t. absurd (nowhere h at_s);
    };
    low = λ h has. absurd (true≢false (sym has));
  }

  pub none_beside : (one two : ℕ) (list : Listing) → list.entries ≡ [] → list.tag_pages ≡ []
      → StandsWell one (fileset_in (parts [] list space cells pages) no_files no_chains) × StandsBeside two [] no_chains (fileset_in (parts [] list space cells pages) no_files no_chains)
  none_beside one two list no_entry no_page =
      let stands = none_stands two [] space cells pages (nothing two) list no_entry no_page in (
        none_stands one [] space cells pages (nothing one) list no_entry no_page,
        record { together = stands.together; among = stands.among; apart = λ h has. refl },
      )

-- ---- the one and the other

module _ (one two : ℕ) (places others : List TagPlace) (list : Listing) (space : Spaces) (cells : Cells) (pages : Pages) (files : Files) (chains other_chains : Chains) (stands : StandsWell one (fileset_in (parts places list space cells pages) files chains))
    (beside : StandsBeside two others other_chains (fileset_in (parts places list space cells pages) files chains)) where
  pub turned_stands : StandsWell two (fileset_in (parts others list space cells pages) files other_chains)
  turned_stands = record {
    well = record { together = stands.well.together; listed = stands.well.listed };
    together = beside.together;
    among = record { same = beside.among.same; live = beside.among.live; trimmed = beside.among.trimmed; low = beside.among.low; no_tags = beside.among.no_tags; not_listed = beside.among.not_listed };
  }

  pub turned_beside : StandsBeside one places chains (fileset_in (parts others list space cells pages) files other_chains)
  turned_beside = record {
    together = stands.together;
    among = record { same = stands.among.same; live = stands.among.live; trimmed = stands.among.trimmed; low = stands.among.low; no_tags = stands.among.no_tags; not_listed = stands.among.not_listed };
    apart = λ h has. ⊎_elim (λ also. absurd (true≢false (sym has ∙ beside.apart h also))) (λ none. none) (cases_Bool (has_home places h));
  }

-- ---- a file is made

module _ (fileset : ℕ) (version : Version) (tag : Tag) (places places_now : List TagPlace) (list : Listing) (files : Files) (chains : Chains) (space space_now : Spaces) (cells cells_now : Cells) (old new : Pages) (what : NewFile) (prefer : ℕ)
    (creates : Creates fileset places_now tag version what chains space_now cells cells_now old new) (takes : TakesForFile prefer places places_now space space_now cells cells_now old) (leaves : LeavesOtherCells cells [] old new) (elsewhere : LeavesBeside cells_now places_now old new) where
  abbrev first : FilesetNow
  first = fileset_in (parts places list space cells old) files chains

  abbrev pub files_now : Files
  files_now = with_file creates.first.at (Some (creates.first ∷ [])) files

  abbrev pub chains_now : Chains
  chains_now = with_new tag (creates.first ∷ []) chains

  abbrev last : FilesetNow
  last = fileset_in (parts places_now list space_now cells_now new) files_now chains_now

  call : Call fileset version tag first last
  call = made (record { what = what; creates = creates; prefer = prefer; taken = takes; others = leaves; elsewhere = elsewhere; chains = refl; list = refl; files = refl })

  pub made_stands : StandsWell fileset first → StandsWell fileset last
  made_stands stood = stands_still fileset version tag first last (one_more first last no_call call) stood

  pub made_beside : StandsWell fileset first → (other : ℕ) → ¬ other ≡ fileset → (other_places : List TagPlace) (others : Chains) → StandsBeside other other_places others first → StandsBeside other other_places others last
  made_beside stood other differ other_places others beside =
      other_filesets_same fileset version tag first last (one_more first last no_call (made (record { what = what; creates = creates; prefer = prefer; taken = takes; others = leaves; elsewhere = elsewhere; chains = refl; list = refl; files = refl })))
      stood other differ other_places others beside (tt, tt)

  pub made_both : StandsWell fileset first → (other : ℕ) → ¬ other ≡ fileset → (other_places : List TagPlace) (others : Chains) → StandsBeside other other_places others first
      → (fs : Files) × (cs : Chains) × StandsWell fileset (fileset_in (parts places_now list space_now cells_now new) fs cs) × StandsBeside other other_places others (fileset_in (parts places_now list space_now cells_now new) fs cs)
  made_both stood other differ other_places others beside = (files_now, chains_now, made_stands stood, made_beside stood other differ other_places others beside)
