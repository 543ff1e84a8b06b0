-- Calls on a tag from what the calls answer.
use Rattle.std.proofs.Common.{◌≡◌, ◌∙◌, ◌⊎◌, inl, inr, ℕ, List, [], ◌∷◌, Option, Some, None, IfSome, IsSomeAnd, IfOk, IfErr, OnErr, Ok, Err, Result, refl, ap}
use Rattle.std.specs.Option.{option_and_then, option_map}
use Rattle.release_steps.specs.domain_base.declared.place.CellAt.{CellAt}
use Rattle.release_steps.specs.domain_base.declared.place.Home.{Home}
use Rattle.release_steps.specs.domain_base.declared.place.Tag.{Tag}
use Rattle.release_steps.specs.domain_base.declared.version.Version.{Version}
use Rattle.release_steps.specs.page_store.Pages.{Pages}
use Rattle.release_steps.specs.page_store.declared.fault.StoreFault.{StoreFault}
use Rattle.release_steps.specs.page_store.declared.fault.StoreFault.TheVariants.{NoPage, OutOfMemory}
use Rattle.release_steps.specs.cell_records.declared.record.Record.{Record}
use Rattle.release_steps.specs.metadata_cells.Cell.{record_of}
use Rattle.release_steps.specs.metadata_cells.Chain.{PlacedCell}
use Rattle.release_steps.specs.tag_dirs.declared.dir.TagPlace.{TagPlace}
use Rattle.release_steps.specs.tag_dirs.Directory.{cell_of}
use Rattle.release_steps.specs.extent_maps.declared.run.PagePlace.TheVariants.{At}
use Rattle.release_steps.specs.free_cells.Cells.{Cells}
use Rattle.release_steps.specs.free_space.Spaces.{Spaces, missed}
use Rattle.release_steps.specs.file_chains.FileChanges.{LeavesOtherCells}
use Rattle.release_steps.specs.file_chains.Files.{IsFile}
use Rattle.release_steps.specs.file_chains.MapChanges.{LeavesOffTables}
use Rattle.release_steps.specs.fileset_files.Changes.{ChangesFirst, with_chain, with_first}
use Rattle.release_steps.specs.fileset_files.Creation.{Creates, LeavesBeside, TakesForFile, with_new}
use Rattle.release_steps.specs.fileset_files.declared.new_cells.NewFile.{NewFile}
use Rattle.release_steps.specs.fileset_files.Files.{Chains, LeadsToFile}
use Rattle.release_steps.specs.fileset_files.Pages.{ChangesFile, GetsNone, TakesHome}
use Rattle.release_steps.specs.fileset_files.Truncation.{Truncates, TruncatesTogether, pending_cell, says_truncated}
use Rattle.release_steps.proofs.OfFilesetFiles.OneChain.{chain_same, same_tag_itself}
use Rattle.release_steps.specs.release_list.Listing.{Listing}
use Rattle.release_steps.specs.release_list.Standing.{Files, with_file}
use Rattle.release_steps.specs.Calls.{FilesetNow, StandsWell, cut, given, made, no_call, one_more, refused}
use Rattle.release_steps.specs.Tags.{start_of}
use Rattle.release_steps.proofs.CallsWell.{stands_still}
use Rattle.release_tables.specs.Called.{HasCalled, HasCut, Parts, fileset_in}

-- where calls led all belongs together
pub stands_now : (fileset : ℕ) (version : Version) (tag : Tag) (first : FilesetNow) (now : Parts) → StandsWell fileset first → (called : HasCalled fileset version tag first now) → StandsWell fileset (fileset_in now called.files called.chains)
stands_now fileset version tag first now stood called = stands_still fileset version tag first (fileset_in now called.files called.chains) called.calls stood

-- ---- a page is given

module _ (fileset : ℕ) (version : Version) (tag : Tag) (first : FilesetNow) (places : List TagPlace) (list : Listing) (space space_now : Spaces) (cells cells_now : Cells) (old new : Pages)
    (called : HasCalled fileset version tag first (record { places = places; list = list; space = space; cells = cells; pages = old })) where
  abbrev now : Parts
  now = record { places = places; list = list; space = space_now; cells = cells_now; pages = new }

  abbrev chains : Chains
  chains = called.chains

  pub gave : (prefer page : ℕ) (r : Result Home StoreFault) → IfOk r (λ home. IsSomeAnd (chains tag) (ChangesFile fileset places tag page (At home) version chains space_now cells cells_now old new))
      → IfOk r (λ home. IsSomeAnd (chains tag) (λ chain. TakesHome prefer page home chain space space_now cells cells_now old)) → IfErr r (λ fault. IsSomeAnd (chains tag) (λ chain. GetsNone page chain space space_now cells fault))
      → OnErr r (cells_now ≡ cells) → OnErr r (new ≡ old) → IfSome (chains tag) (λ chain. LeavesOtherCells cells chain old new) → LeavesOffTables cells_now old new → HasCalled fileset version tag first now
  gave prefer page (Ok home) changes takes none same_cells same_pages others elsewhere = by_chain (chains tag) refl changes takes others
    where
      by_chain : (o : Option (List PlacedCell)) → chains tag ≡ o → IsSomeAnd o (ChangesFile fileset places tag page (At home) version chains space_now cells cells_now old new)
          → IsSomeAnd o (λ chain. TakesHome prefer page home chain space space_now cells cells_now old) → IfSome o (λ chain. LeavesOtherCells cells chain old new) → HasCalled fileset version tag first now
      by_chain None is change take others = absurd change
      by_chain (Some chain) is change take others = record {
        files = with_file change.start (Some change.change.changes.after) called.files;
        chains = with_chain tag (λ _. change.change.changes.after) chains;
        calls = one_more _ _ called.calls (given (record {
          home = home;
          chain = chain;
          puts = record { page = page; is = is; change = change; others = others; elsewhere = elsewhere; places = refl; chains = refl; list = refl; files = refl };
          prefer = prefer;
          taken = take;
        }));
      }
  gave prefer page (Err fault) changes takes none same_cells same_pages others elsewhere = by_chain (chains tag) none
    where
      by_fault : (chain : List PlacedCell) (f : StoreFault) → GetsNone page chain space space_now cells f → (space_now ≡ space) ⊎ (space_now ≡ missed space)
      by_fault chain NoPage gets = inr gets.1
      by_fault chain OutOfMemory gets = inl gets

      by_chain : (o : Option (List PlacedCell)) → IsSomeAnd o (λ chain. GetsNone page chain space space_now cells fault) → HasCalled fileset version tag first now
      by_chain None gets = absurd gets
      by_chain (Some chain) gets = record {
        files = called.files;
        chains = chains;
        calls = one_more _ _ called.calls (refused (record { places = refl; chains = refl; list = refl; files = refl; space = by_fault chain fault gets; cells = same_cells; pages = same_pages }));
      }

-- ---- a file is made

pub made_one : (fileset : ℕ) (version : Version) (tag : Tag) (places places_now : List TagPlace) (list : Listing) (files : Files) (chains : Chains) (space space_now : Spaces) (cells cells_now : Cells) (old new : Pages) (what : NewFile) (prefer : ℕ)
    → Creates fileset places_now tag version what chains space_now cells cells_now old new → TakesForFile prefer places places_now space space_now cells cells_now old → LeavesOtherCells cells [] old new → LeavesBeside cells_now places_now old new
    → HasCalled fileset version tag (fileset_in (record { places = places; list = list; space = space; cells = cells; pages = old }) files chains) (record { places = places_now; list = list; space = space_now; cells = cells_now; pages = new })
made_one fileset version tag places places_now list files chains space space_now cells cells_now old new what prefer creates takes others elsewhere = record {
  files = with_file creates.first.at (Some (creates.first ∷ [])) files;
  chains = with_new tag (creates.first ∷ []) chains;
  calls = one_more _ _ no_call (made (record { what = what; creates = creates; prefer = prefer; taken = takes; others = others; elsewhere = elsewhere; chains = refl; list = refl; files = refl }));
}

-- ---- it is cut

start_same : (size : ℕ) (lowered : Option ℕ) (cells : List PlacedCell) → start_of (with_first (says_truncated size lowered) cells) ≡ start_of cells
start_same size lowered [] = refl
start_same size lowered (first ∷ rest) = refl

start_pending : (size : ℕ) (lowered : Option ℕ) (cells : List PlacedCell) (at : CellAt) → Some at ≡ pending_cell (with_first (says_truncated size lowered) cells) → start_of cells ≡ Some at
start_pending size lowered [] at is = absurd (let e : Some at ≡ None = is in absurd (cc))
start_pending size lowered (first ∷ rest) at is = ap Some (by_record (record_of 6 (says_truncated size lowered first.cell).records) is)
  where
    by_record : (o : Option Record) → Some at ≡ option_map (λ _. first.at) o → first.at ≡ at
    by_record None is = cc
    by_record (Some r) is = cc

module _ (fileset : ℕ) (version : Version) (tag : Tag) (size : ℕ) (first : FilesetNow) (places : List TagPlace) (list : Listing) (space : Spaces) (cells : Cells) (old new : Pages)
    (called : HasCalled fileset version tag first (record { places = places; list = list; space = space; cells = cells; pages = old })) (together : TruncatesTogether fileset places tag size space cells called.chains new) (beside : ChangesFirst (called.chains tag) old new)
    (led : IfSome (called.chains tag) (LeadsToFile fileset places old tag)) where
  abbrev says : List PlacedCell → List PlacedCell
  says = with_first (says_truncated size together.lowered)

  no_cell : LeadsToFile fileset places old tag [] → ⊥
  no_cell leads = by_cell (cell_of old places tag) leads.leads
    where
      by_cell : (o : Option CellAt) → IsSomeAnd o (λ at. IsFile old at []) → ⊥
      by_cell None is = is
      by_cell (Some at) is = is

  pub cut_one : (left : Option CellAt) → Truncates fileset places tag size left called.chains new → HasCut fileset version tag first (record { places = places; list = list; space = space; cells = cells; pages = new }) left
  cut_one left cuts = by_chain (called.chains tag) refl led cuts.pending
    where
      begins : (cs : List PlacedCell) → called.chains tag ≡ Some cs → (left : Option CellAt) → left ≡ pending_cell (with_first (says_truncated size cuts.lowered) cs) → IfSome left (λ at. option_and_then start_of (with_chain tag says called.chains tag) ≡ Some at)
      begins cs is None pending = tt
      begins cs is (Some at) pending =
          ap (option_and_then start_of) (chain_same tag says called.chains tag (same_tag_itself tag) ∙ ap (option_map says) is) ∙ start_same size together.lowered cs ∙ start_pending size cuts.lowered cs at pending

      by_chain : (o : Option (List PlacedCell)) → called.chains tag ≡ o → IfSome o (LeadsToFile fileset places old tag) → IsSomeAnd o (λ cs. left ≡ pending_cell (with_first (says_truncated size cuts.lowered) cs))
          → HasCut fileset version tag first (record { places = places; list = list; space = space; cells = cells; pages = new }) left
      by_chain None is leads pending = absurd pending
      by_chain (Some []) is leads pending = absurd (no_cell leads)
      by_chain (Some (c ∷ cs)) is leads pending = (
        record {
          files = with_file c.at (Some (says (c ∷ cs))) called.files;
          chains = with_chain tag says called.chains;
          calls = one_more _ _ called.calls (cut size together.lowered (record {
            first = c;
            rest = cs;
            is = is;
            together = together.together;
            beside = beside;
            places = refl;
            chains = refl;
            list = refl;
            files = refl;
            space = refl;
            cells = refl;
          }));
        },
        begins (c ∷ cs) is left pending,
      )
