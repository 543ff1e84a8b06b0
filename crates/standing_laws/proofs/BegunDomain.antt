-- A domain stands on where a fileset begins, and bits of bitmaps say what they said.
use Rattle.std.proofs.Common.{◌≡◌, ◌≤◌, ℕ}
use Rattle.std.specs.FinMap.{insert}
use Rattle.domain_standing.specs.domain_base.declared.place.CellAt.{CellAt}
use Rattle.domain_standing.specs.domain_base.declared.place.Home.{Home}
use Rattle.domain_standing.specs.extent_maps.declared.run.PagePlace.TheVariants.{At}
use Rattle.domain_standing.specs.free_space.Spaces.{Spaces}
use Rattle.domain_standing.specs.fileset_files.Creation.{root_tag}
use Rattle.domain_standing.specs.fileset_files.Files.{Chains}
use Rattle.domain_standing.specs.fileset_model.Filesets.{FilesetMap}
use Rattle.domain_standing.specs.fileset_table.declared.slot.FilesetEntry.{FilesetEntry}
use Rattle.domain_standing.specs.release_list.Standing.{Files, place_in}
use Rattle.domain_standing.specs.release_steps.Calls.{Makes, StandsWell}
use Rattle.domain_standing.specs.Chains.{IndexesAt}
use Rattle.domain_standing.specs.Domain.{DomainNow}
use Rattle.domain_standing.specs.Standing.{IsMarkedBut, StandsDomain}
use Rattle.standing_laws.specs.Leads.{StandsBelow, fileset_now}
use Rattle.standing_laws.specs.NewFileset.{IsPlainRoot, JoinsEmpty, SetsNoLimit, empty_slot, no_chains}
use Rattle.standing_laws.proofs.BegunEmpty.{all_stand}
use Rattle.standing_laws.proofs.BitsStay.{bits_begun, bits_beside}
use Rattle.standing_laws.proofs.FilesetBegins.{empty_begins}
use Rattle.standing_laws.proofs.RootMade.{root_made}

module _ (number : ℕ) (entry : FilesetEntry) (d joined now : DomainNow) (chains_now : Chains) (files files_now : Files) (indexes : IndexesAt) (below : StandsBelow d files indexes) (joins : JoinsEmpty number entry d joined)
    (makes : Makes number joined.frame.version root_tag (fileset_now joined number no_chains files) (fileset_now now number chains_now files_now)) (early : makes.what.birth ≤ joined.table.made) (frame : now.frame ≡ joined.frame) (table : now.table ≡ joined.table)
    (tags : (other : ℕ) → ¬ other ≡ number → now.tags other ≡ joined.tags other)
  where
    after : StandsBelow now files_now indexes
    after = root_made number entry d joined now chains_now files files_now indexes below joins makes early frame table tags

    begins : StandsBelow joined files indexes × StandsWell number (fileset_now joined number no_chains files)
    begins = empty_begins number entry d joined files indexes below joins

    pub bits_made : (space : Spaces) → IsMarkedBut (record d { space = space }) → IsMarkedBut (record now { space = space })
    bits_made space was = bits_beside number joined now files_now indexes begins.0.tables after frame makes.elsewhere space (bits_begun number entry d joined files indexes below joins space was)

module _ (number : ℕ) (entry : FilesetEntry) (d joined now : DomainNow) (chains_now : Chains) (files_now : Files) (all : FilesetMap) (stands : StandsDomain d all) (joins : JoinsEmpty number entry d joined)
    (makes : Makes number joined.frame.version root_tag (fileset_now joined number no_chains stands.files) (fileset_now now number chains_now files_now)) (early : makes.what.birth ≤ joined.table.made) (frame : now.frame ≡ joined.frame) (table : now.table ≡ joined.table)
    (tags : (other : ℕ) → ¬ other ≡ number → now.tags other ≡ joined.tags other) (plain : IsPlainRoot makes.what) (none : SetsNoLimit entry)
    (bytes : (home : Home) → joined.pages home ≡ d.pages home → joined.contents home ≡ d.contents home) (stay : (at : CellAt) (page : ℕ) (home : Home) → place_in stands.files at page ≡ At home → joined.contents home ≡ now.contents home)
  where
    below_all : StandsBelow d stands.files stands.indexes
    below_all = record { tables = stands.tables; chains = stands.chains; owned = stands.owned; rest = stands.rest }

    after_all : StandsBelow now files_now stands.indexes
    after_all = root_made number entry d joined now chains_now stands.files files_now stands.indexes below_all joins makes early frame table tags

    pub domain_begun : StandsDomain now (insert all entry.name empty_slot)
    domain_begun = record {
      tables = after_all.tables;
      files = files_now;
      indexes = stands.indexes;
      chains = after_all.chains;
      owned = after_all.owned;
      rest = after_all.rest;
      slots = all_stand number entry d joined now chains_now stands.files files_now stands.indexes below_all joins makes early frame table tags plain none bytes stay all stands.slots;
    }
