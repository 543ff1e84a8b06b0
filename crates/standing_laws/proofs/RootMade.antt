-- A domain stands on once the root of a new original is made.
use Rattle.std.proofs.Common.{◌≡◌, ◌≤◌, ℕ}
use Rattle.domain_standing.specs.fileset_files.Creation.{root_tag}
use Rattle.domain_standing.specs.fileset_files.Files.{Chains}
use Rattle.domain_standing.specs.fileset_table.declared.slot.FilesetEntry.{FilesetEntry}
use Rattle.domain_standing.specs.release_list.Standing.{Files}
use Rattle.domain_standing.specs.release_steps.Calls.{Makes, StandsWell, made}
use Rattle.domain_standing.specs.Chains.{IndexesAt}
use Rattle.domain_standing.specs.Domain.{DomainNow}
use Rattle.standing_laws.specs.Leads.{LeadsOn, StandsBelow, fileset_now}
use Rattle.standing_laws.specs.NewFileset.{JoinsEmpty, no_chains}
use Rattle.standing_laws.proofs.BelowStands.{below_stands}
use Rattle.standing_laws.proofs.FilesetBegins.{empty_begins, now_item}

module _ (number : ℕ) (entry : FilesetEntry) (d joined now : DomainNow) (chains_now : Chains) (files files_now : Files) (indexes : IndexesAt) (below : StandsBelow d files indexes) (joins : JoinsEmpty number entry d joined)
    (makes : Makes number joined.frame.version root_tag (fileset_now joined number no_chains files) (fileset_now now number chains_now files_now)) (early : makes.what.birth ≤ joined.table.made) (frame : now.frame ≡ joined.frame) (table : now.table ≡ joined.table)
    (tags : (other : ℕ) → ¬ other ≡ number → now.tags other ≡ joined.tags other)
  where
    begins : StandsBelow joined files indexes × StandsWell number (fileset_now joined number no_chains files)
    begins = empty_begins number entry d joined files indexes below joins

    pub root_leads : LeadsOn number root_tag joined now no_chains chains_now files files_now
    root_leads = record {
      entry = entry;
      original = now_item number entry d joined files indexes below joins;
      well = begins.1;
      call = made makes;
      may = early;
      frame = frame;
      table = table;
      tags = tags;
    }

    pub root_made : StandsBelow now files_now indexes
    unfolding root_leads
    root_made = below_stands number root_tag joined now no_chains chains_now files files_now indexes begins.0 root_leads tt
