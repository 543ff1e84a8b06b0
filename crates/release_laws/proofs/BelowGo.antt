-- All of a domain but its filesets stands on over steps, and no file comes to be read through another.
use Rattle.std.proofs.Common.{ℕ}
use Rattle.standing_laws.specs.release_list.Standing.{Files}
use Rattle.standing_laws.specs.domain_standing.Chains.{IndexesAt}
use Rattle.standing_laws.specs.domain_standing.Domain.{DomainNow, all_of}
use Rattle.standing_laws.specs.domain_standing.Sources.{StandAlone}
use Rattle.standing_laws.specs.Leads.{StandsBelow}
use Rattle.standing_laws.proofs.SourcesSaid.{alone_by_files}
use Rattle.release_laws.specs.Released.{QuotasStay, Releases}
use Rattle.release_laws.proofs.ChainsGo.{chains_go}
use Rattle.release_laws.proofs.Going.{alone_over}
use Rattle.release_laws.proofs.HeldGo.{owned_goes}
use Rattle.release_laws.proofs.Led.{alone_was, led, well_was}
use Rattle.release_laws.proofs.RestGo.{rest_goes}
use Rattle.release_laws.proofs.TablesGo.{tables_go}

module _ (group count : ℕ) (d now : DomainNow) (files files_now : Files) (indexes : IndexesAt) (below : StandsBelow d files indexes) (alone : StandAlone d) (s : Releases group count d now files files_now) (stay : QuotasStay d files_now) where
  pub below_goes : StandsBelow now files_now indexes
  below_goes = record {
    tables = tables_go group count d now files files_now indexes below alone s;
    chains = chains_go group count d now files files_now indexes below alone s stay;
    owned = owned_goes group count d now files files_now indexes below alone s;
    rest = rest_goes group count d now files files_now indexes below alone s;
  }

  pub alone_goes : StandAlone now
  alone_goes = alone_by_files now files_now indexes below_goes
      (alone_over group d.frame.version (all_of d files) count (all_of (led group count d now files files_now indexes below alone s) files_now) (well_was d files indexes below) (alone_was group count d now files files_now indexes below alone s) s.steps)
