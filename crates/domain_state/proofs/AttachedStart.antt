-- The pages of a domain that is kept in memory mean a state.
use Rattle.std.proofs.Common.{ℕ, List, length, refl}
use Rattle.std.specs.FinSet as set
use Rattle.no_faults.specs.fileset_model.Filesets.{FilesetMap}
use Rattle.no_faults.specs.legal_histories.State.{State, rack_of}
use Rattle.no_faults.specs.page_ways.Frame.{frame_in}
use Rattle.no_faults.specs.staged_pages.Store.{before_of}
use Rattle.no_faults.specs.domain_standing.Domain.{DomainNow}
use Rattle.no_faults.specs.domain_standing.Standing.{StandsDomain}
use Rattle.no_faults.proofs.OfDomainStanding.OneMeaning.{reads_so}
use Rattle.no_faults.specs.domain_memory.Memory.{StandsFor, kept_in}
use Rattle.no_faults.specs.domain_memory.declared.memory.DomainMemory.{DomainMemory}
use Rattle.domain_state.specs.Opening.{IsStartOf}
use Rattle.domain_state.proofs.OldPages.{old_counted, old_homes}
use Rattle.domain_state.proofs.StartMembers.{are_members, members_of}

module _ (memory : DomainMemory) (sizes : List ℕ) (all : FilesetMap) (stands : StandsFor memory all) where
  abbrev d : DomainNow
  d = kept_in memory

  -- it stands with the files and indexes that more is known of
  abbrev so : StandsDomain (kept_in memory) all
  so = record {
    tables = stands.sound.below.tables;
    files = stands.sound.files;
    indexes = stands.sound.indexes;
    chains = stands.sound.below.chains;
    owned = stands.sound.below.owned;
    rest = stands.sound.below.rest;
    slots = stands.stands.slots;
  }

  abbrev start : State
  start = record {
    filesets = all;
    rack = rack_of sizes;
    members = members_of d.frame.anchor;
    log_volume = d.frame.anchor.log_vol;
    version = d.frame.version;
    striped = set.empty;
    old_pages = length (old_homes d all so stands.sound.sound);
  }

  pub has_start : (start : State) × IsStartOf (before_of memory.pages) (frame_in memory.frame) sizes start
  has_start = (
    start,
    record {
      filesets = λ home at. reads_so d all home stands.stands at (λ place. refl);
      rack = refl;
      volumes = record { members = are_members d.frame.anchor; log_volume = refl; version = stands.sound.below.tables.laid.version };
      version = refl;
      striped = refl;
      old_pages = old_counted d all so stands.sound.sound;
    },
  )
