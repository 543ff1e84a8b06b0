-- A domain stands with another anchor.
use Rattle.std.proofs.Common.{◌⊎◌, ℕ, List, Option, Some, None, inl, inr, ⊎_elim}
use Rattle.attached_domain.specs.domain_base.declared.place.CellAt.{CellAt}
use Rattle.attached_domain.specs.domain_base.declared.place.Home.{Home}
use Rattle.attached_domain.specs.metadata_cells.Chain.{PlacedCell}
use Rattle.attached_domain.specs.log_ring.Homes.{IsMember}
use Rattle.attached_domain.specs.free_space.Spaces.{volume_of}
use Rattle.attached_domain.specs.free_space.VolumeSpace.{VolumeSpace}
use Rattle.attached_domain.specs.domain_standing.Space.{IsFreeAt}
use Rattle.attached_domain.specs.release_list.Standing.{Files}
use Rattle.attached_domain.specs.fileset_model.Filesets.{FilesetMap}
use Rattle.attached_domain.specs.domain_layout.Layout.{first_tag_of}
use Rattle.attached_domain.specs.domain_standing.Chains.{AreQuotasOf, HasEmptyTags, HasFilesAmong, IndexesAt, StandChains, StandsInSlot}
use Rattle.attached_domain.specs.domain_standing.Domain.{DomainNow, layout_of, named_by}
use Rattle.attached_domain.specs.domain_standing.Holders.{AreHeldAt, AreHeldOn, Holder, Holds, HoldsOwned, IsUnheld}
use Rattle.attached_domain.specs.domain_standing.Rest.{IsOfOriginal, SaysTheRest}
use Rattle.attached_domain.specs.domain_standing.Slots.{StandSlots}
use Rattle.attached_domain.specs.domain_standing.Standing.{StandsDomain}
use Rattle.attached_domain.specs.domain_standing.Tables.{HasVolumeCell, StandTables}
use Rattle.attached_domain.specs.standing_laws.Leads.{StandsBelow}
use Rattle.domain_attaching.proofs.Frames.{anew, member_from, member_to, on_from, some_too, within_to}

module _ (d : DomainNow) (number slot start group : ℕ) where
  abbrev e : DomainNow
  e = anew d number slot start group

  to : (vol : ℕ) → IsMember d.frame.anchor vol → IsMember e.frame.anchor vol
  to vol = member_to d.frame.anchor number slot start group vol

  from : (vol : ℕ) → IsMember e.frame.anchor vol → IsMember d.frame.anchor vol
  from vol = member_from d.frame.anchor number slot start group vol

  -- ---- tables

  free_to : (at : CellAt) → IsFreeAt d.pages (layout_of d) at → IsFreeAt d.pages (layout_of e) at
  free_to at is = record { member = to at.vol is.member; table = is.table; within = is.within; free = is.free }

  free_from : (at : CellAt) → IsFreeAt d.pages (layout_of e) at → IsFreeAt d.pages (layout_of d) at
  free_from at is = record { member = from at.vol is.member; table = is.table; within = is.within; free = is.free }

  volume_to : (vol : ℕ) → HasVolumeCell d vol → HasVolumeCell e vol
  volume_to vol has = record {
    cell = has.cell;
    stands = has.stands;
    says = record { kind = has.says.kind; alone = has.says.alone; says = has.says.says };
  }

  pub tables_to : StandTables d → StandTables e
  tables_to t = record {
    laid = record {
      version = t.laid.version;
      table = t.laid.table;
      cells = λ vol member. t.laid.cells vol (from vol member);
      tags = t.laid.tags;
    };
    log = record { within = t.log.within; behind = t.log.behind };
    few = λ vol member. t.few vol (from vol member);
    may = λ home at. let may = t.may home at in (within_to d number slot start group home may.0, may.1);
    volumes = λ vol member. volume_to vol (t.volumes vol (from vol member));
    cells = record {
      tables = λ vol member. t.cells.tables vol (from vol member);
      others = λ vol none. t.cells.others vol (λ member. none (to vol member));
      closed = λ vol member. t.cells.closed vol (from vol member);
      free = λ at. ((λ is. free_to at ((t.cells.free at).0 is)), (λ is. (t.cells.free at).1 (free_from at is)));
    };
  }

  -- ---- chains

  module _ (files : Files) (indexes : IndexesAt) where
    among_to : (n : ℕ) → HasFilesAmong d files n → HasFilesAmong e files n
    among_to n has = record { chains = has.chains; are = has.are; among = has.among }

    empty_to : (n : ℕ) → HasEmptyTags d n → HasEmptyTags e n
    empty_to n has = record { removed = has.removed; none = has.none; listed = has.listed }

    slot_to : (n : ℕ) (first : Option Home) → StandsInSlot d files n first → StandsInSlot e files n first
    slot_to n None is = is
    slot_to n (Some first) is = ⊎_elim (λ has. inl (among_to n has)) (λ has. inr (empty_to n has)) is

    quotas_to : (n : ℕ) (at : CellAt) (chain : List PlacedCell) → AreQuotasOf d n at chain → AreQuotasOf e n at chain
    quotas_to n at chain are = record { quotas = are.quotas; of = are.of; once = are.once }

    pub chains_to : StandChains d files indexes → StandChains e files indexes
    chains_to c = record {
      well = c.well;
      slots = λ n. slot_to n (named_by first_tag_of d n) (c.slots n);
      quotas = λ n at is. some_too (List PlacedCell) (AreQuotasOf d n at) (AreQuotasOf e n at) (files at) (quotas_to n at) (c.quotas n at is);
      indexed = c.indexed;
      used = λ at cell on. c.used at cell (on_from d number slot start group at cell on);
      named = c.named;
      to_do = c.to_do;
      listed = c.listed;
      tag_pages = λ home is. let has = c.tag_pages home is in (has.0, empty_to has.0 has.1);
    }

    -- ---- holders

    pub holds_to : (holder : Holder) (home : Home) → Holds d files indexes holder home → Holds e files indexes holder home
    holds_to Holder.of_volume home is = (to home.vol is.0, is.1)
    holds_to Holder.of_log home is = is
    holds_to Holder.of_table home is = is
    holds_to Holder.of_cells home is = (to home.vol is.0, is.1)
    holds_to (Holder.of_tags n) home is = is
    holds_to (Holder.of_index at place) home is = is
    holds_to (Holder.of_file at page) home is = is

    pub holds_from : (holder : Holder) (home : Home) → Holds e files indexes holder home → Holds d files indexes holder home
    holds_from Holder.of_volume home is = (from home.vol is.0, is.1)
    holds_from Holder.of_log home is = is
    holds_from Holder.of_table home is = is
    holds_from Holder.of_cells home is = (from home.vol is.0, is.1)
    holds_from (Holder.of_tags n) home is = is
    holds_from (Holder.of_index at place) home is = is
    holds_from (Holder.of_file at page) home is = is

    unheld_to : (home : Home) → IsUnheld d files indexes home → IsUnheld e files indexes home
    unheld_to home none holder holds = none holder (holds_from holder home holds)

    unheld_from : (home : Home) → IsUnheld e files indexes home → IsUnheld d files indexes home
    unheld_from home none holder holds = none holder (holds_to holder home holds)

    held_on : (vol : ℕ) (space : VolumeSpace) → AreHeldOn d files indexes vol space → AreHeldOn e files indexes vol space
    held_on vol space are = record {
      count = are.count;
      opened = are.opened;
      free = λ page below.
          let home : Home = record { vol = vol; page = page } in
          let is = are.free page below in
          ((λ free. let f = is.0 free in (unheld_to home f.0, f.1)), (λ f. is.1 (unheld_from home f.0, f.1)));
      waits = λ page waits. unheld_to (record { vol = vol; page = page }) (are.waits page waits);
    }

    held_at : (vol : ℕ) (space : Option VolumeSpace) → AreHeldAt d files indexes vol space → AreHeldAt e files indexes vol space
    held_at vol None none = λ member. none (from vol member)
    held_at vol (Some space) are = (to vol are.0, held_on vol space are.1)

    pub owned_to : HoldsOwned d files indexes → HoldsOwned e files indexes
    owned_to o = record {
      once = λ home one other holds also. o.once home one other (holds_from one home holds) (holds_from other home also);
      spaces = λ vol first. held_at vol (volume_of d.space vol) (o.spaces vol first);
    }

    -- ---- single cells

    original_from : (at : CellAt) → IsOfOriginal e at → IsOfOriginal d at
    original_from at is = record { number = is.number; original = is.original; tag = is.tag; leads = is.leads }

    pub rest_to : SaysTheRest d files → SaysTheRest e files
    rest_to r = record {
      kinds = λ at cell on. r.kinds at cell (on_from d number slot start group at cell on);
      firsts = λ at cell on. r.firsts at cell (on_from d number slot start group at cell on);
      births = λ at cell value is. r.births at cell value (original_from at is);
      holes = r.holes;
    }

    pub below_to : StandsBelow d files indexes → StandsBelow e files indexes
    below_to b = record { tables = tables_to b.tables; chains = chains_to b.chains; owned = owned_to b.owned; rest = rest_to b.rest }

  -- ---- filesets

  slots_to : (all : FilesetMap) → StandSlots d all → StandSlots e all
  slots_to all s = record { shapes = s.shapes; are = s.are; filled = s.filled; sets = s.sets; no_clone = s.no_clone }

  pub domain_to : (all : FilesetMap) → StandsDomain d all → StandsDomain e all
  domain_to all s = record {
    tables = tables_to s.tables;
    files = s.files;
    indexes = s.indexes;
    chains = chains_to s.files s.indexes s.chains;
    owned = owned_to s.files s.indexes s.owned;
    rest = rest_to s.files s.indexes s.rest;
    slots = slots_to all s.slots;
  }
