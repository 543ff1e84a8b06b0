-- A domain stands whatever its free space and free cells were when they were last kept.
use Rattle.std.proofs.Common.{◌≡◌, ◌∙◌, ◌↔◌, ◌⊎◌, inl, inr, ℕ, ◌+◌, ◌<◌, ◌≤◌, Bool, true, false, List, [], ◌∷◌, length, Option, Some, None, IfSome, IsSomeAnd, Contains, slice_index, refl, sym, ap, subst, ⊎_elim}
use Rattle.std.specs.FinSet.{contains}
use Rattle.std.specs.List.{AllByRecursion}
use Rattle.std.specs.Option.{option_map}
use Rattle.domain_standing.specs.domain_base.declared.place.CellAt.{CellAt}
use Rattle.domain_standing.specs.domain_base.declared.place.Home.{Home}
use Rattle.domain_standing.specs.domain_base.declared.place.Tag.{Tag}
use Rattle.domain_standing.specs.page_store.Bitfiles.{Bitfiles}
use Rattle.domain_standing.specs.page_store.Pages.{Pages}
use Rattle.domain_standing.specs.log_ring.Homes.{IsMember}
use Rattle.domain_standing.specs.metadata_cells.Cell.{Cell}
use Rattle.domain_standing.specs.metadata_cells.CellPage.{next_of}
use Rattle.domain_standing.specs.metadata_cells.Chain.{PlacedCell}
use Rattle.domain_standing.specs.tag_dirs.declared.dir.TagPlace.{TagPlace}
use Rattle.domain_standing.specs.free_space.Spaces.{CanTake, IsHeld, Spaces, volume_of}
use Rattle.domain_standing.specs.free_space.VolumeSpace.{IsFreePage, VolumeSpace, is_among, keeping}
use Rattle.domain_standing.specs.free_cells.Belong.{Belong, IsPageOf, LeadsTo}
use Rattle.domain_standing.specs.free_cells.Cells.{Cells, is_closed, is_free, table_of}
use Rattle.domain_standing.specs.file_chains.Allocated.{AreAllocated}
use Rattle.domain_standing.specs.file_chains.FileChanges.{AreOnTables}
use Rattle.domain_standing.specs.fileset_files.Files.{Chains}
use Rattle.domain_standing.specs.fileset_files.Together.{AreTogether, IsFilePage, IsHeldApart}
use Rattle.domain_standing.specs.stored_set.Standing.{Indexes, StandsShown}
use Rattle.domain_standing.specs.stored_set.Sets.{StandsAsSet}
use Rattle.domain_standing.specs.release_list.Standing.{Files, IsStanding, StandTogether}
use Rattle.domain_standing.specs.release_list.Steps.{IsWell}
use Rattle.domain_standing.specs.release_steps.Tags.{AreAmong}
use Rattle.domain_standing.specs.fileset_model.Filesets.{FilesetMap}
use Rattle.domain_standing.specs.Space.{AreCellsOf, IsFreeAt}
use Rattle.domain_standing.specs.domain_layout.Layout.{IsCellTable, first_tag_of}
use Rattle.domain_standing.specs.domain_layout.Owners.{IsOnTable}
use Rattle.domain_standing.specs.domain_layout.Reached.{first_cells}
use Rattle.domain_standing.specs.Chains.{AreQuotasOf, HasEmptyTags, HasFilesAmong, IndexesAt, StandChains, StandsInSlot}
use Rattle.domain_standing.specs.Domain.{DomainNow, all_of, layout_of, named_by}
use Rattle.domain_standing.specs.Holders.{AreHeldAt, AreHeldOn, Holder, Holds, HoldsOwned, IsUnheld}
use Rattle.domain_standing.specs.Holders.Holder.{of_cells, of_file, of_index, of_log, of_table, of_tags, of_volume}
use Rattle.domain_standing.specs.Rest.{IsOfOriginal, SaysTheRest}
use Rattle.domain_standing.specs.Slots.{StandSlots}
use Rattle.domain_standing.specs.Standing.{StandsDomain}
use Rattle.domain_standing.specs.Tables.{HasVolumeCell, StandTables}
use Rattle.standing_laws.specs.Leads.{StandsBelow}

if_there : {X : Type 0} (P Q : X → Type 0) → ((x : X) → P x → Q x) → (o : Option X) → IfSome o P → IfSome o Q
if_there P Q goes None is = tt
if_there P Q goes (Some x) is = goes x is

and_there : {X : Type 0} (P Q : X → Type 0) → ((x : X) → P x → Q x) → (o : Option X) → IsSomeAnd o P → IsSomeAnd o Q
and_there P Q goes None is = absurd is
and_there P Q goes (Some x) is = goes x is

all_there : {X : Type 0} (P Q : X → Type 0) → ((x : X) → P x → Q x) → (xs : List X) → AllByRecursion P xs → AllByRecursion Q xs
all_there P Q goes [] all = tt
all_there P Q goes (x ∷ xs) all = (goes x all.0, all_there P Q goes xs all.1)

module _ (s t : Spaces) (c e : Cells) (space : (vol : ℕ) → volume_of t vol ≡ option_map keeping (volume_of s vol)) (tables : (vol : ℕ) → table_of e vol ≡ table_of c vol)
    (marks : (vol : ℕ) → is_closed e vol ≡ is_closed c vol) (free : (at : CellAt) → is_free e at ≡ is_free c at) where
  -- ---- pages and cells

  held : (vol p : ℕ) → IsHeld s vol p → IsHeld t vol p
  held vol p is = subst (λ o. IsSomeAnd o (λ (v : VolumeSpace). (contains v.used p ≡ true) × (is_among v.waiting p ≡ false))) (sym (space vol)) (by_volume (volume_of s vol) is)
    where
      by_volume : (o : Option VolumeSpace) → IsSomeAnd o (λ (v : VolumeSpace). (contains v.used p ≡ true) × (is_among v.waiting p ≡ false))
          → IsSomeAnd (option_map keeping o) (λ (v : VolumeSpace). (contains v.used p ≡ true) × (is_among v.waiting p ≡ false))
      by_volume None is = absurd is
      by_volume (Some v) is = is

  could_take : (vol p : ℕ) → CanTake t vol p → CanTake s vol p
  could_take vol p can = by_volume (volume_of s vol) (subst (λ o. IsSomeAnd o (λ (v : VolumeSpace). (v.is_open ≡ true) × IsFreePage v p)) (space vol) can)
    where
      by_volume : (o : Option VolumeSpace) → IsSomeAnd (option_map keeping o) (λ (v : VolumeSpace). (v.is_open ≡ true) × IsFreePage v p) → IsSomeAnd o (λ (v : VolumeSpace). (v.is_open ≡ true) × IsFreePage v p)
      by_volume None can = absurd can
      by_volume (Some v) can = (can.0, record { within = can.1.within; unused = can.1.unused; settled = can.1.settled })

  on : (vol p : ℕ) → Contains (table_of c vol) p → Contains (table_of e vol) p
  on vol p = subst (λ (l : List ℕ). Contains l p) (sym (tables vol))

  was_on : (vol p : ℕ) → Contains (table_of e vol) p → Contains (table_of c vol) p
  was_on vol p = subst (λ (l : List ℕ). Contains l p) (tables vol)

  apart : (home : Home) → IsHeldApart s c home → IsHeldApart t e home
  apart home is = record { held = held home.vol home.page is.held; off_table = λ there. is.off_table (was_on home.vol home.page there) }

  file_page : (places : List TagPlace) (home : Home) → IsFilePage s c places home → IsFilePage t e places home
  file_page places home is = record { apart = apart home is.apart; no_tags = is.no_tags }

  on_tables : (chain : List PlacedCell) → AreOnTables c chain → AreOnTables e chain
  on_tables = all_there (λ (p : PlacedCell). Contains (table_of c p.at.vol) p.at.page) (λ (p : PlacedCell). Contains (table_of e p.at.vol) p.at.page) (λ p. on p.at.vol p.at.page)

  module _ (pages : Pages) where
    belong : Belong c pages → Belong e pages
    belong is = record {
      run = λ vol place within. subst (λ (l : List ℕ). IsSomeAnd (pages (record { vol = vol; page = slice_index l place })) (IsPageOf l place)) (sym (tables vol)) (is.run vol place (subst (λ (l : List ℕ). place < length l) (tables vol) within));
      on_table = λ at is_one. on at.vol at.page (is.on_table at (sym (free at) ∙ is_one));
      zeros = λ at is_one. is.zeros at (sym (free at) ∙ is_one);
    }

    allocated : AreAllocated s c pages → AreAllocated t e pages
    allocated is = record {
      belong = belong is.belong;
      held = λ vol place first within. subst (λ (l : List ℕ). IsHeld t vol (slice_index l place)) (sym (tables vol)) (held vol _ (is.held vol place first (subst (λ (l : List ℕ). place < length l) (tables vol) within)));
      table = λ vol p first can. subst (λ (l : List ℕ). 0 < length l) (sym (tables vol)) (is.table vol p first (could_take vol p can));
      opened = λ vol p first can. marks vol ∙ is.opened vol p first (could_take vol p can);
      first = λ vol p first can. is.first vol p first (could_take vol p can);
      ends = λ vol place last. subst (λ (l : List ℕ). IsSomeAnd (pages (record { vol = vol; page = slice_index l place })) (λ page. next_of page ≡ 0)) (sym (tables vol)) (is.ends vol place (last ∙ ap length (tables vol)));
    }

    standing : (at : CellAt) (chain : List PlacedCell) → IsStanding c pages at chain → IsStanding e pages at chain
    standing at chain is = record { stands = is.stands; on_tables = on_tables chain is.on_tables }

    stand : (files : Files) → StandTogether s c pages files → StandTogether t e pages files
    stand files is = record {
      allocated = allocated is.allocated;
      each = λ at. if_there (IsStanding c pages at) (IsStanding e pages at) (standing at) (files at) (is.each at);
      apart = is.apart;
      held = λ at page home there. apart home (is.held at page home there);
      once = is.once;
      one_deep = is.one_deep;
    }

    together : (number : ℕ) (places : List TagPlace) (chains : Chains) → AreTogether number places s c pages chains → AreTogether number places t e pages chains
    together number places chains is = record {
      files = is.files;
      allocated = allocated is.allocated;
      on_tables = λ tag. if_there (AreOnTables c) (AreOnTables e) on_tables (chains tag) (is.on_tables tag);
      tag_pages = λ home there. apart home (is.tag_pages home there);
      file_pages = λ tag page home there. file_page places home (is.file_pages tag page home there);
      once = is.once;
    }

    set_still : (number : ℕ) (places : List TagPlace) (files : Bitfiles) → StandsAsSet number places s c pages files → StandsAsSet number places t e pages files
    set_still number places files is = record {
      chains = is.chains;
      indexes = is.indexes;
      stands = record {
        together = together number places is.chains is.stands.together;
        shows = is.stands.shows;
        indexed = is.stands.indexed;
        stand = λ tag home there. file_page places home (is.stands.stand tag home there);
        apart = is.stands.apart;
        once = is.stands.once;
      };
      whole = is.whole;
      bare = is.bare;
      low = is.low;
    }

-- ---- the domain

module _ (d : DomainNow) (t : Spaces) (e : Cells) (space : (vol : ℕ) → volume_of t vol ≡ option_map keeping (volume_of d.space vol)) (tables : (vol : ℕ) → table_of e vol ≡ table_of d.cells vol)
    (marks : (vol : ℕ) → is_closed e vol ≡ is_closed d.cells vol) (free : (at : CellAt) → is_free e at ≡ is_free d.cells at) where
  abbrev now : DomainNow
  now = record d { space = t; cells = e }

  here : (vol p : ℕ) → Contains (table_of d.cells vol) p → Contains (table_of e vol) p
  here vol p = subst (λ (l : List ℕ). Contains l p) (sym (tables vol))

  there : (vol p : ℕ) → Contains (table_of e vol) p → Contains (table_of d.cells vol) p
  there vol p = subst (λ (l : List ℕ). Contains l p) (tables vol)

  was_on_table : (at : CellAt) (cell : Cell) → IsOnTable d.pages (layout_of now) at cell → IsOnTable d.pages (layout_of d) at cell
  was_on_table at cell is = record { member = is.member; table = there at.vol at.page is.table; stands = is.stands }

  tables_kept : StandTables d → StandTables now
  tables_kept is = record {
    laid = record {
      version = is.laid.version;
      table = is.laid.table;
      cells = λ vol member. subst (λ (l : List ℕ). IsCellTable d.pages vol (first_cells d.frame vol) l) (sym (tables vol)) (is.laid.cells vol member);
      tags = is.laid.tags;
    };
    log = is.log;
    few = is.few;
    may = is.may;
    volumes = λ vol member. let v = is.volumes vol member in record { cell = v.cell; stands = v.stands; says = v.says };
    cells = record {
      tables = λ vol member. refl;
      others = λ vol none. tables vol ∙ is.cells.others vol none;
      closed = λ vol member. ((λ closed. (is.cells.closed vol member).0 (sym (marks vol) ∙ closed)), (λ shut. marks vol ∙ (is.cells.closed vol member).1 shut));
      free = λ at. (
        (λ one. let f = (is.cells.free at).0 (sym (free at) ∙ one) in record { member = f.member; table = here at.vol at.page f.table; within = f.within; free = f.free }),
        (λ f. free at ∙ (is.cells.free at).1 (record { member = f.member; table = there at.vol at.page f.table; within = f.within; free = f.free })),
      );
    };
  }

  module _ (files : Files) where
    well_kept : IsWell (all_of d files) → IsWell (all_of now files)
    well_kept is = record {
      together = stand d.space t d.cells e space tables marks free d.pages files is.together;
      listed = record {
        each = is.listed.each;
        once = is.listed.once;
        order = is.listed.order;
        pages_once = is.listed.pages_once;
        pages_low = is.listed.pages_low;
        pages_held = λ home on. apart d.space t d.cells e space tables marks free home (is.listed.pages_held home on);
        pages_apart = is.listed.pages_apart;
      };
    }

    empty_kept : (number : ℕ) → HasEmptyTags d number → HasEmptyTags now number
    empty_kept number is = record { removed = is.removed; none = is.none; listed = is.listed }

    among_kept : (number : ℕ) → HasFilesAmong d files number → HasFilesAmong now files number
    among_kept number is = record {
      chains = is.chains;
      are = is.are;
      among = record { same = is.among.same; live = is.among.live; trimmed = is.among.trimmed; low = is.among.low; no_tags = is.among.no_tags; not_listed = is.among.not_listed };
    }

    slot_kept : (number : ℕ) (first : Option Home) → StandsInSlot d files number first → StandsInSlot now files number first
    slot_kept number None is = is
    slot_kept number (Some first) is = ⊎_elim (λ files_are. inl (among_kept number files_are)) (λ empty. inr (empty_kept number empty)) is

    module _ (indexes : IndexesAt) where
      chains_kept : StandChains d files indexes → StandChains now files indexes
      chains_kept is = record {
        well = well_kept is.well;
        slots = λ number. slot_kept number (named_by first_tag_of d number) (is.slots number);
        quotas = λ number at names. and_there (AreQuotasOf d number at) (AreQuotasOf now number at) (λ chain are. record { quotas = are.quotas; of = are.of; once = are.once }) (files at) (is.quotas number at names);
        indexed = is.indexed;
        used = λ at cell on. is.used at cell (was_on_table at cell on);
        named = is.named;
        to_do = is.to_do;
        listed = is.listed;
        tag_pages = λ home on. let found = is.tag_pages home on in (found.0, empty_kept found.0 found.1);
      }

      was_held : (holder : Holder) (home : Home) → Holds now files indexes holder home → Holds d files indexes holder home
      was_held Holder.of_volume home is = is
      was_held Holder.of_log home is = is
      was_held Holder.of_table home is = is
      was_held Holder.of_cells home is = (is.0, there home.vol home.page is.1)
      was_held (Holder.of_tags number) home is = is
      was_held (Holder.of_index at place) home is = is
      was_held (Holder.of_file at page) home is = is

      is_held : (holder : Holder) (home : Home) → Holds d files indexes holder home → Holds now files indexes holder home
      is_held Holder.of_volume home is = is
      is_held Holder.of_log home is = is
      is_held Holder.of_table home is = is
      is_held Holder.of_cells home is = (is.0, here home.vol home.page is.1)
      is_held (Holder.of_tags number) home is = is
      is_held (Holder.of_index at place) home is = is
      is_held (Holder.of_file at page) home is = is

      space_kept : (vol : ℕ) (o : Option VolumeSpace) → AreHeldAt d files indexes vol o → AreHeldAt now files indexes vol (option_map keeping o)
      space_kept vol None none = none
      space_kept vol (Some v) is = (
        is.0,
        record {
          count = is.1.count;
          opened = is.1.opened;
          free = λ page within. (
            (λ unused. let f = (is.1.free page within).0 unused in ((λ holder holds. f.0 holder (was_held holder _ holds)), f.1)),
            (λ f. (is.1.free page within).1 ((λ holder holds. f.0 holder (is_held holder _ holds)), f.1)),
          );
          waits = λ page waits holder holds. is.1.waits page waits holder (was_held holder _ holds);
        },
      )

      owned_kept : HoldsOwned d files indexes → HoldsOwned now files indexes
      owned_kept is = record {
        once = λ home one other a b. is.once home one other (was_held one home a) (was_held other home b);
        spaces = λ vol first. subst (AreHeldAt now files indexes vol) (sym (space vol)) (space_kept vol (volume_of d.space vol) (is.spaces vol first));
      }

    rest_kept : SaysTheRest d files → SaysTheRest now files
    rest_kept is = record {
      kinds = λ at cell on. is.kinds at cell (was_on_table at cell on);
      firsts = λ at cell on. is.firsts at cell (was_on_table at cell on);
      births = λ at cell value of. is.births at cell value (record { number = of.number; original = of.original; tag = of.tag; leads = of.leads });
      holes = is.holes;
    }

  slots_kept : (all : FilesetMap) → StandSlots d all → StandSlots now all
  slots_kept all is = record {
    shapes = is.shapes;
    are = is.are;
    filled = is.filled;
    sets = λ number entry shape item named. set_still d.space t d.cells e space tables marks free d.pages number (d.tags number) shape.shown (is.sets number entry shape item named);
    no_clone = is.no_clone;
  }

  pub below_kept : (files : Files) (indexes : IndexesAt) → StandsBelow d files indexes → StandsBelow now files indexes
  below_kept files indexes is = record {
    tables = tables_kept is.tables;
    chains = chains_kept files indexes is.chains;
    owned = owned_kept files indexes is.owned;
    rest = rest_kept files is.rest;
  }

  pub all_kept_stands : (all : FilesetMap) → StandsDomain d all → StandsDomain now all
  all_kept_stands all is = record {
    tables = tables_kept is.tables;
    files = is.files;
    indexes = is.indexes;
    chains = chains_kept is.files is.indexes is.chains;
    owned = owned_kept is.files is.indexes is.owned;
    rest = rest_kept is.files is.rest;
    slots = slots_kept all is.slots;
  }
