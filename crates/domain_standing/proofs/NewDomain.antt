-- A domain that was just made stands for no fileset.
use Rattle.std.proofs.Common.{◌≡◌, ◌∙◌, inl, ℕ, ◌<◌, ◌≤◌, true, false, List, [], length, Option, Some, None, IfSome, Contains, refl, sym, ap, subst, arith}
use Rattle.std.specs.FinMap.{empty, get-empty}
use Rattle.std.specs.List.{AllByRecursion}
use Rattle.std.specs.Option.{option_and_then}
use Rattle.fileset_shapes.specs.domain_base.declared.place.CellAt.{CellAt}
use Rattle.fileset_shapes.specs.domain_base.declared.place.Home.{Home}
use Rattle.fileset_shapes.specs.cell_records.Records.{kind_of, last_kind}
use Rattle.fileset_shapes.specs.metadata_cells.Cell.{Cell}
use Rattle.fileset_shapes.specs.metadata_cells.declared.head.CellKind.TheVariants.{Primary, Volume}
use Rattle.fileset_shapes.specs.extent_maps.declared.run.PagePlace.TheVariants.{Absent, At}
use Rattle.fileset_shapes.specs.log_recovery.Range.{IsLogInside}
use Rattle.fileset_shapes.specs.fileset_values.Orders.{name_cmp}
use Rattle.fileset_shapes.specs.fileset_table.Table.{entry_of}
use Rattle.fileset_shapes.specs.fileset_table.declared.slot.SlotItem.{SlotItem}
use Rattle.fileset_shapes.specs.fileset_table.declared.slot.SlotItem.TheVariants as slot
use Rattle.fileset_shapes.specs.file_release.Releases.{AreAllOnce}
use Rattle.release_steps.specs.release_list.Listed.{IsListed}
use Rattle.release_steps.specs.release_list.Listing.{IsEmpty}
use Rattle.release_steps.specs.release_list.Standing.{StandTogether}
use Rattle.release_steps.specs.release_list.declared.list.Entry.{Entry}
use Rattle.domain_standing.specs.Space.{AreCellsOf, AreFew, IsSpaceOf}
use Rattle.domain_standing.proofs.Tables.{allocated}
use Rattle.fileset_shapes.specs.domain_layout.CellRules.{of_clone, of_original}
use Rattle.fileset_shapes.specs.domain_layout.Faults.{HasNoFault}
use Rattle.fileset_shapes.specs.domain_layout.Layout.{IsLayout, first_tag_of}
use Rattle.fileset_shapes.specs.domain_layout.Shape.{IsShapeOf}
use Rattle.fileset_shapes.specs.domain_layout.TagRules.{quota_of}
use Rattle.fileset_shapes.proofs.OfDomainLayout.NoTables.{none_of_tables}
use Rattle.fileset_shapes.specs.domain_layout.NewDomain.{IsNew}
use Rattle.fileset_shapes.proofs.OfDomainLayout.NewDomain.{no_fault}
use Rattle.fileset_shapes.proofs.OfDomainLayout.OwnedOnce.{owned_once}
use Rattle.fileset_shapes.proofs.OfDomainLayout.OnePage.{in_none}
use Rattle.domain_standing.specs.Chains.{IsQuotaOf, StandChains, StandsInSlot, no_files, no_indexes}
use Rattle.domain_standing.specs.Domain.{DomainNow, item_in, layout_of, named_by}
use Rattle.domain_standing.specs.Rest.{IsOfOriginal, SaysTheRest}
use Rattle.domain_standing.specs.Slots.{StandSlots}
use Rattle.domain_standing.specs.Sources.{StandAlone}
use Rattle.domain_standing.specs.Standing.{StandsDomain}
use Rattle.domain_standing.specs.Tables.{HasVolumeCell, StandTables}
use Rattle.domain_standing.proofs.NewHolders.{holds_owned}
use Rattle.domain_standing.proofs.NewTables.{VolumeCell, at_first_place, is_free, table_may_be, volume_cell}

-- nothing is among none
in_nothing : {X : Type 0} (xs : List X) (x : X) → xs ≡ [] → ¬ Contains xs x
in_nothing xs x none among = in_none x (subst (λ ys. Contains ys x) none among)

module _ (d : DomainNow) (new : IsNew d.pages d.frame) (laid : IsLayout d.pages (layout_of d)) (log : IsLogInside d.frame.version d.frame.anchor) (few : AreFew (layout_of d))
    (space : IsSpaceOf d.pages (layout_of d) d.space) (are : AreCellsOf d.pages (layout_of d) d.cells) (untagged : (number : ℕ) → d.tags number ≡ []) (empty_list : IsEmpty d.list) where
  first : VolumeCell d.pages (layout_of d)
  first = volume_cell d.pages (layout_of d) new laid

  whole : HasNoFault d.pages d.frame
  whole = no_fault d.pages d.frame new

  tables : StandTables d
  tables = record {
    laid = laid;
    log = log;
    few = few;
    may = table_may_be d.pages (layout_of d) new laid;
    volumes = λ vol member. subst (HasVolumeCell d) (sym (new.anchor.alone vol member)) (record {
      cell = first.cell;
      stands = first.stands;
      says = first.says;
    });
    cells = are;
  }

  -- ---- slots

  free_item : (number : ℕ) (item : SlotItem) → item_in d number ≡ Some item → item ≡ slot.Free
  free_item = is_free d.pages (layout_of d) new laid

  names_none : {X : Type 0} (what : SlotItem → Option X) → what slot.Free ≡ None → (number : ℕ) → named_by what d number ≡ None
  names_none what of_free number = by_item (item_in d number) refl
    where
      by_item : (o : Option SlotItem) → item_in d number ≡ o → option_and_then what o ≡ None
      by_item None is = refl
      by_item (Some item) is = ap what (free_item number item is) ∙ of_free

  item_free : (P : Option SlotItem → Type 0) → P None → P (Some slot.Free) → (number : ℕ) → P (item_in d number)
  item_free P none free number = by_item (item_in d number) refl
    where
      by_item : (o : Option SlotItem) → item_in d number ≡ o → P o
      by_item None is = none
      by_item (Some item) is = subst (λ i. P (Some i)) (sym (free_item number item is)) free

  no_quota : (number : ℕ) (at : CellAt) → ¬ IsQuotaOf d number at
  no_quota number at is = let e : None ≡ Some at = sym (names_none quota_of refl number) ∙ is in absurd (cc)

  -- ---- chains

  no_entry : (entry : Entry) → ¬ Contains d.list.entries entry
  no_entry entry = in_nothing d.list.entries entry empty_list.0

  no_page : (home : Home) → ¬ Contains d.list.tag_pages home
  no_page home = in_nothing d.list.tag_pages home empty_list.1

  none_within : (k : ℕ) → ¬ k < length d.list.entries
  none_within k low = let e : length d.list.entries ≡ 0 = ap length empty_list.0 in omega (arith, e, low)

  together : StandTogether d.space d.cells d.pages no_files
  together = record {
    allocated = allocated d.pages (layout_of d) d.space d.cells laid (none_of_tables d.pages d.frame whole) space are;
    each = λ at. tt;
    apart = λ a b other. tt;
    held = λ at page home is. absurd (no_place home is);
    once = λ a b p q home is also. absurd (no_place home is);
    one_deep = λ a b c through. absurd through;
  }
    where
      no_place : (home : Home) → ¬ Absent ≡ At home
      no_place home is = absurd (cc)

  chains : StandChains d no_files no_indexes
  chains = record {
    well = record { together = together; listed = listed };
    slots = λ number. subst (StandsInSlot d no_files number) (sym (names_none first_tag_of refl number)) (untagged number);
    quotas = λ number at is. absurd (no_quota number at is);
    indexed = λ at. tt;
    used = λ at cell on. inl (at_first_place d.pages (layout_of d) new laid at cell on);
    named = λ at chain is. let e : None ≡ Some chain = is in absurd (cc);
    to_do = λ at is. let e : false ≡ true = is in absurd (cc);
    listed = λ at on. absurd (no_entry on.0 on.1);
    tag_pages = λ home on. absurd (no_page home on);
  }
    where
      listed : IsListed d.space d.cells no_files d.list
      listed = record {
        each = λ entry among. absurd (no_entry entry among);
        once = λ i j e low. absurd (none_within i low);
        order = λ i j e low. absurd (none_within i low);
        pages_once = subst AreAllOnce (sym empty_list.1) tt;
        pages_low = λ home among. absurd (no_page home among);
        pages_held = λ home among. absurd (no_page home among);
        pages_apart = λ home among. absurd (no_page home among);
      }

  -- ---- the rest

  rest : SaysTheRest d no_files
  rest = record {
    kinds = λ at cell on. subst (λ (c : Cell). AllByRecursion (λ r. kind_of r ≤ last_kind d.frame.version) c.records) (sym (first.alone at cell on)) first.known;
    firsts = λ at cell on primary.
        let e : Volume ≡ Primary = sym (ap (λ (c : Cell). c.head.kind) (first.alone at cell on) ∙ first.says.kind) ∙ primary in
        absurd (cc);
    births = λ at cell value original stands has. absurd (no_original original);
    holes = λ at chain is stays. let e : None ≡ Some chain = is in absurd (cc);
  }
    where
      no_original : {at : CellAt} → ¬ IsOfOriginal d at
      no_original is = let e : false ≡ true = sym (item_free (λ o. of_original o ≡ false) refl refl is.number) ∙ is.original in absurd (cc)

  -- no cell is the first of a file
  pub new_alone : StandAlone d
  new_alone at has =
      let e : Volume ≡ Primary = sym (ap (λ (c : Cell). c.head.kind) (first.alone at has.cell has.on) ∙ first.says.kind) ∙ has.kind in
      absurd (cc)

  slots : StandSlots d empty
  slots = record {
    shapes = λ name. None;
    are = record {
      each = λ number item there. subst (λ i. IfSome (entry_of i) (λ entry. IsShapeOf d.pages d.table number i None)) (sym (free_item number item there)) tt;
      only = λ name some. let e : false ≡ true = some in absurd (cc);
    };
    filled = λ name. get-empty name_cmp name;
    sets = λ number entry shape is has. let e : None ≡ Some shape = has in absurd (cc);
    no_clone = λ number. item_free (λ o. of_clone o ≡ false) refl refl number;
  }

  pub new_stands : StandsDomain d empty
  new_stands = record {
    tables = tables;
    files = no_files;
    indexes = no_indexes;
    chains = chains;
    owned = holds_owned d new laid untagged (owned_once d.pages (layout_of d) laid whole log) space;
    rest = rest;
    slots = slots;
  }
