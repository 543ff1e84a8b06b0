-- The file of a clone's own cells, and the cell through which it is read.
use Rattle.std.proofs.Common.{◌≡◌, ◌∙◌, inl, inr, ℕ, Bool, true, false, cond, nat_lt, List, [], ◌∷◌, Option, Some, None, IfOk, IfSome, IsSome, IsSomeAnd, Result, slice_get, refl, sym, ap, subst, arith}
use Rattle.std.specs.Option.{option_and_then, option_map_or}
use Rattle.filesets_reading.specs.domain_base.declared.place.CellAt.{CellAt}
use Rattle.filesets_reading.specs.domain_base.declared.place.Tag.{Tag}
use Rattle.filesets_reading.specs.page_store.Pages.{Pages}
use Rattle.filesets_reading.specs.cell_records.Records.{kind_of}
use Rattle.filesets_reading.specs.cell_records.declared.record.Record.{Record}
use Rattle.filesets_reading.specs.cell_records.declared.record.Record.TheVariants as written
use Rattle.filesets_reading.specs.metadata_cells.Cell.{record_of}
use Rattle.filesets_reading.specs.metadata_cells.CellPage.{home_of}
use Rattle.filesets_reading.specs.metadata_cells.Chain.{LinksFrom, PlacedCell}
use Rattle.filesets_reading.specs.tag_dirs.declared.dir.TagPlace.{TagPlace}
use Rattle.filesets_reading.specs.tag_dirs.Directory.{cell_of}
use Rattle.filesets_reading.specs.extent_maps.Runs.{home_at, place_of}
use Rattle.filesets_reading.specs.extent_maps.declared.run.Run.{Run}
use Rattle.filesets_reading.specs.file_chains.Files.{HasFile, IsFile, places_of}
use Rattle.filesets_reading.proofs.OfFileChains.MapRecords.{kind_found}
use Rattle.filesets_reading.specs.fileset_files.Files.{AreFiles, Chains, LeadsToFile, attributes_in, attributes_of, first_record, is_removed, of_live}
use Rattle.filesets_reading.specs.fileset_files.declared.attributes.Attributes.{Attributes}
use Rattle.filesets_reading.specs.file_release.Reading.{own_or, read_home}
use Rattle.filesets_reading.specs.domain_layout.CellRules.{IsPlace}
use Rattle.filesets_reading.specs.domain_layout.Owners.{frame_of}
use Rattle.filesets_reading.specs.domain_layout.Seen.{IsOwnUnless, IsSource, frozen_of, is_in_sync, seen_in, seen_through, source_of}
use Rattle.filesets_reading.specs.domain_layout.TagRules.{IsFirstOf, original_slot}
use Rattle.filesets_reading.proofs.OfDomainLayout.Named.{first_there}
use Rattle.filesets_reading.proofs.OfDomainLayout.OwnedOnce.{no_tags}
use Rattle.filesets_reading.specs.Seen.{IsSeenThere, home_in}
use Rattle.filesets_reading.specs.declared.seen.SeenPages.{SeenPages}
use Rattle.filesets_reading.proofs.ChainsThere.{file_there}
use Rattle.filesets_reading.proofs.Unbroken.{unbroken}
use Rattle.fileset_shapes.specs.Clones.{AreOfClone, MayBeSource, ReadsOfClone, ReadsOwn}
use Rattle.fileset_shapes.proofs.Answered.{if_ok}
use Rattle.fileset_shapes.specs.declared.files.FilesetFiles.{FilesetFiles}

none_some : {P : Type 0} {X : Type 0} (x : X) → None ≡ Some x → P
none_some x is = absurd (cc)

no_bool : false ≡ true → ⊥
no_bool is = cc

-- ---- the chain of a tag

pub chain_there : (pages : Pages) (fileset : ℕ) (places : List TagPlace) (chains : Chains) → AreFiles fileset places pages chains → (tag : Tag) (at : CellAt) (cells : List PlacedCell)
    → cell_of pages places tag ≡ Some at → chains tag ≡ Some cells → IsFile pages at cells
chain_there pages fileset places chains are tag at cells leads there =
    let so = subst (λ o. IfSome o (λ cs. IsSomeAnd (cell_of pages places tag) (λ a. IsFile pages a cs))) there (each (chains tag) (are.some tag)) in
    subst (λ o. IsSomeAnd o (λ a. IsFile pages a cells)) leads so
  where
    each : (o : Option (List PlacedCell)) → IfSome o (LeadsToFile fileset places pages tag) → IfSome o (λ cs. IsSomeAnd (cell_of pages places tag) (λ a. IsFile pages a cs))
    each None some = tt
    each (Some cs) some = some.leads

-- ---- attributes

no_attributes : (r : Record) → kind_of r ≡ 1 → attributes_in r ≡ None → ⊥
no_attributes (written.Attributes kind uid gid flags size keep links birth unsynced) is none = none_some _ (sym none)
no_attributes (written.CloneFile vol cell page frozen) is none = omega (arith, is)
no_attributes (written.Extents rows) is none = omega (arith, is)
no_attributes (written.ShortExtents rows) is none = omega (arith, is)
no_attributes (written.Holes rows) is none = omega (arith, is)
no_attributes (written.Pending what) is none = omega (arith, is)
no_attributes (written.UserQuota id files blocks) is none = omega (arith, is)
no_attributes (written.GroupQuota id files blocks) is none = omega (arith, is)
no_attributes (written.DirIndex vol page entries) is none = omega (arith, is)
no_attributes (written.Parent slot seq) is none = omega (arith, is)
no_attributes (written.Stripe width mark vols) is none = omega (arith, is)
no_attributes (written.Volume vol pages bitmap_pages) is none = omega (arith, is)
no_attributes (written.DenseExtents rows) is none = omega (arith, is)
no_attributes (written.ShortDense rows) is none = omega (arith, is)

-- a file has attributes
attributes_there : (pages : Pages) (at : CellAt) (cells : List PlacedCell) → IsFile pages at cells → attributes_of cells ≡ None → ⊥
attributes_there pages at [] is none = absurd is
attributes_there pages at (first ∷ rest) is none = by_record (record_of 1 first.cell.records) refl is.1.attributes none
  where
    by_record : (o : Option Record) → record_of 1 first.cell.records ≡ o → IsSome o → option_and_then attributes_in o ≡ None → ⊥
    by_record None there some none = no_bool some
    by_record (Some r) there some none = no_attributes r (kind_found 1 first.cell.records r there) none

-- ---- what is read

pub own_removed : (pages : Pages) (at : CellAt) (cells : List PlacedCell) → IsFile pages at cells → of_live attributes_of cells ≡ None → ReadsOwn pages cells None
own_removed pages at cells is none = by_removed (is_removed cells) refl none
  where
    by_removed : (b : Bool) → is_removed cells ≡ b → cond b None (attributes_of cells) ≡ None → ReadsOwn pages cells None
    by_removed true gone none = (None, subst (λ b. IsOwnUnless b pages cells None) (sym gone) refl, refl)
    by_removed false live none = absurd (attributes_there pages at cells is none)

-- a file with attributes stays
pub stays : (cells : List PlacedCell) (is : Attributes) → of_live attributes_of cells ≡ Some is → (is_removed cells ≡ false) × (attributes_of cells ≡ Some is)
stays cells is there = by_removed (is_removed cells) refl there
  where
    by_removed : (b : Bool) → is_removed cells ≡ b → cond b None (attributes_of cells) ≡ Some is → (is_removed cells ≡ false) × (attributes_of cells ≡ Some is)
    by_removed true gone there = none_some is there
    by_removed false live there = (live, there)

pub own_there : (pages : Pages) (cells : List PlacedCell) (found : SeenPages) (own source : List Run) (from : Option CellAt) (frozen : ℕ) → of_live attributes_of cells ≡ Some found.is
    → ((page : ℕ) → place_of own page ≡ places_of cells page) → from ≡ source_of cells → frozen ≡ frozen_of cells → IsSource pages from (place_of source)
    → ((page : ℕ) → home_in found.homes.items page ≡ read_home frozen (place_of own) (place_of source) page) → ReadsOwn pages cells (Some found)
own_there pages cells found own source from frozen attributes same begins fresh through homes =
    let live = stays cells found.is attributes in (
      Some (record { is = found.is; homes = λ page. read_home (frozen_of cells) (places_of cells) (place_of source) page }),
      subst (λ b. IsOwnUnless b pages cells (Some (record { is = found.is; homes = λ page. read_home (frozen_of cells) (places_of cells) (place_of source) page }))) (sym live.0)
          (record {
            is = live.1;
            source = place_of source;
            through = subst (λ o. IsSource pages o (place_of source)) begins through;
            homes = λ page. refl;
          }),
      record { is = refl; homes = λ page. homes page ∙ read_same page },
    )
  where
    read_same : (page : ℕ) → read_home frozen (place_of own) (place_of source) page ≡ read_home (frozen_of cells) (places_of cells) (place_of source) page
    read_same page = (λ i. own_or (same page i) (cond (nat_lt page (fresh i)) (home_at (place_of source page)) None))

-- ---- the cell through which a clone's file is read

module _ (pages : Pages) (clone original : FilesetFiles) (number : ℕ) (are : AreOfClone pages clone original number) where
  pub named_source : (tag : Tag) (at source : CellAt) (first : PlacedCell) (rest : List PlacedCell) → cell_of pages clone.tags tag ≡ Some at → IsFile pages at (first ∷ rest) → is_removed (first ∷ rest) ≡ false
      → source_of (first ∷ rest) ≡ Some source → ¬ ¬ IsFirstOf pages (frame_of are.may.layout) original.files.fileset tag source
  named_source tag at source first rest leads is stays through wrong =
      first_there pages are.may.layout are.may.laid are.may.no_fault.tables clone.files.fileset are.may.first are.may.has clone.tags are.may.directory tag at leads no_source
    where
      no_source : IsFirstOf pages (frame_of are.may.layout) clone.files.fileset tag at → ⊥
      no_source named =
          let there = file_there pages are.may.layout are.may.laid are.may.no_fault are.may.small clone.files.fileset tag first rest
          (λ away. away (subst (λ a. IsFirstOf pages (frame_of are.may.layout) clone.files.fileset tag a) (sym is.0) named)) is.1.links in
          no_tags pages are.may.layout are.may.laid are.may.no_fault.tables (home_of first.at)
          (inr (inr (inr (inr (inr (inl (
            first.at,
            refl,
            inr (inl (record {
              cell = first.cell;
              is = record { place = subst (λ a. IsPlace pages (frame_of are.may.layout) a) (sym is.0) named.place; stands = is.1.links.stands };
              kind = is.1.primary;
              stays = stays;
              of = original.files.fileset;
              clone = ap (λ o. original_slot (option_and_then (slice_get are.may.layout.table.slots) o)) there.of.2 ∙ ap original_slot are.is;
              source = source;
              through = through;
              wrong = λ first_of. wrong (subst (λ t. IsFirstOf pages (frame_of are.may.layout) original.files.fileset t source) (λ i. record { slot = there.of.0 i; seq = there.of.1 i }) first_of);
            })),
          )))))))

  pub may_be_source : (tag : Tag) (at : CellAt) (cells : List PlacedCell) → cell_of pages clone.tags tag ≡ Some at → IsFile pages at cells → is_removed cells ≡ false → IfSome (source_of cells) (MayBeSource pages)
  may_be_source tag at [] leads is stays = absurd is
  may_be_source tag at (first ∷ rest) leads is stays = by_source (source_of (first ∷ rest)) refl
    where
      by_source : (o : Option CellAt) → source_of (first ∷ rest) ≡ o → IfSome o (MayBeSource pages)
      by_source None through = tt
      by_source (Some source) through =
          let named = named_source tag at source first rest leads is stays through in
          record {
            whole = unbroken pages are.may.layout are.may.laid are.may.no_fault.tables original.files.fileset tag source named;
            file = λ links. of_links source named links.0 links.1;
          }
        where
          of_links : (source : CellAt) → ¬ ¬ IsFirstOf pages (frame_of are.may.layout) original.files.fileset tag source → (cells : List PlacedCell) → LinksFrom pages source cells → HasFile pages source
          of_links source named [] links = absurd links
          of_links source named (one ∷ more) links =
              let there = file_there pages are.may.layout are.may.laid are.may.no_fault are.may.small original.files.fileset tag one more (subst (λ a. ¬ ¬ IsFirstOf pages (frame_of are.may.layout) original.files.fileset tag a) (sym links.0) named) links.1 in
              (one ∷ more, (links.0, there.is))

-- ---- the original's file that a clone has too

pub through_there : (pages : Pages) (fileset : ℕ) (places : List TagPlace) (chains : Chains) → AreFiles fileset places pages chains → (number : ℕ) (tag : Tag) (at : CellAt) (value : Record) → cell_of pages places tag ≡ Some at
    → ((cells : List PlacedCell) → IsFile pages at cells → Some value ≡ first_record 1 cells) → is_in_sync number value ≡ true → option_and_then seen_in (chains tag) ≡ option_and_then (seen_through number) (chains tag)
through_there pages fileset places chains are number tag at value leads says sync = by_chain (chains tag) refl
  where
    by_chain : (o : Option (List PlacedCell)) → chains tag ≡ o → option_and_then seen_in o ≡ option_and_then (seen_through number) o
    by_chain None there = refl
    by_chain (Some cells) there =
        let first : first_record 1 cells ≡ Some value = sym (says cells (chain_there pages fileset places chains are tag at cells leads there)) in
        sym (ap (λ o. cond (option_map_or (is_in_sync number) o false) (seen_in cells) None) first ∙ ap (λ b. cond b (seen_in cells) None) sync)

-- ---- what a tag leads to

no_cell : (at : CellAt) → None ≡ Some at → ⊥
no_cell at is = cc

-- what is so of the chain of a tag that leads to a cell
module _ (pages : Pages) (fileset : ℕ) (places : List TagPlace) (chains : Chains) (are : AreFiles fileset places pages chains) (tag : Tag) where
  pub live_source : (at : CellAt) → cell_of pages places tag ≡ Some at → (source : Option CellAt) → ((cells : List PlacedCell) → IsFile pages at cells → source ≡ source_of cells)
      → ((cells : List PlacedCell) → chains tag ≡ Some cells → IfSome (source_of cells) (MayBeSource pages)) → IfSome source (MayBeSource pages)
  live_source at leads source same may = by_chain (chains tag) refl
    where
      by_chain : (o : Option (List PlacedCell)) → chains tag ≡ o → IfSome source (MayBeSource pages)
      by_chain None there = absurd (no_cell at (sym (are.none tag there) ∙ leads))
      by_chain (Some cells) there =
          subst (λ o. IfSome o (MayBeSource pages)) (sym (same cells (chain_there pages fileset places chains are tag at cells leads there))) (may cells there)

  pub of_own : {E : Type 0} (at : CellAt) → cell_of pages places tag ≡ Some at → (number : ℕ) (behind : Option (List PlacedCell)) (r : Result (Option SeenPages) E)
      → ((cells : List PlacedCell) → chains tag ≡ Some cells → IfOk r (ReadsOwn pages cells)) → IfOk r (ReadsOfClone pages number (chains tag) behind)
  of_own at leads number behind r read = by_chain (chains tag) refl
    where
      by_chain : (o : Option (List PlacedCell)) → chains tag ≡ o → IfOk r (ReadsOfClone pages number (chains tag) behind)
      by_chain None there = absurd (no_cell at (sym (are.none tag there) ∙ leads))
      by_chain (Some cells) there = subst (λ o. IfOk r (ReadsOfClone pages number o behind)) (sym there) (read cells there)

  no_chain : cell_of pages places tag ≡ None → chains tag ≡ None
  no_chain leads = by_chain (chains tag) (are.some tag)
    where
      by_chain : (o : Option (List PlacedCell)) → IfSome o (LeadsToFile fileset places pages tag) → o ≡ None
      by_chain None some = refl
      by_chain (Some cells) some = absurd (subst (λ o. IsSomeAnd o (λ a. IsFile pages a cells)) leads some.leads)

  pub of_original : {E : Type 0} → cell_of pages places tag ≡ None → (number : ℕ) (behind : Option (List PlacedCell)) (r : Result (Option SeenPages) E)
      → IfOk r (IsSeenThere (option_and_then (seen_through number) behind)) → IfOk r (ReadsOfClone pages number (chains tag) behind)
  of_original leads number behind r read =
      subst (λ o. IfOk r (ReadsOfClone pages number o behind)) (sym (no_chain leads))
      (if_ok r (IsSeenThere (option_and_then (seen_through number) behind)) (ReadsOfClone pages number None behind) (λ found is. (option_and_then (seen_through number) behind, refl, is)) read)
