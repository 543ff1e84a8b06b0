-- Where no rule of tables is broken: pages that agree on tables have the same files.
use Rattle.std.proofs.Common.{◌≡◌, ◌∙◌, inl, inr, ℕ, false, List, [], ◌∷◌, Option, Some, None, IsSomeAnd, refl, sym, ap, subst, arith, ⊎_elim}
use Rattle.std.specs.Prelude.{slice_get}
use Rattle.std.specs.Option.{option_and_then}
use Rattle.file_release.specs.domain_base.declared.place.CellAt.{CellAt}
use Rattle.file_release.specs.domain_base.declared.place.Tag.{Tag}
use Rattle.file_release.specs.page_store.Pages.{Pages}
use Rattle.file_release.specs.cell_records.Fields.{number_at}
use Rattle.file_release.specs.metadata_cells.Cell.{Cell, IsFileset}
use Rattle.file_release.specs.metadata_cells.CellPage.{home_of}
use Rattle.file_release.specs.metadata_cells.Chain.{LinksFrom, PlacedCell, StandsAt}
use Rattle.file_release.specs.metadata_cells.declared.head.CellKind.TheVariants.{Primary}
use Rattle.file_release.proofs.OfMetadataCells.Walk.{one_kind}
use Rattle.file_release.specs.tag_dirs.Directory.{cell_of}
use Rattle.file_release.specs.extent_maps.Runs.{Places}
use Rattle.file_release.specs.fileset_files.Files.{is_removed}
use Rattle.fileset_table.specs.Table.{entry_of as fileset_of}
use Rattle.fileset_table.specs.declared.slot.FilesetEntry.{FilesetEntry}
use Rattle.fileset_table.specs.declared.slot.SlotItem.{SlotItem}
use Rattle.fileset_table.specs.declared.slot.SlotItem.TheVariants as slots
use Rattle.domain_layout.specs.CellRules.{IsUsed}
use Rattle.domain_layout.specs.DirectoryRules.{Has, IsInClone, IsInItem, IsNotThere, IsThere}
use Rattle.domain_layout.specs.Layout.{Layout, first_tag_of}
use Rattle.domain_layout.specs.Owners.{frame_of}
use Rattle.domain_layout.specs.Seen.{IsOwn, IsSource, SeenFile, source_of}
use Rattle.domain_layout.specs.TagRules.{HasTags, IsFirstOf, original_slot}
use Rattle.domain_layout.proofs.ChainsAlike.{cell_alike, directory_alike, linked_alike}
use Rattle.domain_layout.proofs.Named.{first_there}
use Rattle.domain_layout.proofs.OnePage.{some_same}
use Rattle.domain_layout.proofs.OwnedOnce.{no_tags}
use Rattle.domain_layout.proofs.Owned.{AreTables}

pub tags_of : (item : SlotItem) (entry : FilesetEntry) → fileset_of item ≡ Some entry → first_tag_of item ≡ Some entry.first_tag
tags_of slots.Free entry is = absurd (let e : None ≡ Some entry = is in absurd (cc))
tags_of (slots.Original found) entry is = ap (λ (e : FilesetEntry). Some e.first_tag) (some_same found entry is)
tags_of (slots.Clone of number found) entry is = ap (λ (e : FilesetEntry). Some e.first_tag) (some_same found entry is)
tags_of (slots.Removed first_tag quota) entry is = absurd (let e : None ≡ Some entry = is in absurd (cc))

one_fileset : (n : ℕ) (a : Option ℕ) (b : ℕ) → IsFileset n a → IsFileset n (Some b) → a ≡ Some b
one_fileset n None b is_a is_b = absurd (omega (arith, is_a, is_b.0))
one_fileset n (Some a) b is_a is_b = let same : a ≡ b = omega (arith, is_a.0, is_b.0) in ap Some same

-- ---- the first cell of a file

module _ (pages : Pages) (layout : Layout) (number : ℕ) (tag : Tag) (at : CellAt) (cell : Cell) (f : IsFirstOf pages (frame_of layout) number tag at) (stands : StandsAt pages at cell) where
  first_bytes : f.bytes ≡ stands.bytes
  first_bytes = some_same f.bytes stands.bytes (sym f.there ∙ stands.there)

  pub first_kind : cell.head.kind ≡ Primary
  first_kind = one_kind cell.head.kind Primary (sym stands.is.head.kind ∙ ap (number_at 1 15) (sym first_bytes) ∙ f.kind)

  first_fileset : cell.head.fileset ≡ Some number
  first_fileset = one_fileset (number_at 1 14 stands.bytes) cell.head.fileset number stands.is.head.fileset (subst (λ b. IsFileset (number_at 1 14 b) (Some number)) first_bytes f.fileset)

module _ (one other : Pages) (layout : Layout) (are : AreTables one other layout) where
  -- ---- what a fileset has at a tag

  module _ (number : ℕ) (entry : FilesetEntry) (has : HasTags layout.table number entry.first_tag) (tag : Tag) where
    there_alike : (cells : List PlacedCell) → IsThere one entry tag cells → IsThere other entry tag cells
    there_alike cells is = record {
      places = is.places;
      directory = directory_alike one other layout are.laid are.none are.cells are.tags number entry.first_tag has is.places is.directory;
      leads =
          subst (λ o. IsSomeAnd o (λ at. LinksFrom other at cells))
          (cell_alike one other layout are.laid are.none are.cells are.tags number entry.first_tag has is.places is.directory tag)
          (by_cell (cell_of one is.places tag) refl is.leads);
    }
      where
        by_cell : (o : Option CellAt) → cell_of one is.places tag ≡ o → IsSomeAnd o (λ at. LinksFrom one at cells) → IsSomeAnd o (λ at. LinksFrom other at cells)
        by_cell None none links = absurd links
        by_cell (Some at) leads links =
            linked_alike one other layout are.laid are.none are.cells number tag at
            (first_there one layout are.laid are.none number entry.first_tag has is.places is.directory tag at leads) cells links

    not_there_alike : IsNotThere one entry tag → IsNotThere other entry tag
    not_there_alike is = record {
      places = is.places;
      directory = directory_alike one other layout are.laid are.none are.cells are.tags number entry.first_tag has is.places is.directory;
      none = sym (cell_alike one other layout are.laid are.none are.cells are.tags number entry.first_tag has is.places is.directory tag) ∙ is.none;
    }

    -- the first of the cells that are there is one of that fileset and tag
    pub record FirstThere (first : PlacedCell) : Type 0 where
      pub used : IsUsed one (frame_of layout) first.at first.cell
      pub kind : first.cell.head.kind ≡ Primary
      pub fileset : first.cell.head.fileset ≡ Some number

    pub first_used : (first : PlacedCell) (rest : List PlacedCell) → IsThere one entry tag (first ∷ rest) → ¬ ¬ FirstThere first
    first_used first rest is = by_cell (cell_of one is.places tag) refl is.leads
      where
        by_first : (links : LinksFrom one first.at (first ∷ rest)) → IsFirstOf one (frame_of layout) number tag first.at → FirstThere first
        by_first links f =
            record {
              used = record { place = f.place; stands = links.1.stands };
              kind = first_kind one layout number tag first.at first.cell f links.1.stands;
              fileset = first_fileset one layout number tag first.at first.cell f links.1.stands;
            }

        by_cell : (o : Option CellAt) → cell_of one is.places tag ≡ o → IsSomeAnd o (λ at. LinksFrom one at (first ∷ rest)) → ¬ ¬ FirstThere first
        by_cell None none links = absurd links
        by_cell (Some at) leads links = λ away.
            first_there one layout are.laid are.none number entry.first_tag has is.places is.directory tag at leads
            (λ (f : IsFirstOf one (frame_of layout) number tag at). away (by_first (refl, links.1) (subst (IsFirstOf one (frame_of layout) number tag) (sym links.0) f)))

  -- ---- files of clones

  module _ (number of clone : ℕ) (entry : FilesetEntry) (slot : slice_get layout.table.slots number ≡ Some (slots.Clone of clone entry)) (tag : Tag) where
    clone_tags : HasTags layout.table number entry.first_tag
    clone_tags = record { item = slots.Clone of clone entry; there = slot; has = refl }

    -- the cell through which a clone's file is read is the first one of the original's file
    pub source_named : (first : PlacedCell) (rest : List PlacedCell) → IsThere one entry tag (first ∷ rest) → is_removed (first ∷ rest) ≡ false → (source : CellAt) → source_of (first ∷ rest) ≡ Some source
        → ¬ ¬ IsFirstOf one (frame_of layout) of (record { slot = first.cell.head.slot; seq = first.cell.head.seq }) source
    source_named first rest there live source through wrong =
        first_used number entry clone_tags tag first rest there (λ (f : FirstThere number entry clone_tags tag first).
        no_tags one layout are.laid are.none (home_of first.at)
        (inr (inr (inr (inr (inr (inl (
          first.at,
          refl,
          inr (inl (record {
            cell = first.cell;
            is = f.used;
            kind = f.kind;
            stays = live;
            of = of;
            clone = ap original_slot (ap (λ o. option_and_then (slice_get layout.table.slots) o) f.fileset ∙ slot);
            source = source;
            through = through;
            wrong = wrong;
          })),
        ))))))))

    own_alike : (cells : List PlacedCell) (seen : SeenFile) → IsThere one entry tag cells → is_removed cells ≡ false → IsOwn one cells seen → IsOwn other cells seen
    own_alike cells seen there live own = record { is = own.is; source = own.source; through = by_source (source_of cells) refl own.source own.through; homes = own.homes }
      where
        links : (list : List PlacedCell) → IsThere one entry tag list → is_removed list ≡ false → (at : CellAt) → source_of list ≡ Some at → (found : List PlacedCell) → LinksFrom one at found → LinksFrom other at found
        links [] is stays at through found from = absurd (let e : None ≡ Some at = through in absurd (cc))
        links (first ∷ rest) is stays at through found from =
            linked_alike one other layout are.laid are.none are.cells of (record { slot = first.cell.head.slot; seq = first.cell.head.seq }) at (source_named first rest is stays at through) found from

        by_source : (o : Option CellAt) → source_of cells ≡ o → (places : Places) → IsSource one o places → IsSource other o places
        by_source None none places is = is
        by_source (Some at) through places is = (is.0, links cells there live at through is.0 is.1, is.2)

    in_clone_alike : (item : SlotItem) (original : FilesetEntry) → slice_get layout.table.slots of ≡ Some item → fileset_of item ≡ Some original
        → (cells : List PlacedCell) (seen : SeenFile) → IsInClone one entry original clone tag cells seen → IsInClone other entry original clone tag cells seen
    in_clone_alike item original behind fileset cells seen is = record {
      is =
          ⊎_elim (λ own. inl (there_alike number entry clone_tags tag cells own.0, own.1, own_alike cells seen own.0 own.1 own.2))
          (λ through. inr (
            not_there_alike number entry clone_tags tag through.0,
            there_alike of original (record { item = item; there = behind; has = tags_of item original fileset }) tag cells through.1,
            through.2,
          )) is.is;
    }

  -- ---- files of all filesets

  in_item_alike : (number : ℕ) (item : SlotItem) → slice_get layout.table.slots number ≡ Some item → (tag : Tag) (cells : List PlacedCell) (seen : SeenFile)
      → IsInItem one layout.table item tag cells seen → IsInItem other layout.table item tag cells seen
  in_item_alike number slots.Free slot tag cells seen is = absurd is
  in_item_alike number (slots.Removed first_tag quota) slot tag cells seen is = absurd is
  in_item_alike number (slots.Original entry) slot tag cells seen is =
      record { there = there_alike number entry (record { item = slots.Original entry; there = slot; has = refl }) tag cells is.there; is = is.is }
  in_item_alike number (slots.Clone of clone entry) slot tag cells seen is = by_item (slice_get layout.table.slots of) refl is
    where
      by_entry : (item : SlotItem) → slice_get layout.table.slots of ≡ Some item → (o : Option FilesetEntry) → fileset_of item ≡ o
          → IsSomeAnd o (λ original. IsInClone one entry original clone tag cells seen) → IsSomeAnd o (λ original. IsInClone other entry original clone tag cells seen)
      by_entry item behind None fileset is = absurd is
      by_entry item behind (Some original) fileset is = in_clone_alike number of clone entry slot tag item original behind fileset cells seen is

      by_item : (o : Option SlotItem) → slice_get layout.table.slots of ≡ o
          → IsSomeAnd (option_and_then fileset_of o) (λ original. IsInClone one entry original clone tag cells seen)
          → IsSomeAnd (option_and_then fileset_of o) (λ original. IsInClone other entry original clone tag cells seen)
      by_item None behind is = absurd is
      by_item (Some item) behind is = by_entry item behind (fileset_of item) refl is

  pub has_alike : (number : ℕ) (tag : Tag) (cells : List PlacedCell) (seen : SeenFile) → Has one layout.table number tag cells seen → Has other layout.table number tag cells seen
  has_alike number tag cells seen has = record { item = has.item; there = has.there; is = in_item_alike number has.item has.there tag cells seen has.is }
