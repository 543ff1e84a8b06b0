-- An original in a slot has one shape, which is filled by the same filesets.
use Rattle.std.proofs.Common.{◌≡◌, ◌∙◌, ℕ, List, Option, Some, None, IsSomeAnd, slice_get, refl, sym, ap, subst}
use Rattle.std.specs.Option.{option_and_then}
use Rattle.no_faults.specs.domain_base.declared.place.CellAt.{CellAt}
use Rattle.no_faults.specs.domain_base.declared.place.Tag.{Tag}
use Rattle.no_faults.specs.page_store.Pages.{Pages}
use Rattle.no_faults.specs.cell_records.declared.record.Record.{Record}
use Rattle.no_faults.specs.metadata_cells.Chain.{records_of}
use Rattle.no_faults.specs.tag_dirs.declared.dir.TagPlace.{TagPlace}
use Rattle.no_faults.proofs.OfTagDirs.Reading.{same_directory}
use Rattle.no_faults.specs.fileset_files.Files.{AreFiles}
use Rattle.no_faults.specs.fileset_files.Shown.{ShowsAt}
use Rattle.no_faults.proofs.OfFilesetFiles.Created.{one_chains}
use Rattle.no_faults.proofs.OfFilesetFiles.ShownOnce.{show_once}
use Rattle.no_faults.specs.fileset_model.declared.fileset.FilesetSlot.{FilesetSlot}
use Rattle.no_faults.specs.fileset_table.declared.slot.FilesetEntry.{FilesetEntry}
use Rattle.no_faults.specs.fileset_table.declared.slot.SlotItem.TheVariants as slots
use Rattle.no_faults.proofs.OfDomainLayout.OneShape.{links_same}
use Rattle.no_faults.specs.domain_layout.Filled.{Contents, Fills}
use Rattle.no_faults.specs.domain_layout.Seen.{SeenFile, seen_in}
use Rattle.no_faults.specs.domain_layout.Shape.{AreQuotas, FilesetShape, IsOriginal, IsSameShape, IsSameThere, limits_in}
use Rattle.no_faults.proofs.OfDomainLayout.OneMeaning.{there_same}
use Rattle.no_faults.specs.quota_book.Book.{Book}
use Rattle.no_faults.specs.quota_book.Sums.{IsBookOf}
use Rattle.no_faults.specs.fileset_table.Table.{Table}
use Rattle.no_faults.specs.fileset_shapes.Found.{SeesFileset, SeesShape, SeesSlot}
use Rattle.no_faults.specs.fileset_shapes.declared.found.FilesetSeen.{FilesetSeen}

same_by : (a b : Option SeenFile) → a ≡ b → IsSameThere a b
same_by a b same = subst (IsSameThere a) same (itself a)
  where
    itself : (o : Option SeenFile) → IsSameThere o o
    itself None = refl
    itself (Some seen) = record { is = refl; homes = λ page. refl }

quotas_same : (pages : Pages) (at : Option CellAt) (xs ys : List Record) → AreQuotas pages at xs → AreQuotas pages at ys → xs ≡ ys
quotas_same pages None xs ys x y = x ∙ sym y
quotas_same pages (Some at) xs ys x y = x.2 ∙ ap records_of (links_same pages at x.0 y.0 x.1 y.1) ∙ sym y.2

module _ (pages : Pages) (number : ℕ) (entry : FilesetEntry) (a b : FilesetShape) (is : IsOriginal pages number entry a) (also : IsOriginal pages number entry b) where
  chains_same : (tag : Tag) → is.chains tag ≡ also.chains tag
  chains_same tag =
      let places = same_directory pages entry.first_tag is.has.places also.has.places is.has.directory also.has.directory in
      one_chains pages number also.has.places is.chains also.chains (subst (λ (p : List TagPlace). AreFiles number p pages is.chains) places is.has.files) also.has.files tag

  shape_same : IsSameShape a b
  shape_same = record {
    original = is.none ∙ sym also.none;
    files = λ tag. same_by (a.files tag) (b.files tag) (is.files tag ∙ ap (option_and_then seen_in) (chains_same tag) ∙ sym (also.files tag));
    shown = show_once pages also.chains a.shown b.shown (λ tag. subst (λ o. ShowsAt pages o (a.shown tag)) (chains_same tag) (is.shown tag)) also.shown;
    limits = λ who.
        is.limits.each who ∙ ap (λ records. limits_in entry records who) (quotas_same pages entry.quota is.limits.records also.limits.records is.limits.quotas also.limits.quotas) ∙ sym (also.limits.each who);
  }

  filled_same : (contents : Contents) (slot : FilesetSlot) → Fills contents b slot → Fills contents a slot
  filled_same contents slot fills = there_same contents (Some a) (Some b) (Some slot) shape_same fills

-- a book is that of each fileset of the slot, if it is of those of the shape that was read
pub any_book : (pages : Pages) (table : Table) (number : ℕ) (entry : FilesetEntry) (found : FilesetSeen) (book : Book) → SeesFileset pages table number (slots.Original entry) entry found
    → ((pages : Pages) (shape : FilesetShape) (contents : Contents) (slot : FilesetSlot) → SeesShape pages entry shape found → shape.original ≡ None → Fills contents shape slot → IsBookOf book slot.tree)
    → (shape : FilesetShape) (contents : Contents) (slot : FilesetSlot) → IsOriginal pages number entry shape → Fills contents shape slot → IsBookOf book slot.tree
any_book pages table number entry found book has each shape contents slot is fills =
    each pages has.shape contents slot has.sees has.is.none (filled_same pages number entry has.shape shape has.is is contents slot fills)

-- what was read of the slot
module _ (pages : Pages) (table : Table) (number : ℕ) (entry : FilesetEntry) (o : Option FilesetSeen) (at : slice_get table.slots number ≡ Some (slots.Original entry)) (sees : SeesSlot pages table number o) where
  pub read_there : (found : FilesetSeen) → o ≡ Some found → SeesFileset pages table number (slots.Original entry) entry found
  read_there found is = subst (λ p. IsSomeAnd p (SeesFileset pages table number (slots.Original entry) entry)) is (sees (slots.Original entry) at)

  pub some_there : o ≡ None → ⊥
  some_there is = subst (λ p. IsSomeAnd p (SeesFileset pages table number (slots.Original entry) entry)) is (sees (slots.Original entry) at)
