-- The shape of a fileset, by the list of its files.
use Rattle.std.proofs.Common.{◌≡◌, ◌∙◌, ℕ, zero, suc, ◌^◌, ◌≤◌, Bool, true, false, cond, List, [], ◌∷◌, Option, Some, None, IfSome, IsSomeAnd, slice_get, refl, sym, ap, subst}
use Rattle.std.specs.List.{list_all}
use Rattle.std.specs.Prelude.{◌&&◌}
use Rattle.std.specs.Option.{option_and_then, option_map, option_map_or}
use Rattle.filesets_reading.specs.domain_base.Version.{number_of}
use Rattle.filesets_reading.specs.domain_base.declared.place.Tag.{Tag}
use Rattle.filesets_reading.specs.page_store.Bitfiles.{same_tag}
use Rattle.filesets_reading.specs.page_store.Pages.{Pages}
use Rattle.filesets_reading.specs.log_ring.Homes.{IsMember, member_of}
use Rattle.filesets_reading.specs.tag_dirs.declared.dir.TagPlace.{TagPlace}
use Rattle.filesets_reading.specs.tag_dirs.Directory.{IsDirectoryAt}
use Rattle.filesets_reading.proofs.OfTagDirs.Reading.{same_directory}
use Rattle.filesets_reading.specs.fileset_files.Files.{AreFiles, Chains, HasFiles}
use Rattle.filesets_reading.proofs.OfFilesetFiles.OneChain.{same_tag_itself}
use Rattle.filesets_reading.specs.fileset_table.Page.{IsTablePage}
use Rattle.filesets_reading.specs.fileset_table.Table.{IsTable, Table, entry_of, is_original, leads_to_original}
use Rattle.filesets_reading.specs.fileset_table.declared.slot.FilesetEntry.{FilesetEntry}
use Rattle.filesets_reading.specs.fileset_table.declared.slot.SlotItem.{SlotItem}
use Rattle.filesets_reading.specs.fileset_table.declared.slot.SlotItem.TheVariants as slot
use Rattle.filesets_reading.proofs.OfDomainLayout.NoTables.{none_of_extents, none_of_tables}
use Rattle.filesets_reading.specs.domain_layout.Faults.{HasNoExtentFault, HasNoFault, SaysTable}
use Rattle.filesets_reading.specs.domain_layout.Layout.{Layout}
use Rattle.filesets_reading.specs.domain_layout.Owners.{frame_of}
use Rattle.filesets_reading.specs.domain_layout.Reached.{Frame}
use Rattle.filesets_reading.specs.domain_layout.Seen.{seen_in}
use Rattle.filesets_reading.specs.domain_layout.Shape.{AreQuotas, FilesetShape, IsClone, IsOriginal, limits_in}
use Rattle.filesets_reading.specs.domain_layout.TagRules.{HasTags}
use Rattle.filesets_reading.proofs.OfDomainLayout.OnePage.{HasOne, one_of, some_same}
use Rattle.filesets_reading.specs.Chains.{MayHaveFiles}
use Rattle.filesets_reading.specs.Good.{AreGood, HasTagsAt}
use Rattle.filesets_reading.specs.declared.tables.DomainTables.{DomainTables}
use Rattle.fileset_shapes.specs.Limits.{IsInSlot}
use Rattle.fileset_shapes.specs.declared.files.FilesetFiles.{FilesetFiles}
use Rattle.fileset_shapes.specs.Files.{AreClones, AreOriginals, IsFound, IsWhole, ReadsClone}
use Rattle.fileset_shapes.specs.Found.{HasAllPages, HaveOwnTags, IsStored, SeesItem, file_at, shown_by}
use Rattle.fileset_shapes.specs.Shapes.{AreFilesAt, HasEntryAt, IsDomain}
use Rattle.fileset_shapes.specs.Sources.{AreAllOf}
use Rattle.fileset_shapes.specs.declared.found.FilesetSeen.{FilesetSeen}
use Rattle.fileset_shapes.specs.declared.found.TaggedFile.{TaggedFile}
use Rattle.fileset_shapes.specs.declared.fileset_sources.FilesetSource.TheVariants as source
use Rattle.fileset_shapes.proofs.OriginalFiles.{none_some}
use Rattle.fileset_shapes.proofs.ReadClones.{entry_tags}
use Rattle.fileset_shapes.proofs.TaggedFiles.{found_at}

no_bool : false ≡ true → ⊥
no_bool is = cc

-- ---- lists of files

-- where nothing is found under a tag, no file has it
none_under : (files : List TaggedFile) (tag : Tag) → file_at files tag ≡ None → (place : ℕ) (file : TaggedFile) → slice_get files place ≡ Some file → ¬ file.tag ≡ tag
none_under [] tag none place file there same = none_some file there
none_under (one ∷ more) tag none place file there same = by_place (none_under more tag) place there
  where
    by_test : (b : Bool) → cond b (Some one) (file_at more tag) ≡ None → (b ≡ true → ⊥) × (file_at more tag ≡ None)
    by_test true some = none_some one (sym some)
    by_test false none = (no_bool, none)

    tests : (same_tag one.tag tag ≡ true → ⊥) × (file_at more tag ≡ None)
    tests = by_test (same_tag one.tag tag) none

    by_place : (file_at more tag ≡ None → (place : ℕ) (file : TaggedFile) → slice_get more place ≡ Some file → ¬ file.tag ≡ tag) → (place : ℕ) → slice_get (one ∷ more) place ≡ Some file → ⊥
    by_place later zero there =
        let e = some_same one file there in
        tests.0 (subst (λ t. same_tag one.tag t ≡ true) (ap (λ (f : TaggedFile). f.tag) e ∙ same) (same_tag_itself one.tag))
    by_place later (suc place) there = later tests.1 place file there same

-- each file is found under its tag
found_own : (files : List TaggedFile) → HaveOwnTags files → (place : ℕ) (file : TaggedFile) → slice_get files place ≡ Some file → file_at files file.tag ≡ Some file
found_own files once place file there = by_found (file_at files file.tag) refl
  where
    by_found : (o : Option TaggedFile) → file_at files file.tag ≡ o → o ≡ Some file
    by_found None none = absurd (none_under files file.tag none place file there refl)
    by_found (Some other) found =
        let f = found_at files file.tag other found in
        let number = once f.place place other file f.there there f.tag_is in
        sym f.there ∙ ap (slice_get files) number ∙ there

-- ---- tables

all_at : (p : SlotItem → Bool) (items : List SlotItem) (place : ℕ) (item : SlotItem) → list_all p items ≡ true → slice_get items place ≡ Some item → p item ≡ true
all_at p [] place item all there = none_some item there
all_at p (one ∷ more) place item all there = by_test (p one) refl all place there (all_at p more)
  where
    by_test : (b : Bool) → p one ≡ b → (b && list_all p more) ≡ true → (place : ℕ) → slice_get (one ∷ more) place ≡ Some item
        → ((place : ℕ) (item : SlotItem) → list_all p more ≡ true → slice_get more place ≡ Some item → p item ≡ true) → p item ≡ true
    by_test true is all zero there later = ap p (sym (some_same one item there)) ∙ is
    by_test true is all (suc place) there later = later place item all there
    by_test false is all place there later = absurd (no_bool all)

-- a clone is one of an original
pub of_original : (table : Table) → IsTable table → (number of clone : ℕ) (entry : FilesetEntry) → slice_get table.slots number ≡ Some (slot.Clone of clone entry) → (item : SlotItem) → slice_get table.slots of ≡ Some item → is_original item ≡ true
of_original table good number of clone entry there item behind =
    subst (λ o. option_map_or is_original o false ≡ true) behind (all_at (leads_to_original table.slots) table.slots number (slot.Clone of clone entry) good.together.originals there)

-- ---- a domain

module _ (pages : Pages) (frame : Frame) (tables : DomainTables) (domain : IsDomain pages frame tables) where
  abbrev layout : Layout
  layout = domain.tables_are.layout

  no_fault : HasNoFault pages (frame_of layout)
  no_fault = subst (HasNoFault pages) (sym domain.tables_are.is) domain.no_fault

  small : (vol : ℕ) → IsMember layout.anchor vol → (member_of layout.anchor vol).pages ≤ 2 ^ 32
  small = subst (λ (f : Frame). (vol : ℕ) → IsMember f.anchor vol → (member_of f.anchor vol).pages ≤ 2 ^ 32) (sym domain.tables_are.is) domain.tables_are.small

  no_extent_fault : HasNoExtentFault pages (frame_of layout)
  no_extent_fault = none_of_extents pages (frame_of layout) no_fault

  pub whole : IsWhole pages layout
  whole = record { laid = domain.tables_are.laid; no_fault = no_fault; small = small; all = subst (HasAllPages pages) (sym domain.tables_are.is) domain.all }

  table : HasOne layout.anchor.table (λ home. IsSomeAnd (pages home) (λ page. IsTablePage page layout.table))
  table = one_of layout.anchor.table (λ home. IsSomeAnd (pages home) (λ page. IsTablePage page layout.table)) domain.tables_are.laid.table

  says : SaysTable pages frame layout.table
  says = subst (λ (f : Frame). SaysTable pages f layout.table) domain.tables_are.is (record { home = table.value; at = table.there; there = table.is })

  pub good : AreGood pages frame
  good = record {
    table = layout.table;
    says = says;
    version = subst (λ (f : Frame). f.anchor.version ≡ number_of f.version) domain.tables_are.is domain.tables_are.laid.version;
    no_fault = none_of_tables pages frame domain.no_fault;
  }

  slot_there : (number : ℕ) (item : SlotItem) → slice_get tables.filesets.slots number ≡ Some item → slice_get layout.table.slots number ≡ Some item
  slot_there number item there = subst (λ (t : Table). slice_get t.slots number ≡ Some item) (sym domain.tables_are.table) there

  module _ (number : ℕ) (entry : FilesetEntry) (has : HasEntryAt tables.filesets number entry) where
    has_tags : HasTags layout.table number entry.first_tag
    has_tags = record { item = has.item; there = slot_there number has.item has.there; has = entry_tags has.item entry has.is }

    pub tags_at : HasTagsAt pages frame entry.first_tag
    tags_at = record { table = layout.table; says = says; number = number; has = has_tags }

    pub may_have_files : (places : List TagPlace) → IsDirectoryAt pages entry.first_tag places → MayHaveFiles pages number places
    may_have_files places directory = record { layout = layout; laid = domain.tables_are.laid; no_fault = no_extent_fault; small = small; first = entry.first_tag; has = has_tags; directory = directory }

    pub in_slot : IsInSlot pages entry
    in_slot = record { layout = layout; laid = domain.tables_are.laid; no_fault = no_extent_fault.tables; number = number; item = has.item; there = slot_there number has.item has.there; is = has.is }

  -- the files by two readings of their tag directory
  pub files_by : (number : ℕ) (entry : FilesetEntry) (files : FilesetFiles) (again : List TagPlace) → files.files.fileset ≡ number → files.files.tags ≡ again
      → IsDirectoryAt pages entry.first_tag files.tags → IsDirectoryAt pages entry.first_tag again → HasFiles number files.tags pages → AreFilesAt pages number entry files
  files_by number entry files again is same directory directory_again has = record {
    number_is = is;
    by = record {
      are = record {
        same = same ∙ same_directory pages entry.first_tag again files.tags directory_again directory;
        has = subst (λ n. HasFiles n files.tags pages) (sym is) has;
      };
      directory = directory;
    };
  }

  -- ---- an original

  module _ (number : ℕ) (entry : FilesetEntry) (there : slice_get tables.filesets.slots number ≡ Some (slot.Original entry)) (files : FilesetFiles) (at : AreFilesAt pages number entry files) where
    pub originals : AreOriginals pages files
    originals = record { layout = layout; whole = whole; entry = entry; there = subst (λ n. slice_get layout.table.slots n ≡ Some (slot.Original entry)) (sym at.number_is) (slot_there number (slot.Original entry) there); by = at.by }

    module _ (found : FilesetSeen) (none : found.original ≡ None) (all : AreAllOf pages (source.Original files) found.files.items) (quotas : AreQuotas pages entry.quota found.quotas) where
      abbrev chains : Chains
      chains = at.by.are.has.0

      fs : AreFiles files.files.fileset files.tags pages chains
      fs = at.by.are.has.1

      abbrev original_shape : FilesetShape
      original_shape = record {
        original = None;
        files = λ tag. option_and_then seen_in (chains tag);
        shown = λ tag. option_map (shown_by pages) (file_at found.files.items tag);
        limits = limits_in entry found.quotas;
      }

      is_original_shape : IsOriginal pages number entry original_shape
      is_original_shape = record {
        none = refl;
        chains = chains;
        has = record { places = files.tags; directory = at.by.directory; files = subst (λ n. AreFiles n files.tags pages chains) at.number_is fs };
        files = λ tag. refl;
        shown = λ tag. ((all.each tag).reads chains fs).shown;
        limits = record { records = found.quotas; quotas = quotas; each = λ who. refl };
      }

      stored : (place : ℕ) (file : TaggedFile) → slice_get found.files.items place ≡ Some file → IsStored pages file
      stored place file here = by_found (file_at found.files.items file.tag) (found_own found.files.items all.once place file here) (all.each file.tag).is
        where
          by_found : (o : Option TaggedFile) → o ≡ Some file → IfSome o (IsFound pages file.tag) → IsStored pages file
          by_found None none is = none_some file none
          by_found (Some other) same is = subst (IsStored pages) (some_same other file same) is.stored

      pub sees_original : SeesItem pages tables.filesets number (slot.Original entry) (Some found)
      sees_original = record {
        shape = original_shape;
        is = is_original_shape;
        sees = record {
          original = none;
          once = all.once;
          small = all.small;
          files = λ tag. ((all.each tag).reads chains fs).seen;
          shown = λ tag. refl;
          stored = stored;
          limits = λ who. refl;
        };
      }

  -- ---- a clone

  module _ (number of clone : ℕ) (entry original : FilesetEntry) (there : slice_get tables.filesets.slots number ≡ Some (slot.Clone of clone entry)) (there_behind : slice_get tables.filesets.slots of ≡ Some (slot.Original original))
      (own behind : FilesetFiles) (at : AreFilesAt pages number entry own) (at_behind : AreFilesAt pages of original behind) where
    pub clones : AreClones pages own behind clone
    clones = record {
      layout = layout;
      whole = whole;
      entry = entry;
      original = original;
      there =
          subst (λ n. slice_get layout.table.slots own.files.fileset ≡ Some (slot.Clone n clone entry)) (sym at_behind.number_is)
          (subst (λ n. slice_get layout.table.slots n ≡ Some (slot.Clone of clone entry)) (sym at.number_is) (slot_there number (slot.Clone of clone entry) there));
      item = slot.Original original;
      there_behind = subst (λ n. slice_get layout.table.slots n ≡ Some (slot.Original original)) (sym at_behind.number_is) (slot_there of (slot.Original original) there_behind);
      original_is = refl;
      own_files = at.by;
      behind_files = at_behind.by;
    }

    module _ (found : FilesetSeen) (name : found.original ≡ Some original.name) (all : AreAllOf pages (source.Clone own behind clone) found.files.items) (quotas : AreQuotas pages entry.quota found.quotas) where
      abbrev own_chains : Chains
      own_chains = at.by.are.has.0

      own_fs : AreFiles own.files.fileset own.tags pages own_chains
      own_fs = at.by.are.has.1

      abbrev behind_chains : Chains
      behind_chains = at_behind.by.are.has.0

      behind_fs : AreFiles behind.files.fileset behind.tags pages behind_chains
      behind_fs = at_behind.by.are.has.1

      reads : (tag : Tag) → ReadsClone pages clone (own_chains tag) (behind_chains tag) (file_at found.files.items tag)
      reads tag = (all.each tag).reads own_chains behind_chains own_fs behind_fs

      abbrev clone_shape : FilesetShape
      clone_shape = record {
        original = Some original.name;
        files = λ tag. (reads tag).seen;
        shown = λ tag. option_map (shown_by pages) (file_at found.files.items tag);
        limits = limits_in entry found.quotas;
      }

      is_clone_shape : IsClone pages number of entry original clone clone_shape
      is_clone_shape = record {
        named = refl;
        chains = own_chains;
        has = record { places = own.tags; directory = at.by.directory; files = subst (λ n. AreFiles n own.tags pages own_chains) at.number_is own_fs };
        behind = behind_chains;
        has_behind = record { places = behind.tags; directory = at_behind.by.directory; files = subst (λ n. AreFiles n behind.tags pages behind_chains) at_behind.number_is behind_fs };
        files = λ tag. (reads tag).is;
        shown = λ tag. (reads tag).shown;
        limits = record { records = found.quotas; quotas = quotas; each = λ who. refl };
      }

      clone_stored : (place : ℕ) (file : TaggedFile) → slice_get found.files.items place ≡ Some file → IsStored pages file
      clone_stored place file here = by_found (file_at found.files.items file.tag) (found_own found.files.items all.once place file here) (all.each file.tag).is
        where
          by_found : (o : Option TaggedFile) → o ≡ Some file → IfSome o (IsFound pages file.tag) → IsStored pages file
          by_found None none is = none_some file none
          by_found (Some other) same is = subst (IsStored pages) (some_same other file same) is.stored

      pub sees_clone : SeesItem pages tables.filesets number (slot.Clone of clone entry) (Some found)
      sees_clone = record {
        shape = clone_shape;
        is = subst (λ o. IsSomeAnd (option_and_then entry_of o) (λ (e : FilesetEntry). IsClone pages number of entry e clone clone_shape)) (sym there_behind) is_clone_shape;
        sees = record {
          original = name;
          once = all.once;
          small = all.small;
          files = λ tag. (reads tag).sees;
          shown = λ tag. refl;
          stored = clone_stored;
          limits = λ who. refl;
        };
      }
