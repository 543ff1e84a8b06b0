-- A page that a file has stands in memory.
use Rattle.std.proofs.Common.{◌≡◌, ◌∙◌, ℕ, true, List, [], Option, Some, None, IsSome, length, slice_get, refl, sym, ap, subst, arith}
use Rattle.std.proofs.Math.Logic.{∥∥₁_map}
use Rattle.std.specs.FinMap as map
use Rattle.std.specs.Option.{option_and_then, option_map, unwrap_or}
use Rattle.domain_memory.specs.domain_base.Limits.{page_bytes}
use Rattle.domain_memory.specs.domain_base.declared.place.Home.{Home}
use Rattle.domain_memory.specs.domain_base.declared.place.Kind.TheVariants as kind
use Rattle.domain_memory.specs.domain_base.declared.place.Tag.{Tag}
use Rattle.domain_memory.specs.tag_dirs.declared.dir.TagPlace.{TagPlace}
use Rattle.domain_memory.proofs.OfTagDirs.Reading.{same_directory}
use Rattle.domain_memory.specs.extent_maps.declared.run.PagePlace.TheVariants.{At}
use Rattle.domain_memory.specs.fileset_files.Files.{AreFiles, Chains, attributes_of, of_live, place_at}
use Rattle.domain_memory.proofs.OfFilesetFiles.Created.{one_chains}
use Rattle.domain_memory.proofs.OfStoredSet.Stable.{is_there}
use Rattle.domain_memory.proofs.OfStoredSet.Told.{kind_told}
use Rattle.domain_memory.specs.fileset_model.declared.fileset.FilesetSlot.{FilesetSlot}
use Rattle.domain_memory.specs.fileset_model.declared.fileset.Role.{Role}
use Rattle.domain_memory.specs.fileset_model.declared.fileset.Role.TheVariants.{Original}
use Rattle.domain_memory.specs.fileset_model.declared.node.Node.{Node}
use Rattle.domain_memory.specs.fileset_model.declared.node.Node.TheVariants.{Directory, File}
use Rattle.domain_memory.specs.legal_histories.Valid.{IsValidAs, IsValidFileset}
use Rattle.domain_memory.proofs.OfLegalHistories.ValidLemmas.{from_some_and}
use Rattle.domain_memory.specs.fileset_table.declared.slot.SlotItem.TheVariants as slot
use Rattle.domain_memory.specs.name_space.Names.{number_of}
use Rattle.domain_memory.proofs.OfNameSpace.Originals.{all_shown}
use Rattle.domain_memory.specs.staged_pages.Store.{pages_of}
use Rattle.domain_memory.specs.domain_layout.CellRules.{of_original}
use Rattle.domain_memory.specs.domain_layout.Filled.{IsFilled, IsRole}
use Rattle.domain_memory.specs.domain_layout.Seen.{SeenFile, seen_in}
use Rattle.domain_memory.specs.domain_layout.Shape.{FilesetShape}
use Rattle.set_standing.specs.Nodes.{seen_of}
use Rattle.domain_memory.specs.domain_standing.Domain.{DomainNow, item_in}
use Rattle.domain_memory.specs.domain_standing.Tables.{StandTables}
use Rattle.domain_memory.specs.standing_laws.Leads.{IsLiveOf}
use Rattle.domain_memory.specs.standing_laws.Slots.{StandsSlot}
use Rattle.domain_memory.proofs.OfStandingLaws.FilesetPut.{stood_in}
use Rattle.domain_memory.specs.Staged.{IsStagedForSome, staged_in}
use Rattle.domain_memory.specs.declared.memory.DomainMemory.{DomainMemory}
use Rattle.file_changes.proofs.Asks.{HasEntry, has_entry}
use Rattle.file_changes.proofs.Changed.{IsShownAt, shown_kind}
use Rattle.file_changes.proofs.Seen.{is_file, kept_live, place_live, seen_live, state_of_live}
use Rattle.file_changes.proofs.Turns.{kept_home}
use Rattle.file_changes.specs.Stages.{AreFilesIn, IsFileIn, IsPageOf}

-- a page that is not there has no byte
some_page : (o : Option (List ℕ)) → length (unwrap_or o []) ≡ page_bytes → IsSome o
some_page None none = absurd (omega (arith, none))
some_page (Some page) whole = refl

module _ (memory : DomainMemory) (number : ℕ) (original : of_original (slice_get memory.table.slots number) ≡ true) (tag : Tag) (file : IsFileIn memory number tag) where
  abbrev d : DomainNow
  d = staged_in memory

  its : HasEntry (item_in d number)
  its = has_entry (slice_get memory.table.slots number) original

  module _ (shape : FilesetShape) (fileset : FilesetSlot) (stood : StandsSlot d number its.entry shape fileset) (seen : SeenFile) (seen_there : shape.files tag ≡ Some seen) (page : ℕ) (home : Home) (there : seen.homes page ≡ Some home) where
    abbrev chains : Chains
    chains = stood.set.chains

    live : IsLiveOf kind.File (chains tag)
    live = file chains stood.set.stands.together.files

    shown : IsShownAt (shape.shown tag)
    shown = shown_kind kind.File (shape.shown tag) (option_and_then (of_live attributes_of) (chains tag)) (kind_told number (d.tags number) d.space d.cells d.pages chains stood.set.indexes shape.shown stood.set.stands tag) live

    role_was : fileset.role ≡ Original
    role_was = subst (λ o. IsRole o fileset.role) stood.is.none stood.filled.role

    valid : IsValidFileset fileset.tree
    valid = subst (λ (r : Role). IsValidAs r fileset) role_was stood.filled.valid

    by_node : (file_kind : seen.is.kind ≡ kind.File) (node : Node) → map.get fileset.tree.nodes (number_of tag) ≡ Some node → IsFilled d.contents seen node → IsSome (d.pages home)
    by_node file_kind (Directory uid gid) at filled = let e : kind.File ≡ kind.Directory = sym file_kind ∙ filled.0 in absurd (cc)
    by_node file_kind (File uid gid size logged pages) at filled =
        some_page (d.pages home) (valid.whole (number_of tag) (File uid gid size logged pages) at page (d.contents home) (filled.5 page ∙ ap (option_map d.contents) there)).1

    page_there : seen.is.kind ≡ kind.File → IsSome (d.pages home)
    page_there file_kind =
        let led = stood.filled.names.live role_was tag shown.file shown.there in
        let found = from_some_and (IsFilled d.contents seen) (map.get fileset.tree.nodes (number_of tag)) (stood.filled.files led.0 tag shown.file.kind seen (all_shown shape.shown fileset stood.filled.names role_was led.0) led.1 seen_there) in
        by_node file_kind found.0 found.1 found.2

  pub stands_there : ∥ IsStagedForSome memory ∥₁ → (chains : Chains) → AreFilesIn memory number chains → (seen : SeenFile) → option_and_then seen_in (chains tag) ≡ Some seen → seen.is.kind ≡ kind.File → (page : ℕ) (home : Home) → seen.homes page ≡ Some home → IsSome (pages_of memory.pages home)
  stands_there staged chains are seen is file_kind page home there = is_there (pages_of memory.pages home) (∥∥₁_map staged (λ s.
      let it = stood_in d s.0 s.1.stands.slots number its.entry its.there in
      let files_are : it.shape_was.files tag ≡ Some seen = it.stood.is.files tag ∙ ap (option_and_then seen_in) (of_shape s.1.stands.tables it.shape_was it.fileset_was it.stood) ∙ is in
      page_there it.shape_was it.fileset_was it.stood seen files_are page home there file_kind))
    where
      -- the chains of its shape are these
      of_shape : StandTables d → (shape : FilesetShape) (fileset : FilesetSlot) (stood : StandsSlot d number its.entry shape fileset) → stood.is.chains tag ≡ chains tag
      of_shape tables shape fileset stood =
          let h = stood.is.has in
          one_chains d.pages number (d.tags number) stood.is.chains chains
          (subst (λ (places : List TagPlace). AreFiles number places d.pages stood.is.chains)
          (same_directory d.pages its.entry.first_tag h.places (d.tags number) h.directory (tables.laid.tags number (slot.Original its.entry) its.there)) h.files)
          are tag

  -- so does a page that it keeps and has
  pub stands_at : ∥ IsStagedForSome memory ∥₁ → (chains : Chains) → AreFilesIn memory number chains → (page : ℕ) → IsPageOf tag page chains → (home : Home) → place_at chains tag page ≡ At home → IsSome (pages_of memory.pages home)
  stands_at staged chains are page has home at =
      let live = file chains are in
      let s = state_of_live chains tag live in
      stands_there staged chains are (seen_of s.state) (seen_live chains tag live s.state s.is) (is_file chains tag live s.state s.is) page home
      (kept_home s.state page home (kept_live chains tag live s.state s.is page has.kept) (place_live chains tag live s.state s.is page ∙ at))
