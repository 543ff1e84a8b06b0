-- The node of what a tag names, in the fileset for which memory stands.
use Rattle.std.proofs.Common.{◌≡◌, ◌∙◌, ℕ, Bool, true, false, cond, List, Option, Some, None, IsSomeAnd, refl, sym, ap, subst}
use Rattle.std.specs.FinMap as map
use Rattle.std.specs.Option.{option_and_then, option_map, option_map_or}
use Rattle.domain_memory.specs.domain_base.declared.place.Kind.TheVariants as kind
use Rattle.domain_memory.specs.domain_base.declared.place.Tag.{Tag}
use Rattle.domain_memory.specs.page_store.Bitfiles.{Bitfile}
use Rattle.domain_memory.specs.cell_records.declared.record.Record.{Record}
use Rattle.domain_memory.specs.cell_records.declared.record.Record.TheVariants as written
use Rattle.domain_memory.specs.metadata_cells.Chain.{PlacedCell}
use Rattle.domain_memory.specs.tag_dirs.declared.dir.TagPlace.{TagPlace}
use Rattle.domain_memory.proofs.OfTagDirs.Reading.{same_directory}
use Rattle.domain_memory.specs.extent_maps.Runs.{home_at}
use Rattle.domain_memory.specs.extent_records.Writing.{places_before}
use Rattle.domain_memory.specs.file_chains.Files.{places_of}
use Rattle.domain_memory.specs.fileset_files.declared.attributes.Attributes.{Attributes}
use Rattle.domain_memory.specs.fileset_files.Files.{AreFiles, Chains, attributes_in, attributes_of, first_record, is_removed, keep_in, keep_of, of_live}
use Rattle.domain_memory.proofs.OfFilesetFiles.Created.{one_chains}
use Rattle.domain_memory.proofs.OfStoredSet.Told.{kind_told, links_told}
use Rattle.domain_memory.specs.fileset_model.Filesets.{FilesetMap}
use Rattle.domain_memory.specs.fileset_values.Orders.{Path}
use Rattle.domain_memory.specs.fileset_model.Paths.{node_at, paths_to}
use Rattle.domain_memory.specs.fileset_model.declared.fileset.FilesetSlot.{FilesetSlot}
use Rattle.domain_memory.specs.fileset_model.declared.fileset.Role.TheVariants.{Original}
use Rattle.domain_memory.specs.fileset_model.declared.node.Node.{Node}
use Rattle.domain_memory.specs.fileset_model.declared.node.Node.TheVariants as node
use Rattle.domain_memory.specs.fileset_table.declared.slot.FilesetEntry.{FilesetEntry}
use Rattle.domain_memory.specs.fileset_table.declared.slot.SlotItem.TheVariants as slot
use Rattle.domain_memory.proofs.OfLegalHistories.ValidLemmas.{from_some_and}
use Rattle.domain_memory.specs.name_space.Names.{number_of}
use Rattle.domain_memory.proofs.OfNameSpace.Originals.{all_shown, is_in}
use Rattle.domain_memory.proofs.OfReleaseList.Spread.{none_not, some_same}
use Rattle.domain_memory.specs.domain_layout.Filled.{IsFilled, IsRole}
use Rattle.domain_memory.specs.domain_layout.Seen.{SeenFile, kept_by, seen_in}
use Rattle.domain_memory.specs.domain_standing.Domain.{DomainNow}
use Rattle.domain_memory.specs.Staged.{staged_in}
use Rattle.domain_memory.specs.declared.memory.DomainMemory.{DomainMemory}
use Rattle.file_changes.proofs.Changed.{IsShownAt, IsStood, is_stood, shown_kind}
use Rattle.file_changes.specs.Reading.{IsDescribed, IsWhatIs}
use Rattle.file_changes.specs.Stages.{AreFilesIn, HasFile}

-- ---- what is seen of a live file

pub record IsSeen (cells : List PlacedCell) (what : Attributes) : Type 0 where
  pub keep : ℕ
  pub kept : of_live keep_of cells ≡ Some keep
  pub seen : seen_in cells ≡ Some (record { is = what; homes = λ page. home_at (places_before keep (places_of cells) page) })

keep_too : (o : Option Record) (what : Attributes) → option_and_then attributes_in o ≡ Some what → (keep : ℕ) × (option_and_then keep_in o ≡ Some keep)
keep_too None what is = absurd (none_not what is)
keep_too (Some (written.Attributes k uid gid flags size keep links birth unsynced)) what is = (keep, refl)
keep_too (Some r) what is = absurd (none_not what is)

pub seen_said : (cells : List PlacedCell) (what : Attributes) → of_live attributes_of cells ≡ Some what → IsSeen cells what
seen_said cells what is = by_removed (is_removed cells) refl is
  where
    by_removed : (b : Bool) → is_removed cells ≡ b → cond b None (attributes_of cells) ≡ Some what → IsSeen cells what
    by_removed true gone said = absurd (none_not what said)
    by_removed false stays said =
        let k = keep_too (first_record 1 cells) what said in
        record {
          keep = k.0;
          kept = ap (λ b. cond b None (keep_of cells)) stays ∙ k.1;
          seen = ap (λ b. cond b None (option_and_then (kept_by cells) (attributes_of cells))) stays
              ∙ ap (option_and_then (kept_by cells)) said
              ∙ ap (option_map (λ (keep : ℕ). record { is = what; homes = λ page. home_at (places_before keep (places_of cells) page) })) k.1;
        }

module _ (old : DomainMemory) (number : ℕ) (tag : Tag) (path : Path) (all : FilesetMap) (entry : FilesetEntry) (fileset : FilesetSlot) (has : HasFile old number tag path all entry fileset)
    (chains : Chains) (are : AreFilesIn old number chains) (what : Attributes) (said : option_and_then (of_live attributes_of) (chains tag) ≡ Some what)
  where
    abbrev d : DomainNow
    d = staged_in old

    its : IsStood old number tag path all entry fileset has
    its = is_stood old number tag path all entry fileset has

    of_shape : its.stood.is.chains tag ≡ chains tag
    of_shape =
        let h = its.stood.is.has in
        one_chains d.pages number (d.tags number) its.stood.is.chains chains
        (subst (λ (places : List TagPlace). AreFiles number places d.pages its.stood.is.chains)
        (same_directory d.pages entry.first_tag h.places (d.tags number) h.directory (has.staged.stands.tables.laid.tags number (slot.Original entry) has.original)) h.files)
        are tag

    of_set : its.stood.set.chains tag ≡ chains tag
    of_set = one_chains d.pages number (d.tags number) its.stood.set.chains chains its.stood.set.stands.together.files are tag

    role : fileset.role ≡ Original
    role = subst (λ o. IsRole o fileset.role) its.stood.is.none its.stood.filled.role

    said_there : option_and_then (of_live attributes_of) (its.stood.set.chains tag) ≡ Some what
    said_there = ap (option_and_then (of_live attributes_of)) of_set ∙ said

    shown : IsShownAt (its.shape.shown tag)
    shown = shown_kind what.kind (its.shape.shown tag) (option_and_then (of_live attributes_of) (its.stood.set.chains tag)) (kind_told number (d.tags number) d.space d.cells d.pages its.stood.set.chains its.stood.set.indexes its.shape.shown its.stood.set.stands tag)
        (subst (λ o. IsSomeAnd o (λ (is : Attributes). is.kind ≡ what.kind)) (sym said_there) refl)

    links_are : shown.file.links ≡ what.links
    links_are =
        ap (λ (o : Option Bitfile). option_map_or (λ (f : Bitfile). f.links) o 0) (sym shown.there) ∙ links_told number (d.tags number) d.space d.cells d.pages its.stood.set.chains its.stood.set.indexes its.shape.shown its.stood.set.stands tag
        ∙ ap (λ (o : Option Attributes). option_map_or (λ (a : Attributes). a.links) o 0) said_there

    node_is : node_at fileset.tree path ≡ map.get fileset.tree.nodes (number_of tag)
    node_is = ap (option_and_then (map.get fileset.tree.nodes)) has.at

    -- its node is filled with its pages
    pub record IsNodeOf : Type 0 where
      pub cells : List PlacedCell
      pub chain : chains tag ≡ Some cells
      pub seen : IsSeen cells what
      pub node : Node
      pub there : node_at fileset.tree path ≡ Some node
      pub filled : IsFilled d.contents (record { is = what; homes = λ page. home_at (places_before seen.keep (places_of cells) page) }) node
      pub links : what.links ≡ paths_to fileset.tree (number_of tag)

    by_chain : (o : Option (List PlacedCell)) → chains tag ≡ o → option_and_then (of_live attributes_of) o ≡ Some what → IsNodeOf
    by_chain None none is = absurd (none_not what is)
    by_chain (Some cells) some is =
        let seen = seen_said cells what is in
        let seen_there : its.shape.files tag ≡ Some (record { is = what; homes = λ page. home_at (places_before seen.keep (places_of cells) page) }) = its.stood.is.files tag ∙ ap (option_and_then seen_in) (of_shape ∙ some) ∙ seen.seen in
        let led = its.stood.filled.names.live role tag shown.file shown.there in
        let every = all_shown its.shape.shown fileset its.stood.filled.names role led.0 in
        let found = from_some_and (IsFilled d.contents (record { is = what; homes = λ page. home_at (places_before seen.keep (places_of cells) page) })) (map.get fileset.tree.nodes (number_of tag)) (its.stood.filled.files led.0 tag shown.file.kind _ every led.1 seen_there) in
        let it = is_in its.shape.shown fileset its.stood.filled.names role led.0 tag shown.file.kind led.1 in
        record {
          cells = cells;
          chain = some;
          seen = seen;
          node = found.0;
          there = node_is ∙ found.1;
          filled = found.2;
          links = sym links_are ∙ ap (λ (f : Bitfile). f.links) (some_same shown.file it.file (sym shown.there ∙ it.there)) ∙ it.links;
        }

    pub node_of : IsNodeOf
    node_of = by_chain (chains tag) refl said

    described : (n : Node) (seen : SeenFile) → seen.is ≡ what → IsFilled d.contents seen n → IsDescribed what n
    described (node.File uid gid size logged pages) seen is filled =
        subst (λ (w : Attributes). IsDescribed w (node.File uid gid size logged pages)) is (filled.0, filled.1, filled.2, filled.3, filled.4)
    described (node.Directory uid gid) seen is filled = subst (λ (w : Attributes). IsDescribed w (node.Directory uid gid)) is filled

    pub what_is : IsWhatIs path tag fileset.tree what
    what_is = record {
      node = subst (λ o. IsSomeAnd o (IsDescribed what)) (sym node_of.there) (described node_of.node _ refl node_of.filled);
      links = node_of.links;
    }
