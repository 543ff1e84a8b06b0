-- The fileset of a shape, with its limits.
use Rattle.std.proofs.Common.{◌≡◌, ◌∙◌, false, List, [], Option, Some, None, IsSomeAnd, refl, sym, ap, subst}
use Rattle.std.specs.FinMap.{get}
use Rattle.std.specs.Option.{option_map, option_map_or}
use Rattle.fileset_shapes.specs.domain_base.declared.place.Kind.{Kind}
use Rattle.fileset_shapes.specs.domain_base.declared.place.Kind.TheVariants.{Directory, File}
use Rattle.fileset_shapes.specs.domain_base.declared.place.Tag.{Tag}
use Rattle.fileset_shapes.specs.page_store.Bitfiles.{Bitfile, Bitfiles}
use Rattle.fileset_shapes.specs.page_store.Pages.{AreWhole, Pages}
use Rattle.fileset_shapes.specs.directory_rows.Directory.{NamesOnce, rows_in}
use Rattle.fileset_shapes.specs.domain_layout.Filled.{Fills, IsFilled, IsRole}
use Rattle.fileset_shapes.specs.domain_layout.Read.{contents_of}
use Rattle.fileset_shapes.specs.domain_layout.Seen.{SeenFile}
use Rattle.fileset_shapes.specs.domain_layout.Shape.{FilesetShape}
use Rattle.fileset_shapes.specs.filesets_reading.Seen.{IsSeenThere}
use Rattle.fileset_shapes.proofs.OfLegalHistories.ValidLemmas.{from_some_and, to_some_and}
use Rattle.fileset_shapes.specs.legal_histories.Valid.{IsValidFileset}
use Rattle.fileset_shapes.specs.fileset_model.Fileset.{Fileset}
use Rattle.fileset_shapes.specs.fileset_values.Orders.{Name}
use Rattle.fileset_shapes.specs.fileset_model.Usage.{is_unlimited}
use Rattle.fileset_shapes.specs.fileset_values.declared.command.Owner.{Owner}
use Rattle.fileset_shapes.specs.fileset_model.declared.fileset.FilesetSlot.{FilesetSlot}
use Rattle.fileset_shapes.specs.fileset_model.declared.fileset.Limits.{Limits}
use Rattle.fileset_shapes.specs.fileset_model.declared.fileset.Role.{Role}
use Rattle.fileset_shapes.specs.fileset_model.declared.fileset.Role.TheVariants.{CloneOf, Original}
use Rattle.fileset_shapes.specs.fileset_table.declared.slot.FilesetEntry.{FilesetEntry}
use Rattle.fileset_shapes.specs.name_space.Names.{Names, number_of}
use Rattle.fileset_shapes.specs.name_space.Changes.{new_node}
use Rattle.fileset_shapes.proofs.OfDirectoryRows.AllLed.{at_contains}
use Rattle.fileset_shapes.specs.directory_rows.Ways.{HaveNamesOnce, rows_by}
use Rattle.fileset_shapes.specs.name_space.Parts.{ArePartsOf, node_in}
use Rattle.fileset_shapes.specs.name_space.Trees.{HasRoleOf, IsReached, MakesFileset}
use Rattle.fileset_shapes.specs.name_space.declared.parts.FilesetParts.{FilesetParts}
use Rattle.fileset_shapes.specs.name_space.declared.parts.TaggedNode.{TaggedNode}
use Rattle.fileset_shapes.proofs.OfNameSpace.Made.{valid_as}
use Rattle.fileset_shapes.specs.Limits.{HasLimitsOf, KeepsFiles}
use Rattle.fileset_shapes.specs.Found.{file_at, shown_by}
use Rattle.fileset_shapes.specs.declared.found.FilesetSeen.{FilesetSeen}
use Rattle.fileset_shapes.specs.declared.found.TaggedFile.{TaggedFile}
use Rattle.filesets_filled.specs.Filling.{SaysFileset}
use Rattle.filesets_filled.specs.Parts.{ArePartsSeen, IsNodeSeen, MayBeRead, rows_if, rows_seen}
use Rattle.filesets_filled.proofs.PartsRead.{IsNodeAt, are_nodes, file_once, node_of_file, row_pages_good, rows_by_file, rows_shown}

-- ---- limits

-- other limits leave the names
names_with : (files : Bitfiles) (slot : FilesetSlot) (tree : Fileset) → tree.paths ≡ slot.tree.paths → tree.nodes ≡ slot.tree.nodes → Names files slot → Names files (record { tree = tree; role = slot.role })
names_with files slot tree paths nodes names = subst (λ (t : Fileset). Names files (record { tree = t; role = slot.role })) same with_limits
  where
    same : record slot.tree { limits = tree.limits } ≡ tree
    same i = record { paths = sym paths i; nodes = sym nodes i; limits = tree.limits }

    with_limits : Names files (record { tree = record slot.tree { limits = tree.limits }; role = slot.role })
    with_limits = record {
      paths = names.paths;
      shown = λ path tag of shown led. let is = names.shown path tag of shown led in record { kind = is.kind; out = is.out; node = is.node };
      directories = names.directories;
      live = names.live;
      seq = names.seq;
    }

-- limits that bind something leave a fileset valid
valid_with : (old tree : Fileset) → tree.paths ≡ old.paths → tree.nodes ≡ old.nodes → ((who : Owner) (limits : Limits) → get tree.limits who ≡ Some limits → is_unlimited limits ≡ false) → IsValidFileset old → IsValidFileset tree
valid_with old tree paths nodes binding valid = subst IsValidFileset same (record {
  root = valid.root;
  parents = valid.parents;
  one_path = valid.one_path;
  few_paths = valid.few_paths;
  led_to = valid.led_to;
  named = valid.named;
  whole = valid.whole;
  limited = binding;
})
  where
    same : record old { limits = tree.limits } ≡ tree
    same i = record { paths = sym paths i; nodes = sym nodes i; limits = tree.limits }

-- ---- the role

role_is : (files : Bitfiles) (original : Option Name) (role : Role) → HasRoleOf files original role → IsRole original role
role_is files None role is = is
role_is files (Some name) Original is = is
role_is files (Some name) (CloneOf original out) is = is.0

-- ---- the parts

module _ (pages : Pages) (whole : AreWhole pages) (entry : FilesetEntry) (found : FilesetSeen) (shape : FilesetShape) (says : SaysFileset pages entry found shape) where
  abbrev files : List TaggedFile
  files = found.files.items

  pub may_read : MayBeRead pages files
  may_read = record {
    rows = λ file among.
        let k = at_contains files file among in
        row_pages_good pages whole files shape.shown says.sees.shown file (file_once files says.sees.once k.0 file k.1) (λ dir is. (says.rows.directories dir is).pages);
    stored = λ file among. let k = at_contains files file among in says.sees.stored k.0 file k.1;
  }

  module _ (parts : FilesetParts) (are : ArePartsSeen pages files parts) where
    rows_are : (dir : Tag) → rows_by parts.directories.items dir ≡ rows_in shape.shown dir
    rows_are dir = ap (λ ds. rows_by ds dir) are.rows ∙ rows_by_file pages files dir ∙ rows_shown pages whole files shape.shown says.sees.shown dir

    pub parts_of : ArePartsOf shape.shown parts
    parts_of = record {
      good = says.rows;
      rows = rows_are;
      nodes = are_nodes pages whole files shape.shown says.sees.shown says.sees.stored says.sees.once parts.nodes.items are.count are.nodes;
    }

    names_at : (tag : Tag) → NamesOnce (rows_in shape.shown tag)
    names_at tag = by_seen (file_at files tag) refl
      where
        by_kind : (file : TaggedFile) → file_at files tag ≡ Some file → (k : Kind) → file.seen.is.kind ≡ k → NamesOnce (rows_in shape.shown tag)
        by_kind file at Directory kind =
            (says.rows.directories tag (to_some_and (λ (f : Bitfile). f.kind ≡ Directory) (shape.shown tag) (shown_by pages file) (says.sees.shown tag ∙ ap (option_map (shown_by pages)) at) kind)).names
        by_kind file at File kind =
            let e : [] ≡ rows_in shape.shown tag =
            sym (ap (rows_if pages file.seen.homes.items) kind) ∙ sym (ap (λ (o : Option TaggedFile). option_map_or (rows_seen pages) o []) at) ∙ rows_shown pages whole files shape.shown says.sees.shown tag in
            subst NamesOnce e tt

        by_seen : (o : Option TaggedFile) → file_at files tag ≡ o → NamesOnce (rows_in shape.shown tag)
        by_seen None none =
            let e : [] ≡ rows_in shape.shown tag = sym (ap (λ (o : Option TaggedFile). option_map_or (rows_seen pages) o []) none) ∙ rows_shown pages whole files shape.shown says.sees.shown tag in
            subst NamesOnce e tt
        by_seen (Some file) at = by_kind file at file.seen.is.kind refl

    pub names_once : HaveNamesOnce (rows_by parts.directories.items)
    names_once tag = subst NamesOnce (sym (rows_are tag)) (names_at tag)

    -- ---- the fileset

    module _ (slot : FilesetSlot) (makes : MakesFileset shape.shown parts found.original slot) (tree : Fileset) (kept : KeepsFiles slot.tree tree) (limits : HasLimitsOf entry found.quotas tree) where
      filled_file : (tag : Tag) (of : Kind) → IsReached shape.shown tag of → (seen : SeenFile) → shape.files tag ≡ Some seen → IsSomeAnd (get tree.nodes (number_of tag)) (IsFilled (contents_of pages) seen)
      filled_file tag of reached seen there =
          let sees : IsSeenThere (Some seen) (option_map (λ (f : TaggedFile). f.seen) (file_at files tag)) = subst (λ o. IsSeenThere o (option_map (λ (f : TaggedFile). f.seen) (file_at files tag))) there (says.sees.files tag) in
          by_file (file_at files tag) refl sees (node_of_file pages files parts.nodes.items are.count are.nodes tag)
        where
          by_file : (o : Option TaggedFile) → file_at files tag ≡ o → IsSeenThere (Some seen) (option_map (λ (f : TaggedFile). f.seen) o) → IsNodeAt pages o (node_in parts.nodes.items tag)
              → IsSomeAnd (get tree.nodes (number_of tag)) (IsFilled (contents_of pages) seen)
          by_file None none sees is = absurd sees
          by_file (Some file) at sees is =
              let one = from_some_and (IsNodeSeen pages file) (node_in parts.nodes.items tag) is in
              let held : get tree.nodes (number_of tag) ≡ Some one.0.node =
              ap (λ m. get m (number_of tag)) kept.nodes ∙ makes.nodes tag of reached ∙ ap (λ (o : Option TaggedNode). Some (option_map_or (λ (n : TaggedNode). n.node) o (new_node of 0 0))) one.1 in
              to_some_and (IsFilled (contents_of pages) seen) (get tree.nodes (number_of tag)) one.0.node held (one.2.filled seen sees)

      pub fills : Fills (contents_of pages) shape (record { tree = tree; role = slot.role })
      fills = record {
        role = subst (λ o. IsRole o slot.role) says.sees.original (role_is shape.shown found.original slot.role makes.role);
        valid = valid_as tree slot.role (valid_with slot.tree tree kept.paths kept.nodes limits.binding makes.valid);
        names = names_with shape.shown slot tree kept.paths kept.nodes makes.names;
        files = λ path tag of seen shown led there. filled_file tag of (path, led) seen there;
        limits = λ who. limits.limits who ∙ sym (says.sees.limits who);
      }
