-- The fileset of a slot in which one file changes, and no name.
use Rattle.std.proofs.Common.{◌≡◌, ◌∙◌, ℕ, Bool, true, false, List, Option, Some, None, IsSomeAnd, refl, sym, ap, subst, true≢false}
use Rattle.std.specs.FinMap as map
use Rattle.std.specs.Cmp.{nat_cmp_total}
use Rattle.std.specs.Option.{option_and_then, option_map_or}
use Rattle.std.specs.Prelude.{unwrap_or}
use Rattle.standing_laws.specs.domain_base.declared.place.Kind.{Kind}
use Rattle.standing_laws.specs.domain_base.declared.place.Tag.{Tag}
use Rattle.standing_laws.specs.page_store.Bitfiles.{Bitfile, same_tag}
use Rattle.standing_laws.specs.tag_dirs.declared.dir.TagPlace.{TagPlace}
use Rattle.standing_laws.proofs.OfTagDirs.Reading.{same_directory}
use Rattle.standing_laws.specs.fileset_files.Files.{AreFiles, Chains}
use Rattle.standing_laws.proofs.OfFilesetFiles.Created.{one_chains}
use Rattle.standing_laws.proofs.OfFilesetFiles.OneChain.{same_tag_itself}
use Rattle.standing_laws.proofs.OfFilesetFiles.OneFile.{tags_same}
use Rattle.standing_laws.specs.fileset_model.Apply.{with_change}
use Rattle.standing_laws.specs.fileset_model.Fileset.{Fileset}
use Rattle.standing_laws.specs.fileset_model.LooksLike.{IsShown}
use Rattle.standing_laws.specs.fileset_values.Orders.{Path, owner_cmp}
use Rattle.standing_laws.specs.fileset_model.Paths.{is_directory}
use Rattle.standing_laws.specs.fileset_model.declared.fileset.FilesetSlot.{FilesetSlot}
use Rattle.standing_laws.specs.fileset_model.declared.fileset.Limits.{Limits}
use Rattle.standing_laws.specs.fileset_model.declared.fileset.Role.{Role}
use Rattle.standing_laws.specs.fileset_model.declared.fileset.Role.TheVariants.{Original}
use Rattle.standing_laws.specs.fileset_model.declared.node.Node.{Node}
use Rattle.standing_laws.specs.fileset_model.declared.node.Node.TheVariants.{Directory, File}
use Rattle.standing_laws.proofs.OfFilesetValues.MapLemmas.{get-insert_other, get-insert_same}
use Rattle.standing_laws.specs.legal_histories.Valid.{IsValidAs, IsValidFileset}
use Rattle.standing_laws.proofs.OfLegalHistories.ValidLemmas.{from_some_and, to_some_and}
use Rattle.standing_laws.proofs.OfLegalHistories.ValidTreeLemmas.{with_change-valid}
use Rattle.standing_laws.specs.fileset_table.declared.slot.FilesetEntry.{FilesetEntry}
use Rattle.standing_laws.specs.fileset_table.declared.slot.SlotItem.TheVariants as slot
use Rattle.standing_laws.specs.name_space.Changes.{IsOriginal as MakesOriginal}
use Rattle.standing_laws.specs.name_space.Laws.{IsLike}
use Rattle.standing_laws.specs.name_space.Names.{led_to, number_of}
use Rattle.standing_laws.proofs.OfNameSpace.Likeness.{bytes_free_lem, changes_like_lem}
use Rattle.standing_laws.proofs.OfNameSpace.Originals.{all_shown, is_in, one_tag}
use Rattle.standing_laws.specs.stored_set.Sets.{StandsAsSet}
use Rattle.standing_laws.specs.domain_layout.Filled.{IsFilled, IsRole}
use Rattle.standing_laws.specs.domain_layout.Seen.{SeenFile, seen_in}
use Rattle.standing_laws.specs.domain_layout.Shape.{AreLimits, FilesetShape, IsOriginal}
use Rattle.set_standing.proofs.Changed.{agree_on}
use Rattle.standing_laws.specs.domain_standing.Domain.{DomainNow, item_in}
use Rattle.standing_laws.specs.domain_standing.Tables.{StandTables}
use Rattle.standing_laws.specs.Slots.{StandsSlot}
use Rattle.set_standing.specs.NamesNodes.{named_shape}
use Rattle.set_standing.specs.OneFile.{FileFollows, KeepsKind}

like_kind : (node was : Node) → IsLike node was → is_directory node ≡ is_directory was
like_kind (File uid gid size logged pages) (File uid' gid' size' logged' pages') like = refl
like_kind (Directory uid gid) (Directory uid' gid') like = refl
like_kind (File uid gid size logged pages) (Directory uid' gid') like = absurd like
like_kind (Directory uid gid) (File uid' gid' size' logged' pages') like = absurd like

module _ (number : ℕ) (entry : FilesetEntry) (tag : Tag) (path : Path) (change : Node → Node) (d now : DomainNow) (shape : FilesetShape) (fileset : FilesetSlot) (file : Bitfile) (chains : Chains) (tables : StandTables d) (tables_now : StandTables now)
    (there : item_in d number ≡ Some (slot.Original entry)) (there_now : item_in now number ≡ Some (slot.Original entry)) (stood : StandsSlot d number entry shape fileset) (limits : AreLimits d.pages entry shape.limits → AreLimits now.pages entry shape.limits)
    (set : StandsAsSet number (now.tags number) now.space now.cells now.pages shape.shown) (files : AreFiles number (d.tags number) d.pages chains) (follow : FileFollows tag change d.contents now.contents chains set.chains) (keeps : KeepsKind change)
    (at : map.get fileset.tree.paths path ≡ Some (number_of tag)) (shown : shape.shown tag ≡ Some file)
  where
    abbrev new_shape : FilesetShape
    new_shape = named_shape set.chains shape.shown shape.limits

    abbrev tree_now : Fileset
    tree_now = with_change path change fileset.tree

    abbrev fileset_now : FilesetSlot
    fileset_now = record fileset { tree = tree_now }

    original : IsOriginal now.pages number entry new_shape
    original = record {
      none = refl;
      chains = set.chains;
      has = record { places = now.tags number; directory = tables_now.laid.tags number (slot.Original entry) there_now; files = set.stands.together.files };
      files = λ t. refl;
      shown = set.stands.shows;
      limits = limits stood.is.limits;
    }

    -- ---- the fileset before

    role_was : fileset.role ≡ Original
    role_was = subst (λ o. IsRole o fileset.role) stood.is.none stood.filled.role

    valid_was : IsValidFileset fileset.tree
    valid_was = subst (λ (r : Role). IsValidAs r fileset) role_was stood.filled.valid

    makes : MakesOriginal shape.shown fileset
    makes = record { names = stood.filled.names; role = role_was; valid = valid_was }

    files_were : AreFiles number (d.tags number) d.pages stood.is.chains
    files_were =
        let h = stood.is.has in
        subst (λ (places : List TagPlace). AreFiles number places d.pages stood.is.chains)
        (same_directory d.pages entry.first_tag h.places (d.tags number) h.directory (tables.laid.tags number (slot.Original entry) there)) h.files

    files_at : (t : Tag) → shape.files t ≡ option_and_then seen_in (chains t)
    files_at t = stood.is.files t ∙ ap (option_and_then seen_in) (one_chains d.pages number (d.tags number) stood.is.chains chains files_were files t)

    -- ---- the fileset that the rows make then

    valid_now : IsValidFileset tree_now
    valid_now = with_change-valid fileset.tree path change valid_was (λ node. like_kind (change node) node (keeps.like node)) keeps.whole

    makes_now : MakesOriginal shape.shown fileset_now
    makes_now = bytes_free_lem shape.shown fileset tree_now makes (changes_like_lem fileset.tree path change keeps.like) valid_now

    -- ---- its nodes

    tree_is : (node : Node) → map.get fileset.tree.nodes (number_of tag) ≡ Some node → tree_now ≡ record fileset.tree { nodes = map.insert fileset.tree.nodes (number_of tag) (change node) }
    tree_is node is =
        ap (λ o. option_map_or (λ n. option_map_or (λ node. record fileset.tree { nodes = map.insert fileset.tree.nodes n (change node) }) (map.get fileset.tree.nodes n) fileset.tree) o fileset.tree) at
        ∙ ap (λ o. option_map_or (λ node. record fileset.tree { nodes = map.insert fileset.tree.nodes (number_of tag) (change node) }) o fileset.tree) is

    node_here : (node : Node) → map.get fileset.tree.nodes (number_of tag) ≡ Some node → map.get tree_now.nodes (number_of tag) ≡ Some (change node)
    node_here node is =
        ap (λ (t : Fileset). map.get t.nodes (number_of tag)) (tree_is node is)
        ∙ get-insert_same nat_cmp_total map.nat_cmp-IsAntisymmetric fileset.tree.nodes (number_of tag) (change node)

    node_else : (o : Option Node) → map.get fileset.tree.nodes (number_of tag) ≡ o → (n : ℕ) → ¬ n ≡ number_of tag → map.get tree_now.nodes n ≡ map.get fileset.tree.nodes n
    node_else None is n other =
        ap (λ o. map.get (option_map_or (λ n. option_map_or (λ node. record fileset.tree { nodes = map.insert fileset.tree.nodes n (change node) }) (map.get fileset.tree.nodes n) fileset.tree) o fileset.tree).nodes n) at
        ∙ ap (λ o. map.get (option_map_or (λ node. record fileset.tree { nodes = map.insert fileset.tree.nodes (number_of tag) (change node) }) o fileset.tree).nodes n) is
    node_else (Some node) is n other =
        ap (λ (t : Fileset). map.get t.nodes n) (tree_is node is)
        ∙ get-insert_other nat_cmp_total map.nat_cmp-IsAntisymmetric fileset.tree.nodes (number_of tag) (change node) n other

    -- ---- each is filled

    module _ (p : Path) (of : Kind) where
      was_filled : (t : Tag) (was : SeenFile) → led_to shape.shown p ≡ Some (t, of) → option_and_then seen_in (chains t) ≡ Some was → IsSomeAnd (map.get fileset.tree.nodes (number_of t)) (IsFilled d.contents was)
      was_filled t was led is = stood.filled.files p t of was (all_shown shape.shown fileset stood.filled.names role_was p) led (files_at t ∙ is)

      own_filled : (seen : SeenFile) → led_to shape.shown p ≡ Some (tag, of) → option_and_then seen_in (set.chains tag) ≡ Some seen → IsSomeAnd (map.get tree_now.nodes (number_of tag)) (IsFilled now.contents seen)
      own_filled seen led is =
          let from = from_some_and (λ was. (node : Node) → IsFilled d.contents was node → IsFilled now.contents seen (change node)) (option_and_then seen_in (chains tag)) (follow.own seen is) in
          let found = from_some_and (IsFilled d.contents from.0) (map.get fileset.tree.nodes (number_of tag)) (was_filled tag from.0 led from.1) in
          to_some_and (IsFilled now.contents seen) (map.get tree_now.nodes (number_of tag)) (change found.0) (node_here found.0 found.1) (from.2 found.0 found.2)

      other_filled : (t : Tag) (seen : SeenFile) → same_tag t tag ≡ false → led_to shape.shown p ≡ Some (t, of) → option_and_then seen_in (set.chains t) ≡ Some seen → IsSomeAnd (map.get tree_now.nodes (number_of t)) (IsFilled now.contents seen)
      other_filled t seen differ led is =
          let same = follow.others t seen differ is in
          let found = from_some_and (IsFilled d.contents seen) (map.get fileset.tree.nodes (number_of t)) (was_filled t seen led same.0) in
          let had = is_in shape.shown fileset stood.filled.names role_was p t of led in
          let apart : ¬ number_of t ≡ number_of tag = λ one.
          let e : t ≡ tag = one_tag t tag (stood.filled.names.seq t had.file had.there) (stood.filled.names.seq tag file shown) one in
          true≢false (sym (same_tag_itself tag) ∙ ap (λ (u : Tag). same_tag u tag) (sym e) ∙ differ)
          in
          to_some_and (IsFilled now.contents seen) (map.get tree_now.nodes (number_of t)) found.0 (node_else (map.get fileset.tree.nodes (number_of tag)) refl (number_of t) apart ∙ found.1) (agree_on d.contents now.contents seen found.0 same.1 found.2)

    files_filled : (p : Path) (t : Tag) (of : Kind) (seen : SeenFile) → IsShown fileset_now p → led_to shape.shown p ≡ Some (t, of) → option_and_then seen_in (set.chains t) ≡ Some seen → IsSomeAnd (map.get tree_now.nodes (number_of t)) (IsFilled now.contents seen)
    files_filled p t of seen show led is = by_tag (same_tag t tag) refl
      where
        by_tag : (b : Bool) → same_tag t tag ≡ b → IsSomeAnd (map.get tree_now.nodes (number_of t)) (IsFilled now.contents seen)
        by_tag true same =
            let e : t ≡ tag = tags_same t tag same in
            subst (λ (u : Tag). IsSomeAnd (map.get tree_now.nodes (number_of u)) (IsFilled now.contents seen)) (sym e)
            (own_filled p of seen (led ∙ ap (λ (u : Tag). Some (u, of)) e) (ap (λ (u : Tag). option_and_then seen_in (set.chains u)) (sym e) ∙ is))
        by_tag false differ = other_filled p of t seen differ led is

    same_limits : (o : Option ℕ) → (option_map_or (λ n. option_map_or (λ node. record fileset.tree { nodes = map.insert fileset.tree.nodes n (change node) }) (map.get fileset.tree.nodes n) fileset.tree) o fileset.tree).limits ≡ fileset.tree.limits
    same_limits None = refl
    same_limits (Some n) = by_node (map.get fileset.tree.nodes n)
      where
        by_node : (o : Option Node) → (option_map_or (λ node. record fileset.tree { nodes = map.insert fileset.tree.nodes n (change node) }) o fileset.tree).limits ≡ fileset.tree.limits
        by_node None = refl
        by_node (Some node) = refl

    pub changed_stands : StandsSlot now number entry new_shape fileset_now
    changed_stands = record {
      is = original;
      filled = record {
        role = role_was;
        valid = subst (λ (r : Role). IsValidAs r fileset_now) (sym role_was) valid_now;
        names = makes_now.names;
        files = files_filled;
        limits = λ who. ap (λ (l : map.FinMap owner_cmp Limits). unwrap_or (map.get l who) (record { files = 0; blocks = 0 })) (same_limits (map.get fileset.tree.paths path)) ∙ stood.filled.limits who;
      };
      set = set;
    }
