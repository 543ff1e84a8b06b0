-- The slots that one shape fills are alike.
use Rattle.std.proofs.Common.{◌≡◌, ◌∙◌, ℕ, Bool, true, false, cond, List, Option, Some, None, IfSome, IsSomeAnd, is_some, unwrap_or, slice_get, refl, sym, ap, subst}
use Rattle.std.specs.Option.{option_and_then, option_map}
use Rattle.std.specs.FinMap as map
use Rattle.std.specs.Cmp.{nat_cmp_total}
use Rattle.file_release.specs.domain_base.declared.place.Home.{Home}
use Rattle.file_release.specs.page_store.Pages.{Pages}
use Rattle.file_release.specs.cell_records.declared.record.Record.{Record}
use Rattle.file_release.specs.metadata_cells.Chain.{PlacedCell}
use Rattle.file_release.specs.file_chains.Files.{places_of}
use Rattle.file_release.specs.extent_maps.Runs.{home_at}
use Rattle.file_release.specs.extent_records.Writing.{places_before}
use Rattle.file_release.specs.fileset_files.Files.{attributes_in, attributes_of, first_record, is_removed, keep_in, keep_of}
use Rattle.file_release.specs.fileset_files.Shown.{IsWhat, ShowsAt, ShowsFile}
use Rattle.file_release.specs.fileset_files.declared.attributes.Attributes.{Attributes}
use Rattle.file_release.proofs.OfFilesetFiles.Truncated.{no_keep}
use Rattle.name_space.specs.legal_histories.Valid.{IsValidAs, IsValidFileset}
use Rattle.name_space.proofs.OfFilesetModel.OwnerLemmas.{owner_cmp-IsAntisymmetric}
use Rattle.name_space.specs.fileset_model.Filesets.{FilesetMap}
use Rattle.name_space.specs.fileset_model.Apply.{original_of}
use Rattle.name_space.specs.fileset_model.LooksLike.{LooksLike, LooksLikeSlot, LooksLikeThere, Shows}
use Rattle.name_space.specs.fileset_values.Orders.{Name, owner_cmp, owner_cmp-total, path_cmp, path_cmp-total, path_cmp-IsAntisymmetric}
use Rattle.name_space.specs.fileset_model.Paths.{is_out_of_sync}
use Rattle.name_space.specs.fileset_model.Usage.{is_unlimited}
use Rattle.name_space.specs.fileset_values.declared.command.Owner.{Owner}
use Rattle.name_space.specs.fileset_model.declared.fileset.FilesetSlot.{FilesetSlot}
use Rattle.name_space.specs.fileset_model.declared.fileset.Limits.{Limits}
use Rattle.name_space.specs.fileset_model.declared.fileset.Role.{Role}
use Rattle.name_space.specs.fileset_model.declared.fileset.Role.TheVariants.{CloneOf, Original}
use Rattle.name_space.specs.fileset_model.declared.node.Node.{Node}
use Rattle.fileset_table.specs.Table.{Table, entry_of}
use Rattle.fileset_table.specs.declared.slot.FilesetEntry.{FilesetEntry}
use Rattle.fileset_table.specs.declared.slot.SlotItem.{SlotItem}
use Rattle.fileset_table.specs.declared.slot.SlotItem.TheVariants as slots
use Rattle.name_space.proofs.Originals.{all_shown}
use Rattle.domain_layout.specs.Seen.{SeenFile, kept_by, seen_in}
use Rattle.domain_layout.specs.Shape.{FilesetShape, HasFileset, HaveShapes, IsClone, IsOriginal, IsShapeOf, Shapes, ShowsSeenAt}
use Rattle.domain_layout.specs.Filled.{AreFilled, Contents, Fills, FillsThere, IsRole}
use Rattle.domain_layout.proofs.OneFilling.{HasShown, kinds_alike, links_alike, nodes_alike, out_alike, paths_alike}

-- ---- what a shape shows is one of its files

-- the record of attributes says what is kept, too
keeps : (cells : List PlacedCell) (is : Attributes) → attributes_of cells ≡ Some is → (keep : ℕ) × (keep_of cells ≡ Some keep)
keeps cells is said = by_record (first_record 1 cells) refl
  where
    by_record : (o : Option Record) → first_record 1 cells ≡ o → (keep : ℕ) × (keep_of cells ≡ Some keep)
    by_record None none =
        let e : Some is ≡ None = sym said ∙ ap (option_and_then attributes_in) none in
        absurd (cc)
    by_record (Some r) there = by_keep (keep_in r) refl
      where
        by_keep : (o : Option ℕ) → keep_in r ≡ o → (keep : ℕ) × (keep_of cells ≡ Some keep)
        by_keep None none = absurd (no_keep cells r there (sym none))
        by_keep (Some keep) has = (keep, ap (option_and_then keep_in) there ∙ has)

kept_seen : (cells : List PlacedCell) (is : Attributes) (keep : ℕ) (o : Option ℕ) → o ≡ Some keep
    → (seen : SeenFile) × (option_map (λ keep. record { is = is; homes = λ page. home_at (places_before keep (places_of cells) page) }) o ≡ Some seen)
kept_seen cells is keep None none = let e : None ≡ Some keep = none in absurd (cc)
kept_seen cells is keep (Some other) some = (record { is = is; homes = λ page. home_at (places_before other (places_of cells) page) }, refl)

-- a file that is live and has attributes is seen
seen_file : (cells : List PlacedCell) (is : Attributes) → is_removed cells ≡ false → attributes_of cells ≡ Some is → (seen : SeenFile) × (seen_in cells ≡ Some seen)
seen_file cells is live said =
    let keep = keeps cells is said in
    let seen = kept_seen cells is keep.0 (keep_of cells) keep.1 in
    (seen.0, ap (λ b. cond b None (option_and_then (kept_by cells) (attributes_of cells))) live ∙ ap (option_and_then (kept_by cells)) said ∙ seen.1)

shown_original : (pages : Pages) (number : ℕ) (entry : FilesetEntry) (shape : FilesetShape) → IsOriginal pages number entry shape → HasShown shape
shown_original pages number entry shape is tag file there =
    let shows : ShowsAt pages (is.chains tag) (Some file) = subst (ShowsAt pages (is.chains tag)) there (is.shown tag) in
    let seen = by_chain (is.chains tag) shows in
    (seen.0, is.files tag ∙ seen.1)
  where
    by_what : (cells : List PlacedCell) → is_removed cells ≡ false → (o : Option Attributes) → attributes_of cells ≡ o → IsSomeAnd o (IsWhat file) → (seen : SeenFile) × (seen_in cells ≡ Some seen)
    by_what cells live None said what = absurd what
    by_what cells live (Some what_it_is) said what = seen_file cells what_it_is live said

    by_removed : (cells : List PlacedCell) (b : Bool) → is_removed cells ≡ b → IsSomeAnd (cond b None (Some cells)) (λ live. ShowsFile pages live file) → (seen : SeenFile) × (seen_in cells ≡ Some seen)
    by_removed cells true removed shows = absurd shows
    by_removed cells false live shows = by_what cells live (attributes_of cells) refl shows.what

    by_chain : (o : Option (List PlacedCell)) → ShowsAt pages o (Some file) → (seen : SeenFile) × (option_and_then seen_in o ≡ Some seen)
    by_chain None shows = absurd shows
    by_chain (Some cells) shows = by_removed cells (is_removed cells) refl shows

shown_clone : (pages : Pages) (number of : ℕ) (entry original : FilesetEntry) (clone : ℕ) (shape : FilesetShape) → IsClone pages number of entry original clone shape → HasShown shape
shown_clone pages number of entry original clone shape is tag file there = by_seen (shape.files tag) refl (subst (ShowsSeenAt pages (shape.files tag)) there (is.shown tag))
  where
    by_seen : (o : Option SeenFile) → shape.files tag ≡ o → ShowsSeenAt pages o (Some file) → (seen : SeenFile) × (shape.files tag ≡ Some seen)
    by_seen None none shows = let e : Some file ≡ None = shows in absurd (cc)
    by_seen (Some seen) has shows = (seen, has)

shown_slot : (pages : Pages) (table : Table) (number : ℕ) (item : SlotItem) (shape : FilesetShape) → IsShapeOf pages table number item (Some shape) → HasShown shape
shown_slot pages table number slots.Free shape is = let e : Some shape ≡ None = is in absurd (cc)
shown_slot pages table number (slots.Removed first_tag quota) shape is = let e : Some shape ≡ None = is in absurd (cc)
shown_slot pages table number (slots.Original entry) shape is = shown_original pages number entry shape is
shown_slot pages table number (slots.Clone of clone entry) shape is = by_original (option_and_then entry_of (slice_get table.slots of)) is
  where
    by_original : (o : Option FilesetEntry) → IsSomeAnd o (λ original. IsSomeAnd (Some shape) (IsClone pages number of entry original clone)) → HasShown shape
    by_original None is = absurd is
    by_original (Some original) is = shown_clone pages number of entry original clone shape is

pub all_shown_there : (pages : Pages) (home : Home) (shapes : Shapes) → HaveShapes pages home shapes → (name : Name) (shape : FilesetShape) → shapes name ≡ Some shape → HasShown shape
all_shown_there pages home shapes have name shape is =
    let has = have.are.only name (ap is_some is) in
    by_entry has (entry_of has.item) refl has.named
  where
    by_entry : (has : HasFileset have.table name) (o : Option FilesetEntry) → entry_of has.item ≡ o → IsSomeAnd o (λ entry. entry.name ≡ name) → HasShown shape
    by_entry has None none named = absurd named
    by_entry has (Some entry) there named =
        let each : IsShapeOf pages have.table has.number has.item (shapes entry.name) =
        subst (λ o. IfSome o (λ entry. IsShapeOf pages have.table has.number has.item (shapes entry.name))) there (have.are.each has.number has.item has.there) in
        shown_slot pages have.table has.number has.item shape (subst (IsShapeOf pages have.table has.number has.item) (ap shapes named ∙ is) each)

-- ---- limits

one_limit : (a b : Option Limits) → unwrap_or a (record { files = 0; blocks = 0 }) ≡ unwrap_or b (record { files = 0; blocks = 0 })
    → ((limits : Limits) → a ≡ Some limits → is_unlimited limits ≡ false) → ((limits : Limits) → b ≡ Some limits → is_unlimited limits ≡ false) → a ≡ b
one_limit None None same binds binds' = refl
one_limit None (Some l) same binds binds' = let e : true ≡ false = ap is_unlimited same ∙ binds' l refl in absurd (cc)
one_limit (Some l) None same binds binds' = let e : true ≡ false = ap is_unlimited (sym same) ∙ binds l refl in absurd (cc)
one_limit (Some l) (Some m) same binds binds' = ap Some same

-- the limits of a slot that is valid bind
binding : (role : Role) (slot : FilesetSlot) → IsValidAs role slot → (who : Owner) (limits : Limits) → map.get slot.tree.limits who ≡ Some limits → is_unlimited limits ≡ false
binding Original slot valid who limits is = valid.limited who limits is
binding (CloneOf original out) slot valid who limits is =
    valid.valid.limited who limits (ap (λ (m : map.FinMap owner_cmp Limits). map.get m who) (sym valid.shows.limits) ∙ is)

module _ (contents : Contents) (shape : FilesetShape) (has : HasShown shape) (slot other : FilesetSlot) (fills : Fills contents shape slot) (also : Fills contents shape other) where
  same_limits : other.tree.limits ≡ slot.tree.limits
  same_limits = map.same_map owner_cmp-total owner_cmp-IsAntisymmetric other.tree.limits slot.tree.limits (λ who.
      one_limit (map.get other.tree.limits who) (map.get slot.tree.limits who) (also.limits who ∙ sym (fills.limits who))
      (binding other.role other also.valid who) (binding slot.role slot fills.valid who))

  -- ---- originals

  module _ (role : slot.role ≡ Original) (role' : other.role ≡ Original) where
    valid : IsValidFileset slot.tree
    valid = subst (λ r. IsValidAs r slot) role fills.valid

    valid' : IsValidFileset other.tree
    valid' = subst (λ r. IsValidAs r other) role' also.valid

    same_paths : other.tree.paths ≡ slot.tree.paths
    same_paths = map.same_map path_cmp-total path_cmp-IsAntisymmetric other.tree.paths slot.tree.paths (λ path.
        paths_alike contents shape slot other fills also path (all_shown shape.shown slot fills.names role path))

    one_node : (n : ℕ) (a b : Option Node) → map.get other.tree.nodes n ≡ a → map.get slot.tree.nodes n ≡ b → a ≡ b
    one_node n a (Some node) was is =
        let path = valid.named n node is in
        let shows : Shows slot path.0 n = record {
          shown = all_shown shape.shown slot fills.names role path.0;
          leads = path.1;
          in_sync = ap (λ (r : Role). is_out_of_sync r n) role;
        } in
        sym was ∙ nodes_alike contents shape slot other fills also has path.0 n shows ∙ is
    one_node n None None was is = refl
    one_node n (Some node) None was is =
        let path = valid'.named n node was in
        let led = valid.led_to path.0 n (ap (λ (m : map.FinMap path_cmp ℕ). map.get m path.0) (sym same_paths) ∙ path.1) in
        let e : true ≡ false = sym led ∙ ap is_some is in
        absurd (cc)

    same_nodes : other.tree.nodes ≡ slot.tree.nodes
    same_nodes = map.same_map nat_cmp_total map.nat_cmp-IsAntisymmetric other.tree.nodes slot.tree.nodes (λ n. one_node n _ _ refl refl)

    same_tree : other.tree ≡ slot.tree
    same_tree = λ i. record { paths = same_paths i; nodes = same_nodes i; limits = same_limits i }

  -- ---- either

  one_role : (name : Option Name) (r s : Role) → IsRole name r → IsRole name s → original_of s ≡ original_of r
  one_role None r s is was = ap original_of was ∙ sym (ap original_of is)
  one_role (Some name) Original s is was = absurd is
  one_role (Some name) (CloneOf original out) Original is was = absurd was
  one_role (Some name) (CloneOf original out) (CloneOf other lost) is was = ap Some (was ∙ sym is)

  of_one : original_of other.role ≡ original_of slot.role
  of_one = one_role shape.original slot.role other.role fills.role also.role

  original_too : (r s : Role) → original_of s ≡ original_of r → r ≡ Original → s ≡ Original
  original_too r Original of is = refl
  original_too r (CloneOf original out) of is = let e : Some original ≡ None = of ∙ ap original_of is in absurd (cc)

  pub one_slot : LooksLikeSlot slot other
  one_slot = record {
    of = of_one;
    original = λ is.
        let also_is = original_too slot.role other.role of_one is in
        let tree = same_tree is also_is in
        let role = also_is ∙ sym is in
        λ i. record { role = role i; tree = tree i };
    limits = same_limits;
    paths = paths_alike contents shape slot other fills also;
    out = out_alike contents shape slot other fills also;
    kinds = kinds_alike contents shape slot other fills also;
    nodes = nodes_alike contents shape slot other fills also has;
    links = links_alike contents shape slot other fills also;
  }

pub one_filling : (pages : Pages) (home : Home) (contents : Contents) (shapes : Shapes) (all other : FilesetMap)
    → HaveShapes pages home shapes → AreFilled contents shapes all → AreFilled contents shapes other → LooksLike all other
one_filling pages home contents shapes all other have fills also name = by_shape (shapes name) refl (fills name) (also name)
  where
    by_slots : (shape : FilesetShape) → shapes name ≡ Some shape → (a b : Option FilesetSlot) → IsSomeAnd a (Fills contents shape) → IsSomeAnd b (Fills contents shape) → LooksLikeThere a b
    by_slots shape is None b fills also = absurd fills
    by_slots shape is (Some a) None fills also = absurd also
    by_slots shape is (Some a) (Some b) fills also = one_slot contents shape (all_shown_there pages home shapes have name shape is) a b fills also

    by_none : (a b : Option FilesetSlot) → a ≡ None → b ≡ None → LooksLikeThere a b
    by_none None b is was = was
    by_none (Some a) b is was = absurd (cc)

    by_shape : (o : Option FilesetShape) → shapes name ≡ o → FillsThere contents o (map.get all name) → FillsThere contents o (map.get other name) → LooksLikeThere (map.get all name) (map.get other name)
    by_shape None is fills also = by_none (map.get all name) (map.get other name) fills also
    by_shape (Some shape) is fills also = by_slots shape is (map.get all name) (map.get other name) fills also
