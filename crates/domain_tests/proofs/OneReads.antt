-- The filesets that the pages of the one fileset are read as.
use Rattle.std.proofs.Common.{◌≡◌, ◌∙◌, inl, ℕ, Bool, true, false, cond, nat_eq, [], ◌∷◌, count_by, Option, Some, None, IfSome, IsSome, IsSomeAnd, is_some, slice_get, refl, sym, ap, subst, arith, ⊎_elim}
use Rattle.std.specs.FinMap as map
use Rattle.std.specs.FinMap.{get}
use Rattle.domain_making.proofs.OfFilesetModel.MoveLemmas.{entries-empty}
use Rattle.std.specs.Cmp.{nat_cmp_total}
use Rattle.std.specs.Ordering.{eq_by_cmp, is_eq}
use Rattle.std.specs.declared.cmp.Ordering.{Ordering}
use Rattle.std.specs.declared.cmp.Ordering.TheVariants.{Equal, Greater, Less}
use Rattle.std.specs.Option.{option_and_then, option_map, unwrap_or}
use Rattle.domain_making.specs.domain_base.declared.place.Kind.{Kind}
use Rattle.domain_making.specs.domain_base.declared.place.Kind.TheVariants.{Directory}
use Rattle.domain_making.specs.domain_base.declared.place.Tag.{Tag}
use Rattle.domain_making.specs.page_store.Bitfiles.{Bitfile, Bitfiles, IsDirectory, same_tag}
use Rattle.domain_making.specs.page_store.Pages.{Pages}
use Rattle.domain_making.specs.fileset_files.Shown.{ShowsAt}
use Rattle.domain_making.specs.directory_rows.Directory.{IsWellFormed}
use Rattle.domain_making.proofs.OfLegalHistories.ValidTreeLemmas.{empty_fileset-valid}
use Rattle.domain_making.specs.fileset_model.LooksLike.{IsShown}
use Rattle.domain_making.specs.fileset_values.Orders.{Name, Path, name_cmp, name_cmp-IsAntisymmetric, name_cmp-total, owner_cmp, path_cmp, path_cmp-total}
use Rattle.domain_making.specs.fileset_model.Paths.{is_directory, paths_to}
use Rattle.domain_making.specs.fileset_values.declared.command.Owner.{Owner}
use Rattle.domain_making.specs.fileset_values.declared.command.Owner.TheVariants as owner
use Rattle.domain_making.specs.fileset_model.declared.fileset.FilesetSlot.{FilesetSlot}
use Rattle.domain_making.specs.fileset_model.declared.fileset.Limits.{Limits}
use Rattle.domain_making.specs.fileset_model.declared.node.Node.TheVariants as node
use Rattle.domain_making.specs.fileset_table.Page.{IsTablePage}
use Rattle.domain_making.specs.fileset_table.Table.{entry_of}
use Rattle.domain_making.specs.fileset_table.declared.slot.SlotItem.{SlotItem}
use Rattle.domain_making.specs.fileset_table.declared.slot.SlotItem.TheVariants.{Original}
use Rattle.domain_making.specs.name_space.Names.{IsNodeOf, IsShownAs, Names, led_to, number_of, root_tag}
use Rattle.domain_making.specs.domain_layout.Filled.{Contents, Fills, FillsThere, IsFilled}
use Rattle.domain_making.specs.domain_layout.Read.{ReadsFrom, contents_of}
use Rattle.domain_making.specs.domain_layout.Seen.{SeenFile, seen_in}
use Rattle.domain_making.specs.domain_layout.Shape.{FilesetShape, HasFileset, IsOriginal, IsShapeOf, Shapes, limits_in}
use Rattle.domain_making.specs.domain_layout.NewDomain.{on_first}
use Rattle.domain_making.proofs.OfDomainLayout.OnePage.{some_same}
use Rattle.domain_tests.specs.OneFileset.{cells_page, fileset_a, filesets, name_a, table_page, tags_page}
use Rattle.domain_tests.proofs.OneChains.{chains_a, has_chains, is_root, root_cells, root_seen}
use Rattle.domain_tests.proofs.OneTags.{entry_a, item_is, one_table, says_table}

-- ---- the shape

abbrev root_shown : Bitfile
root_shown = record { kind = Directory; uid = 0; gid = 0; links = 1; pages = []; index = [] }

abbrev shown_a : Bitfiles
shown_a tag = cond (same_tag tag root_tag) (Some root_shown) None

abbrev no_limits : Limits
no_limits = record { files = 0; blocks = 0 }

abbrev shape_a : FilesetShape
shape_a = record {
  original = None;
  files = λ tag. option_and_then seen_in (chains_a tag);
  shown = shown_a;
  limits = λ who. no_limits;
}

abbrev shapes_a : Shapes
shapes_a name = cond (eq_by_cmp name_cmp name name_a) (Some shape_a) None

module _ (pages : Pages) (cells_there : pages (on_first 3) ≡ Some cells_page) (table_there : pages (on_first 132) ≡ Some table_page) (tags_there : pages (on_first 133) ≡ Some tags_page) where
  shows : (tag : Tag) → ShowsAt pages (chains_a tag) (shown_a tag)
  shows tag = by_test (same_tag tag root_tag)
    where
      by_test : (b : Bool) → ShowsAt pages (cond b (Some root_cells) None) (cond b (Some root_shown) None)
      by_test true = record {
        what = record { kind = refl; uid = refl; gid = refl; links = refl };
        each = λ number. refl;
        index = tt;
      }
      by_test false = refl

  each_limit : (who : Owner) → no_limits ≡ limits_in entry_a [] who
  each_limit (owner.User uid) = refl
  each_limit (owner.Group gid) = refl
  each_limit owner.Fileset = refl

  original_a : IsOriginal pages 0 entry_a shape_a
  original_a = record {
    none = refl;
    chains = chains_a;
    has = has_chains pages cells_there tags_there;
    files = λ tag. refl;
    shown = shows;
    limits = record { records = []; quotas = refl; each = each_limit };
  }

  each : (number : ℕ) (item : SlotItem) → slice_get one_table.slots number ≡ Some item → IfSome (entry_of item) (λ entry. IsShapeOf pages one_table number item (shapes_a entry.name))
  each number item there =
      ⊎_elim (λ a. subst (λ i. IfSome (entry_of i) (λ entry. IsShapeOf pages one_table number i (shapes_a entry.name))) (sym a.1)
      (subst (λ n. IsOriginal pages n entry_a shape_a) (sym a.0) original_a))
      (λ free. subst (λ i. IfSome (entry_of i) (λ entry. IsShapeOf pages one_table number i (shapes_a entry.name))) (sym free) tt)
      (item_is number item there)

  is_equal : (r : Ordering) → is_eq r ≡ true → r ≡ Equal
  is_equal Less is = let e : false ≡ true = is in absurd (cc)
  is_equal Equal is = refl
  is_equal Greater is = let e : false ≡ true = is in absurd (cc)

  only : (name : Name) → IsSome (shapes_a name) → HasFileset one_table name
  only name some = by_test (eq_by_cmp name_cmp name name_a) refl
    where
      by_test : (b : Bool) → eq_by_cmp name_cmp name name_a ≡ b → HasFileset one_table name
      by_test true same = record {
        number = 0;
        item = Original entry_a;
        there = refl;
        named = sym (name_cmp-IsAntisymmetric name name_a (is_equal (name_cmp name name_a) same));
      }
      by_test false other = absurd (let e : false ≡ true = sym (ap (λ b. is_some (cond b (Some shape_a) None)) other) ∙ some in absurd (cc))

-- ---- the fileset

seen_root : (tag : Tag) (seen : SeenFile) → option_and_then seen_in (chains_a tag) ≡ Some seen → (tag ≡ root_tag) × (seen ≡ root_seen)
seen_root tag seen has = by_test (same_tag tag root_tag) refl
  where
    by_test : (b : Bool) → same_tag tag root_tag ≡ b → (tag ≡ root_tag) × (seen ≡ root_seen)
    by_test true same = (is_root tag same, some_same seen root_seen (sym has ∙ ap (λ b. option_and_then seen_in (cond b (Some root_cells) None)) same))
    by_test false other = absurd (let e : None ≡ Some seen = sym (ap (λ b. option_and_then seen_in (cond b (Some root_cells) None)) other) ∙ has in absurd (cc))

shown_root : (tag : Tag) (file : Bitfile) → shown_a tag ≡ Some file → (tag ≡ root_tag) × (file ≡ root_shown)
shown_root tag file has = by_test (same_tag tag root_tag) refl
  where
    by_test : (b : Bool) → same_tag tag root_tag ≡ b → (tag ≡ root_tag) × (file ≡ root_shown)
    by_test true same = (is_root tag same, some_same file root_shown (sym has ∙ ap (λ b. cond b (Some root_shown) None) same))
    by_test false other = absurd (let e : None ≡ Some file = sym (ap (λ b. cond b (Some root_shown) None) other) ∙ has in absurd (cc))

root_node : get fileset_a.tree.nodes 65537 ≡ Some (node.Directory 0 0)
root_node = map.get-insert nat_cmp_total map.empty 65537 (node.Directory 0 0) 65537

one_path : 1 ≡ paths_to fileset_a.tree 65537
one_path =
    sym (ap (count_by (λ (e : Path × ℕ). nat_eq e.1 65537))
    (map.entries-insert path_cmp-total map.empty [] 65537 ∙ ap (map.put path_cmp [] 65537) (entries-empty path_cmp)))

paths : (path : Path) → IsShown fileset_a path → get fileset_a.tree.paths path ≡ option_map (λ led. number_of led.0) (led_to shown_a path)
paths [] shown = map.get-insert path_cmp-total map.empty [] 65537 []
paths (name ∷ path) shown = map.get-insert path_cmp-total map.empty [] 65537 (name ∷ path) ∙ map.get-empty path_cmp (name ∷ path)

shown_as : IsShownAs shown_a fileset_a root_tag Directory
shown_as = record {
  kind = subst (λ o. IsSomeAnd o (λ n. is_directory n ≡ true)) (sym root_node) refl;
  out = refl;
  node = λ file there. by_file file (shown_root root_tag file there).1;
}
  where
    by_file : (file : Bitfile) → file ≡ root_shown → (file.kind ≡ Directory) × IsSomeAnd (get fileset_a.tree.nodes 65537) (IsNodeOf file) × (file.links ≡ paths_to fileset_a.tree 65537)
    by_file file same =
        subst (λ f. (f.kind ≡ Directory) × IsSomeAnd (get fileset_a.tree.nodes 65537) (IsNodeOf f) × (f.links ≡ paths_to fileset_a.tree 65537)) (sym same)
        (refl, subst (λ o. IsSomeAnd o (IsNodeOf root_shown)) (sym root_node) (refl, refl, refl), one_path)

shown_all : (path : Path) (tag : Tag) (of : Kind) → IsShown fileset_a path → led_to shown_a path ≡ Some (tag, of) → IsShownAs shown_a fileset_a tag of
shown_all [] tag of shown led =
    let same : (root_tag, Directory) ≡ (tag, of) = some_same (root_tag, Directory) (tag, of) led in
    subst (λ p. IsShownAs shown_a fileset_a p.0 p.1) same shown_as
shown_all (name ∷ path) tag of shown led = absurd (let e : None ≡ Some (tag, of) = led in absurd (cc))

root_well_formed : IsWellFormed shown_a root_tag
root_well_formed = record { directory = refl; pages = tt; names = tt; index = inl refl }

directories : (dir : Tag) → IsDirectory shown_a dir → IsWellFormed shown_a dir
directories dir is = by_file (shown_a dir) refl is
  where
    by_file : (o : Option Bitfile) → shown_a dir ≡ o → IsSomeAnd o (λ file. file.kind ≡ Directory) → IsWellFormed shown_a dir
    by_file None none is = absurd is
    by_file (Some file) there is = subst (IsWellFormed shown_a) (sym (shown_root dir file there).0) root_well_formed

names_a : Names shown_a fileset_a
names_a = record {
  paths = paths;
  shown = shown_all;
  directories = directories;
  live = λ original tag file there.
      let root = shown_root tag file there in
      ([], (λ i. Some (sym root.0 i, ap (λ (f : Bitfile). f.kind) (sym root.1) i)));
  seq = λ tag file there. let seq = ap (λ (t : Tag). t.seq) (shown_root tag file there).0 in omega (arith, seq);
}

filled : (contents : Contents) (tag : Tag) (seen : SeenFile) → option_and_then seen_in (chains_a tag) ≡ Some seen → IsSomeAnd (get fileset_a.tree.nodes (number_of tag)) (IsFilled contents seen)
filled contents tag seen there =
    let root = seen_root tag seen there in
    subst (λ t. IsSomeAnd (get fileset_a.tree.nodes (number_of t)) (IsFilled contents seen)) (sym root.0)
    (subst (λ s. IsSomeAnd (get fileset_a.tree.nodes 65537) (IsFilled contents s)) (sym root.1)
    (subst (λ o. IsSomeAnd o (IsFilled contents root_seen)) (sym root_node) (refl, refl, refl)))

fills_a : (contents : Contents) → Fills contents shape_a fileset_a
fills_a contents = record {
  role = refl;
  valid = empty_fileset-valid 65537;
  names = names_a;
  files = λ path tag of seen shown led there. filled contents tag seen there;
  limits = λ who. ap (λ o. unwrap_or o no_limits) (map.get-empty owner_cmp who);
}

fills_there : (contents : Contents) (name : Name) → FillsThere contents (shapes_a name) (get filesets name)
fills_there contents name =
    subst (FillsThere contents (shapes_a name)) (sym (map.get-insert name_cmp-total map.empty name_a fileset_a name)) (by_test (eq_by_cmp name_cmp name name_a))
  where
    by_test : (b : Bool) → FillsThere contents (cond b (Some shape_a) None) (cond b (Some fileset_a) (get {X = FilesetSlot} {R = name_cmp} map.empty name))
    by_test true = fills_a contents
    by_test false = map.get-empty name_cmp name

pub reads_a : (pages : Pages) → pages (on_first 3) ≡ Some cells_page → pages (on_first 132) ≡ Some table_page → pages (on_first 133) ≡ Some tags_page → ReadsFrom pages (on_first 132) filesets
reads_a pages cells_there table_there tags_there = record {
  shapes = shapes_a;
  shaped = record {
    table = one_table;
    there = subst (λ o. IsSomeAnd o (λ page. IsTablePage page one_table)) (sym table_there) says_table;
    are = record { each = each pages cells_there table_there tags_there; only = only pages cells_there table_there tags_there };
  };
  filled = fills_there (contents_of pages);
}
