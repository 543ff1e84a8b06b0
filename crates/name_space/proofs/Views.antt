-- What a clone shows of an original's rows has the original's names.
use Rattle.std.proofs.Common.{◌≡◌, ◌∙◌, ◌⊎◌, inl, inr, ℕ, suc, zero, ◌+◌, ◌<◌, ◌≤◌, Bool, true, false, not, is_some, [], Option, Some, None, IsSomeAnd, length, take, get_or, refl, sym, ap, subst, arith}
use Rattle.std.proofs.lemmas.List.{take_all}
use Rattle.std.specs.List.{AllByRecursion}
use Rattle.std.specs.Option.{option_and_then, option_map, option_map_or}
use Rattle.std.specs.FinMap as map
use Rattle.plain_program.specs.domain_base.declared.place.Kind.{Kind}
use Rattle.plain_program.specs.domain_base.declared.place.Kind.TheVariants.{Directory}
use Rattle.plain_program.specs.domain_base.declared.place.Tag.{Tag}
use Rattle.directory_rows.specs.page_store.Bitfiles.{Bitfile, Bitfiles}
use Rattle.directory_rows.specs.directory_pages.RowPage.{IsDirPage}
use Rattle.directory_rows.specs.directory_pages.Rows.{found}
use Rattle.directory_rows.specs.Directory.{IsWellFormed, NamesOnce, all_rows, row_pages, rows_in}
use Rattle.directory_rows.proofs.Outside.{rows_decide_lem}
use Rattle.plain_program.specs.fileset_model.LooksLike.{IsShown}
use Rattle.plain_program.specs.fileset_values.Orders.{Name, Path}
use Rattle.plain_program.specs.fileset_model.Paths.{paths_to}
use Rattle.plain_program.specs.fileset_model.declared.fileset.FilesetSlot.{FilesetSlot}
use Rattle.plain_program.specs.fileset_model.declared.fileset.NumberSet.{NumberSet}
use Rattle.plain_program.specs.fileset_model.declared.node.Node.{Node}
use Rattle.plain_program.specs.fileset_model.declared.node.Node.TheVariants.{File, Directory as DirectoryNode}
use Rattle.plain_program.proofs.OfLegalHistories.LooksLemmas.{looks_like_itself}
use Rattle.plain_program.proofs.OfLegalHistories.ValidLemmas.{to_some_and}
use Rattle.plain_program.proofs.OfLegalHistories.ValidSetLemmas.{original≢clone}
use Rattle.plain_program.proofs.OfLegalHistories.ValidTreeLemmas.{without_limits-valid}
use Rattle.name_space.specs.Changes.{IsOriginal}
use Rattle.name_space.specs.Laws.{IsCloned}
use Rattle.name_space.specs.Names.{IsNodeOf, IsShownAs, led_to, number_of}
use Rattle.name_space.proofs.Leads.{led-more}
use Rattle.name_space.proofs.Originals.{all_shown, is_in, number_at, path_at}
use Rattle.name_space.specs.Views.{IsViewOf, ViewsHaveNames, clone_without, without_index}

-- a node that a file is, it is without an index
node_without_index : (file : Bitfile) (o : Option Node) → IsSomeAnd o (IsNodeOf file) → IsSomeAnd o (IsNodeOf (without_index file))
node_without_index file None is = absurd is
node_without_index file (Some (File uid gid size logged pages)) is = is
node_without_index file (Some (DirectoryNode uid gid)) is = is

same_row_pages : (o : Option Bitfile) → option_map_or (λ (file : Bitfile). file.pages) (option_map without_index o) [] ≡ option_map_or (λ (file : Bitfile). file.pages) o []
same_row_pages None = refl
same_row_pages (Some file) = refl

module _ (files view : Bitfiles) (slot : FilesetSlot) (name : Name) (out : NumberSet) (original : IsOriginal files slot) (shows : IsViewOf out files view) where
  abbrev clone : FilesetSlot
  clone = clone_without name out slot

  -- whether a tag is hidden
  abbrev is_out : Tag → Bool
  is_out tag = map.contains_key out (number_of tag)

  -- what a file of the view is in the set
  record IsSeen (tag : Tag) (file : Bitfile) : Type 0 where
    pub whole : Bitfile
    pub there : files tag ≡ Some whole
    pub same : (file ≡ whole) ⊎ (file ≡ without_index whole)
    pub in_sync : is_out tag ≡ false

  some_is : (file other : Bitfile) → Some file ≡ Some other → other ≡ file
  some_is file other e = ap (λ (o : Option Bitfile). option_map_or (λ f. f) o file) (sym e)

  is_seen : (tag : Tag) (file : Bitfile) → view tag ≡ Some file → IsSeen tag file
  is_seen tag file at = by_out (is_out tag) refl
    where
      by_file : is_out tag ≡ false → (o : Option Bitfile) → files tag ≡ o → ((Some file ≡ o) ⊎ (Some file ≡ option_map without_index o)) → IsSeen tag file
      by_file in_sync None there (inl e) = absurd cc
      by_file in_sync None there (inr e) = let nothing : Some file ≡ None = e in absurd (cc)
      by_file in_sync (Some whole) there (inl e) = record { whole = whole; there = there; same = inl (some_is whole file (sym e)); in_sync = in_sync }
      by_file in_sync (Some whole) there (inr e) = record { whole = whole; there = there; same = inr (some_is (without_index whole) file (sym e)); in_sync = in_sync }

      by_out : (b : Bool) → is_out tag ≡ b → IsSeen tag file
      by_out true is = let e : None ≡ Some file = sym (shows.hidden tag is) ∙ at in absurd (cc)
      by_out false is = by_file is (files tag) refl (subst (λ o. (o ≡ files tag) ⊎ (o ≡ option_map without_index (files tag))) at (shows.seen tag is))

  same_pages : (tag : Tag) → is_out tag ≡ false → row_pages view tag ≡ row_pages files tag
  same_pages tag is = by_index (shows.seen tag is)
    where
      by_index : (view tag ≡ files tag) ⊎ (view tag ≡ option_map without_index (files tag)) → row_pages view tag ≡ row_pages files tag
      by_index (inl e) = ap (λ o. option_map_or (λ (file : Bitfile). file.pages) o []) e
      by_index (inr e) = ap (λ o. option_map_or (λ (file : Bitfile). file.pages) o []) e ∙ same_row_pages (files tag)

  -- ---- paths that are shown lead where they led

  -- what a shown path leads through is in sync
  led_in_sync : (path : Path) → IsShown clone path → (count : ℕ) → count < length path → (led : Tag × Kind) → led_to files (take count path) ≡ Some led → is_out led.0 ≡ false
  led_in_sync path shown count below led is =
      sym (ap (λ o. option_map_or (map.contains_key out) o false) (number_at files slot original.names original.role (take count path) led.0 led.1 is)) ∙ shown count below

  led_one : (path : Path) → IsShown clone path → (count : ℕ) → count < length path → (o : Option (Tag × Kind)) → led_to files (take count path) ≡ o
      → option_and_then (λ (led : Tag × Kind). found (get_or path count []) (rows_in view led.0)) o ≡ option_and_then (λ (led : Tag × Kind). found (get_or path count []) (rows_in files led.0)) o
  led_one path shown count below None is = refl
  led_one path shown count below (Some led) is =
      ap (λ pages. found (get_or path count []) (all_rows pages)) (same_pages led.0 (led_in_sync path shown count below led is))

  led_part : (path : Path) → IsShown clone path → (count : ℕ) → count ≤ length path → led_to view (take count path) ≡ led_to files (take count path)
  led_part path shown zero within = refl
  led_part path shown (suc count) within =
      let on : suc count ≡ count + 1 = omega arith in
      let below : count < length path = omega (arith, within) in
      ap (λ n. led_to view (take n path)) on
      ∙ led-more view path count [] below
      ∙ ap (option_and_then (λ (led : Tag × Kind). found (get_or path count []) (rows_in view led.0))) (led_part path shown count (omega (arith, within)))
      ∙ led_one path shown count below (led_to files (take count path)) refl
      ∙ sym (led-more files path count [] below)
      ∙ ap (λ n. led_to files (take n path)) (sym on)

  led_same : (path : Path) → IsShown clone path → led_to view path ≡ led_to files path
  led_same path shown =
      subst (λ p. led_to view p ≡ led_to files p) (take_all (length path) path (omega arith)) (led_part path shown (length path) (omega arith))

  -- ---- what it leads to

  out_is : (tag : Tag) (file : Bitfile) → files tag ≡ Some file → (b : Bool) → is_out tag ≡ b → is_out tag ≡ not (is_some (view tag))
  out_is tag file there true is = is ∙ sym (ap (λ o. not (is_some o)) (shows.hidden tag is))
  out_is tag file there false is = is ∙ by_index (shows.seen tag is)
    where
      by_index : (view tag ≡ files tag) ⊎ (view tag ≡ option_map without_index (files tag)) → false ≡ not (is_some (view tag))
      by_index (inl e) = sym (ap (λ o. not (is_some o)) (e ∙ there))
      by_index (inr e) = sym (ap (λ o. not (is_some o)) (e ∙ ap (option_map without_index) there))

  -- a file is the node of a tag of this kind
  abbrev IsNodeAt : Tag → Kind → Bitfile → Type 0
  IsNodeAt tag of file = (file.kind ≡ of) × IsSomeAnd (map.get slot.tree.nodes (number_of tag)) (IsNodeOf file) × (file.links ≡ paths_to slot.tree (number_of tag))

  node_seen : (tag : Tag) (of : Kind) (file whole : Bitfile) → (file ≡ whole) ⊎ (file ≡ without_index whole) → IsNodeAt tag of whole → IsNodeAt tag of file
  node_seen tag of file whole (inl e) node = subst (IsNodeAt tag of) (sym e) node
  node_seen tag of file whole (inr e) node = subst (IsNodeAt tag of) (sym e) (node.0, node_without_index whole (map.get slot.tree.nodes (number_of tag)) node.1, node.2)

  shown_as : (path : Path) (tag : Tag) (of : Kind) → led_to files path ≡ Some (tag, of) → IsShownAs view clone tag of
  shown_as path tag of led =
      let is = original.names.shown path tag of (all_shown files slot original.names original.role path) led in
      let had = is_in files slot original.names original.role path tag of led in
      record {
        kind = is.kind;
        out = out_is tag had.file had.there (is_out tag) refl;
        node = λ file at. let was = is_seen tag file at in node_seen tag of file was.whole was.same (is.node was.whole was.there);
      }

  kind_seen : (file whole : Bitfile) → (file ≡ whole) ⊎ (file ≡ without_index whole) → file.kind ≡ whole.kind
  kind_seen file whole (inl e) = ap (λ f. f.kind) e
  kind_seen file whole (inr e) = ap (λ f. f.kind) e

  formed_seen : (dir : Tag) (file whole : Bitfile) → view dir ≡ Some file → files dir ≡ Some whole → is_out dir ≡ false → file.kind ≡ Directory → (file ≡ whole) ⊎ (file ≡ without_index whole) → IsWellFormed files dir → IsWellFormed view dir
  formed_seen dir file whole at there in_sync kind (inl e) formed =
      rows_decide_lem files view dir dir whole file there at (record { kind = ap (λ f. f.kind) e; pages = ap (λ f. f.pages) e; index = ap (λ f. f.index) e }) formed
  formed_seen dir file whole at there in_sync kind (inr e) formed = record {
    directory = to_some_and (λ (f : Bitfile). f.kind ≡ Directory) (view dir) file at kind;
    pages = subst (AllByRecursion IsDirPage) (sym (same_pages dir in_sync)) formed.pages;
    names = subst (λ pages. NamesOnce (all_rows pages)) (sym (same_pages dir in_sync)) formed.names;
    index = inl (ap (λ o. option_map_or (λ (f : Bitfile). f.index) o []) at ∙ ap (λ f. f.index) e);
  }

  well_formed : (dir : Tag) (o : Option Bitfile) → view dir ≡ o → IsSomeAnd o (λ file. file.kind ≡ Directory) → IsWellFormed view dir
  well_formed dir None at is = absurd is
  well_formed dir (Some file) at is =
      let was = is_seen dir file at in
      let kind : was.whole.kind ≡ Directory = sym (kind_seen file was.whole was.same) ∙ is in
      formed_seen dir file was.whole at was.there was.in_sync is was.same
      (original.names.directories dir (to_some_and (λ (f : Bitfile). f.kind ≡ Directory) (files dir) was.whole was.there kind))

  view_cloned : IsCloned view clone
  view_cloned = record {
    names = record {
      paths = λ path shown. path_at files slot original.names original.role path ∙ ap (option_map (λ (led : Tag × Kind). number_of led.0)) (sym (led_same path shown));
      shown = λ path tag of shown led. shown_as path tag of (sym (led_same path shown) ∙ led);
      directories = λ dir is. well_formed dir (view dir) refl is;
      live = λ role. absurd (original≢clone name out (sym role));
      seq = λ tag file at. let was = is_seen tag file at in original.names.seq tag was.whole was.there;
    };
    valid = record {
      whole = record slot.tree { limits = map.empty };
      valid = without_limits-valid slot.tree original.valid;
      shows = looks_like_itself clone;
    };
  }

pub view_names_lem : ViewsHaveNames
view_names_lem files view slot name out original shows = view_cloned files view slot name out original shows
