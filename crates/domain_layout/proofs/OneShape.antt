-- Pages of metadata have one shape.
use Rattle.std.proofs.Common.{◌≡◌, ◌∙◌, ℕ, Bool, true, false, cond, nat_lt, List, [], ◌∷◌, Option, Some, None, IfSome, IsSomeAnd, is_some, slice_get, refl, sym, ap, subst}
use Rattle.std.specs.Option.{option_and_then}
use Rattle.file_release.specs.domain_base.declared.place.CellAt.{CellAt}
use Rattle.file_release.specs.domain_base.declared.place.Home.{Home}
use Rattle.file_release.specs.domain_base.declared.place.Kind.{Kind}
use Rattle.file_release.specs.domain_base.declared.place.Tag.{Tag}
use Rattle.file_release.specs.page_store.Bitfiles.{Bitfile}
use Rattle.file_release.specs.page_store.Pages.{Pages}
use Rattle.file_release.specs.cell_records.declared.record.Record.{Record}
use Rattle.file_release.specs.metadata_cells.Cell.{Cell}
use Rattle.file_release.specs.metadata_cells.Chain.{LinksFrom, PlacedCell, StandsAt, Follow, records_of}
use Rattle.file_release.proofs.OfMetadataCells.Unique.{one_stands}
use Rattle.file_release.specs.tag_dirs.declared.dir.TagPlace.{TagPlace}
use Rattle.file_release.proofs.OfTagDirs.Reading.{same_directory}
use Rattle.file_release.specs.extent_maps.declared.run.PagePlace.{PagePlace}
use Rattle.file_release.specs.extent_maps.Runs.{Places, home_at}
use Rattle.file_release.specs.file_chains.Files.{places_of}
use Rattle.file_release.specs.fileset_files.Files.{AreFiles, Chains, is_removed}
use Rattle.file_release.specs.fileset_files.Shown.{ShowsAt}
use Rattle.file_release.specs.fileset_files.declared.attributes.Attributes.{Attributes}
use Rattle.file_release.proofs.OfFilesetFiles.Created.{one_chains}
use Rattle.file_release.proofs.OfFilesetFiles.Given.{one_follow}
use Rattle.file_release.proofs.OfFilesetFiles.ShownOnce.{same_each, show_once}
use Rattle.name_space.specs.fileset_values.Orders.{Name}
use Rattle.name_space.specs.fileset_values.declared.command.Owner.{Owner}
use Rattle.name_space.specs.fileset_model.declared.fileset.Limits.{Limits}
use Rattle.fileset_table.specs.Page.{IsTablePage}
use Rattle.fileset_table.specs.Table.{Table, entry_of}
use Rattle.fileset_table.specs.declared.slot.FilesetEntry.{FilesetEntry}
use Rattle.fileset_table.specs.declared.slot.SlotItem.{SlotItem}
use Rattle.fileset_table.specs.declared.slot.SlotItem.TheVariants as slots
use Rattle.fileset_table.proofs.Unique.{table_unique}
use Rattle.file_release.specs.Reading.{own_or, read_home}
use Rattle.domain_layout.specs.Seen.{IsOfClone, IsOwn, IsOwnUnless, IsSource, SeenFile, seen_in, source_of, frozen_of}
use Rattle.domain_layout.specs.Shape.{AreLimits, AreQuotas, AreShapesOf, FilesetShape, HasChains, HasFileset, HaveShapes, IsClone, IsOriginal, IsSameSeen, IsSameShape, IsSameShapeThere, IsSameThere, IsShapeOf, Shapes, ShowsSeen, ShowsSeenAt, limits_in, shown_at}

-- ---- lists

some_same : {X : Type 0} (a b : X) → Some a ≡ Some b → a ≡ b
some_same a b e = cc

-- ---- what is the same

same_itself : (o : Option SeenFile) → IsSameThere o o
same_itself None = refl
same_itself (Some seen) = record { is = refl; homes = λ page. refl }

same_by : (a b : Option SeenFile) → a ≡ b → IsSameThere a b
same_by a b same = subst (IsSameThere a) same (same_itself a)

-- ---- chains

chains_same : (pages : Pages) (number : ℕ) (entry : FilesetEntry) (a b : Chains) → HasChains pages number entry a → HasChains pages number entry b → (tag : Tag) → a tag ≡ b tag
chains_same pages number entry a b has also =
    let places = same_directory pages entry.first_tag has.places also.places has.directory also.directory in
    one_chains pages number also.places a b (subst (λ (p : List TagPlace). AreFiles number p pages a) places has.files) also.files

pub links_same : (pages : Pages) (at : CellAt) (xs ys : List PlacedCell) → LinksFrom pages at xs → LinksFrom pages at ys → xs ≡ ys
links_same pages at [] ys f g = absurd f
links_same pages at (x ∷ xs) [] f g = absurd g
links_same pages at (x ∷ xs) (y ∷ ys) f g =
    let place : x.at ≡ y.at = f.0 ∙ sym g.0 in
    let cell = one_stands pages y.at x.cell y.cell (subst (λ (a : CellAt). StandsAt pages a x.cell) place f.1.stands) g.1.stands in
    let rest = one_follow pages y.cell.head xs ys (subst (λ (c : Cell). Follow pages c.head xs) cell f.1.follow) g.1.follow in
    (λ i. record { at = place i; cell = cell i } ∷ rest i)

-- ---- limits

quotas_same : (pages : Pages) (at : Option CellAt) (xs ys : List Record) → AreQuotas pages at xs → AreQuotas pages at ys → xs ≡ ys
quotas_same pages None xs ys x y = x ∙ sym y
quotas_same pages (Some at) xs ys x y = x.2 ∙ ap records_of (links_same pages at x.0 y.0 x.1 y.1) ∙ sym y.2

limits_same : (pages : Pages) (entry : FilesetEntry) (a b : Owner → Limits) → AreLimits pages entry a → AreLimits pages entry b → (who : Owner) → a who ≡ b who
limits_same pages entry a b are also who =
    are.each who ∙ ap (λ records. limits_in entry records who) (quotas_same pages entry.quota are.records also.records are.quotas also.quotas) ∙ sym (also.each who)

-- ---- originals

original_same : (pages : Pages) (number : ℕ) (entry : FilesetEntry) (a b : FilesetShape) → IsOriginal pages number entry a → IsOriginal pages number entry b → IsSameShape a b
original_same pages number entry a b is also = record {
  original = is.none ∙ sym also.none;
  files = λ tag. same_by (a.files tag) (b.files tag) (is.files tag ∙ ap (option_and_then seen_in) (chains tag) ∙ sym (also.files tag));
  shown = show_once pages also.chains a.shown b.shown (λ tag. subst (λ o. ShowsAt pages o (a.shown tag)) (chains tag) (is.shown tag)) also.shown;
  limits = limits_same pages entry a.limits b.limits is.limits also.limits;
}
  where
    chains : (tag : Tag) → is.chains tag ≡ also.chains tag
    chains = chains_same pages number entry is.chains also.chains is.has also.has

-- ---- clones

source_same : (pages : Pages) (at : Option CellAt) (a b : Places) → IsSource pages at a → IsSource pages at b → (page : ℕ) → a page ≡ b page
source_same pages None a b is also page = is page ∙ sym (also page)
source_same pages (Some at) a b is also page = is.2 page ∙ ap (λ cells. places_of cells page) (links_same pages at is.0 also.0 is.1 also.1) ∙ sym (also.2 page)

read_same : (frozen : ℕ) (own a b : Places) (page : ℕ) → a page ≡ b page → read_home frozen own a page ≡ read_home frozen own b page
read_same frozen own a b page same = ap (λ (p : PagePlace). own_or (own page) (cond (nat_lt page frozen) (home_at p) None)) same

pub own_same : (pages : Pages) (cells : List PlacedCell) (a b : SeenFile) → IsOwn pages cells a → IsOwn pages cells b → IsSameSeen a b
own_same pages cells a b is also = record {
  is = some_same a.is b.is (sym is.is ∙ also.is);
  homes = λ page. is.homes page
      ∙ read_same (frozen_of cells) (places_of cells) is.source also.source page (source_same pages (source_of cells) is.source also.source is.through also.through page)
      ∙ sym (also.homes page);
}

of_clone_same : (pages : Pages) (clone : ℕ) (own behind : Option (List PlacedCell)) (a b : Option SeenFile) → IsOfClone pages clone own behind a → IsOfClone pages clone own behind b → IsSameThere a b
of_clone_same pages clone (Some own) behind a b is also = by_removed (is_removed own) a b is also
  where
    by_removed : (removed : Bool) (a b : Option SeenFile) → IsOwnUnless removed pages own a → IsOwnUnless removed pages own b → IsSameThere a b
    by_removed true a b is also = same_by a b (is ∙ sym also)
    by_removed false None b is also = absurd is
    by_removed false (Some a) None is also = absurd also
    by_removed false (Some a) (Some b) is also = own_same pages own a b is also
of_clone_same pages clone None behind a b is also = same_by a b (is ∙ sym also)

shown_page_same : (pages : Pages) (a b : SeenFile) → IsSameSeen a b → (kind : Kind) (number : ℕ) → shown_at pages a kind number ≡ shown_at pages b kind number
shown_page_same pages a b same Kind.Directory number = ap (option_and_then pages) (same.homes number)
shown_page_same pages a b same Kind.File number = refl

shown_same : (pages : Pages) (a b : SeenFile) → IsSameSeen a b → (one other : Bitfile) → ShowsSeen pages a one → ShowsSeen pages b other → one ≡ other
shown_same pages a b same one other is also =
    let kind : one.kind ≡ other.kind = is.what.kind ∙ ap (λ (x : Attributes). x.kind) same.is ∙ sym also.what.kind in
    let uid : one.uid ≡ other.uid = is.what.uid ∙ ap (λ (x : Attributes). x.uid) same.is ∙ sym also.what.uid in
    let gid : one.gid ≡ other.gid = is.what.gid ∙ ap (λ (x : Attributes). x.gid) same.is ∙ sym also.what.gid in
    let links : one.links ≡ other.links = is.what.links ∙ ap (λ (x : Attributes). x.links) same.is ∙ sym also.what.links in
    let list : one.pages ≡ other.pages = same_each one.pages other.pages (λ k.
    is.each k ∙ ap (λ of. shown_at pages a of k) kind ∙ shown_page_same pages a b same other.kind k ∙ sym (also.each k)) in
    let index : one.index ≡ other.index = is.index ∙ sym also.index in
    (λ i. record { kind = kind i; uid = uid i; gid = gid i; links = links i; pages = list i; index = index i })

shown_there_same : (pages : Pages) (a b : Option SeenFile) → IsSameThere a b → (one other : Option Bitfile) → ShowsSeenAt pages a one → ShowsSeenAt pages b other → one ≡ other
shown_there_same pages None b same one other is also = is ∙ sym (subst (λ o. ShowsSeenAt pages o other) same also)
shown_there_same pages (Some a) None same one other is also = absurd same
shown_there_same pages (Some a) (Some b) same None other is also = absurd is
shown_there_same pages (Some a) (Some b) same (Some one) None is also = absurd also
shown_there_same pages (Some a) (Some b) same (Some one) (Some other) is also = ap Some (shown_same pages a b same one other is also)

clone_same : (pages : Pages) (number of : ℕ) (entry original : FilesetEntry) (clone : ℕ) (a b : FilesetShape) → IsClone pages number of entry original clone a → IsClone pages number of entry original clone b → IsSameShape a b
clone_same pages number of entry original clone a b is also = record {
  original = is.named ∙ sym also.named;
  files = files;
  shown = λ tag. shown_there_same pages (a.files tag) (b.files tag) (files tag) (a.shown tag) (b.shown tag) (is.shown tag) (also.shown tag);
  limits = limits_same pages entry a.limits b.limits is.limits also.limits;
}
  where
    files : (tag : Tag) → IsSameThere (a.files tag) (b.files tag)
    files tag = of_clone_same pages clone (also.chains tag) (also.behind tag) (a.files tag) (b.files tag)
        (subst (λ o. IsOfClone pages clone o (also.behind tag) (a.files tag)) (chains_same pages number entry is.chains also.chains is.has also.has tag)
        (subst (λ o. IsOfClone pages clone (is.chains tag) o (a.files tag)) (chains_same pages of original is.behind also.behind is.has_behind also.has_behind tag) (is.files tag)))
        (also.files tag)

-- ---- slots

slot_same : (pages : Pages) (table : Table) (number : ℕ) (item : SlotItem) (a b : Option FilesetShape) → IsShapeOf pages table number item a → IsShapeOf pages table number item b → IsSameShapeThere a b
slot_same pages table number slots.Free a b is also = subst (λ o. IsSameShapeThere o b) (sym is) also
slot_same pages table number (slots.Removed first_tag quota) a b is also = subst (λ o. IsSameShapeThere o b) (sym is) also
slot_same pages table number (slots.Original entry) None b is also = absurd is
slot_same pages table number (slots.Original entry) (Some a) None is also = absurd also
slot_same pages table number (slots.Original entry) (Some a) (Some b) is also = original_same pages number entry a b is also
slot_same pages table number (slots.Clone of clone entry) a b is also = by_original (option_and_then entry_of (slice_get table.slots of)) is also
  where
    by_shape : (original : FilesetEntry) (a b : Option FilesetShape) → IsSomeAnd a (IsClone pages number of entry original clone) → IsSomeAnd b (IsClone pages number of entry original clone) → IsSameShapeThere a b
    by_shape original None b is also = absurd is
    by_shape original (Some a) None is also = absurd also
    by_shape original (Some a) (Some b) is also = clone_same pages number of entry original clone a b is also

    by_original : (o : Option FilesetEntry) → IsSomeAnd o (λ original. IsSomeAnd a (IsClone pages number of entry original clone)) → IsSomeAnd o (λ original. IsSomeAnd b (IsClone pages number of entry original clone)) → IsSameShapeThere a b
    by_original None is also = absurd is
    by_original (Some original) is also = by_shape original a b is also

-- ---- all

-- the shape of a fileset that the table has
in_table : (pages : Pages) (table : Table) (shapes : Shapes) (name : Name) → AreShapesOf pages table shapes → (has : HasFileset table name) → IsShapeOf pages table has.number has.item (shapes name)
in_table pages table shapes name are has = by_entry (entry_of has.item) has.named (are.each has.number has.item has.there)
  where
    by_entry : (o : Option FilesetEntry) → IsSomeAnd o (λ entry. entry.name ≡ name) → IfSome o (λ entry. IsShapeOf pages table has.number has.item (shapes entry.name)) → IsShapeOf pages table has.number has.item (shapes name)
    by_entry None named each = absurd named
    by_entry (Some entry) named each = subst (λ n. IsShapeOf pages table has.number has.item (shapes n)) named each

same_in : (pages : Pages) (table : Table) (a b : Shapes) → AreShapesOf pages table a → AreShapesOf pages table b → (name : Name) → IsSameShapeThere (a name) (b name)
same_in pages table a b are also name = by_shapes (a name) (b name) refl refl
  where
    by_shapes : (x y : Option FilesetShape) → a name ≡ x → b name ≡ y → IsSameShapeThere x y
    by_shapes None None is_x is_y = refl
    by_shapes None (Some y) is_x is_y =
        let has = also.only name (ap is_some is_y) in
        subst (λ o. IsSameShapeThere o (Some y)) is_x (subst (IsSameShapeThere (a name)) is_y (slot_same pages table has.number has.item (a name) (b name) (in_table pages table a name are has) (in_table pages table b name also has)))
    by_shapes (Some x) y is_x is_y =
        let has = are.only name (ap is_some is_x) in
        subst (λ o. IsSameShapeThere o y) is_x (subst (IsSameShapeThere (a name)) is_y (slot_same pages table has.number has.item (a name) (b name) (in_table pages table a name are has) (in_table pages table b name also has)))

pub one_shape : (pages : Pages) (home : Home) (a b : Shapes) (name : Name) → HaveShapes pages home a → HaveShapes pages home b → IsSameShapeThere (a name) (b name)
one_shape pages home a b name have also = same_in pages also.table a b (subst (λ (t : Table). AreShapesOf pages t a) tables have.are) also.are name
  where
    by_page : (o : Option (List ℕ)) → IsSomeAnd o (λ page. IsTablePage page have.table) → IsSomeAnd o (λ page. IsTablePage page also.table) → have.table ≡ also.table
    by_page None is was = absurd is
    by_page (Some page) is was = table_unique page have.table also.table is was

    tables : have.table ≡ also.table
    tables = by_page (pages home) have.there also.there
