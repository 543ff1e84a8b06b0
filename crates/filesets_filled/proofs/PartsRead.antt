-- Rows and nodes, file after file, and what they are of a set that shows the files.
use Rattle.std.proofs.Common.{◌≡◌, ◌∙◌, ◌⊎◌, inl, inr, ⊎_elim, ℕ, zero, suc, ◌+◌, ◌<◌, Bool, true, false, cond, List, [], ◌∷◌, ◌++◌, length, map, Option, Some, None, IfSome, IsSomeAnd, is_some, slice_get, unwrap_or, refl, sym, ap, subst, arith, length-append}
use Rattle.std.proofs.lemmas.Option.{slice_get_within}
use Rattle.std.specs.List.{AllByRecursion, cons_option}
use Rattle.std.specs.Option.{option_and_then, option_map, option_map_or}
use Rattle.fileset_shapes.specs.domain_base.declared.place.Home.{Home}
use Rattle.fileset_shapes.specs.domain_base.declared.place.Kind.{Kind}
use Rattle.fileset_shapes.specs.domain_base.declared.place.Kind.TheVariants.{Directory, File}
use Rattle.fileset_shapes.specs.domain_base.declared.place.Tag.{Tag}
use Rattle.fileset_shapes.specs.page_store.Bitfiles.{Bitfile, Bitfiles, IsDirectory, same_tag}
use Rattle.fileset_shapes.specs.page_store.Pages.{AreWhole, Pages}
use Rattle.fileset_shapes.specs.directory_pages.RowPage.{IsDirPage, rows_of}
use Rattle.fileset_shapes.specs.directory_pages.declared.row.Row.{Row}
use Rattle.fileset_shapes.specs.directory_rows.Directory.{all_rows, row_pages, rows_in}
use Rattle.fileset_shapes.proofs.OfLegalHistories.ValidLemmas.{from_some_and, some_inj, to_some_and}
use Rattle.fileset_shapes.specs.legal_histories.Valid.{HasWholePages}
use Rattle.fileset_shapes.specs.fileset_model.declared.node.Node.{Node}
use Rattle.fileset_shapes.specs.fileset_model.declared.node.Node.TheVariants as node
use Rattle.fileset_shapes.specs.domain_layout.Filled.{IsFilled}
use Rattle.fileset_shapes.specs.domain_layout.Read.{contents_of}
use Rattle.fileset_shapes.specs.filesets_reading.Seen.{home_in}
use Rattle.fileset_shapes.specs.name_space.Names.{IsNodeOf}
use Rattle.fileset_shapes.proofs.OfNameSpace.Originals.{tag_itself, tags_same}
use Rattle.fileset_shapes.specs.directory_rows.Stored.{rows_of_homes}
use Rattle.fileset_shapes.specs.directory_rows.Ways.{rows_by}
use Rattle.fileset_shapes.proofs.OfDirectoryRows.AllLed.{at_contains}
use Rattle.fileset_shapes.specs.name_space.Parts.{AreNodesOf, IsNodeFor, IsNodeThere, node_in}
use Rattle.fileset_shapes.specs.name_space.declared.parts.TaggedNode.{TaggedNode}
use Rattle.fileset_shapes.specs.Found.{HaveOwnTags, IsStored, file_at, pages_at, shown_by, shown_pages}
use Rattle.fileset_shapes.specs.declared.found.TaggedFile.{TaggedFile}
use Rattle.filesets_filled.specs.Parts.{HasRowPages, IsNodeSeen, directory_seen, rows_if, rows_seen}

none_is_some : {P X : Type 0} (x : X) → None ≡ Some x → P
none_is_some x is = absurd (cc)

-- ---- file after file

pub record AreNodesUpTo (pages : Pages) (files : List TaggedFile) (count : ℕ) (nodes : List TaggedNode) : Type 0 where
  pub long : length nodes ≡ count
  pub each : (k : ℕ) (file : TaggedFile) (one : TaggedNode) → slice_get files k ≡ Some file → slice_get nodes k ≡ Some one → IsNodeSeen pages file one

pub nodes_first : (pages : Pages) (files : List TaggedFile) → AreNodesUpTo pages files 0 []
nodes_first pages files = record { long = refl; each = λ k file one at at'. none_is_some one at' }

-- what stands in a list with one more
pushed_at : {X : Type 0} (xs : List X) (y : X) (k : ℕ) (z : X) → slice_get (xs ++ y ∷ []) k ≡ Some z → (slice_get xs k ≡ Some z) ⊎ ((k ≡ length xs) × (y ≡ z))
pushed_at [] y zero z is = inr (refl, some_inj is)
pushed_at [] y (suc k) z is = none_is_some z is
pushed_at (x ∷ xs) y zero z is = inl is
pushed_at (x ∷ xs) y (suc k) z is = ⊎_elim (λ front. inl front) (λ last. inr (ap suc last.0, last.1)) (pushed_at xs y k z is)

pub nodes_more : (pages : Pages) (files : List TaggedFile) (count : ℕ) (nodes : List TaggedNode) → AreNodesUpTo pages files count nodes → (file : TaggedFile) → slice_get files count ≡ Some file
    → (one : TaggedNode) → IsNodeSeen pages file one → AreNodesUpTo pages files (count + 1) (nodes ++ one ∷ [])
nodes_more pages files count nodes are file there one is = record {
  long = length-append nodes (one ∷ []) ∙ ap (λ n. n + 1) are.long;
  each = λ k f n at at'. ⊎_elim (λ front. are.each k f n at front)
      (λ last.
      let same : file ≡ f = some_inj (sym there ∙ ap (slice_get files) (sym are.long ∙ sym last.0) ∙ at) in
      subst (λ (g : TaggedFile). IsNodeSeen pages g n) same (subst (IsNodeSeen pages file) last.1 is))
      (pushed_at nodes one k n at');
}

-- ---- rows

-- the rows of a tag are those of its file
pub rows_by_file : (pages : Pages) (files : List TaggedFile) (tag : Tag) → rows_by (map (directory_seen pages) files) tag ≡ option_map_or (rows_seen pages) (file_at files tag) []
rows_by_file pages [] tag = refl
rows_by_file pages (file ∷ files) tag = by_test (same_tag file.tag tag) (rows_by_file pages files tag)
  where
    by_test : (b : Bool) → rows_by (map (directory_seen pages) files) tag ≡ option_map_or (rows_seen pages) (file_at files tag) []
        → cond b (rows_seen pages file) (rows_by (map (directory_seen pages) files) tag) ≡ option_map_or (rows_seen pages) (cond b (Some file) (file_at files tag)) []
    by_test true rest = refl
    by_test false rest = rest

-- the rows of pages at homes
all_at : (pages : Pages) (homes : List (Option Home)) → all_rows (pages_at pages homes) ≡ rows_of_homes pages homes
all_at pages [] = refl
all_at pages (home ∷ homes) = by_page (option_and_then pages home) (all_at pages homes)
  where
    by_page : (o : Option (List ℕ)) → all_rows (pages_at pages homes) ≡ rows_of_homes pages homes
        → all_rows (cons_option o (pages_at pages homes)) ≡ option_map_or rows_of o [] ++ rows_of_homes pages homes
    by_page None rest = rest
    by_page (Some page) rest = ap (λ (rs : List Row). rows_of page ++ rs) rest

shown_rows : (pages : Pages) (homes : List (Option Home)) (of : Kind) → all_rows (shown_pages pages homes of) ≡ rows_if pages homes of
shown_rows pages homes Directory = all_at pages homes
shown_rows pages homes File = refl

-- what stands at a home is among the pages at homes
page_among : (pages : Pages) (homes : List (Option Home)) (k : ℕ) (home : Option Home) (page : List ℕ) → slice_get homes k ≡ Some home → option_and_then pages home ≡ Some page
    → (P : List ℕ → Type 0) → AllByRecursion P (pages_at pages homes) → P page
page_among pages [] k home page at is P all = none_is_some home at
page_among pages (h ∷ homes) zero home page at is P all = first (option_and_then pages h) (ap (option_and_then pages) (some_inj at) ∙ is) all
  where
    first : (o : Option (List ℕ)) → o ≡ Some page → AllByRecursion P (cons_option o (pages_at pages homes)) → P page
    first None none all = none_is_some page none
    first (Some p) same all = subst P (some_inj same) all.0
page_among pages (h ∷ homes) (suc k) home page at is P all = rest (option_and_then pages h) all (λ more. page_among pages homes k home page at is P more)
  where
    rest : (o : Option (List ℕ)) → AllByRecursion P (cons_option o (pages_at pages homes)) → (AllByRecursion P (pages_at pages homes) → P page) → P page
    rest None all again = again all
    rest (Some p) all again = again all.1

-- ---- tags

pub file_is : (files : List TaggedFile) (tag : Tag) (file : TaggedFile) → file_at files tag ≡ Some file → (k : ℕ) × (slice_get files k ≡ Some file) × (file.tag ≡ tag)
file_is [] tag file is = none_is_some file is
file_is (f ∷ files) tag file is = by_test (same_tag f.tag tag) refl is (file_is files tag file)
  where
    by_test : (b : Bool) → same_tag f.tag tag ≡ b → cond b (Some f) (file_at files tag) ≡ Some file → (file_at files tag ≡ Some file → (k : ℕ) × (slice_get files k ≡ Some file) × (file.tag ≡ tag))
        → (k : ℕ) × (slice_get (f ∷ files) k ≡ Some file) × (file.tag ≡ tag)
    by_test true same here later = (0, here, ap (λ (g : TaggedFile). g.tag) (sym (some_inj here)) ∙ tags_same f.tag tag same)
    by_test false other there later = let l = later there in (suc l.0, l.1, l.2)

-- the file with the tag of one that stands in the list, if no tag stands twice
pub file_once : (files : List TaggedFile) → HaveOwnTags files → (k : ℕ) (file : TaggedFile) → slice_get files k ≡ Some file → file_at files file.tag ≡ Some file
file_once [] own k file at = none_is_some file at
file_once (f ∷ files) own zero file at =
    ap (λ b. cond b (Some f) (file_at files file.tag)) (ap (λ (g : TaggedFile). same_tag g.tag file.tag) (some_inj at) ∙ tag_itself file.tag) ∙ at
file_once (f ∷ files) own (suc k) file at = by_test (same_tag f.tag file.tag) refl (file_once files (λ i j a b x y same. let e = own (suc i) (suc j) a b x y same in omega (arith, e)) k file at)
  where
    by_test : (b : Bool) → same_tag f.tag file.tag ≡ b → file_at files file.tag ≡ Some file → cond b (Some f) (file_at files file.tag) ≡ Some file
    by_test true same rest = let e = own 0 (suc k) f file refl at (tags_same f.tag file.tag same) in absurd (omega (arith, e))
    by_test false other rest = rest

-- a node is that of a file, and there is none where no file is
abbrev pub IsNodeAt : Pages → Option TaggedFile → Option TaggedNode → Type 0
IsNodeAt pages None found = found ≡ None
IsNodeAt pages (Some file) found = IsSomeAnd found (IsNodeSeen pages file)

-- the node of a tag is that of its file
pub node_of_file : (pages : Pages) (files : List TaggedFile) (nodes : List TaggedNode) → length nodes ≡ length files
    → ((k : ℕ) (file : TaggedFile) (one : TaggedNode) → slice_get files k ≡ Some file → slice_get nodes k ≡ Some one → IsNodeSeen pages file one)
    → (tag : Tag) → IsNodeAt pages (file_at files tag) (node_in nodes tag)
node_of_file pages [] [] long each tag = refl
node_of_file pages [] (one ∷ nodes) long each tag = absurd (omega (arith, long))
node_of_file pages (file ∷ files) [] long each tag = absurd (omega (arith, long))
node_of_file pages (file ∷ files) (one ∷ nodes) long each tag =
    let first = each 0 file one refl refl in
    let rest = node_of_file pages files nodes (omega (arith, long)) (λ k f n at at'. each (suc k) f n at at') tag in
    subst (λ (t : Tag). IsNodeAt pages (cond (same_tag file.tag tag) (Some file) (file_at files tag)) (cond (same_tag t tag) (Some one) (node_in nodes tag))) (sym first.tag)
    (by_test (same_tag file.tag tag) first rest)
  where
    by_test : (b : Bool) → IsNodeSeen pages file one → IsNodeAt pages (file_at files tag) (node_in nodes tag)
        → IsNodeAt pages (cond b (Some file) (file_at files tag)) (cond b (Some one) (node_in nodes tag))
    by_test true first rest = first
    by_test false first rest = rest

-- the first node with the tag of one that stands in the list, if no tag stands twice
pub node_once : (nodes : List TaggedNode) → ((i j : ℕ) (a b : TaggedNode) → slice_get nodes i ≡ Some a → slice_get nodes j ≡ Some b → a.tag ≡ b.tag → i ≡ j)
    → (k : ℕ) (one : TaggedNode) → slice_get nodes k ≡ Some one → node_in nodes one.tag ≡ Some one
node_once [] own k one at = none_is_some one at
node_once (n ∷ nodes) own zero one at =
    ap (λ b. cond b (Some n) (node_in nodes one.tag)) (ap (λ (x : TaggedNode). same_tag x.tag one.tag) (some_inj at) ∙ tag_itself one.tag) ∙ at
node_once (n ∷ nodes) own (suc k) one at = by_test (same_tag n.tag one.tag) refl (node_once nodes (λ i j a b x y same. let e = own (suc i) (suc j) a b x y same in omega (arith, e)) k one at)
  where
    by_test : (b : Bool) → same_tag n.tag one.tag ≡ b → node_in nodes one.tag ≡ Some one → cond b (Some n) (node_in nodes one.tag) ≡ Some one
    by_test true same rest = let e = own 0 (suc k) n one refl at (tags_same n.tag one.tag same) in absurd (omega (arith, e))
    by_test false other rest = rest

past : (fs : List TaggedFile) (k : ℕ) → slice_get fs k ≡ None → ¬ k < length fs
past [] k is within = omega (arith, within)
past (f ∷ fs) zero is within = none_is_some f (sym is)
past (f ∷ fs) (suc k) is within = past fs k is (omega (arith, within))

-- ---- of a set that shows the files

-- a node is that of the file as a set shows it
whole_node : (pages : Pages) → AreWhole pages → (file : TaggedFile) → IsStored pages file → (n : Node) → IsFilled (contents_of pages) (record { is = file.seen.is; homes = home_in file.seen.homes.items }) n → HasWholePages n
whole_node pages whole file stored (node.Directory uid gid) filled = tt
whole_node pages whole file stored (node.File uid gid size logged content) filled = λ q page is. by_home q page (home_in file.seen.homes.items q) refl (sym (filled.5 q) ∙ is)
  where
    by_page : (home : Home) (page : List ℕ) (o : Option (List ℕ)) → pages home ≡ o → is_some o ≡ true → unwrap_or o [] ≡ page → length page ≡ 8192
    by_page home page None none some same = absurd cc
    by_page home page (Some bytes) there some same = ap (λ (b : List ℕ). length b) (sym same) ∙ subst (λ o. IfSome o (λ b. length b ≡ 8192)) there (whole home)

    by_slice : (q : ℕ) (home : Home) (o : Option (Option Home)) → slice_get file.seen.homes.items q ≡ o → option_and_then (λ h. h) o ≡ Some home → slice_get file.seen.homes.items q ≡ Some (Some home)
    by_slice q home None none is = none_is_some home is
    by_slice q home (Some h) at is = at ∙ ap Some is

    by_home : (q : ℕ) (page : List ℕ) (o : Option Home) → home_in file.seen.homes.items q ≡ o → option_map (contents_of pages) o ≡ Some page → (q < 65536) × (length page ≡ 8192)
    by_home q page None none is = none_is_some page is
    by_home q page (Some home) at is =
        let there = by_slice q home (slice_get file.seen.homes.items q) refl at in
        let within = slice_get_within file.seen.homes.items q (Some home) there in
        (omega (arith, within, stored.few), by_page home page (pages home) refl (stored.stored q home there) (some_inj is))

node_shown : (pages : Pages) (file : TaggedFile) (n : Node) → IsFilled (contents_of pages) (record { is = file.seen.is; homes = home_in file.seen.homes.items }) n → IsNodeOf (shown_by pages file) n
node_shown pages file (node.File uid gid size logged content) filled = (filled.0, filled.1, filled.2)
node_shown pages file (node.Directory uid gid) filled = filled

pub node_for_shown : (pages : Pages) → AreWhole pages → (file : TaggedFile) → IsStored pages file → (one : TaggedNode) → IsNodeSeen pages file one → IsNodeFor (shown_by pages file) one
node_for_shown pages whole file stored one is =
    let filled = is.filled (record { is = file.seen.is; homes = home_in file.seen.homes.items }) (record { is = refl; homes = λ page. refl }) in
    record { is = node_shown pages file one.node filled; links = is.links; whole = whole_node pages whole file stored one.node filled }

-- the set that shows files
module _ (pages : Pages) (whole : AreWhole pages) (files : List TaggedFile) (shown : Bitfiles) (shows : (tag : Tag) → shown tag ≡ option_map (shown_by pages) (file_at files tag)) where
  pub rows_shown : (tag : Tag) → option_map_or (rows_seen pages) (file_at files tag) [] ≡ rows_in shown tag
  rows_shown tag = by_file (file_at files tag) ∙ sym (ap (λ (o : Option Bitfile). all_rows (option_map_or (λ (f : Bitfile). f.pages) o [])) (shows tag))
    where
      by_file : (o : Option TaggedFile) → option_map_or (rows_seen pages) o [] ≡ all_rows (option_map_or (λ (f : Bitfile). f.pages) (option_map (shown_by pages) o) [])
      by_file None = refl
      by_file (Some file) = sym (shown_rows pages file.seen.homes.items file.seen.is.kind)

  pub row_pages_good : (file : TaggedFile) → file_at files file.tag ≡ Some file → ((dir : Tag) → IsDirectory shown dir → AllByRecursion IsDirPage (row_pages shown dir)) → HasRowPages pages file
  row_pages_good file at good kind = λ number home there. by_page number home there (option_and_then pages home) refl
    where
      is : shown file.tag ≡ Some (shown_by pages file)
      is = shows file.tag ∙ ap (option_map (shown_by pages)) at

      all : AllByRecursion IsDirPage (pages_at pages file.seen.homes.items)
      all = subst (λ k. AllByRecursion IsDirPage (shown_pages pages file.seen.homes.items k)) kind
          (subst (λ (o : Option Bitfile). AllByRecursion IsDirPage (option_map_or (λ (f : Bitfile). f.pages) o [])) is
          (good file.tag (to_some_and (λ (f : Bitfile). f.kind ≡ Directory) (shown file.tag) (shown_by pages file) is kind)))

      by_page : (number : ℕ) (home : Option Home) → slice_get file.seen.homes.items number ≡ Some home → (o : Option (List ℕ)) → option_and_then pages home ≡ o → IfSome o IsDirPage
      by_page number home there None none = tt
      by_page number home there (Some page) at = page_among pages file.seen.homes.items number home page there at IsDirPage all

  module _ (stored : (k : ℕ) (file : TaggedFile) → slice_get files k ≡ Some file → IsStored pages file) (own : HaveOwnTags files) (nodes : List TaggedNode) (long : length nodes ≡ length files)
      (each : (k : ℕ) (file : TaggedFile) (one : TaggedNode) → slice_get files k ≡ Some file → slice_get nodes k ≡ Some one → IsNodeSeen pages file one) where
    pub are_nodes : AreNodesOf shown nodes
    are_nodes = record {
      each = λ tag. subst (λ o. IsNodeThere o (node_in nodes tag)) (sym (shows tag)) (by_file tag (file_at files tag) refl (node_of_file pages files nodes long each tag));
      once = λ one among.
          let k = at_contains nodes one among in
          node_once nodes same_place k.0 one k.1;
    }
      where
        by_file : (tag : Tag) (o : Option TaggedFile) → file_at files tag ≡ o → IsNodeAt pages o (node_in nodes tag) → IsNodeThere (option_map (shown_by pages) o) (node_in nodes tag)
        by_file tag None none is = is
        by_file tag (Some file) at is =
            let f = file_is files tag file at in
            let one = from_some_and (IsNodeSeen pages file) (node_in nodes tag) is in
            to_some_and (IsNodeFor (shown_by pages file)) (node_in nodes tag) one.0 one.1 (node_for_shown pages whole file (stored f.0 file f.1) one.0 one.2)

        file_there : (k : ℕ) (one : TaggedNode) → slice_get nodes k ≡ Some one → (file : TaggedFile) × (slice_get files k ≡ Some file)
        file_there k one at = by_slice (slice_get files k) refl
          where
            by_slice : (o : Option TaggedFile) → slice_get files k ≡ o → (file : TaggedFile) × (slice_get files k ≡ Some file)
            by_slice (Some file) is = (file, is)
            by_slice None is = let within = slice_get_within nodes k one at in absurd (past files k is (omega (arith, within, long)))

        same_place : (i j : ℕ) (a b : TaggedNode) → slice_get nodes i ≡ Some a → slice_get nodes j ≡ Some b → a.tag ≡ b.tag → i ≡ j
        same_place i j a b at at' same =
            let f = file_there i a at in
            let g = file_there j b at' in
            own i j f.0 g.0 f.1 g.1 (sym (each i f.0 a f.1 at).tag ∙ same ∙ (each j g.0 b g.1 at').tag)
