-- The homes of all pages of files that filesets have: no more of them than the filesets have pages.
use Rattle.std.proofs.Common.{◌≡◌, ◌∙◌, ℕ, ◌+◌, ◌*◌, ◌/◌, ◌%◌, ◌<◌, ◌≤◌, Bool, true, false, cond, List, [], ◌∷◌, length, map as map_each, take, Contains, Option, Some, None, IfSome, IsSome, IsSomeAnd, refl, sym, ap, subst, arith}
use Rattle.std.proofs.lemmas.Bool.{true≢false}
use Rattle.std.proofs.lemmas.List.{length-append}
use Rattle.std.proofs.lemmas.List.Concat.{flat_map-cons}
use Rattle.std.proofs.lemmas.List.Elements.{Contains-append_right}
use Rattle.std.proofs.lemmas.List.Sums.{sum_by-cons}
use Rattle.std.specs.Cmp.{Equal-is}
use Rattle.std.specs.FinMap as map
use Rattle.std.specs.FinMap.{get, nat_cmp-IsAntisymmetric}
use Rattle.std.specs.FinMap.Entries.{find}
use Rattle.std.specs.List.{flat_map, sum_by}
use Rattle.std.specs.Option.{option_and_then, option_map, option_map_or}
use Rattle.std.specs.Ordering.{eq_by_cmp}
use Rattle.std.specs.declared.cmp.Ordering.{Ordering}
use Rattle.no_faults.specs.domain_base.declared.place.Home.{Home}
use Rattle.no_faults.specs.domain_base.declared.place.Kind.{Kind}
use Rattle.no_faults.specs.domain_base.declared.place.Kind.TheVariants as kind
use Rattle.no_faults.specs.domain_base.declared.place.Tag.{Tag}
use Rattle.no_faults.specs.page_store.Bitfiles.{Bitfile}
use Rattle.no_faults.specs.page_store.Pages.{Pages}
use Rattle.no_faults.specs.metadata_cells.Chain.{PlacedCell}
use Rattle.no_faults.specs.fileset_model.Filesets.{FilesetMap}
use Rattle.no_faults.specs.fileset_model.LooksLike.{IsShown as IsShownPath}
use Rattle.no_faults.specs.fileset_values.Orders.{Name, Path, name_cmp-IsAntisymmetric}
use Rattle.no_faults.specs.fileset_model.Paths.{is_out_of_sync}
use Rattle.no_faults.specs.fileset_model.declared.fileset.FilesetSlot.{FilesetSlot}
use Rattle.no_faults.specs.fileset_model.declared.fileset.Role.{Role}
use Rattle.no_faults.specs.fileset_model.declared.fileset.Role.TheVariants.{Original}
use Rattle.no_faults.specs.fileset_model.declared.node.Node.{Node}
use Rattle.no_faults.specs.fileset_model.declared.node.Node.TheVariants.{Directory, File}
use Rattle.no_faults.specs.fileset_table.Table.{Table, entry_of}
use Rattle.no_faults.specs.fileset_table.declared.slot.FilesetEntry.{FilesetEntry}
use Rattle.no_faults.specs.fileset_table.declared.slot.SlotItem.{SlotItem}
use Rattle.no_faults.specs.fileset_table.declared.slot.SlotItem.TheVariants as slot
use Rattle.no_faults.specs.legal_histories.Room.{page_count, present_pages}
use Rattle.no_faults.specs.domain_layout.CellRules.{of_clone}
use Rattle.no_faults.specs.domain_layout.DirectoryRules.{Has, IsInItem, IsInOriginal}
use Rattle.no_faults.specs.domain_layout.Filled.{Contents, Fills, FillsThere, IsFilled}
use Rattle.no_faults.specs.domain_layout.Seen.{SeenFile, seen_in}
use Rattle.no_faults.specs.domain_layout.Shape.{FilesetShape, IsOriginal, IsShapeOf, Shapes}
use Rattle.no_faults.proofs.OfDomainLayout.There.{chain_is, is_there}
use Rattle.no_faults.proofs.OfDomainLayout.OnePage.{HasOne, one_of, some_same}
use Rattle.no_faults.proofs.OfDomainLayout.OneTable.{one_in}
use Rattle.no_faults.specs.domain_standing.Domain.{DomainNow, item_in}
use Rattle.no_faults.specs.domain_standing.Standing.{StandsDomain}
use Rattle.no_faults.proofs.Originals.{IsOriginalSlot, is_role}
use Rattle.no_faults.proofs.Shown.{IsShown, original_shown}
use Rattle.domain_state.proofs.HomeLists.{found_in, listed_in}

-- ---- the list

-- a file of a fileset has its page there
pub record IsFileHome (pages : Pages) (table : Table) (home : Home) : Type 0 where
  pub number : ℕ
  pub tag : Tag
  pub cells : List PlacedCell
  pub seen : SeenFile
  pub page : ℕ
  pub has : Has pages table number tag cells seen
  pub kind : seen.is.kind ≡ kind.File
  pub at : seen.homes page ≡ Some home

-- the tag that has this number in a fileset
abbrev tag_of : ℕ → Tag
tag_of number = record { slot = number / 65536; seq = number % 65536 }

abbrev page_homes : Kind → Option Home → List Home
page_homes kind.File (Some home) = home ∷ []
page_homes kind.File None = []
page_homes kind.Directory home = []

abbrev seen_homes : Option SeenFile → ℕ → List Home
seen_homes None page = []
seen_homes (Some seen) page = page_homes seen.is.kind (seen.homes page)

abbrev node_homes : Option SeenFile → Node → List Home
node_homes seen (File uid gid size logged pages) = flat_map (λ p. seen_homes seen p.0) (map.entries pages)
node_homes seen (Directory uid gid) = []

abbrev slot_homes : Option FilesetShape → FilesetSlot → List Home
slot_homes None fileset = []
slot_homes (Some shape) fileset = flat_map (λ e. node_homes (shape.files (tag_of e.0)) e.1) (map.entries fileset.tree.nodes)

-- a home for each page that is there of a file of these filesets
abbrev pub file_homes : Shapes → FilesetMap → List Home
file_homes shapes all = flat_map (λ e. slot_homes (shapes e.0) e.1) (map.entries all)

-- ---- how many there are

few_listed : {X Y A : Type 0} (f : X → List A) (k : X → Y) (g : Y → ℕ) (xs : List X) → ((x : X) → length (f x) ≤ g (k x)) → length (flat_map f xs) ≤ sum_by g (map_each k xs)
few_listed f k g [] each = omega arith
few_listed f k g (x ∷ xs) each =
    let rest = few_listed f k g xs each in
    let all = ap length (flat_map-cons f x xs) ∙ length-append (f x) (flat_map f xs) in
    omega (arith, rest, all, each x, sum_by-cons g (k x) (map_each k xs))

one_each : {X A : Type 0} (f : X → List A) (xs : List X) → ((x : X) → length (f x) ≤ 1) → length (flat_map f xs) ≤ length xs
one_each f [] each = omega arith
one_each f (x ∷ xs) each =
    let rest = one_each f xs each in
    let all = ap length (flat_map-cons f x xs) ∙ length-append (f x) (flat_map f xs) in
    omega (arith, rest, all, each x)

one_home : (k : Kind) (o : Option Home) → length (page_homes k o) ≤ 1
one_home kind.File None = omega arith
one_home kind.File (Some home) = omega arith
one_home kind.Directory o = omega arith

one_page : (seen : Option SeenFile) (page : ℕ) → length (seen_homes seen page) ≤ 1
one_page None page = omega arith
one_page (Some seen) page = one_home seen.is.kind (seen.homes page)

few_of_node : (seen : Option SeenFile) (node : Node) → length (node_homes seen node) ≤ page_count node
few_of_node seen (Directory uid gid) = omega arith
few_of_node seen (File uid gid size logged pages) =
    let few = one_each (λ (p : ℕ × List ℕ). seen_homes seen p.0) (map.entries pages) (λ p. one_page seen p.0) in
    omega (arith, few, map.len-entries pages)

few_of_slot : (shape : Option FilesetShape) (fileset : FilesetSlot) → length (slot_homes shape fileset) ≤ sum_by page_count (map.values fileset.tree.nodes)
few_of_slot None fileset = omega arith
few_of_slot (Some shape) fileset =
    few_listed (λ (e : ℕ × Node). node_homes (shape.files (tag_of e.0)) e.1) (λ (e : ℕ × Node). e.1) page_count (map.entries fileset.tree.nodes) (λ e. few_of_node (shape.files (tag_of e.0)) e.1)

pub few : (shapes : Shapes) (all : FilesetMap) → length (file_homes shapes all) ≤ present_pages all
few shapes all =
    few_listed (λ (e : Name × FilesetSlot). slot_homes (shapes e.0) e.1) (λ (e : Name × FilesetSlot). e.1) (λ (s : FilesetSlot). sum_by page_count (map.values s.tree.nodes)) (map.entries all) (λ e. few_of_slot (shapes e.0) e.1)

-- ---- what a map has is among its entries

none_found : {P X : Type 0} (x : X) → None ≡ Some x → P
none_found x is = absurd (cc)

module _ {K X : Type 0} {R : K → K → Ordering} (a : map.IsAntisymmetric R) where
  found_among : (es : List (K × X)) (k : K) (v : X) → find R k es ≡ Some v → Contains es (k, v)
  found_among [] k v is = none_found v is
  found_among (e ∷ es) k v is = by_test (eq_by_cmp R k e.0) refl is (found_among es k v)
    where
      by_test : (b : Bool) → eq_by_cmp R k e.0 ≡ b → cond b (Some e.1) (find R k es) ≡ Some v → (find R k es ≡ Some v → Contains es (k, v)) → Contains (e ∷ es) (k, v)
      by_test true same here rest =
          let key : k ≡ e.0 = a k e.0 ((Equal-is (R k e.0)).0 same) in
          let value : e.1 ≡ v = some_same e.1 v here in
          (0, omega arith, λ i. (sym key i, value i))
      by_test false other later rest = Contains-append_right (e ∷ []) es (k, v) (rest later)

  pub entry_among : (m : map.FinMap R X) (k : K) (v : X) → get m k ≡ Some v → Contains (map.entries m) (k, v)
  entry_among m k v is = found_among (map.entries m) k v (sym (map.get-entries m k) ∙ is)

-- ---- each home of a file is listed

module _ (tag : Tag) (low : tag.seq < 65536) where
  same_tag : tag_of (65536 * tag.slot + tag.seq) ≡ tag
  same_tag =
      let slot : (65536 * tag.slot + tag.seq) / 65536 ≡ tag.slot = omega (arith, low) in
      let seq : (65536 * tag.slot + tag.seq) % 65536 ≡ tag.seq = omega (arith, low) in
      λ i. record { slot = slot i; seq = seq i }

one_listed : (k : Kind) (o : Option Home) (home : Home) → k ≡ kind.File → o ≡ Some home → Contains (page_homes k o) home
one_listed kind.File None home is at = none_found home at
one_listed kind.File (Some other) home is at = (0, omega arith, some_same other home at)
one_listed kind.Directory o home is at = absurd (cc)

seen_listed : (o : Option SeenFile) (seen : SeenFile) (page : ℕ) (home : Home) → o ≡ Some seen → seen.is.kind ≡ kind.File → seen.homes page ≡ Some home → Contains (seen_homes o page) home
seen_listed None seen page home is file at = none_found seen is
seen_listed (Some other) seen page home is file at =
    subst (λ (s : SeenFile). Contains (page_homes s.is.kind (s.homes page)) home) (sym (some_same other seen is)) (one_listed seen.is.kind (seen.homes page) home file at)

node_listed : (contents : Contents) (o : Option SeenFile) (seen : SeenFile) (node : Node) (page : ℕ) (home : Home) → IsFilled contents seen node → o ≡ Some seen → seen.is.kind ≡ kind.File → seen.homes page ≡ Some home
    → Contains (node_homes o node) home
node_listed contents o seen (Directory uid gid) page home filled is file at = let e : kind.File ≡ kind.Directory = sym file ∙ filled.0 in absurd (cc)
node_listed contents o seen (File uid gid size logged pages) page home filled is file at =
    let there : get pages page ≡ Some (contents home) = filled.5 page ∙ ap (option_map contents) at in
    listed_in (λ (p : ℕ × List ℕ). seen_homes o p.0) (map.entries pages) (page, contents home) home (entry_among nat_cmp-IsAntisymmetric pages page (contents home) there) (seen_listed o seen page home is file at)

-- nothing of an original is out of sync
original_path : (fileset : FilesetSlot) (path : Path) → fileset.role ≡ Original → IsShownPath fileset path
original_path fileset path original count less =
    ap (λ (r : Role). option_map_or (is_out_of_sync r) (get fileset.tree.paths (take count path)) false) original ∙ by_number (get fileset.tree.paths (take count path))
  where
    by_number : (o : Option ℕ) → option_map_or (is_out_of_sync Original) o false ≡ false
    by_number None = refl
    by_number (Some number) = refl

module _ (contents : Contents) (shape : FilesetShape) (fileset : FilesetSlot) (fills : Fills contents shape fileset) (original : fileset.role ≡ Original) where
  slot_listed : (tag : Tag) (seen : SeenFile) (page : ℕ) (home : Home) (file : Bitfile) → shape.shown tag ≡ Some file → shape.files tag ≡ Some seen → seen.is.kind ≡ kind.File → seen.homes page ≡ Some home
      → Contains (slot_homes (Some shape) fileset) home
  slot_listed tag seen page home file shown is of_kind at =
      let path = fills.names.live original tag file shown in
      let number : ℕ = 65536 * tag.slot + tag.seq in
      let node : HasOne (get fileset.tree.nodes number) (IsFilled contents seen) =
      one_of (get fileset.tree.nodes number) (IsFilled contents seen) (fills.files path.0 tag file.kind seen (original_path fileset path.0 original) path.1 is) in
      listed_in (λ (e : ℕ × Node). node_homes (shape.files (tag_of e.0)) e.1) (map.entries fileset.tree.nodes) (number, node.value) home (entry_among nat_cmp-IsAntisymmetric fileset.tree.nodes number node.value node.there)
      (node_listed contents (shape.files (tag_of number)) seen node.value page home node.is (ap shape.files (same_tag tag (fills.names.seq tag file shown)) ∙ is) of_kind at)

module _ (d : DomainNow) (all : FilesetMap) (stands : StandsDomain d all) where
  -- the original in a slot, and the name of its shape and of its fileset
  record IsNamed (number : ℕ) (entry : FilesetEntry) : Type 0 where
    original : IsOriginalSlot d all stands.slots number entry
    shaped : stands.slots.shapes entry.name ≡ Some original.shape
    filled : get all entry.name ≡ Some original.fileset

  named_so : (number : ℕ) (entry : FilesetEntry) → item_in d number ≡ Some (slot.Original entry) → IsNamed number entry
  named_so number entry there =
      let one : HasOne (stands.slots.shapes entry.name) (IsOriginal d.pages number entry) =
      one_of (stands.slots.shapes entry.name) (IsOriginal d.pages number entry) (stands.slots.are.each number (slot.Original entry) there) in
      let filled : HasOne (get all entry.name) (Fills d.contents one.value) =
      one_of (get all entry.name) (Fills d.contents one.value) (subst (λ o. FillsThere d.contents o (get all entry.name)) one.there (stands.slots.filled entry.name)) in
      record {
        original = record { shape = one.value; is = one.is; fileset = filled.value; fills = filled.is; set = stands.slots.sets number entry one.value there one.there };
        shaped = one.there;
        filled = filled.there;
      }

  module _ (tag : Tag) (cells : List PlacedCell) (seen : SeenFile) (of_kind : seen.is.kind ≡ kind.File) (page : ℕ) (home : Home) (at : seen.homes page ≡ Some home) where
    of_original : (number : ℕ) (entry : FilesetEntry) → item_in d number ≡ Some (slot.Original entry) → IsInOriginal d.pages entry tag cells seen → Contains (file_homes stands.slots.shapes all) home
    of_original number entry there is =
        let n = named_so number entry there in
        let o = n.original in
        let shown : IsShown d all stands number entry o tag cells seen = original_shown d all stands number entry there o tag cells seen is in
        let files : o.shape.files tag ≡ Some seen = o.is.files tag ∙ ap (option_and_then seen_in) (chain_is d.pages number entry o.is.chains o.is.has tag cells is.there) ∙ is.is in
        listed_in (λ (e : Name × FilesetSlot). slot_homes (stands.slots.shapes e.0) e.1) (map.entries all) (entry.name, o.fileset) home (entry_among name_cmp-IsAntisymmetric all entry.name o.fileset n.filled)
        (subst (λ (s : Option FilesetShape). Contains (slot_homes s o.fileset) home) (sym n.shaped)
        (slot_listed d.contents o.shape o.fileset o.fills (is_role d all stands.slots number entry o) tag seen page home shown.file shown.shown files of_kind at))

    of_item : (number : ℕ) (item : SlotItem) → item_in d number ≡ Some item → IsInItem d.pages d.table item tag cells seen → Contains (file_homes stands.slots.shapes all) home
    of_item number slot.Free there is = absurd is
    of_item number (slot.Removed first_tag quota) there is = absurd is
    of_item number (slot.Original entry) there is = of_original number entry there is
    of_item number (slot.Clone of clone entry) there is = absurd (true≢false (sym (ap of_clone there) ∙ stands.slots.no_clone number))

  pub listed : (home : Home) → IsFileHome d.pages d.table home → Contains (file_homes stands.slots.shapes all) home
  listed home is = of_item is.tag is.cells is.seen is.kind is.page home is.at is.number is.has.item is.has.there is.has.is

  -- ---- and nothing else is

  module _ (home : Home) where
    in_none : {P : Type 0} → Contains {X = Home} [] home → P
    in_none (k, within, is) = absurd (omega (arith, within))

    module _ (name : Name) (shape : FilesetShape) (shaped : stands.slots.shapes name ≡ Some shape) (tag : Tag) (seen : SeenFile) (is : shape.files tag ≡ Some seen) (of_kind : seen.is.kind ≡ kind.File) (page : ℕ) (at : seen.homes page ≡ Some home) where
      by_chain : (number : ℕ) (entry : FilesetEntry) → item_in d number ≡ Some (slot.Original entry) → (o : IsOriginal d.pages number entry shape) → (c : Option (List PlacedCell)) → o.chains tag ≡ c → option_and_then seen_in c ≡ Some seen
          → IsFileHome d.pages d.table home
      by_chain number entry there o None none sees = none_found seen sees
      by_chain number entry there o (Some cells) some sees = record {
        number = number;
        tag = tag;
        cells = cells;
        seen = seen;
        page = page;
        has = record { item = slot.Original entry; there = there; is = record { there = is_there d.pages number entry o.chains o.has tag cells some; is = sees } };
        kind = of_kind;
        at = at;
      }

      in_slot : (number : ℕ) (item : SlotItem) → item_in d number ≡ Some item → IsSomeAnd (entry_of item) (λ entry. entry.name ≡ name)
          → IfSome (entry_of item) (λ entry. IsShapeOf d.pages d.table number item (stands.slots.shapes entry.name)) → IsFileHome d.pages d.table home
      in_slot number slot.Free there named shapes = absurd named
      in_slot number (slot.Removed first_tag quota) there named shapes = absurd named
      in_slot number (slot.Original entry) there named shapes =
          let o : IsOriginal d.pages number entry shape = subst (λ o. IsSomeAnd o (IsOriginal d.pages number entry)) (ap stands.slots.shapes named ∙ shaped) shapes in
          by_chain number entry there o (o.chains tag) refl (sym (o.files tag) ∙ is)
      in_slot number (slot.Clone of clone entry) there named shapes = absurd (true≢false (sym (ap of_clone there) ∙ stands.slots.no_clone number))

      is_file_home : IsFileHome d.pages d.table home
      is_file_home =
          let found = stands.slots.are.only name (subst IsSome (sym shaped) refl) in
          in_slot found.number found.item found.there found.named (stands.slots.are.each found.number found.item found.there)

    module _ (name : Name) (shape : FilesetShape) (shaped : stands.slots.shapes name ≡ Some shape) where
      by_place : (tag : Tag) (seen : SeenFile) → shape.files tag ≡ Some seen → (page : ℕ) (k : Kind) (o : Option Home) → seen.is.kind ≡ k → seen.homes page ≡ o → Contains (page_homes k o) home → IsFileHome d.pages d.table home
      by_place tag seen is page kind.Directory o of_kind at among = in_none among
      by_place tag seen is page kind.File None of_kind at among = in_none among
      by_place tag seen is page kind.File (Some other) of_kind at among = is_file_home name shape shaped tag seen is of_kind page (at ∙ ap Some (sym (one_in other home among)))

      by_seen : (tag : Tag) (o : Option SeenFile) → shape.files tag ≡ o → (page : ℕ) → Contains (seen_homes o page) home → IsFileHome d.pages d.table home
      by_seen tag None is page among = in_none among
      by_seen tag (Some seen) is page among = by_place tag seen is page seen.is.kind (seen.homes page) refl refl among

      by_node : (number : ℕ) (node : Node) → Contains (node_homes (shape.files (tag_of number)) node) home → IsFileHome d.pages d.table home
      by_node number (Directory uid gid) among = in_none among
      by_node number (File uid gid size logged pages) among =
          let at = found_in (λ (p : ℕ × List ℕ). seen_homes (shape.files (tag_of number)) p.0) (map.entries pages) home among in
          by_seen (tag_of number) (shape.files (tag_of number)) refl at.of.0 at.there

    by_shape : (name : Name) (fileset : FilesetSlot) (o : Option FilesetShape) → stands.slots.shapes name ≡ o → Contains (slot_homes o fileset) home → IsFileHome d.pages d.table home
    by_shape name fileset None shaped among = in_none among
    by_shape name fileset (Some shape) shaped among =
        let at = found_in (λ (e : ℕ × Node). node_homes (shape.files (tag_of e.0)) e.1) (map.entries fileset.tree.nodes) home among in
        by_node name shape shaped at.of.0 at.of.1 at.there

  pub only_files : (home : Home) → Contains (file_homes stands.slots.shapes all) home → IsFileHome d.pages d.table home
  only_files home among =
      let at = found_in (λ (e : Name × FilesetSlot). slot_homes (stands.slots.shapes e.0) e.1) (map.entries all) home among in
      by_shape home at.of.0 at.of.1 (stands.slots.shapes at.of.0) refl at.there
