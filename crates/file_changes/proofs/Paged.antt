-- The pages of a file's node, by what is told of its pages in memory.
use Rattle.std.proofs.Common.{◌≡◌, ◌∙◌, ◌-◌, ◌<◌, ◌≤◌, ℕ, Bool, true, false, cond, count_by, map, min, nat_lt, not, ◌+◌, List, [], Option, Some, None, IsSome, IsSomeAnd, is_some, slice_get, unwrap_or, refl, sym, ap, arith, subst, lt-ltb, true≢false, ⊎_elim}
use Rattle.std.proofs.lemmas.Bool.{cases_lt, le-ltb}
use Rattle.std.specs.FinMap.{contains_key, empty, get, get-empty}
use Rattle.std.specs.List.{range_with_len}
use Rattle.std.specs.Option.{option_and_then, option_map, option_map_or}
use Rattle.std.specs.Ordering.{nat_cmp}
use Rattle.domain_memory.specs.domain_base.Limits.{file_pages}
use Rattle.domain_memory.specs.domain_base.declared.place.Home.{Home}
use Rattle.domain_memory.specs.domain_base.declared.place.Kind.TheVariants as kind
use Rattle.domain_memory.specs.domain_base.declared.place.Tag.{Tag}
use Rattle.domain_memory.specs.metadata_cells.Chain.{PlacedCell}
use Rattle.domain_memory.specs.extent_maps.Runs.{home_at}
use Rattle.domain_memory.specs.extent_maps.declared.run.PagePlace.{PagePlace}
use Rattle.domain_memory.specs.extent_maps.declared.run.PagePlace.TheVariants.{Absent, At, Hole}
use Rattle.domain_memory.specs.extent_records.Writing.{places_before}
use Rattle.domain_memory.specs.file_chains.Files.{places_of}
use Rattle.domain_memory.specs.fileset_files.declared.attributes.Attributes.{Attributes}
use Rattle.domain_memory.specs.fileset_files.Files.{Chains, attributes_of, keep_of, of_live, place_at}
use Rattle.domain_memory.specs.fileset_files.Pages.{MayGrow}
use Rattle.domain_memory.specs.legal_histories.Valid.{HasWholePages}
use Rattle.domain_memory.proofs.OfFilesetModel.PageLemmas.{count_by-range_with_len_more}
use Rattle.domain_memory.specs.fileset_model.Apply.{read_of}
use Rattle.domain_memory.specs.fileset_model.Filesets.{FilesetMap}
use Rattle.domain_memory.specs.fileset_values.Orders.{Path}
use Rattle.domain_memory.specs.fileset_model.Pages.{byte_at}
use Rattle.domain_memory.specs.fileset_model.Paths.{node_at}
use Rattle.domain_memory.specs.fileset_model.declared.fileset.FilesetSlot.{FilesetSlot}
use Rattle.domain_memory.specs.fileset_model.declared.node.Node.{Node}
use Rattle.domain_memory.specs.fileset_model.declared.node.Node.TheVariants as node
use Rattle.domain_memory.specs.fileset_values.declared.reply.Reply.TheVariants.{Read}
use Rattle.domain_memory.specs.fileset_table.declared.slot.FilesetEntry.{FilesetEntry}
use Rattle.domain_memory.proofs.OfReleaseList.Spread.{none_not, some_same}
use Rattle.domain_memory.specs.domain_layout.CellRules.{of_original}
use Rattle.domain_memory.specs.domain_layout.Filled.{Contents, IsFilled}
use Rattle.domain_memory.specs.staged_pages.Store.{pages_of}
use Rattle.domain_memory.specs.Staged.{IsStagedForSome, staged_in}
use Rattle.domain_memory.specs.declared.memory.DomainMemory.{DomainMemory}
use Rattle.file_changes.proofs.Changed.{around_file}
use Rattle.file_changes.proofs.Node.{node_of}
use Rattle.file_changes.proofs.Stood.{stands_at}
use Rattle.file_changes.proofs.Twice.{has_node, whole_node}
use Rattle.set_standing.specs.Around.{StandsAround}
use Rattle.file_changes.specs.Reading.{IsDescribed, IsWhatIs, pages_at, pages_in}
use Rattle.file_changes.specs.Stages.{AreFilesIn, HasFile, HasPage, IsFileIn, IsPageOf, LacksPage}

-- what is said of a live file
pub record IsSaid (o : Option Attributes) : Type 0 where
  pub what : Attributes
  pub said : o ≡ Some what
  pub is_file : what.kind ≡ kind.File

pub said_of_live : (o : Option Attributes) → IsSomeAnd o (λ is. is.kind ≡ kind.File) → IsSaid o
said_of_live None live = absurd live
said_of_live (Some what) live = record { what = what; said = refl; is_file = live }

module _ (memory : DomainMemory) (number : ℕ) (tag : Tag) (path : Path) (all : FilesetMap) (entry : FilesetEntry) (fileset : FilesetSlot) (has : HasFile memory number tag path all entry fileset)
    (file : IsFileIn memory number tag) (chains : Chains) (are : AreFilesIn memory number chains)
  where
    abbrev contents : Contents
    contents = (staged_in memory).contents

    its : IsSaid (option_and_then (of_live attributes_of) (chains tag))
    its = said_of_live (option_and_then (of_live attributes_of) (chains tag)) (file chains are)

    -- each stands at the home of a page that the file keeps
    pub record HasPages : Type 0 where
      pub keep : ℕ
      pub kept : option_and_then (of_live keep_of) (chains tag) ≡ Some keep
      pub each : (q : ℕ) → get (pages_at fileset.tree path) q ≡ option_map contents (home_at (places_before keep (place_at chains tag) q))

    pub its_pages : HasPages
    its_pages =
        let n = node_of memory number tag path all entry fileset has chains are its.what its.said in
        record {
          keep = n.seen.keep;
          kept = ap (option_and_then (of_live keep_of)) n.chain ∙ n.seen.kept;
          each = λ q.
              ap (λ o. get (option_map_or pages_in o empty) q) n.there ∙ by_node n.node (λ p. home_at (places_before n.seen.keep (places_of n.cells) p)) n.filled q
              ∙ ap (λ (o : Option (List PlacedCell)). option_map contents (home_at (places_before n.seen.keep (λ p. option_map_or (λ cells. places_of cells p) o Absent) q))) (sym n.chain);
        }
      where
        by_node : (n : Node) (homes : ℕ → Option Home) → IsFilled contents (record { is = its.what; homes = homes }) n → (q : ℕ) → get (pages_in n) q ≡ option_map contents (homes q)
        by_node (node.File uid gid size logged pages) homes filled q = filled.5 q
        by_node (node.Directory uid gid) homes filled q = let e : kind.File ≡ kind.Directory = sym its.is_file ∙ filled.0 in absurd (cc)

    keep_is : (keep : ℕ) → option_and_then (of_live keep_of) (chains tag) ≡ Some keep → its_pages.keep ≡ keep
    keep_is keep kept = some_same its_pages.keep keep (sym its_pages.kept ∙ kept)

    abbrev before : Bool → PagePlace → Option (List ℕ)
    before b place = option_map contents (home_at (cond b place Absent))

    -- one after those that it keeps is none of them
    pub far_page : (keep page : ℕ) → option_and_then (of_live keep_of) (chains tag) ≡ Some keep → keep ≤ page → get (pages_at fileset.tree path) page ≡ None
    far_page keep page kept far =
        its_pages.each page ∙ ap (λ k. before (nat_lt page k) (place_at chains tag page)) (keep_is keep kept) ∙ ap (λ b. before b (place_at chains tag page)) (le-ltb page keep far)

    -- and one that it keeps is, if it has a home
    pub near_page : (keep page : ℕ) → option_and_then (of_live keep_of) (chains tag) ≡ Some keep → page < keep → get (pages_at fileset.tree path) page ≡ option_map contents (home_at (place_at chains tag page))
    near_page keep page kept near =
        its_pages.each page ∙ ap (λ k. before (nat_lt page k) (place_at chains tag page)) (keep_is keep kept) ∙ ap (λ b. before b (place_at chains tag page)) (lt-ltb page keep near)

    -- so it is of a page that it has, and of one that it may get
    by_kept : (page : ℕ) (P : ℕ → Type 0) → IsSomeAnd (option_and_then (of_live keep_of) (chains tag)) (λ keep. page < keep) → ((keep : ℕ) → option_and_then (of_live keep_of) (chains tag) ≡ Some keep → page < keep → P page) → P page
    by_kept page P kept then = by_keep (option_and_then (of_live keep_of) (chains tag)) refl kept
      where
        by_keep : (o : Option ℕ) → option_and_then (of_live keep_of) (chains tag) ≡ o → IsSomeAnd o (λ keep. page < keep) → P page
        by_keep None is low = absurd low
        by_keep (Some keep) is low = then keep is low

    pub page_there : (page : ℕ) → IsPageOf tag page chains → contains_key (pages_at fileset.tree path) page ≡ true
    page_there page is = by_kept page (λ q. contains_key (pages_at fileset.tree path) q ≡ true) is.kept (λ keep kept near. ap is_some (near_page keep page kept near ∙ ap (λ place. option_map contents (home_at place)) is.there))

    pub page_lacking : (page : ℕ) → MayGrow tag page chains → contains_key (pages_at fileset.tree path) page ≡ false
    page_lacking page is = by_kept page (λ q. contains_key (pages_at fileset.tree path) q ≡ false) is.kept (λ keep kept near. ap is_some (near_page keep page kept near ∙ ap (λ place. option_map contents (home_at place)) is.absent))

    -- one that it neither has nor may get is none of them
    pub page_closed : (page : ℕ) → ¬ IsPageOf tag page chains → contains_key (pages_at fileset.tree path) page ≡ false
    page_closed page none = ⊎_elim
        (λ near. by_place near (place_at chains tag page) refl)
        (λ past. ap is_some (far_page its_pages.keep page its_pages.kept (omega (arith, past))))
        (cases_lt page its_pages.keep)
      where
        by_place : page < its_pages.keep → (place : PagePlace) → place_at chains tag page ≡ place → contains_key (pages_at fileset.tree path) page ≡ false
        by_place near (At home) at = absurd (none (record { kept = subst (λ o. IsSomeAnd o (λ keep. page < keep)) (sym its_pages.kept) near; home = home; there = at }))
        by_place near Hole at = ap is_some (near_page its_pages.keep page its_pages.kept near ∙ ap (λ place. option_map contents (home_at place)) at)
        by_place near Absent at = ap is_some (near_page its_pages.keep page its_pages.kept near ∙ ap (λ place. option_map contents (home_at place)) at)

    -- what stands at the home of one that it has
    there_as : (o : Option (List ℕ)) → IsSome o → Some (unwrap_or o []) ≡ o
    there_as None some = absurd (true≢false (sym some))
    there_as (Some page) some = refl

    pub page_is : ∥ IsStagedForSome memory ∥₁ → of_original (slice_get memory.table.slots number) ≡ true → (keep page : ℕ) → option_and_then (of_live keep_of) (chains tag) ≡ Some keep → page < keep → (home : Home) → place_at chains tag page ≡ At home
        → pages_of memory.pages home ≡ get (pages_at fileset.tree path) page
    page_is staged original keep page kept near home at =
        let is : IsPageOf tag page chains = record { kept = subst (λ o. IsSomeAnd o (λ k. page < k)) (sym kept) near; home = home; there = at } in
        sym (near_page keep page kept near ∙ ap (λ place. option_map contents (home_at place)) at
        ∙ there_as (pages_of memory.pages home) (stands_at memory number original tag file staged chains are page is home at))

-- ---- what a read gives

kind_file : (memory : DomainMemory) (number : ℕ) (tag : Tag) (path : Path) (all : FilesetMap) (entry : FilesetEntry) (fileset : FilesetSlot) → HasFile memory number tag path all entry fileset → IsFileIn memory number tag → (what : Attributes)
    → ((chains : Chains) → AreFilesIn memory number chains → option_and_then (of_live attributes_of) (chains tag) ≡ Some what) → what.kind ≡ kind.File
kind_file memory number tag path all entry fileset has file what said =
    let around = around_file memory number tag path all entry fileset has in
    subst (λ o. IsSomeAnd o (λ (is : Attributes). is.kind ≡ kind.File)) (said around.chains around.well.together.files) (file around.chains around.well.together.files)

pub read_end : (memory : DomainMemory) (number : ℕ) (tag : Tag) (path : Path) (all : FilesetMap) (entry : FilesetEntry) (fileset : FilesetSlot) → HasFile memory number tag path all entry fileset → IsFileIn memory number tag → (what : Attributes)
    → ((chains : Chains) → AreFilesIn memory number chains → option_and_then (of_live attributes_of) (chains tag) ≡ Some what) → IsWhatIs path tag fileset.tree what → (offset count : ℕ) (bytes : List ℕ)
    → bytes ≡ map (byte_at (pages_at fileset.tree path)) (range_with_len offset (min count (what.size - offset))) → IsSomeAnd (node_at fileset.tree path) (λ node. read_of offset count node ≡ Read bytes)
read_end memory number tag path all entry fileset has file what said is offset count bytes are = by_node (node_at fileset.tree path) is.node are
  where
    is_file : what.kind ≡ kind.File
    is_file = kind_file memory number tag path all entry fileset has file what said

    by_node : (o : Option Node) → IsSomeAnd o (IsDescribed what) → bytes ≡ map (byte_at (option_map_or pages_in o empty)) (range_with_len offset (min count (what.size - offset))) → IsSomeAnd o (λ node. read_of offset count node ≡ Read bytes)
    by_node None described read = absurd described
    by_node (Some (node.File uid gid size logged pages)) described read =
        ap Read (ap (λ n. map (byte_at pages) (range_with_len offset (min count (n - offset)))) (sym described.3) ∙ sym read)
    by_node (Some (node.Directory uid gid)) described read = let e : kind.File ≡ kind.Directory = sym is_file ∙ described.0 in absurd (cc)

-- ---- numbers of pages

pub page_small : (memory : DomainMemory) (number : ℕ) (tag : Tag) (path : Path) (all : FilesetMap) (entry : FilesetEntry) (fileset : FilesetSlot) → HasFile memory number tag path all entry fileset → (page : ℕ) (bytes : List ℕ)
    → get (pages_at fileset.tree path) page ≡ Some bytes → page < file_pages
page_small memory number tag path all entry fileset has page bytes at =
    let n = has_node memory number tag path all entry fileset has in
    by_node n.node (whole_node memory number tag path all entry fileset has n.node n.there) (sym (ap (λ o. get (option_map_or pages_in o empty) page) n.there) ∙ at)
  where
    by_node : (node : Node) → HasWholePages node → get (pages_in node) page ≡ Some bytes → page < file_pages
    by_node (node.File uid gid size logged pages) whole is = (whole page bytes is).0
    by_node (node.Directory uid gid) whole is = absurd (none_not bytes (sym (get-empty nat_cmp page) ∙ is))

-- ---- absent pages, one more

module _ (memory : DomainMemory) (number : ℕ) (tag : Tag) (path : Path) (all : FilesetMap) (entry : FilesetEntry) (fileset : FilesetSlot) (has : HasFile memory number tag path all entry fileset) (file : IsFileIn memory number tag) (first n page : ℕ) (next : first + n ≡ page) where
  abbrev around : StandsAround number (staged_in memory)
  around = around_file memory number tag path all entry fileset has

  pub absent_there : HasPage memory number tag page → count_by (λ q. not (contains_key (pages_at fileset.tree path) q)) (range_with_len first n) ≡ count_by (λ q. not (contains_key (pages_at fileset.tree path) q)) (range_with_len first (n + 1))
  absent_there there =
      let is : cond (not (contains_key (pages_at fileset.tree path) page)) 1 0 ≡ 0 = ap {B = ℕ} (λ b. cond (not b) 1 0) (page_there memory number tag path all entry fileset has file around.chains around.well.together.files page (there around.chains around.well.together.files)) in
      let more = count_by-range_with_len_more (λ q. not (contains_key (pages_at fileset.tree path) q)) first n page next in
      omega (arith, is, more)

  pub absent_lacking : LacksPage memory number tag page → count_by (λ q. not (contains_key (pages_at fileset.tree path) q)) (range_with_len first n) + 1 ≡ count_by (λ q. not (contains_key (pages_at fileset.tree path) q)) (range_with_len first (n + 1))
  absent_lacking lacks =
      let is : cond (not (contains_key (pages_at fileset.tree path) page)) 1 0 ≡ 1 = ap {B = ℕ} (λ b. cond (not b) 1 0) (page_lacking memory number tag path all entry fileset has file around.chains around.well.together.files page (lacks around.chains around.well.together.files)) in
      let more = count_by-range_with_len_more (λ q. not (contains_key (pages_at fileset.tree path) q)) first n page next in
      omega (arith, is, more)

  pub absent_closed : ((chains : Chains) → AreFilesIn memory number chains → ¬ IsPageOf tag page chains) → count_by (λ q. not (contains_key (pages_at fileset.tree path) q)) (range_with_len first n) + 1 ≡ count_by (λ q. not (contains_key (pages_at fileset.tree path) q)) (range_with_len first (n + 1))
  absent_closed closed =
      let is : cond (not (contains_key (pages_at fileset.tree path) page)) 1 0 ≡ 1 = ap {B = ℕ} (λ b. cond (not b) 1 0) (page_closed memory number tag path all entry fileset has file around.chains around.well.together.files page (closed around.chains around.well.together.files)) in
      let more = count_by-range_with_len_more (λ q. not (contains_key (pages_at fileset.tree path) q)) first n page next in
      omega (arith, is, more)
