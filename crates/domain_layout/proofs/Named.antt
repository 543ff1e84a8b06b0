-- Where no rule is broken: cells that are named, and those of their chains, have places.
use Rattle.std.proofs.Common.{◌≡◌, ◌∙◌, inl, inr, ℕ, ◌≤◌, ◌/◌, ◌%◌, Bool, true, false, cond, nat_eq, nat_le, ◌&&◌, List, [], ◌∷◌, ◌++◌, length, Option, Some, None, IsSomeAnd, Contains, refl, sym, ap, subst, arith, ⊎_elim}
use Rattle.std.proofs.lemmas.Bool.{cases_Bool, eq-eqb, eqb-true, le-leb}
use Rattle.std.specs.Option.{option_and_then, option_map}
use Rattle.file_release.specs.domain_base.declared.place.CellAt.{CellAt}
use Rattle.file_release.specs.domain_base.declared.place.Home.{Home}
use Rattle.file_release.specs.domain_base.declared.place.Tag.{Tag}
use Rattle.file_release.specs.page_store.Pages.{Pages}
use Rattle.file_release.specs.cell_records.Fields.{number_at}
use Rattle.file_release.specs.metadata_cells.Cell.{Cell, HasHead, IsAddress}
use Rattle.file_release.specs.metadata_cells.CellPage.{home_of}
use Rattle.file_release.specs.metadata_cells.Chain.{StandsAt, may_follow}
use Rattle.file_release.specs.metadata_cells.declared.head.CellHead.{CellHead}
use Rattle.file_release.specs.metadata_cells.declared.head.CellKind.TheVariants.{Primary, Quota}
use Rattle.file_release.proofs.OfMetadataCells.Walk.{one_kind}
use Rattle.file_release.specs.tag_dirs.declared.dir.TagPlace.{TagPlace}
use Rattle.file_release.specs.tag_dirs.declared.page.TagEntry.{TagEntry}
use Rattle.file_release.specs.tag_dirs.Directory.{IsDirectoryAt, cell_for, cell_of, home_with}
use Rattle.file_release.specs.tag_dirs.TagPage.{IsAllowed, IsTagPage, entry_of, index_of, slot_of}
use Rattle.file_release.proofs.OfTagDirs.Slots.{found, page_there}
use Rattle.domain_layout.specs.CellRules.{Follows, IsCellFault, IsChainHead, IsInChain, IsLink, IsPlace, Link, begins, goes_on, next_in}
use Rattle.domain_layout.specs.Faults.{HasNoTablesFault}
use Rattle.domain_layout.specs.Layout.{IsLayout, Layout}
use Rattle.domain_layout.specs.Owners.{frame_of}
use Rattle.domain_layout.specs.Reached.{IsRead, Reaches, tags_way}
use Rattle.domain_layout.specs.TagRules.{HasEntry, HasTags, IsFirstOf}
use Rattle.domain_layout.proofs.OnePage.{some_same}
use Rattle.domain_layout.proofs.OwnedOnce.{no_cells, no_tags, tags_come, tags_read}
use Rattle.domain_layout.proofs.Reached.{is_read}

-- ---- addresses

nowhere : (at : CellAt) → None ≡ Some at → ⊥
nowhere at is = cc

address_in : (z v c p : ℕ) (o : Option CellAt) → z ≡ 0 → IsAddress v c p o
    → o ≡ cond (nat_eq z 0 && (nat_le 1 v && (nat_le v 8 && nat_le c 27))) (Some (record { vol = v; page = p; cell = c })) None
address_in z v c p None zero_there is =
    sym (λ i. cond (nat_eq (zero_there i) 0 && (nat_le 1 (is.0 i) && (nat_le (is.0 i) 8 && nat_le c 27))) (Some (record { vol = v; page = p; cell = c })) None)
address_in z v c p (Some at) zero_there is =
    let test : (nat_eq z 0 && (nat_le 1 v && (nat_le v 8 && nat_le c 27))) ≡ true =
    (λ i. eq-eqb z 0 zero_there i && (le-leb 1 v is.0.0 i && (le-leb v 8 is.0.1 i && le-leb c 27 is.0.2 i))) in
    ap Some is.1 ∙ sym (ap (λ b. cond b (Some (record { vol = v; page = p; cell = c })) None) test)

-- a head leads where its cell does
next_same : (bytes : List ℕ) (head : CellHead) (size : ℕ) → HasHead bytes head size → head.next ≡ next_in bytes
next_same bytes head size is = address_in (number_at 2 0 bytes) (number_at 1 2 bytes) (number_at 1 3 bytes) (number_at 4 4 bytes) head.next is.zero is.next

-- ---- entries of tags

-- a used entry of a tag, on the page that has it
pub record Entry (pages : Pages) (places : List TagPlace) (tag : Tag) (at : CellAt) : Type 0 where
  pub home : Home
  pub page : List ℕ
  pub on : home_with places (tag.slot / 1022) ≡ Some home
  pub there : pages home ≡ Some page
  pub used : entry_of page (tag.slot % 1022) ≡ record { seq = tag.seq; at = Some at }

used_by : (entry : TagEntry) (seq : ℕ) (at : CellAt) → cell_for seq entry ≡ Some at → entry ≡ record { seq = seq; at = Some at }
used_by entry seq at is = by_test (nat_eq entry.seq seq) refl is
  where
    by_test : (b : Bool) → nat_eq entry.seq seq ≡ b → cond b entry.at None ≡ Some at → entry ≡ record { seq = seq; at = Some at }
    by_test true same is = (λ i. record { seq = eqb-true entry.seq seq same i; at = is i })
    by_test false other is = absurd (nowhere at is)

pub entry_by : (pages : Pages) (places : List TagPlace) (tag : Tag) (at : CellAt) → cell_of pages places tag ≡ Some at → Entry pages places tag at
entry_by pages places tag at is = by_home (home_with places (tag.slot / 1022)) refl is
  where
    by_page : (home : Home) → home_with places (tag.slot / 1022) ≡ Some home → (o : Option (List ℕ)) → pages home ≡ o
        → option_and_then (cell_for tag.seq) (option_map (λ page. entry_of page (tag.slot % 1022)) o) ≡ Some at → Entry pages places tag at
    by_page home on None none is = absurd (nowhere at is)
    by_page home on (Some page) there is = record { home = home; page = page; on = on; there = there; used = used_by (entry_of page (tag.slot % 1022)) tag.seq at is }

    by_home : (o : Option Home) → home_with places (tag.slot / 1022) ≡ o
        → option_and_then (cell_for tag.seq) (option_map (λ page. entry_of page (tag.slot % 1022)) (option_and_then pages o)) ≡ Some at → Entry pages places tag at
    by_home None none is = absurd (nowhere at is)
    by_home (Some home) on is = by_page home on (pages home) refl is

-- ---- chains

pub last_link : (pages : Pages) (layout : Layout) (start : CellAt) (passed : List CellAt) (at : CellAt) (link : Link) → Follows pages (frame_of layout) start passed at link → IsLink pages (frame_of layout) at link
last_link pages layout start passed at link follows = elim follows as (λ passed at link follows. IsLink pages (frame_of layout) at link) [
  | begins link is ↦ is
  | goes_on passed at onto link next before leads fresh is may ↦ is
]

abbrev pub link_to : Cell → Link
link_to cell = record { kind = cell.head.kind; next = cell.head.next }

-- a cell stands in some chain
pub record InChain (pages : Pages) (layout : Layout) (at : CellAt) (cell : Cell) : Type 0 where
  pub start : CellAt
  pub is : IsInChain pages (frame_of layout) start at (link_to cell)

-- a used entry of a well-formed page may name a cell
pub names_by : (page : List ℕ) (tag : Tag) (at : CellAt) → IsTagPage page → slot_of page (tag.slot % 1022) ≡ tag.slot → entry_of page (tag.slot % 1022) ≡ record { seq = tag.seq; at = Some at } → (1 ≤ tag.seq) × ¬ tag.slot ≡ 0
names_by page tag at good slot used =
    let allowed : IsAllowed (slot_of page (tag.slot % 1022)) (record { seq = tag.seq; at = Some at }) = subst (IsAllowed (slot_of page (tag.slot % 1022))) used (good.entries (tag.slot % 1022) (omega arith)) in
    (allowed.1, λ none. allowed.2 (slot ∙ none))

module _ (pages : Pages) (layout : Layout) (laid : IsLayout pages layout) (none : HasNoTablesFault pages (frame_of layout)) where
  pub no_cell : (at : CellAt) → ¬ IsCellFault pages (frame_of layout) layout.table at
  no_cell at fault = no_cells pages layout laid none (home_of at) (inr (inr (inr (at, refl, fault))))

  pub link_of : (at : CellAt) (cell : Cell) → IsPlace pages (frame_of layout) at → StandsAt pages at cell → IsLink pages (frame_of layout) at (link_to cell)
  link_of at cell place stands = record {
    place = place;
    bytes = stands.bytes;
    there = stands.there;
    kind = stands.is.head.kind;
    next = next_same stands.bytes cell.head _ stands.is.head;
  }

  pub place_in : (at : CellAt) (cell : Cell) → InChain pages layout at cell → IsPlace pages (frame_of layout) at
  place_in at cell in_chain = (last_link pages layout in_chain.start in_chain.is.passed at (link_to cell) in_chain.is.follows).place

  -- the first cell of a file is in a chain
  pub begins_file : (at : CellAt) (cell : Cell) → IsPlace pages (frame_of layout) at → StandsAt pages at cell → cell.head.kind ≡ Primary → InChain pages layout at cell
  begins_file at cell place stands kind =
      let link = link_of at cell place stands in
      record {
        start = at;
        is = record { first = link_to cell; begins = (link, inl kind); passed = []; follows = begins (link_to cell) link };
      }

  -- and so is each quota cell
  pub holds_quotas : (at : CellAt) (cell : Cell) → IsPlace pages (frame_of layout) at → StandsAt pages at cell → cell.head.kind ≡ Quota → ¬ ¬ InChain pages layout at cell
  holds_quotas at cell place stands kind alone =
      no_cell at (inr (inr (inr (inr (inl (record {
        link = link_to cell;
        is = link_of at cell place stands;
        kind = inr kind;
        alone = λ start in_chain. alone (record { start = start; is = in_chain });
      }))))))

  -- a cell to which one of a chain leads is the next one of that chain
  pub follows_on : (start : CellAt) (first : Link) → IsChainHead pages (frame_of layout) start first → (passed : List CellAt) (at onto : CellAt) (cell next : Cell)
      → Follows pages (frame_of layout) start passed at (link_to cell) → cell.head.next ≡ Some onto → StandsAt pages onto next → ¬ ¬ Follows pages (frame_of layout) start (passed ++ at ∷ []) onto (link_to next)
  follows_on start first head passed at onto cell next follows leads stands not_there =
      no_cell at (inr (inr (inr (inl (record {
        start = start;
        link = link_to cell;
        is = record { first = first; begins = head; passed = passed; follows = follows };
        onto = onto;
        leads = leads;
        wrong = inl (λ (link : Link) (is : IsLink pages (frame_of layout) onto link).
            ⊎_elim (λ may. absurd (not_there (joined link is may))) (λ other. other) (cases_Bool (may_follow cell.head.kind link.kind)));
      })))))
    where
      kinds : (link : Link) → IsLink pages (frame_of layout) onto link → link.kind ≡ next.head.kind
      kinds link is =
          let bytes : is.bytes ≡ stands.bytes = some_same is.bytes stands.bytes (sym is.there ∙ stands.there) in
          one_kind link.kind next.head.kind (sym is.kind ∙ ap (number_at 1 15) bytes ∙ stands.is.head.kind)

      fresh : ¬ Contains (passed ++ at ∷ []) onto
      fresh twice = no_cell at (inr (inr (inr (inl (record {
        start = start;
        link = link_to cell;
        is = record { first = first; begins = head; passed = passed; follows = follows };
        onto = onto;
        leads = leads;
        wrong = inr (inl twice);
      })))))

      joined : (link : Link) → IsLink pages (frame_of layout) onto link → may_follow cell.head.kind link.kind ≡ true → Follows pages (frame_of layout) start (passed ++ at ∷ []) onto (link_to next)
      joined link is may =
          goes_on passed at onto (link_to cell) (link_to next) follows leads fresh
          (link_of onto next is.place stands) (subst (λ kind. may_follow cell.head.kind kind ≡ true) (kinds link is) may)

  pub goes_along : (at onto : CellAt) (cell next : Cell) → InChain pages layout at cell → cell.head.next ≡ Some onto → StandsAt pages onto next → ¬ ¬ InChain pages layout onto next
  goes_along at onto cell next in_at leads stands not_there =
      follows_on in_at.start in_at.is.first in_at.is.begins in_at.is.passed at onto cell next in_at.is.follows leads stands
      (λ follows. not_there (record {
        start = in_at.start;
        is = record { first = in_at.is.first; begins = in_at.is.begins; passed = in_at.is.passed ++ at ∷ []; follows = follows };
      }))

  -- ---- what tags and slots name

  -- the entry of a tag in use stands on a page of its directory
  pub record EntryThere (number : ℕ) (tag : Tag) (at : CellAt) : Type 0 where
    pub home : Home
    pub has : HasEntry pages (frame_of layout) layout.table number tag at home

  pub entry_there : (number : ℕ) (first : Home) → HasTags layout.table number first → (places : List TagPlace) → IsDirectoryAt pages first places
      → (tag : Tag) (at : CellAt) → cell_of pages places tag ≡ Some at → EntryThere number tag at
  entry_there number first has places stands tag at leads =
      let entry = entry_by pages places tag at leads in
      let f = found places (tag.slot / 1022) entry.home entry.on in
      let come = tags_come pages layout laid none number first has places stands f.k f.p f.there in
      let reached : Reaches pages (frame_of layout) (tags_way first) come.passed entry.home = subst (Reaches pages (frame_of layout) (tags_way first) come.passed) f.stands come.reached in
      let read = is_read pages (frame_of layout) (tags_way first) (tags_read pages layout laid none number first has) come.passed entry.home reached in
      let same : read.0 ≡ entry.page = some_same read.0 entry.page (sym read.1.there ∙ entry.there) in
      let indexed : IsTagPage entry.page × (index_of entry.page ≡ tag.slot / 1022) =
      subst (λ o. IsSomeAnd o (λ page. IsTagPage page × (index_of page ≡ tag.slot / 1022))) entry.there (page_there pages places (tag.slot / 1022) entry.home stands.directory entry.on) in
      record {
        home = entry.home;
        has = record {
          place = length come.passed;
          page = entry.page;
          is = record { first = first; has = has; read = subst (IsRead pages (frame_of layout) (tags_way first) (length come.passed) entry.home) same read.1 };
          entry = tag.slot % 1022;
          within = omega arith;
          slot = slot_is entry.page indexed.1;
          used = entry.used;
          names = names_by entry.page tag at indexed.0 (slot_is entry.page indexed.1) entry.used;
        };
      }
    where
      slot_is : (page : List ℕ) → index_of page ≡ tag.slot / 1022 → slot_of page (tag.slot % 1022) ≡ tag.slot
      slot_is page is = omega (arith, is)

  -- so it leads to the first cell of a file
  pub first_there : (number : ℕ) (first : Home) → HasTags layout.table number first → (places : List TagPlace) → IsDirectoryAt pages first places
      → (tag : Tag) (at : CellAt) → cell_of pages places tag ≡ Some at → ¬ ¬ IsFirstOf pages (frame_of layout) number tag at
  first_there number first has places stands tag at leads wrong =
      let entry = entry_there number first has places stands tag at leads in
      no_tags pages layout laid none entry.home (inr (inr (inr (inl (record { number = number; tag = tag; at = at; has = entry.has; wrong = wrong })))))
