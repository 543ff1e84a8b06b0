-- Pages that agree on the pages of cells and tags that are come to break the same rules of tags.
use Rattle.std.proofs.Common.{◌∙◌, ◌↔◌, inl, inr, ℕ, List, sym, ⊎_elim}
use Rattle.file_release.specs.domain_base.declared.place.CellAt.{CellAt}
use Rattle.file_release.specs.domain_base.declared.place.Home.{Home}
use Rattle.file_release.specs.domain_base.declared.place.Tag.{Tag}
use Rattle.file_release.specs.page_store.Pages.{Pages}
use Rattle.fileset_table.specs.Table.{Table}
use Rattle.fileset_table.specs.declared.slot.SlotItem.{SlotItem}
use Rattle.name_space.specs.Names.{root_tag}
use Rattle.domain_layout.specs.Reached.{Frame, tags_way}
use Rattle.domain_layout.specs.TagRules.{HasEntry, HasNoRoot, HasWrongQuota, HasWrongSource, IsFirstOf, IsLateFile, IsNamingFault, IsNoTagPage, IsQuotaOf, IsSharedTagPage, IsTagsFault, IsTagsPage, IsUnnamed, IsUnnamedQuota, IsWrongEntry, IsWrongSlot, IsWrongTagPage}
use Rattle.domain_layout.specs.Alike.{AgreeOnCells, AgreeOnTags}
use Rattle.domain_layout.proofs.CellsAlike.{bytes_alike, leads_alike, link_alike, place_alike, read, turned, turned_cells, unread, used_alike}

turned_tags : (one other : Pages) (frame : Frame) (table : Table) → AgreeOnTags one other frame table → AgreeOnTags other one frame table
turned_tags one other frame table agree number first has = turned one other frame (tags_way first) (agree number first has)

module _ (one other : Pages) (frame : Frame) (table : Table) (cells : AgreeOnCells one other frame) (tags : AgreeOnTags one other frame table) where
  tags_page : (number place : ℕ) (home : Home) (page : List ℕ) → IsTagsPage one frame table number place home page → IsTagsPage other frame table number place home page
  tags_page number place home page is = record {
    first = is.first;
    has = is.has;
    read = read one other frame (tags_way is.first) (tags number is.first is.has) place home page is.read;
  }

  entry_alike : (number : ℕ) (tag : Tag) (at : CellAt) (home : Home) → HasEntry one frame table number tag at home → HasEntry other frame table number tag at home
  entry_alike number tag at home has = record {
    place = has.place;
    page = has.page;
    is = tags_page number has.place home has.page has.is;
    entry = has.entry;
    within = has.within;
    slot = has.slot;
    used = has.used;
    names = has.names;
  }

  first_alike : (number : ℕ) (tag : Tag) (at : CellAt) → IsFirstOf one frame number tag at → IsFirstOf other frame number tag at
  first_alike number tag at is = record {
    place = place_alike one other frame cells at is.place;
    bytes = is.bytes;
    there = sym (bytes_alike one other frame cells at is.place) ∙ is.there;
    kind = is.kind;
    fileset = is.fileset;
    slot = is.slot;
    seq = is.seq;
  }

  quota_alike : (number : ℕ) (at : CellAt) → IsQuotaOf one frame number at → IsQuotaOf other frame number at
  quota_alike number at is = record {
    place = place_alike one other frame cells at is.place;
    bytes = is.bytes;
    there = sym (bytes_alike one other frame cells at is.place) ∙ is.there;
    kind = is.kind;
    fileset = is.fileset;
  }

module _ (one other : Pages) (frame : Frame) (table : Table) (cells : AgreeOnCells one other frame) (tags : AgreeOnTags one other frame table) where
  cells_back : AgreeOnCells other one frame
  cells_back = turned_cells one other frame cells

  tags_back : AgreeOnTags other one frame table
  tags_back = turned_tags one other frame table tags

  no_tag_page_alike : (home : Home) → IsNoTagPage one frame table home → IsNoTagPage other frame table home
  no_tag_page_alike home w = record {
    number = w.number;
    first = w.first;
    has = w.has;
    unread = unread one other frame (tags_way w.first) (tags w.number w.first w.has) home w.unread;
  }

  shared_alike : (home : Home) → IsSharedTagPage one frame table home → IsSharedTagPage other frame table home
  shared_alike home w = record {
    earlier = w.earlier;
    later = w.later;
    order = w.order;
    one = w.one;
    other = w.other;
    page = w.page;
    in_earlier = tags_page one other frame table cells tags w.earlier w.one home w.page w.in_earlier;
    in_later = tags_page one other frame table cells tags w.later w.other home w.page w.in_later;
  }

  wrong_page_alike : (home : Home) → IsWrongTagPage one frame table home → IsWrongTagPage other frame table home
  wrong_page_alike home w = record {
    number = w.number;
    place = w.place;
    page = w.page;
    is = tags_page one other frame table cells tags w.number w.place home w.page w.is;
    wrong = ⊎_elim (λ bad. inl bad)
        (λ more. inr (⊎_elim (λ first. inl first)
        (λ again. inr (again.0, again.1, again.2, again.3, tags_page one other frame table cells tags w.number again.0 again.1 again.2 again.4, again.5)) more)) w.wrong;
  }

  wrong_entry_alike : (home : Home) → IsWrongEntry one frame table home → IsWrongEntry other frame table home
  wrong_entry_alike home w = record {
    number = w.number;
    tag = w.tag;
    at = w.at;
    has = entry_alike one other frame table cells tags w.number w.tag w.at home w.has;
    wrong = λ is. w.wrong (first_alike other one frame table cells_back tags_back w.number w.tag w.at is);
  }

  no_root_alike : (home : Home) → HasNoRoot one frame table home → HasNoRoot other frame table home
  no_root_alike home w = record {
    number = w.number;
    item = w.item;
    there = w.there;
    original = w.original;
    first = w.first;
    none = λ at onto has.
        let removed = w.none at onto (entry_alike other one frame table cells_back tags_back w.number root_tag at onto has) in
        (removed.0, used_alike one other frame cells at removed.0 removed.1, removed.2);
  }

  unnamed_alike : (at : CellAt) → IsUnnamed one frame table at → IsUnnamed other frame table at
  unnamed_alike at w = record {
    place = place_alike one other frame cells at w.place;
    bytes = w.bytes;
    there = sym (bytes_alike one other frame cells at w.place) ∙ w.there;
    kind = w.kind;
    stays = λ cell used. w.stays cell (used_alike other one frame cells_back at cell used);
    unnamed = λ number tag home is has.
        w.unnamed number tag home (first_alike other one frame table cells_back tags_back number tag at is) (entry_alike other one frame table cells_back tags_back number tag at home has);
  }

  source_alike : (at : CellAt) → HasWrongSource one frame table at → HasWrongSource other frame table at
  source_alike at w = record {
    cell = w.cell;
    is = used_alike one other frame cells at w.cell w.is;
    kind = w.kind;
    stays = w.stays;
    of = w.of;
    clone = w.clone;
    source = w.source;
    through = w.through;
    wrong = λ is. w.wrong (first_alike other one frame table cells_back tags_back w.of (record { slot = w.cell.head.slot; seq = w.cell.head.seq }) w.source is);
  }

  late_alike : (at : CellAt) → IsLateFile one frame table at → IsLateFile other frame table at
  late_alike at w = record {
    number = w.number;
    tag = w.tag;
    home = w.home;
    named = entry_alike one other frame table cells tags w.number w.tag at w.home w.named;
    original = w.original;
    first = first_alike one other frame table cells tags w.number w.tag at w.first;
    cell = w.cell;
    is = used_alike one other frame cells at w.cell w.is;
    value = w.value;
    attributes = w.attributes;
    late = w.late;
  }

  unnamed_quota_alike : (at : CellAt) → IsUnnamedQuota one frame table at → IsUnnamedQuota other frame table at
  unnamed_quota_alike at w = record {
    link = w.link;
    is = link_alike one other frame cells at w.link w.is;
    kind = w.kind;
    first = λ from leads. w.first from (leads_alike other one frame cells_back from at leads);
    unnamed = w.unnamed;
  }

  naming_alike : (at : CellAt) → IsNamingFault one frame table at → IsNamingFault other frame table at
  naming_alike at fault =
      ⊎_elim (λ w. inl (unnamed_alike at w))
      (λ a. inr (⊎_elim (λ w. inl (source_alike at w))
      (λ b. inr (⊎_elim (λ w. inl (late_alike at w)) (λ w. inr (unnamed_quota_alike at w)) b)) a))
      fault

  quota_back : (number : ℕ) (item : SlotItem) → HasWrongQuota one frame number item → HasWrongQuota other frame number item
  quota_back number item w = record {
    entry = w.entry;
    is = w.is;
    at = w.at;
    named = w.named;
    wrong = ⊎_elim (λ none. inl (λ is. none (quota_alike other one frame table cells_back tags_back number w.at is)))
        (λ led. inr (led.0, leads_alike one other frame cells led.0 w.at led.1)) w.wrong;
  }

  slot_alike : IsWrongSlot one frame table → IsWrongSlot other frame table
  slot_alike w = record {
    number = w.number;
    item = w.item;
    there = w.there;
    wrong = ⊎_elim (λ number. inl number) (λ quota. inr (quota_back w.number w.item quota)) w.wrong;
  }

  tags_fault_alike : (home : Home) → IsTagsFault one frame table home → IsTagsFault other frame table home
  tags_fault_alike home fault =
      ⊎_elim (λ w. inl (no_tag_page_alike home w))
      (λ a. inr (⊎_elim (λ w. inl (shared_alike home w))
      (λ b. inr (⊎_elim (λ w. inl (wrong_page_alike home w))
      (λ c. inr (⊎_elim (λ w. inl (wrong_entry_alike home w))
      (λ d. inr (⊎_elim (λ w. inl (no_root_alike home w))
      (λ e. inr (⊎_elim (λ w. inl (w.0, w.1, naming_alike w.0 w.2)) (λ w. inr (w.0, slot_alike w.1)) e)) d)) c)) b)) a))
      fault

pub same_tags_faults : (one other : Pages) (frame : Frame) (table : Table) (home : Home) → AgreeOnCells one other frame → AgreeOnTags one other frame table
    → IsTagsFault one frame table home ↔ IsTagsFault other frame table home
same_tags_faults one other frame table home cells tags = (
  tags_fault_alike one other frame table cells tags home,
  tags_fault_alike other one frame table (turned_cells one other frame cells) (turned_tags one other frame table tags) home,
)
