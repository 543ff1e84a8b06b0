-- A domain stands on where the limits of a whole fileset are set in its slot.
use Rattle.std.proofs.Common.{◌≡◌, ◌∙◌, ◌⊎◌, ⊎_elim, inl, inr, ℕ, ◌==◌, ◌||◌, ◌&&◌, Bool, true, false, not, cond, List, Option, Some, None, IfSome, IsSomeAnd, slice_get, refl, sym, ap, subst}
use Rattle.std.proofs.lemmas.Bool.{both_ways, cases_Bool, eq-eqb, eqb-true, false_from_ne_true}
use Rattle.std.specs.FinMap.{get, insert}
use Rattle.std.specs.Option.{option_and_then, option_map_or}
use Rattle.domain_standing.specs.domain_base.declared.place.CellAt.{CellAt}
use Rattle.domain_standing.specs.domain_base.declared.place.Home.{Home}
use Rattle.domain_standing.specs.domain_base.declared.place.Tag.{Tag}
use Rattle.domain_standing.specs.metadata_cells.Cell.{Cell, record_of}
use Rattle.domain_standing.specs.metadata_cells.Chain.{PlacedCell}
use Rattle.domain_standing.specs.free_cells.Cells.{table_of}
use Rattle.domain_standing.specs.free_space.Spaces.{Spaces}
use Rattle.domain_standing.specs.fileset_model.Filesets.{FilesetMap}
use Rattle.domain_standing.specs.fileset_model.Usage.{with_limits}
use Rattle.domain_standing.specs.fileset_values.declared.command.Owner.{Owner}
use Rattle.domain_standing.specs.fileset_values.declared.command.Owner.TheVariants as owner
use Rattle.domain_standing.specs.fileset_model.declared.fileset.FilesetSlot.{FilesetSlot}
use Rattle.domain_standing.specs.fileset_model.declared.fileset.Limits.{Limits}
use Rattle.domain_standing.specs.fileset_table.Page.{IsTablePage}
use Rattle.domain_standing.specs.fileset_table.Table.{Table, entry_of, with_slot}
use Rattle.domain_standing.specs.fileset_table.declared.slot.FilesetEntry.{FilesetEntry}
use Rattle.domain_standing.specs.fileset_table.declared.slot.SlotItem.{SlotItem}
use Rattle.domain_standing.specs.fileset_table.declared.slot.SlotItem.TheVariants as slot
use Rattle.domain_standing.proofs.OfFilesetTable.Leaving.{get_other}
use Rattle.domain_standing.specs.quota_book.Book.{Book}
use Rattle.domain_standing.specs.quota_book.Owners.{same_owner}
use Rattle.domain_standing.specs.quota_book.Sums.{IsBookOf}
use Rattle.domain_standing.proofs.OfQuotaBook.Unchanged.{limited_same}
use Rattle.domain_standing.specs.release_list.Standing.{Files}
use Rattle.domain_standing.proofs.OfReleaseList.Spread.{some_same}
use Rattle.domain_standing.specs.domain_layout.CellRules.{has_first_records, has_its_kinds, has_kind, is_good_first, keeps_well, of_clone, of_original, say_removed}
use Rattle.domain_standing.specs.domain_layout.DirectoryRules.{IsInItem, IsInOriginal}
use Rattle.domain_standing.specs.domain_layout.Filled.{Fills}
use Rattle.domain_standing.specs.domain_layout.Layout.{first_tag_of}
use Rattle.domain_standing.specs.domain_layout.Seen.{SeenFile}
use Rattle.domain_standing.specs.domain_layout.Shape.{FilesetShape, IsOriginal, limits_in}
use Rattle.domain_standing.specs.domain_layout.TagRules.{quota_of}
use Rattle.domain_standing.specs.Chains.{IndexesAt, IsRemoved}
use Rattle.domain_standing.specs.Domain.{DomainNow, item_in}
use Rattle.domain_standing.specs.Holders.{Holder, Holds}
use Rattle.domain_standing.specs.Holders.Holder.{of_cells, of_file, of_index, of_table, of_tags, of_volume}
use Rattle.domain_standing.specs.Slots.{StandSlots}
use Rattle.domain_standing.specs.Sources.{StandAlone}
use Rattle.domain_standing.specs.Standing.{AreBooksOf, HaveParents, IsMarkedBut, StandsDomain}
use Rattle.domain_standing.proofs.SourcesStay.{sources_stay}
use Rattle.standing_laws.specs.BoundedFileset.{BoundsFileset, entry_bounded}
use Rattle.standing_laws.specs.Leads.{StandsBelow}
use Rattle.standing_laws.specs.OtherPages.{KeepsVolumes}
use Rattle.standing_laws.specs.SetsQuota.{fileset_limited, shape_limited}
use Rattle.standing_laws.specs.Slots.{StandsSlot}
use Rattle.standing_laws.specs.SlotsStay.{IsPageOfSlot, KeepsSlot, PutsFileset}
use Rattle.standing_laws.proofs.BitsStay.{bits_stay}
use Rattle.standing_laws.proofs.BooksStay.{books_put}
use Rattle.standing_laws.proofs.FilesetBegins.{get_set}
use Rattle.standing_laws.proofs.FilesetPut.{StoodIn, fileset_put, stood_in}
use Rattle.standing_laws.proofs.OthersStand.{NamesTheSame, SaysWhere, below_on}
use Rattle.standing_laws.proofs.ParentsKept.{parents_on_as}
use Rattle.standing_laws.proofs.QuotaLimits.{is_original, limits_then, names_still, valid_still}
use Rattle.standing_laws.proofs.SlotStays.{KeepsFiles, slot_stays_as, slot_stays_so}

number_or_not : (n number : ℕ) → (n ≡ number) ⊎ (¬ n ≡ number)
number_or_not n number = ⊎_elim
    (λ same. inl (eqb-true n number same))
    (λ apart. inr (λ same. both_ways (n == number) apart (eq-eqb n number same)))
    (cases_Bool (n == number))

-- what is asked of a first cell of an original, or of a clone
abbrev good_as : Cell → Bool → Bool → Bool
good_as cell original clone = has_first_records cell.records
    && (say_removed cell.records
    || ((not original || (has_its_kinds false cell.records && option_map_or (λ r. keeps_well r (has_kind 6 cell.records)) (record_of 1 cell.records) false))
    && (not clone || has_its_kinds true cell.records)))

file_not_table : (at : CellAt) (page : ℕ) → of_file at page ≡ of_table → ⊥
file_not_table at page e = cc

-- ---- a fileset with other limits of its own

module _ (d : DomainNow) (number : ℕ) (entry : FilesetEntry) (limits : Limits) (shape : FilesetShape) (fileset : FilesetSlot) (stood : StandsSlot d number entry shape fileset) where
  each_bounded : (who : Owner) → cond (same_owner who owner.Fileset) limits (shape.limits who) ≡ limits_in (entry_bounded limits entry) stood.is.limits.records who
  each_bounded (owner.User uid) = stood.is.limits.each (owner.User uid)
  each_bounded (owner.Group gid) = stood.is.limits.each (owner.Group gid)
  each_bounded owner.Fileset = refl

  shape_bounded : IsOriginal d.pages number (entry_bounded limits entry) (shape_limited owner.Fileset limits shape)
  shape_bounded = record {
    none = stood.is.none;
    chains = stood.is.chains;
    has = record { places = stood.is.has.places; directory = stood.is.has.directory; files = stood.is.has.files };
    files = stood.is.files;
    shown = stood.is.shown;
    limits = record { records = stood.is.limits.records; quotas = stood.is.limits.quotas; each = each_bounded };
  }

  filled_bounded : Fills d.contents (shape_limited owner.Fileset limits shape) (fileset_limited owner.Fileset limits fileset)
  filled_bounded = let f = stood.filled in record {
    role = f.role;
    valid = valid_still fileset owner.Fileset limits (is_original shape.original fileset.role f.role stood.is.none) f.valid;
    names = names_still shape.shown fileset owner.Fileset limits f.names;
    files = f.files;
    limits = λ q. limits_then fileset.tree owner.Fileset q limits ∙ ap (cond (same_owner q owner.Fileset) limits) (f.limits q);
  }

  pub slot_bounded : StandsSlot d number (entry_bounded limits entry) (shape_limited owner.Fileset limits shape) (fileset_limited owner.Fileset limits fileset)
  slot_bounded = record { is = shape_bounded; filled = filled_bounded; set = stood.set }

-- ---- the domain

module _ (number : ℕ) (entry : FilesetEntry) (limits : Limits) (d now : DomainNow) (files : Files) (indexes : IndexesAt) (below : StandsBelow d files indexes) (s : BoundsFileset number entry limits d now) where
  abbrev entry_now : FilesetEntry
  entry_now = entry_bounded limits entry

  abbrev left : SlotItem
  left = slot.Original entry_now

  abbrev table_now : Table
  table_now = with_slot number left d.table

  -- ---- slots

  item_here : slice_get table_now.slots number ≡ Some left
  item_here = get_set d.table.slots number left (slot.Original entry) s.was

  item_other : (n : ℕ) → ¬ n ≡ number → slice_get table_now.slots n ≡ slice_get d.table.slots n
  item_other n differ = get_other d.table.slots number n left (false_from_ne_true (n == number) (λ same. differ (eqb-true n number same)))

  same_named : {X : Type 0} (what : SlotItem → Option X) → what left ≡ what (slot.Original entry) → (n : ℕ) → option_and_then what (slice_get table_now.slots n) ≡ option_and_then what (slice_get d.table.slots n)
  same_named what alike n = ⊎_elim
      (λ same.
      ap (λ (k : ℕ). option_and_then what (slice_get table_now.slots k)) same ∙ ap (option_and_then what) item_here ∙ alike ∙ sym (ap (option_and_then what) s.was)
      ∙ sym (ap (λ (k : ℕ). option_and_then what (slice_get d.table.slots k)) same))
      (λ differ. ap (option_and_then what) (item_other n differ))
      (number_or_not n number)

  removed_still : (n : ℕ) → IsRemoved (slice_get d.table.slots n) → IsRemoved (slice_get table_now.slots n)
  removed_still n is = ⊎_elim
      (λ same. absurd (subst IsRemoved (ap (slice_get d.table.slots) same ∙ s.was) is))
      (λ differ. subst IsRemoved (sym (item_other n differ)) is)
      (number_or_not n number)

  original_was : (n : ℕ) → of_original (slice_get table_now.slots n) ≡ true → of_original (slice_get d.table.slots n) ≡ true
  original_was n is = ⊎_elim
      (λ same. ap of_original (ap (slice_get d.table.slots) same ∙ s.was))
      (λ differ. ap of_original (sym (item_other n differ)) ∙ is)
      (number_or_not n number)

  -- what a first cell is asked for hangs on what its slot has: an original or a clone
  alike : (what : Option SlotItem → Bool) → what (Some left) ≡ what (Some (slot.Original entry)) → (o : Option ℕ) → what (option_and_then (slice_get table_now.slots) o) ≡ what (option_and_then (slice_get d.table.slots) o)
  alike what is None = refl
  alike what is (Some n) = ⊎_elim
      (λ same. ap what (ap (slice_get table_now.slots) same ∙ item_here) ∙ is ∙ sym (ap what (ap (slice_get d.table.slots) same ∙ s.was)))
      (λ differ. ap what (item_other n differ))
      (number_or_not n number)

  good_still : (cell : Cell) → is_good_first d.table cell ≡ true → is_good_first table_now cell ≡ true
  good_still cell good = (λ i. good_as cell (alike of_original refl cell.head.fileset i) (alike of_clone refl cell.head.fileset i)) ∙ good

  names_the_same : NamesTheSame d.table table_now
  names_the_same = record {
    made = refl;
    firsts = same_named first_tag_of refl;
    quotas = same_named quota_of refl;
    removed = removed_still;
    original = original_was;
    good = good_still;
  }

  -- ---- pages

  page_same : (holder : Holder) (home : Home) → Holds d files indexes holder home → ¬ holder ≡ of_table → now.pages home ≡ d.pages home
  page_same holder home held other = s.others home (λ at. other (below.owned.once home holder of_table held at))

  abbrev keeps : (holder : Holder) (home : Home) → SaysWhere holder → Holds d files indexes holder home → now.pages home ≡ d.pages home
  keeps holder home says held = page_same holder home held (λ is. subst SaysWhere is says)

  says_now : IsSomeAnd d.frame.anchor.table (λ home. IsSomeAnd (now.pages home) (λ page. IsTablePage page table_now))
  says_now = by_home d.frame.anchor.table refl below.tables.laid.table
    where
      by_home : (o : Option Home) → d.frame.anchor.table ≡ o → IsSomeAnd o (λ home. IsSomeAnd (d.pages home) (λ page. IsTablePage page d.table)) → IsSomeAnd o (λ home. IsSomeAnd (now.pages home) (λ page. IsTablePage page table_now))
      by_home None at is = absurd is
      by_home (Some home) at is = subst (λ (t : Table). IsSomeAnd (now.pages home) (λ page. IsTablePage page t)) s.table (s.says home at)

  abbrev it : DomainNow
  it = record d { table = table_now; pages = now.pages; contents = now.contents }

  it_is : it ≡ now
  it_is = (λ i. record d { table = sym s.table i; pages = now.pages; contents = now.contents }) ∙ sym s.same

  it_stands : StandsBelow it files indexes
  it_stands = below_on d files indexes below now.pages now.contents keeps table_now names_the_same says_now

  pub after : StandsBelow now files indexes
  after = subst (λ (x : DomainNow). StandsBelow x files indexes) it_is it_stands

  slot_page : (n : ℕ) (home : Home) → IsPageOfSlot n d files indexes home → now.pages home ≡ d.pages home
  slot_page n home of = ⊎_elim
      (λ has. page_same (of_tags n) home has (λ e. cc))
      (λ rest. ⊎_elim (λ f. page_same (of_file f.0 f.1) home f.3 (λ e. cc)) (λ i. page_same (of_index i.0 i.1) home i.3 (λ e. cc)) rest)
      of

  here_now : item_in now number ≡ Some left
  here_now = ap (λ (t : Table). slice_get t.slots number) s.table ∙ item_here

  other_now : (n : ℕ) → ¬ n ≡ number → item_in now n ≡ item_in d n
  other_now n differ = ap (λ (t : Table). slice_get t.slots n) s.table ∙ item_other n differ

  puts : PutsFileset number entry_now d now
  puts = record {
    has = here_now;
    had = λ item at. subst (λ (x : SlotItem). IfSome (entry_of x) (λ (was : FilesetEntry). was.name ≡ entry.name)) (some_same (slot.Original entry) item (sym s.was ∙ at)) refl;
    others = other_now;
  }

  -- ---- beside what stands

  pub bits_bounded : (space : Spaces) → IsMarkedBut (record d { space = space }) → IsMarkedBut (record now { space = space })
  bits_bounded = bits_stay d now below.tables (ap (λ (x : DomainNow). x.frame) s.same) keeps_volumes
    where
      keeps_volumes : KeepsVolumes d now
      keeps_volumes home member first = page_same of_volume home (member, first) (λ e. cc)

  pub alone_bounded : StandAlone d → StandAlone now
  alone_bounded = sources_stay d now (ap (λ (x : DomainNow). x.frame.anchor) s.same) (λ vol member. ap (λ (x : DomainNow). table_of x.cells vol) s.same)
      (λ home member on. page_same of_cells home (member, on) (λ e. cc))

  pub books_bounded : (books books_now : ℕ → Book) → ((n : ℕ) → ¬ n ≡ number → books_now n ≡ books n) → books_now number ≡ record (books number) { limits = with_limits (books number).limits owner.Fileset limits } → (all : FilesetMap) (fileset : FilesetSlot)
      → get all entry.name ≡ Some fileset → AreBooksOf books d all → AreBooksOf books_now now (insert all entry.name (fileset_limited owner.Fileset limits fileset))
  books_bounded books books_now others limited all fileset there are = books_put number entry_now d now after.tables puts books books_now others (fileset_limited owner.Fileset limits fileset) own all are
    where
      was : IsBookOf (books number) fileset.tree
      was = subst (λ (o : Option FilesetSlot). IsSomeAnd o (λ f. IsBookOf (books number) f.tree)) there (are number entry s.was)

      own : IsBookOf (books_now number) (fileset_limited owner.Fileset limits fileset).tree
      own = subst (λ (b : Book). IsBookOf b (fileset_limited owner.Fileset limits fileset).tree) (sym limited) (limited_same fileset.tree owner.Fileset limits (books number) was)

  -- ---- filesets

  module _ (all : FilesetMap) (slots : StandSlots d all) where
    item_was : (n : ℕ) (item : SlotItem) (tag : Tag) (cells : List PlacedCell) (seen : SeenFile) → slice_get table_now.slots n ≡ Some item → IsInItem now.pages table_now item tag cells seen
        → (was : SlotItem) × (item_in d n ≡ Some was) × IsInItem now.pages table_now was tag cells seen
    item_was n item tag cells seen there is = ⊎_elim
        (λ same.
        let its : IsInOriginal now.pages entry_now tag cells seen =
        subst (λ (x : SlotItem). IsInItem now.pages table_now x tag cells seen) (sym (some_same left item (sym item_here ∙ ap (slice_get table_now.slots) (sym same) ∙ there))) is in
        (slot.Original entry, ap (item_in d) same ∙ s.was, record { there = record { places = its.there.places; directory = its.there.directory; leads = its.there.leads }; is = its.is }))
        (λ differ. (item, sym (item_other n differ) ∙ there, is))
        (number_or_not n number)

    pub parents_bounded : HaveParents d → HaveParents now
    parents_bounded parents = subst HaveParents it_is
        (parents_on_as d files indexes below now.pages now.contents keeps (λ a page home held. page_same (of_file a page) home held (file_not_table a page)) table_now item_was slots.no_clone parents)

    module _ (bytes : (home : Home) → now.pages home ≡ d.pages home → now.contents home ≡ d.contents home) where
      others_bounded : (n : ℕ) (other : FilesetEntry) (shape : FilesetShape) (fileset : FilesetSlot) → ¬ n ≡ number → item_in d n ≡ Some (slot.Original other) → StandsSlot d n other shape fileset → StandsSlot now n other shape fileset
      others_bounded n other shape fileset differ there stood =
          subst (λ (x : DomainNow). StandsSlot x n other shape fileset) it_is
          (slot_stays_so n d it files files indexes indexes below it_stands keeps_it other shape fileset there stood)
        where
          keeps_it : KeepsSlot n d it files files indexes indexes
          keeps_it = record {
            item = item_other n differ;
            tags = refl;
            chains = λ a of. refl;
            quotas = λ a quota. refl;
            homes = λ a of. refl;
            pages = λ home of. slot_page n home of;
            held = λ home of low is. is;
            bytes = λ home of. bytes home (slot_page n home (inr (inl of)));
          }

      keeps_own : KeepsFiles number d it files files indexes indexes
      keeps_own = record {
        quota = same_named quota_of refl number;
        tags = refl;
        chains = λ a of. refl;
        quotas = λ a quota. refl;
        homes = λ a of. refl;
        pages = λ home of. slot_page number home of;
        held = λ home of low is. is;
        bytes = λ home of. bytes home (slot_page number home (inr (inl of)));
      }

      stood : StoodIn d all slots number entry
      stood = stood_in d all slots number entry s.was

      own_now : StandsSlot now number entry_now (shape_limited owner.Fileset limits stood.shape_was) (fileset_limited owner.Fileset limits stood.fileset_was)
      own_now = subst (λ (x : DomainNow). StandsSlot x number entry_now (shape_limited owner.Fileset limits stood.shape_was) (fileset_limited owner.Fileset limits stood.fileset_was)) it_is
          (slot_bounded it number entry limits stood.shape_was stood.fileset_was
          (slot_stays_as number d it files files indexes indexes below it_stands keeps_own entry stood.shape_was stood.fileset_was s.was stood.stood))

      pub slots_bounded : (fileset : FilesetSlot) → get all entry.name ≡ Some fileset → StandSlots now (insert all entry.name (fileset_limited owner.Fileset limits fileset))
      slots_bounded fileset there = subst (λ (f : FilesetSlot). StandSlots now (insert all entry.name (fileset_limited owner.Fileset limits f))) (some_same stood.fileset_was fileset (sym stood.filled ∙ there))
          (fileset_put number entry_now d now files indexes all after puts slots others_bounded (shape_limited owner.Fileset limits stood.shape_was) (fileset_limited owner.Fileset limits stood.fileset_was) own_now)

module _ (number : ℕ) (entry : FilesetEntry) (limits : Limits) (d now : DomainNow) (s : BoundsFileset number entry limits d now) (bytes : (home : Home) → now.pages home ≡ d.pages home → now.contents home ≡ d.contents home) (all : FilesetMap) (stands : StandsDomain d all) where
  below_all : StandsBelow d stands.files stands.indexes
  below_all = record { tables = stands.tables; chains = stands.chains; owned = stands.owned; rest = stands.rest }

  after_all : StandsBelow now stands.files stands.indexes
  after_all = after number entry limits d now stands.files stands.indexes below_all s

  pub domain_bounded : (fileset : FilesetSlot) → get all entry.name ≡ Some fileset → StandsDomain now (insert all entry.name (fileset_limited owner.Fileset limits fileset))
  domain_bounded fileset there = record {
    tables = after_all.tables;
    files = stands.files;
    indexes = stands.indexes;
    chains = after_all.chains;
    owned = after_all.owned;
    rest = after_all.rest;
    slots = slots_bounded number entry limits d now stands.files stands.indexes below_all s all stands.slots bytes fileset there;
  }
