-- A domain stands on where the last of the quota cells of what is being removed goes, and its slot names
-- none any more.
use Rattle.std.proofs.Common.{◌≡◌, ◌∙◌, ◌==◌, ◌&&◌, ◌||◌, ◌⊎◌, inl, inr, ℕ, Bool, true, false, not, List, Option, Some, None, IsSomeAnd, Contains, slice_get, refl, sym, ap, subst, ⊎_elim}
use Rattle.std.proofs.lemmas.Bool.{both_ways, cases_Bool, eq-eqb, eqb-true, false_from_ne_true, true≢false}
use Rattle.std.specs.Option.{option_and_then, option_map_or}
use Rattle.standing_laws.specs.domain_base.declared.place.CellAt.{CellAt}
use Rattle.standing_laws.specs.domain_base.declared.place.Home.{Home}
use Rattle.standing_laws.specs.metadata_cells.Cell.{Cell, record_of}
use Rattle.standing_laws.specs.tag_dirs.Directory.{has_home}
use Rattle.standing_laws.specs.fileset_model.Filesets.{FilesetMap}
use Rattle.standing_laws.specs.fileset_table.Page.{IsTablePage}
use Rattle.standing_laws.specs.fileset_table.Table.{Table, with_slot}
use Rattle.standing_laws.specs.fileset_table.declared.slot.FilesetEntry.{FilesetEntry}
use Rattle.standing_laws.specs.fileset_table.declared.slot.SlotItem.{SlotItem}
use Rattle.standing_laws.specs.fileset_table.declared.slot.SlotItem.TheVariants as slot
use Rattle.standing_laws.proofs.OfFilesetTable.Leaving.{get_other}
use Rattle.standing_laws.specs.free_space.Spaces.{Spaces}
use Rattle.standing_laws.specs.release_list.Standing.{Files}
use Rattle.standing_laws.proofs.OfReleaseList.Spread.{none_not}
use Rattle.standing_laws.specs.domain_layout.CellRules.{has_first_records, has_its_kinds, has_kind, is_good_first, keeps_well, of_clone, of_original, say_removed}
use Rattle.standing_laws.specs.domain_layout.Layout.{first_tag_of}
use Rattle.standing_laws.specs.domain_layout.TagRules.{quota_of}
use Rattle.standing_laws.specs.domain_standing.Chains.{IndexesAt, IsQuotaOf, IsRemoved}
use Rattle.standing_laws.specs.domain_standing.Domain.{DomainNow, item_in}
use Rattle.standing_laws.specs.domain_standing.Holders.{Holder, Holds}
use Rattle.standing_laws.specs.domain_standing.Holders.Holder.{of_cells, of_index, of_table}
use Rattle.standing_laws.specs.domain_standing.Slots.{StandSlots}
use Rattle.standing_laws.specs.domain_standing.Sources.{StandAlone}
use Rattle.standing_laws.specs.domain_standing.Standing.{HaveParents, IsMarkedBut}
use Rattle.standing_laws.specs.Leads.{StandsBelow}
use Rattle.standing_laws.specs.Sound.{StandsSound}
use Rattle.standing_laws.proofs.FilesetBegins.{get_set}
use Rattle.standing_laws.proofs.OthersStand.{SaysWhere}
use Rattle.standing_laws.proofs.SoundKept.{sound_kept}
use Rattle.standing_laws.proofs.SourcesSaid.{alone_by_files}
use Rattle.release_laws.specs.QuotaCells.{EndsQuotaOf}
use Rattle.release_laws.proofs.Led.{member_of_table}
use Rattle.release_laws.proofs.QuotaFreed.{alone_freed, sound_freed, stands_but, stays_at}
use Rattle.release_laws.proofs.SlotsBeside.{LeavesSlots, bits_left, parents_left, slots_left}
use Rattle.release_laws.proofs.TableSays.{NamesQuota, NamesTheRest, StandsBut, below_on}

number_or_not : (n number : ℕ) → (n ≡ number) ⊎ (¬ n ≡ number)
number_or_not n number = ⊎_elim
    (λ same. inl (eqb-true n number same))
    (λ apart. inr (λ same. both_ways (n == number) apart (eq-eqb n number same)))
    (cases_Bool (n == number))

-- what is asked of a first cell of an original, or of a clone
abbrev good_as : Cell → Bool → Bool → Bool
good_as cell original clone = has_first_records cell.records
    && (say_removed cell.records
    || ((not original || (has_its_kinds false cell.records && option_map_or (λ r. keeps_well r (has_kind 6 cell.records)) (record_of 1 cell.records) false))
    && (not clone || has_its_kinds true cell.records)))

module _ (d now : DomainNow) (files files_now : Files) (indexes : IndexesAt) (below : StandsBelow d files indexes) (alone : StandAlone d) (number : ℕ) (s : EndsQuotaOf number d now files files_now) where
  abbrev before : SlotItem
  before = slot.Removed s.first_tag (Some s.at)

  abbrev left : SlotItem
  left = slot.Removed s.first_tag None

  abbrev table_now : Table
  table_now = with_slot number left d.table

  quota : IsQuotaOf d number s.at
  quota = ap (option_and_then quota_of) s.was

  removed : IsRemoved (item_in d number)
  removed = subst IsRemoved (sym s.was) tt

  abbrev free : DomainNow
  free = record d { pages = s.pages; contents = s.contents; cells = now.cells }

  abbrev it : DomainNow
  it = record free { table = table_now; pages = now.pages; contents = now.contents }

  it_is : it ≡ now
  it_is = (λ i. record d { table = sym s.table i; pages = now.pages; contents = now.contents; cells = now.cells }) ∙ sym s.same

  -- ---- slots

  item_here : slice_get table_now.slots number ≡ Some left
  item_here = get_set d.table.slots number left before s.was

  item_other : (n : ℕ) → ¬ n ≡ number → slice_get table_now.slots n ≡ slice_get d.table.slots n
  item_other n differ = get_other d.table.slots number n left (false_from_ne_true (n == number) (λ same. differ (eqb-true n number same)))

  same_named : {X : Type 0} (what : SlotItem → Option X) → what left ≡ what before → (n : ℕ) → option_and_then what (slice_get table_now.slots n) ≡ option_and_then what (slice_get d.table.slots n)
  same_named what alike n = ⊎_elim
      (λ same.
      ap (λ (k : ℕ). option_and_then what (slice_get table_now.slots k)) same ∙ ap (option_and_then what) item_here ∙ alike ∙ sym (ap (option_and_then what) s.was)
      ∙ sym (ap (λ (k : ℕ). option_and_then what (slice_get d.table.slots k)) same))
      (λ differ. ap (option_and_then what) (item_other n differ))
      (number_or_not n number)

  removed_still : (n : ℕ) → IsRemoved (slice_get d.table.slots n) → IsRemoved (slice_get table_now.slots n)
  removed_still n is = ⊎_elim
      (λ same. subst IsRemoved (sym (ap (slice_get table_now.slots) same ∙ item_here)) tt)
      (λ differ. subst IsRemoved (sym (item_other n differ)) is)
      (number_or_not n number)

  original_was : (n : ℕ) → of_original (slice_get table_now.slots n) ≡ true → of_original (slice_get d.table.slots n) ≡ true
  original_was n is = ⊎_elim
      (λ same. absurd (true≢false (sym is ∙ ap of_original (ap (slice_get table_now.slots) same ∙ item_here))))
      (λ differ. ap of_original (sym (item_other n differ)) ∙ is)
      (number_or_not n number)

  -- what a first cell is asked for hangs on what its slot has: an original or a clone
  alike : (what : Option SlotItem → Bool) → what (Some left) ≡ what (Some before) → (o : Option ℕ) → what (option_and_then (slice_get table_now.slots) o) ≡ what (option_and_then (slice_get d.table.slots) o)
  alike what is None = refl
  alike what is (Some n) = ⊎_elim
      (λ same. ap what (ap (slice_get table_now.slots) same ∙ item_here) ∙ is ∙ sym (ap what (ap (slice_get d.table.slots) same ∙ s.was)))
      (λ differ. ap what (item_other n differ))
      (number_or_not n number)

  good_still : (cell : Cell) → is_good_first d.table cell ≡ true → is_good_first table_now cell ≡ true
  good_still cell good = (λ i. good_as cell (alike of_original refl cell.head.fileset i) (alike of_clone refl cell.head.fileset i)) ∙ good

  names_the_rest : NamesTheRest d.table table_now
  names_the_rest = record {
    made = refl;
    firsts = same_named first_tag_of refl;
    removed = removed_still;
    original = original_was;
    good = good_still;
  }

  -- quota cells that the table names then are another slot's, which named them
  names_back : (n : ℕ) (a : CellAt) → NamesQuota table_now n a → IsQuotaOf d n a × (¬ n ≡ number)
  names_back n a names = ⊎_elim
      (λ same. absurd (none_not a (sym (ap (λ (k : ℕ). option_and_then quota_of (slice_get table_now.slots k)) same ∙ ap (option_and_then quota_of) item_here) ∙ names)))
      (λ differ. (ap (option_and_then quota_of) (sym (item_other n differ)) ∙ names, differ))
      (number_or_not n number)

  names_on : (n : ℕ) (a : CellAt) → IsQuotaOf d n a → ¬ n ≡ number → NamesQuota table_now n a
  names_on n a is differ = ap (option_and_then quota_of) (item_other n differ) ∙ is

  but : StandsBut table_now free files_now indexes
  but = stands_but d files files_now indexes below alone number s.at quota removed now.cells s.pages s.contents s.frees table_now names_back names_on

  -- ---- pages

  page_same : (holder : Holder) (home : Home) → Holds free files_now indexes holder home → ¬ holder ≡ of_table → now.pages home ≡ s.pages home
  page_same holder home held other = s.others home (λ at. other (but.owned.once home holder of_table held at))

  abbrev keeps : (holder : Holder) (home : Home) → SaysWhere holder → Holds free files_now indexes holder home → now.pages home ≡ s.pages home
  keeps holder home says held = page_same holder home held (λ is. subst SaysWhere is says)

  says_now : IsSomeAnd d.frame.anchor.table (λ home. IsSomeAnd (now.pages home) (λ page. IsTablePage page table_now))
  says_now = by_home d.frame.anchor.table refl below.tables.laid.table
    where
      by_home : (o : Option Home) → d.frame.anchor.table ≡ o → IsSomeAnd o (λ home. IsSomeAnd (d.pages home) (λ page. IsTablePage page d.table)) → IsSomeAnd o (λ home. IsSomeAnd (now.pages home) (λ page. IsTablePage page table_now))
      by_home None at is = absurd is
      by_home (Some home) at is = subst (λ (t : Table). IsSomeAnd (now.pages home) (λ page. IsTablePage page t)) s.table (s.says home at)

  -- ---- all but the filesets

  it_stands : StandsBelow it files_now indexes
  it_stands = below_on free files_now indexes table_now but now.pages now.contents keeps names_the_rest says_now

  pub below_ended : StandsBelow now files_now indexes
  below_ended = subst (λ (x : DomainNow). StandsBelow x files_now indexes) it_is it_stands

  pub alone_ended : StandAlone now
  alone_ended = alone_by_files now files_now indexes below_ended (alone_freed d files files_now indexes below alone number s.at quota removed now.cells s.pages s.contents s.frees)

  frame_same : now.frame ≡ d.frame
  frame_same = ap (λ (x : DomainNow). x.frame) s.same

  pub sound_ended : StandsSound d files indexes → StandsSound now files_now indexes
  sound_ended sound = sound_kept free now files_now indexes (sound_freed d files files_now indexes below alone number s.at quota removed now.cells s.pages s.contents s.frees sound)
      frame_same
      (λ vol. refl)
      (λ n home has. inl (ap (λ (x : DomainNow). has_home (x.tags n) home) (sym s.same) ∙ has))
      (λ home held. page_same of_cells home held (λ e. cc))
      (λ a k home held. page_same (of_index a k) home held (λ e. cc))

  -- ---- pages that are neither cells nor the table are as they were

  page_kept : (holder : Holder) (home : Home) → Holds d files indexes holder home → ¬ holder ≡ of_table → ¬ holder ≡ of_cells → (now.pages home ≡ s.pages home) × (s.pages home ≡ d.pages home)
  page_kept holder home held no_table no_cells = (
    s.others home (λ at. no_table (below.owned.once home holder of_table held at)),
    s.frees.elsewhere home (λ on.
        let then = subst (λ (t : List ℕ). Contains t home.page) (s.frees.frees.tables home.vol) on in
        no_cells (below.owned.once home holder of_cells held (member_of_table d files indexes below home.vol home.page then, then))),
  )

  page_was : (holder : Holder) (home : Home) → Holds d files indexes holder home → ¬ holder ≡ of_table → ¬ holder ≡ of_cells → now.pages home ≡ d.pages home
  page_was holder home held no_table no_cells = let k = page_kept holder home held no_table no_cells in k.0 ∙ k.1

  leaves : LeavesSlots number s.at d now files files_now indexes
  leaves = record {
    quota = quota;
    was = removed;
    is = subst IsRemoved (sym (ap (λ (t : Table). slice_get t.slots number) s.table ∙ item_here)) tt;
    items = λ n differ. ap (λ (t : Table). slice_get t.slots n) s.table ∙ item_other n differ;
    stays = stays_at d files files_now indexes below alone number s.at quota removed now.cells s.pages s.contents s.frees;
    frame = frame_same;
    tags = ap (λ (x : DomainNow). x.tags) s.same;
    space = ap (λ (x : DomainNow). x.space) s.same;
    pages = page_was;
    bytes = λ holder home held no_table no_cells. let k = page_kept holder home held no_table no_cells in s.bytes home k.0 ∙ s.frees.bytes home k.1;
  }

  -- an original that the table has then it had
  pub original_ended : (n : ℕ) (entry : FilesetEntry) → item_in now n ≡ Some (slot.Original entry) → item_in d n ≡ Some (slot.Original entry)
  original_ended n entry there = ⊎_elim
      (λ is. absurd (subst IsRemoved (ap (item_in now) (sym is) ∙ there) leaves.is))
      (λ differ. sym (leaves.items n differ) ∙ there)
      (number_or_not n number)

  pub bits_ended : (space : Spaces) → IsMarkedBut (record d { space = space }) → IsMarkedBut (record now { space = space })
  bits_ended = bits_left number s.at d now files files_now indexes below below_ended leaves

  module _ (all : FilesetMap) (slots : StandSlots d all) where
    pub slots_ended : StandSlots now all
    slots_ended = slots_left number s.at d now files files_now indexes below below_ended leaves all slots

    pub parents_ended : HaveParents d → HaveParents now
    parents_ended = parents_left number s.at d now files files_now indexes below below_ended leaves all slots
