-- Quota cells that a slot of memory names begin there, and what their going leaves.
use Rattle.std.proofs.Common.{◌≡◌, ◌∙◌, ℕ, Bool, true, false, not, List, [], Option, Some, None, Result, Ok, Err, OnErr, OnOk, Contains, true≢false, IfSome, IsSomeAnd, length, slice_get, refl, sym, ap, subst}
use Rattle.std.proofs.Math.Logic.{∥∥₁_map}
use Rattle.std.specs.Option.{option_and_then}
use Rattle.domain_changes.specs.domain_base.declared.place.CellAt.{CellAt}
use Rattle.domain_changes.specs.domain_base.declared.place.Home.{Home}
use Rattle.domain_changes.specs.metadata_cells.Chain.{PlacedCell}
use Rattle.domain_changes.specs.fileset_model.Filesets.{FilesetMap}
use Rattle.domain_changes.specs.fileset_table.Table.{IsTable}
use Rattle.domain_changes.specs.fileset_table.declared.slot.SlotItem.{SlotItem}
use Rattle.domain_changes.specs.fileset_table.declared.slot.SlotItem.TheVariants as slot
use Rattle.domain_changes.specs.release_list.Listing.{Listing}
use Rattle.domain_changes.specs.release_list.Standing.{Files}
use Rattle.domain_changes.specs.release_list.declared.list.Entry.{Entry}
use Rattle.domain_changes.proofs.OfReleaseList.Spread.{none_not, some_same}
use Rattle.domain_changes.specs.release_steps.Kept.{HasNoEntry}
use Rattle.domain_changes.specs.domain_layout.TagRules.{quota_of}
use Rattle.domain_changes.specs.domain_memory.Listing.{list_with}
use Rattle.domain_changes.specs.domain_memory.Slots.{CanGoBack, HasNumber, slot_in}
use Rattle.domain_changes.specs.domain_memory.Kept.{KeepsKept}
use Rattle.domain_changes.specs.domain_memory.Staged.{IsStaged, MayBeKept, MayGoBack, staged_in}
use Rattle.domain_changes.specs.domain_memory.declared.memory.DomainMemory.{DomainMemory}
use Rattle.domain_changes.specs.domain_standing.Chains.{AreQuotasOf, IsRemoved}
use Rattle.release_laws.proofs.QuotaAtHand.{quotas_at_hand}
use Rattle.release_laws.proofs.QuotasListed.{quotas_listed}
use Rattle.release_changes.specs.Emptying.{MayBeKeptForAny}
use Rattle.domain_changes.specs.domain_memory.Going.{HasQuotaCells}
use Rattle.release_changes.specs.QuotaCells.{BeginsQuotas, LosesLast, LosesSecond}
use Rattle.release_changes.proofs.QuotaKept.{kept_ended, kept_lost}

-- they begin there with the files with which memory stands
pub begins_so : (memory : DomainMemory) (all : FilesetMap) (is : IsStaged memory all) (number : ℕ) (at : CellAt) → HasQuotaCells memory number at → BeginsQuotas memory at is.sound.files
begins_so memory all is number at cells = by_chain (is.sound.files at) refl (is.sound.below.chains.quotas number at cells.quota)
  where
    by_chain : (o : Option (List PlacedCell)) → is.sound.files at ≡ o → IsSomeAnd o (AreQuotasOf (staged_in memory) number at) → BeginsQuotas memory at is.sound.files
    by_chain None there are = absurd are
    by_chain (Some chain) there are = record {
      has = record { last = refl; well = (quotas_listed (staged_in memory) is.sound.files is.sound.indexes is.sound.below is.alone number at cells.quota cells.removed cells.unlisted).chains.well };
      chain = chain;
      is = there;
      quotas = are.quotas;
    }

-- and with files that are at hand
pub asks_quotas : (memory : DomainMemory) → ∥ MayBeKeptForAny memory ∥₁ → (number : ℕ) (at : CellAt) → HasQuotaCells memory number at → (files : Files) × BeginsQuotas memory at files
asks_quotas memory ready number at cells =
    quotas_at_hand (staged_in memory) (∥∥₁_map ready (λ r. let is = r.1.staged in (is.sound.files, is.sound.indexes, is.sound.below, is.alone))) number at cells.quota cells.removed cells.unlisted

-- the slot names these and no others
pub has_those : (memory : DomainMemory) (number : ℕ) (at : CellAt) → HasQuotaCells memory number at → (item : SlotItem) (first_tag : Option Home) (quota : Option CellAt) (its : CellAt) → slice_get memory.table.slots number ≡ Some item → item ≡ slot.Removed first_tag quota → quota ≡ Some its → HasQuotaCells memory number its
has_those memory number at cells item first_tag quota its there is named =
    subst (HasQuotaCells memory number) (some_same at its (sym cells.quota ∙ ap (option_and_then quota_of) (there ∙ ap (λ (i : SlotItem). Some i) is) ∙ named)) cells

pub has_some : (memory : DomainMemory) (number : ℕ) (at : CellAt) → HasQuotaCells memory number at → (item : SlotItem) (first_tag : Option Home) (quota : Option CellAt) → slice_get memory.table.slots number ≡ Some item → item ≡ slot.Removed first_tag quota → quota ≡ None → ⊥
has_some memory number at cells item first_tag quota there is none = none_not at (sym none ∙ sym (ap (option_and_then quota_of) (there ∙ ap (λ (i : SlotItem). Some i) is)) ∙ cells.quota)

-- ---- what their going leaves

module _ (old new : DomainMemory) (number : ℕ) (at : CellAt) (cells : HasQuotaCells old number at) where
  pub second_kept : new ≡ record old { pages = new.pages; cells = new.cells } → (all : FilesetMap) (ready : MayBeKept old all) → (BeginsQuotas old at ready.staged.sound.files → LosesSecond number at ready.staged.sound.files old new) → MayBeKept new all
  second_kept same all ready loses =
      let lost = loses (begins_so old all ready.staged number at cells) cells in
      kept_lost old new (same ∙ (λ i. record old { pages = new.pages; cells = new.cells; table = sym (ap (λ (m : DomainMemory). m.table) same) i; was = sym (ap (λ (m : DomainMemory). m.was) same) i })) all ready lost.0 number lost.1

  pub last_kept : new ≡ record old { pages = new.pages; cells = new.cells; table = new.table; was = new.was } → (all : FilesetMap) (ready : MayBeKept old all) → (BeginsQuotas old at ready.staged.sound.files → LosesLast number at ready.staged.sound.files old new) → MayBeKept new all
  last_kept same all ready loses =
      let lost = loses (begins_so old all ready.staged number at cells) cells in
      kept_ended old new same all ready lost.0 number lost.1

pub back_lost : (old new : DomainMemory) → new.slots ≡ old.slots → KeepsKept old new → ∥ MayGoBack old ∥₁ → ∥ MayGoBack new ∥₁
back_lost old new slots kept may = ∥∥₁_map may (λ m. record {
  has = record {
    count = ap (λ s. length s.items) slots ∙ m.has.count;
    numbered = λ n. subst (λ s. IfSome (slot_in s.items n) (HasNumber n)) (sym slots) (m.has.numbered n);
  };
  table = subst IsTable (sym kept.table) m.table;
  slots = λ n. subst (λ s. IfSome (slot_in s.items n) CanGoBack) (sym slots) (m.slots n);
})

-- ---- whether they are on the list

pub no_entry : (b : Bool) → not b ≡ true → b ≡ false
no_entry true is = absurd (true≢false (sym is))
no_entry false is = refl

pub an_entry : (b : Bool) → not b ≡ false → b ≡ true
an_entry true is = refl
an_entry false is = absurd (true≢false is)

module _ (memory : DomainMemory) (listed : memory.listed.items ≡ []) where
  list_is : (staged_in memory).list ≡ memory.list.list
  list_is = ap (λ l. list_with l memory.list.list) listed

  pub names_them : (number : ℕ) (item : SlotItem) (first_tag : Option Home) (quota : Option CellAt) (its : CellAt) → slice_get memory.table.slots number ≡ Some item → item ≡ slot.Removed first_tag quota → quota ≡ Some its
      → ((e : Entry) → Contains memory.list.list.entries e → ¬ e.at ≡ its) → HasQuotaCells memory number its
  names_them number item first_tag quota its there is named none = record {
    removed = subst IsRemoved (sym (there ∙ ap (λ (i : SlotItem). Some i) is)) tt;
    quota = ap (option_and_then quota_of) (there ∙ ap (λ (i : SlotItem). Some i) is) ∙ named;
    unlisted = subst (λ (l : Listing). HasNoEntry l its) (sym list_is) none;
  }

  pub not_these : (number : ℕ) (its : CellAt) → HasQuotaCells memory number its → (e : Entry) → Contains memory.list.list.entries e → ¬ e.at ≡ its
  not_these number its cells e inside = cells.unlisted e (subst (λ (l : Listing). Contains l.entries e) (sym list_is) inside)

pub on_err : {X E A B : Type 0} (r : Result X E) → (A → B) → OnErr r A → OnErr r B
on_err (Ok x) f a = tt
on_err (Err e) f a = f a

-- what is so at Ok whatever files they are, is so of all files at Ok
pub on_ok_for : {X E : Type 0} (P Q : Files → Type 0) (r : Result X E) → ((files : Files) → P files → OnOk r (Q files)) → OnOk r ((files : Files) → P files → Q files)
on_ok_for P Q (Ok x) each = each
on_ok_for P Q (Err e) each = tt
