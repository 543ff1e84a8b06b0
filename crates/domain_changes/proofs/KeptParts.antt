-- What was kept stays where pages, free space and free cells change, and a change can be taken back.
use Rattle.std.proofs.Common.{◌≡◌, ◌∙◌, ◌<◌, ℕ, zero, suc, List, [], ◌∷◌, Option, Some, None, IfSome, length, slice_get, take, refl, sym, ap, subst, arith}
use Rattle.std.proofs.Math.Logic.{∥∥₁_map}
use Rattle.domain_memory.specs.free_cells.Cells.{is_closed, kept_of}
use Rattle.domain_memory.specs.free_space.Spaces.{Spaces, kept_spaces, volume_of}
use Rattle.domain_memory.specs.tag_dirs.declared.dir.TagPlace.{TagPlace}
use Rattle.domain_memory.specs.fileset_table.Table.{IsTable}
use Rattle.domain_memory.specs.fileset_table.declared.slot.SlotItem.TheVariants as slot
use Rattle.domain_memory.proofs.OfStoredSet.Stable.{nothing, one_number}
use Rattle.domain_memory.specs.staged_pages.Store.{before_of}
use Rattle.domain_memory.specs.Slots.{CanGoBack, HasNumber, kept_book, kept_places, places_in, slot_in}
use Rattle.domain_memory.specs.declared.slots.SlotFiles.{SlotFiles}
use Rattle.domain_memory.specs.Kept.{KeepsKept}
use Rattle.domain_memory.specs.Memory.{with_was}
use Rattle.domain_memory.specs.Staged.{IsStagedForSome, MayGoBack}
use Rattle.domain_memory.specs.declared.memory.DomainMemory.{DomainMemory}

module _ (old new : DomainMemory) (same : new ≡ record old { pages = new.pages; space = new.space; cells = new.cells }) (before : before_of new.pages ≡ before_of old.pages)
    (spaces : (vol : ℕ) → volume_of (kept_spaces new.space) vol ≡ volume_of (kept_spaces old.space) vol) (cells : (vol : ℕ) → kept_of new.cells vol ≡ kept_of old.cells vol) (marks : (vol : ℕ) → is_closed new.cells vol ≡ is_closed old.cells vol) where
  pub parts_kept : KeepsKept old new
  parts_kept = record {
    frame = ap (λ (m : DomainMemory). m.frame) same;
    table = ap (λ (m : DomainMemory). with_was m.was m.table) same;
    places = λ number. ap (λ (m : DomainMemory). kept_places (slot_in m.slots.items number)) same;
    books = λ number entry there. ap (λ (m : DomainMemory). kept_book (slot_in m.slots.items number)) same;
    pages = before;
    spaces = spaces;
    cells = cells;
    marks = marks;
    list = ap (λ (m : DomainMemory). m.list.list) same;
  }

-- free cells alone do not
pub with_cells : (old new : DomainMemory) → new ≡ record old { pages = new.pages; space = new.space } → new ≡ record old { pages = new.pages; space = new.space; cells = new.cells }
with_cells old new same = same ∙ (λ i. record old { pages = new.pages; space = new.space; cells = sym (ap (λ (m : DomainMemory). m.cells) same) i })

pub space_kept : (old new : DomainMemory) → new ≡ record old { pages = new.pages; space = new.space } → before_of new.pages ≡ before_of old.pages → ((vol : ℕ) → volume_of (kept_spaces new.space) vol ≡ volume_of (kept_spaces old.space) vol) → KeepsKept old new
space_kept old new same before spaces =
    parts_kept old new (with_cells old new same) before spaces (λ vol. ap (λ (m : DomainMemory). kept_of m.cells vol) same) (λ vol. ap (λ (m : DomainMemory). is_closed m.cells vol) same)

pub same_volumes : (space space_now : Spaces) → kept_spaces space_now ≡ kept_spaces space → (vol : ℕ) → volume_of (kept_spaces space_now) vol ≡ volume_of (kept_spaces space) vol
same_volumes space space_now same vol = ap (λ (s : Spaces). volume_of s vol) same

-- a change can be taken back if no slot was set
pub back_kept : (old new : DomainMemory) → new.slots.items ≡ old.slots.items → KeepsKept old new → ∥ MayGoBack old ∥₁ → ∥ MayGoBack new ∥₁
back_kept old new slots kept may = ∥∥₁_map may (λ m. record {
  has = record {
    count = ap length slots ∙ m.has.count;
    numbered = λ n. subst (λ s. IfSome (slot_in s n) (HasNumber n)) (sym slots) (m.has.numbered n);
  };
  table = subst IsTable (sym kept.table) m.table;
  slots = λ n. subst (λ s. IfSome (slot_in s n) CanGoBack) (sym slots) (m.slots n);
})

-- a slot has its place among the slots
pub asks_slot : (memory : DomainMemory) (number : ℕ) → ∥ MayGoBack memory ∥₁ → number < 32 → number < length memory.slots.items
asks_slot memory number may low = omega (arith, low, one_number (length memory.slots.items) 32 (∥∥₁_map may (λ m. m.has.count)))

-- ---- a free slot has no tag directory

some_none : (place : TagPlace) (places : List TagPlace) → place ∷ places ≡ [] → ⊥
some_none place places is = absurd (cc)

none_known : (places : List TagPlace) → ∥ places ≡ [] ∥₁ → places ≡ []
none_known [] t = refl
none_known (place ∷ places) t = absurd (nothing (∥∥₁_map t (some_none place places)))

take_none : (n : ℕ) (places : List TagPlace) → places ≡ [] → take n places ≡ []
take_none zero [] none = refl
take_none (suc n) [] none = refl
take_none zero (place ∷ places) none = absurd (some_none place places none)
take_none (suc n) (place ∷ places) none = absurd (some_none place places none)

kept_none : (o : Option SlotFiles) → places_in o ≡ [] → kept_places o ≡ []
kept_none None none = refl
kept_none (Some slot) none = take_none slot.tag_pages slot.files.tags none

pub asks_no_places : (memory : DomainMemory) (number : ℕ) → ∥ IsStagedForSome memory ∥₁ → slice_get memory.table.slots number ≡ Some slot.Free → kept_places (slot_in memory.slots.items number) ≡ []
asks_no_places memory number staged free =
    kept_none (slot_in memory.slots.items number) (none_known (places_in (slot_in memory.slots.items number)) (∥∥₁_map staged (λ s. s.1.stands.tables.laid.tags number slot.Free free)))
