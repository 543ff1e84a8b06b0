-- Memory whose change was taken back, and memory that was just made.
use Rattle.std.proofs.Common.{◌≡◌, ◌∙◌, ℕ, zero, suc, List, [], ◌∷◌, Option, Some, None, IfSome, map, replicate, refl, sym, ap, subst, length, arith, ⊎_elim}
use Rattle.std.proofs.Math.Logic.{∥∥₁_elim, ∥∥₁_map}
use Rattle.std.proofs.lemmas.Bool.{cases_eq, cases_lt}
use Rattle.std.specs.Option.{option_map}
use Rattle.standing_laws.specs.free_space.Spaces.{Spaces, kept_spaces}
use Rattle.standing_laws.specs.free_space.VolumeSpace.{VolumeSpace, as_kept}
use Rattle.standing_laws.specs.free_cells.Cells.{taken_back}
use Rattle.standing_laws.specs.fileset_table.Table.{IsTable}
use Rattle.standing_laws.specs.page_ways.Frame.{frame_in}
use Rattle.standing_laws.specs.domain_layout.Read.{contents_of}
use Rattle.staged_pages.specs.Store.{before_of, pages_of}
use Rattle.domain_memory.specs.Slots.{CanGoBack, ChangesSlots, HasNumber, IsTakenBack, book_in, kept_book, kept_places, places_in, slot_in}
use Rattle.domain_memory.specs.declared.slots.SlotFiles.{SlotFiles}
use Rattle.domain_memory.specs.Memory.{books_in, kept_in, with_was}
use Rattle.domain_memory.specs.Staged.{IsSettled, MayGoBack}
use Rattle.domain_memory.specs.declared.memory.DomainMemory.{DomainMemory}
use Rattle.domain_memory.proofs.SlotsKept.{book_back, book_stays, nothing_in, places_back, places_stay}

kept_twice : (volumes : List (Option VolumeSpace)) → map (option_map as_kept) (map (option_map as_kept) volumes) ≡ map (option_map as_kept) volumes
kept_twice [] = refl
kept_twice (v ∷ vs) = λ i. once v i ∷ kept_twice vs i
  where
    once : (o : Option VolumeSpace) → option_map as_kept (option_map as_kept o) ≡ option_map as_kept o
    once None = refl
    once (Some v) = refl

pub space_twice : (space : Spaces) → kept_spaces (kept_spaces space) ≡ kept_spaces space
space_twice space = λ i. record { volumes = kept_twice space.volumes i; misses = space.misses }

module _ (old new : DomainMemory) (frame : new.frame ≡ old.frame) (pages : pages_of new.pages ≡ before_of old.pages) (before : before_of new.pages ≡ before_of old.pages) (space : new.space ≡ kept_spaces old.space)
    (cells : new.cells ≡ taken_back old.cells) (settled : taken_back new.cells ≡ new.cells) (slots : ChangesSlots IsTakenBack old.slots.items new.slots.items) (list : new.list ≡ old.list)
    (table : new.table ≡ with_was old.was old.table) (was : new.was ≡ None) (listed : new.listed.items ≡ []) where
  pub back_kept : kept_in new ≡ kept_in old
  back_kept = λ i. record {
    frame = frame_in (frame i);
    table = (ap (λ w. with_was w new.table) was ∙ table) i;
    tags = λ number. places_stay (slot_in old.slots.items number) (slot_in new.slots.items number) (slots.each number) i;
    pages = before i;
    contents = contents_of (before i);
    space = (ap kept_spaces space ∙ space_twice old.space) i;
    cells = (settled ∙ cells) i;
    list = (ap (λ l. l.list) list) i;
  }

  pub back_books : books_in new ≡ books_in old
  back_books = λ i number. book_stays (slot_in old.slots.items number) (slot_in new.slots.items number) (slots.each number) i

  pub back_settled : IsSettled new
  back_settled = record {
    pages = pages ∙ sym before;
    space = ap kept_spaces space ∙ space_twice old.space ∙ sym space;
    cells = settled;
    places = λ number. places_back (slot_in old.slots.items number) (slot_in new.slots.items number) (slots.each number);
    books = λ number. book_back (slot_in old.slots.items number) (slot_in new.slots.items number) (slots.each number);
    was = was;
    listed = listed;
  }

-- with nothing in its slots
pub none_settled : (m : DomainMemory) → pages_of m.pages ≡ before_of m.pages → kept_spaces m.space ≡ m.space → taken_back m.cells ≡ m.cells → m.slots.items ≡ replicate 32 None → m.was ≡ None → m.listed.items ≡ [] → IsSettled m
none_settled m pages space cells slots was listed =
    let none : (number : ℕ) → slot_in m.slots.items number ≡ None = λ number. ap (λ s. slot_in s number) slots ∙ nothing_in 32 number in
    record {
      pages = pages;
      space = space;
      cells = cells;
      places = λ number. ap places_in (none number) ∙ sym (ap kept_places (none number));
      books = λ number. ap book_in (none number) ∙ sym (ap kept_book (none number));
      was = was;
      listed = listed;
    }

counted : (n : ℕ) (slot : Option SlotFiles) → length (replicate n slot) ≡ n
counted zero slot = refl
counted (suc n) slot = ap suc (counted n slot)

pub none_to_take_back : (m : DomainMemory) → IsTable m.table → m.slots.items ≡ replicate 32 None → m.was ≡ None → MayGoBack m
none_to_take_back m table slots was = record {
  has = record {
    count = ap length slots ∙ counted 32 None;
    numbered = λ number. subst (λ o. IfSome o (HasNumber number)) (sym (ap (λ s. slot_in s number) slots ∙ nothing_in 32 number)) tt;
  };
  table = subst (λ w. IsTable (with_was w m.table)) (sym was) table;
  slots = λ number. subst (λ o. IfSome o CanGoBack) (sym (ap (λ s. slot_in s number) slots ∙ nothing_in 32 number)) tt;
}

-- ---- what taking back asks, if it is known that it may be

nothing : {A : Type 0} → ∥ A ∥₁ → (A → ⊥) → ⊥
nothing t none = ∥∥₁_elim t (λ x y. absurd x) none

module _ (memory : DomainMemory) (may : ∥ MayGoBack memory ∥₁) where
  pub asks_table : ∥ IsTable (with_was memory.was memory.table) ∥₁
  asks_table = ∥∥₁_map may (λ m. m.table)

  pub asks_slots : (number : ℕ) → IfSome (slot_in memory.slots.items number) CanGoBack
  asks_slots number = by_slot (slot_in memory.slots.items number) refl
    where
      by_slot : (o : Option SlotFiles) → slot_in memory.slots.items number ≡ o → IfSome o CanGoBack
      by_slot None is = tt
      by_slot (Some slot) is = record {
        few = ⊎_elim (λ more. absurd (nothing may (λ m. let can = subst (λ o. IfSome o CanGoBack) is (m.slots number) in omega (arith, more, can.few)))) (λ fits. fits) (cases_lt (length slot.files.tags) slot.tag_pages);
        once = λ j k p q at_j at_k same. ⊎_elim (λ e. e) (λ other. absurd (nothing may (λ m. let can = subst (λ o. IfSome o CanGoBack) is (m.slots number) in other (can.once j k p q at_j at_k same)))) (cases_eq j k);
      }
