-- A change can be taken back from memory that was just kept, or taken back.
use Rattle.std.proofs.Common.{◌≡◌, ◌∙◌, ◌≤◌, ℕ, zero, suc, List, [], ◌∷◌, Option, Some, None, IfSome, IsSomeAnd, length, slice_get, take, refl, sym, ap, subst, arith}
use Rattle.std.proofs.Math.Logic.{∥∥₁_map, ∥∥₁_map₂}
use Rattle.std.specs.Option.{option_and_then}
use Rattle.standing_laws.specs.domain_base.declared.place.Home.{Home}
use Rattle.standing_laws.specs.tag_dirs.declared.dir.TagPlace.{TagPlace}
use Rattle.standing_laws.specs.fileset_model.Filesets.{FilesetMap}
use Rattle.standing_laws.specs.fileset_table.Page.{IsTablePage}
use Rattle.standing_laws.specs.fileset_table.Table.{IsTable}
use Rattle.standing_laws.specs.fileset_table.declared.slot.SlotItem.{SlotItem}
use Rattle.standing_laws.specs.domain_layout.Layout.{AreTagPlaces, first_tag_of}
use Rattle.standing_laws.proofs.OfDomainLayout.OnePage.{one_of}
use Rattle.standing_laws.specs.domain_standing.Chains.{StandsInSlot}
use Rattle.standing_laws.specs.domain_standing.Domain.{DomainNow, item_in}
use Rattle.standing_laws.specs.domain_standing.Standing.{StandsDomain}
use Rattle.domain_memory.specs.Slots.{CanGoBack, ChangesSlot, ChangesSlots, HasNumber, IsKept, IsTakenBack, places_in, slot_in}
use Rattle.domain_memory.specs.declared.slots.SlotFiles.{SlotFiles}
use Rattle.domain_memory.proofs.TagsForgotten.{taken_was}
use Rattle.domain_memory.specs.Memory.{with_was}
use Rattle.domain_memory.specs.Staged.{IsStagedForSome, MayGoBack, staged_in}
use Rattle.domain_memory.specs.declared.memory.DomainMemory.{DomainMemory}

-- pages of a tag directory have each index once
abbrev HasOnce : List TagPlace → Type 0
HasOnce places = (j k : ℕ) (p q : TagPlace) → slice_get places j ≡ Some p → slice_get places k ≡ Some q → p.index ≡ q.index → j ≡ k

none_once : (places : List TagPlace) → places ≡ [] → HasOnce places
none_once places none j k p q at = absurd (nothing (sym (ap (λ (l : List TagPlace). slice_get l j) none) ∙ at))
  where
    nothing : slice_get [] j ≡ Some p → ⊥
    nothing there = absurd (cc)

-- so have those of a domain that stands
module _ (d : DomainNow) (all : FilesetMap) (stands : StandsDomain d all) where
  in_item : (number : ℕ) (item : SlotItem) → item_in d number ≡ Some item → (first : Option Home) → first_tag_of item ≡ first → HasOnce (d.tags number)
  in_item number item there None none = none_once (d.tags number) (subst (λ o. AreTagPlaces d.pages o (d.tags number)) none (stands.tables.laid.tags number item there))
  in_item number item there (Some first) is = (subst (λ o. AreTagPlaces d.pages o (d.tags number)) is (stands.tables.laid.tags number item there)).directory.apart

  pub tags_once : (number : ℕ) → HasOnce (d.tags number)
  tags_once number = by_item (item_in d number) refl
    where
      by_item : (o : Option SlotItem) → item_in d number ≡ o → HasOnce (d.tags number)
      by_item None none = none_once (d.tags number) (subst (StandsInSlot d stands.files number) (ap (option_and_then first_tag_of) none) (stands.chains.slots number))
      by_item (Some item) there = in_item number item there (first_tag_of item) refl

  pub table_is : IsTable d.table
  table_is =
      let named = one_of d.frame.anchor.table (λ home. IsSomeAnd (d.pages home) (λ page. IsTablePage page d.table)) stands.tables.laid.table in
      let there = one_of (d.pages named.value) (λ page. IsTablePage page d.table) named.is in
      there.is.good

-- ---- memory that was kept

kept_can : (old new : Option SlotFiles) → ChangesSlot IsKept old new → HasOnce (places_in old) → IfSome new CanGoBack
kept_can None new none once = subst (λ o. IfSome o CanGoBack) (sym none) tt
kept_can (Some old) None is once = absurd is
kept_can (Some old) (Some new) is once = record {
  few = omega (arith, is.tag_pages, ap (λ (f : _). length f.tags) is.files);
  once = subst HasOnce (sym (ap (λ f. f.tags) is.files)) once;
}

kept_number : (number : ℕ) (old new : Option SlotFiles) → ChangesSlot IsKept old new → IfSome old (HasNumber number) → IfSome new (HasNumber number)
kept_number number None new none has = subst (λ o. IfSome o (HasNumber number)) (sym none) tt
kept_number number (Some old) None is has = absurd is
kept_number number (Some old) (Some new) is has = ap (λ f. f.fileset) is.files ∙ has

pub kept_goes_back : (old new : DomainMemory) → ∥ IsStagedForSome old ∥₁ → ∥ MayGoBack old ∥₁ → new.table ≡ old.table → new.was ≡ None → ChangesSlots IsKept old.slots.items new.slots.items → ∥ MayGoBack new ∥₁
kept_goes_back old new staged back table was slots = ∥∥₁_map₂ staged back (λ s b. record {
  has = record {
    count = slots.count ∙ b.has.count;
    numbered = λ number. kept_number number (slot_in old.slots.items number) (slot_in new.slots.items number) (slots.each number) (b.has.numbered number);
  };
  table = subst (λ w. IsTable (with_was w new.table)) (sym was) (subst IsTable (sym table) (table_is (staged_in old) s.0 s.1.stands));
  slots = λ number. kept_can (slot_in old.slots.items number) (slot_in new.slots.items number) (slots.each number) (tags_once (staged_in old) s.0 s.1.stands number);
})

-- ---- memory whose change was taken back

enough : (xs : List TagPlace) (n : ℕ) → n ≤ length xs → n ≤ length (take n xs)
enough xs zero fits = omega arith
enough [] (suc n) fits = absurd (omega (arith, fits))
enough (x ∷ xs) (suc n) fits = omega (arith, enough xs n (omega (arith, fits)))

back_can : (old new : Option SlotFiles) → ChangesSlot IsTakenBack old new → IfSome old CanGoBack → IfSome new CanGoBack
back_can None new none can = subst (λ o. IfSome o CanGoBack) (sym none) tt
back_can (Some old) None is can = absurd is
back_can (Some old) (Some new) is can = record {
  few = subst (λ n. n ≤ length new.files.tags) (sym is.tag_pages) (subst (λ (l : List TagPlace). old.tag_pages ≤ length l) (sym is.tags) (enough old.files.tags old.tag_pages can.few));
  once = subst HasOnce (sym is.tags) (λ j k p q at_j at_k same. can.once j k p q (taken_was old.files.tags old.tag_pages j p at_j) (taken_was old.files.tags old.tag_pages k q at_k) same);
}

back_number : (number : ℕ) (old new : Option SlotFiles) → ChangesSlot IsTakenBack old new → IfSome old (HasNumber number) → IfSome new (HasNumber number)
back_number number None new none has = subst (λ o. IfSome o (HasNumber number)) (sym none) tt
back_number number (Some old) None is has = absurd is
back_number number (Some old) (Some new) is has = is.number ∙ has

pub back_goes_back : (old new : DomainMemory) → ∥ MayGoBack old ∥₁ → new.table ≡ with_was old.was old.table → new.was ≡ None → ChangesSlots IsTakenBack old.slots.items new.slots.items → ∥ MayGoBack new ∥₁
back_goes_back old new may table was slots = ∥∥₁_map may (λ m. record {
  has = record {
    count = slots.count ∙ m.has.count;
    numbered = λ number. back_number number (slot_in old.slots.items number) (slot_in new.slots.items number) (slots.each number) (m.has.numbered number);
  };
  table = subst (λ w. IsTable (with_was w new.table)) (sym was) (subst IsTable (sym table) m.table);
  slots = λ number. back_can (slot_in old.slots.items number) (slot_in new.slots.items number) (slots.each number) (m.slots number);
})
