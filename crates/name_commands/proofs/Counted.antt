-- A domain has as many filesets as slots of its table have one.
use Rattle.std.proofs.Common.{◌≡◌, ◌∙◌, ◌+◌, ◌-◌, ◌<◌, ◌≤◌, ℕ, zero, suc, Bool, true, false, cond, List, [], ◌∷◌, Option, Some, None, IsSome, IsSomeAnd, is_some, count_by, slice_get, refl, sym, ap, subst, true≢false, le-leb, leb-true, nat_le, arith}
use Rattle.std.specs.FinMap as map
use Rattle.std.proofs.lemmas.List.Sums.{sum_by-cons}
use Rattle.std.specs.List.{IsDistinct, list_any}
use Rattle.domain_changes.specs.fileset_model.Apply.{Answers, filesets_full, refusal_of}
use Rattle.domain_changes.specs.fileset_model.Filesets.{FilesetMap}
use Rattle.domain_changes.specs.fileset_values.Orders.{Name, name_cmp, name_cmp-total, name_cmp-IsAntisymmetric}
use Rattle.domain_changes.specs.fileset_model.Paths.{first_refusal, refuse_if}
use Rattle.domain_changes.specs.fileset_values.declared.command.Command.TheVariants.{Mkfset}
use Rattle.domain_changes.specs.fileset_model.declared.fileset.FilesetSlot.{FilesetSlot}
use Rattle.domain_changes.specs.fileset_values.declared.reply.Refusal.TheVariants.{FilesetExists, FilesetsFull}
use Rattle.domain_changes.specs.fileset_values.declared.reply.Reply.TheVariants.{Refused}
use Rattle.domain_changes.proofs.OfFilesetValues.MapLemmas.{got-remove, get-remove_other}
use Rattle.domain_changes.specs.fileset_table.Table.{HaveOwnNames, is_fileset}
use Rattle.domain_changes.specs.fileset_table.declared.slot.FilesetEntry.{FilesetEntry}
use Rattle.domain_changes.specs.fileset_table.declared.slot.SlotItem.{SlotItem}
use Rattle.domain_changes.specs.fileset_table.declared.slot.SlotItem.TheVariants as slot
use Rattle.domain_changes.specs.fileset_table.Table.{entry_of, has_name}
use Rattle.domain_changes.specs.domain_layout.CellRules.{of_clone}
use Rattle.domain_changes.specs.domain_layout.Filled.{FillsThere}
use Rattle.domain_changes.specs.domain_layout.Shape.{FilesetShape, HasFileset}
use Rattle.domain_changes.specs.domain_standing.Domain.{DomainNow, item_in}
use Rattle.domain_changes.specs.domain_standing.Slots.{StandSlots}
use Rattle.domain_changes.specs.domain_standing.Standing.{StandsDomain}
use Rattle.name_commands.proofs.Means.{missing, refused, there}
use Rattle.domain_changes.proofs.OfStandingLaws.FilesetPut.{one_name, one_slot, own_names}

-- the slot of a fileset that has this name
pub record HasSlot (xs : List SlotItem) (name : Name) : Type 0 where
  pub number : ℕ
  pub entry : FilesetEntry
  pub has : slice_get xs number ≡ Some (slot.Original entry)
  pub named : entry.name ≡ name

-- these slots have originals alone, each with a name of its own, and the filesets are those of the names
pub record NamesAll (xs : List SlotItem) (all : FilesetMap) : Type 0 where
  pub own : HaveOwnNames xs
  pub originals : (n : ℕ) → of_clone (slice_get xs n) ≡ false
  pub each : (n : ℕ) (entry : FilesetEntry) → slice_get xs n ≡ Some (slot.Original entry) → IsSome (map.get all entry.name)
  pub only : (name : Name) → IsSome (map.get all name) → HasSlot xs name

some_inj : {x y : SlotItem} → Some x ≡ Some y → x ≡ y
some_inj e = cc

none_some : {A : Type 0} (o : Option A) (x : A) → o ≡ None → ¬ o ≡ Some x
none_some None x is e = cc
none_some (Some y) x is e = cc

no_value : (A : Type 0) → ¬ IsSome {T = A} None
no_value A is = absurd (cc)

by_some : {A : Type 0} (o : Option A) → IsSome o → (x : A) × (o ≡ Some x)
by_some {A} None is = absurd (no_value A is)
by_some (Some x) is = (x, refl)

is_there : {A : Type 0} (o : Option A) (x : A) → o ≡ Some x → IsSome o
is_there o x e = subst IsSome (sym e) refl

none_of : (all : FilesetMap) → ((name : Name) → ¬ IsSome (map.get all name)) → all ≡ map.empty
none_of all none = map.same_map name_cmp-total name_cmp-IsAntisymmetric all map.empty (λ name. by_get (map.get all name) (none name) ∙ sym (map.get-empty name_cmp name))
  where
    by_get : (o : Option FilesetSlot) → ¬ IsSome o → o ≡ None
    by_get None is = refl
    by_get (Some fileset) is = absurd (is refl)

-- one fileset more than those without it
one_more : (all : FilesetMap) (name : Name) → IsSome (map.get all name) → map.len all ≡ 1 + map.len (map.remove all name)
one_more all name is =
    let one = by_some (map.get all name) is in
    let removed : map.len (map.remove all name) ≡ map.len all - 1 = map.len-remove name_cmp-total all name ∙ ap (λ (o : Option FilesetSlot). cond (is_some o) (map.len all - 1) (map.len all)) one.1 in
    by_length (map.len all) refl one.1 removed
  where
    by_length : (n : ℕ) → map.len all ≡ n → map.get all name ≡ Some (by_some (map.get all name) is).0 → map.len (map.remove all name) ≡ map.len all - 1 → map.len all ≡ 1 + map.len (map.remove all name)
    by_length zero empty at removed = absurd (none_some (map.get all name) _ (ap (λ (m : FilesetMap). map.get m name) (map.empty_of_len all empty) ∙ map.get-empty name_cmp name) at)
    by_length (suc n) more at removed = omega (arith, more, removed)

rest_own : (x : SlotItem) (xs : List SlotItem) → HaveOwnNames (x ∷ xs) → HaveOwnNames xs
unfolding IsDistinct
rest_own x xs own = own.1

-- if the first slot has no fileset, the others name all
pub rest_name : (x : SlotItem) (xs : List SlotItem) (all : FilesetMap) → ((entry : FilesetEntry) → ¬ x ≡ slot.Original entry) → NamesAll (x ∷ xs) all → NamesAll xs all
rest_name x xs all none names = record {
  own = rest_own x xs names.own;
  originals = λ n. names.originals (suc n);
  each = λ n entry at. names.each (suc n) entry at;
  only = λ name is. later name (names.only name is);
}
  where
    later : (name : Name) → HasSlot (x ∷ xs) name → HasSlot xs name
    later name h = by_number h.number h.has
      where
        by_number : (n : ℕ) → slice_get (x ∷ xs) n ≡ Some (slot.Original h.entry) → HasSlot xs name
        by_number zero at = absurd (none h.entry (some_inj at))
        by_number (suc n) at = record { number = n; entry = h.entry; has = at; named = h.named }

-- if it has one, they name all but that
pub rest_names : (entry : FilesetEntry) (xs : List SlotItem) (all : FilesetMap) → NamesAll (slot.Original entry ∷ xs) all → NamesAll xs (map.remove all entry.name)
rest_names entry xs all names = record {
  own = rest_own (slot.Original entry) xs names.own;
  originals = λ n. names.originals (suc n);
  each = λ n other at.
      let apart : ¬ other.name ≡ entry.name = λ same. one_slot (slot.Original entry ∷ xs) names.own 0 (suc n) entry other (omega arith) refl at (sym same) in
      subst IsSome (sym (get-remove_other name_cmp-total name_cmp-IsAntisymmetric all entry.name other.name apart)) (names.each (suc n) other at);
  only = λ name is.
      let one = by_some (map.get (map.remove all entry.name) name) is in
      let was = got-remove name_cmp-total name_cmp-IsAntisymmetric all entry.name name one.0 one.1 in
      later name was.0 (names.only name (is_there (map.get all name) one.0 was.1));
}
  where
    later : (name : Name) → ¬ name ≡ entry.name → HasSlot (slot.Original entry ∷ xs) name → HasSlot xs name
    later name apart h = by_number h.number h.has
      where
        by_number : (n : ℕ) → slice_get (slot.Original entry ∷ xs) n ≡ Some (slot.Original h.entry) → HasSlot xs name
        by_number zero at = absurd (apart (sym h.named ∙ sym (one_name entry h.entry (some_inj at))))
        by_number (suc n) at = record { number = n; entry = h.entry; has = at; named = h.named }

pub counted : (xs : List SlotItem) (all : FilesetMap) → NamesAll xs all → map.len all ≡ count_by is_fileset xs
counted [] all names = ap map.len (none_of all (λ name is. absurd (nowhere name (names.only name is)))) ∙ map.len-empty name_cmp FilesetSlot ∙ refl
  where
    nowhere : (name : Name) → ¬ HasSlot [] name
    nowhere name h = absurd (none_some (slice_get [] h.number) _ refl h.has)
counted (slot.Free ∷ xs) all names =
    let rest = counted xs all (rest_name slot.Free xs all (λ entry e. absurd (cc)) names) in
    let sum : count_by is_fileset (slot.Free ∷ xs) ≡ 0 + count_by is_fileset xs = sum_by-cons (λ (x : SlotItem). cond (is_fileset x) 1 0) slot.Free xs in
    omega (arith, rest, sum)
counted (slot.Removed first_tag quota ∷ xs) all names =
    let rest = counted xs all (rest_name (slot.Removed first_tag quota) xs all (λ entry e. absurd (cc)) names) in
    let sum : count_by is_fileset (slot.Removed first_tag quota ∷ xs) ≡ 0 + count_by is_fileset xs = sum_by-cons (λ (x : SlotItem). cond (is_fileset x) 1 0) (slot.Removed first_tag quota) xs in
    omega (arith, rest, sum)
counted (slot.Clone of number entry ∷ xs) all names = absurd (true≢false (names.originals 0))
counted (slot.Original entry ∷ xs) all names =
    let more = one_more all entry.name (names.each 0 entry refl) in
    let rest = counted xs (map.remove all entry.name) (rest_names entry xs all names) in
    let sum : count_by is_fileset (slot.Original entry ∷ xs) ≡ 1 + count_by is_fileset xs = sum_by-cons (λ (x : SlotItem). cond (is_fileset x) 1 0) (slot.Original entry) xs in
    omega (arith, more, rest, sum)

-- ---- of a domain

module _ (d : DomainNow) (all : FilesetMap) (stands : StandsDomain d all) where
  slots : StandSlots d all
  slots = stands.slots

  of_found : (name : Name) → HasFileset d.table name → HasSlot d.table.slots name
  of_found name found = by_item found.item found.there found.named (slots.no_clone found.number)
    where
      by_item : (item : SlotItem) → slice_get d.table.slots found.number ≡ Some item → IsSomeAnd (entry_of item) (λ e. e.name ≡ name) → of_clone (item_in d found.number) ≡ false → HasSlot d.table.slots name
      by_item slot.Free at named none = absurd named
      by_item (slot.Removed first_tag quota) at named none = absurd named
      by_item (slot.Clone of number entry) at named none = absurd (true≢false (sym (ap of_clone at) ∙ none))
      by_item (slot.Original entry) at named none = record { number = found.number; entry = entry; has = at; named = named }

  only : (name : Name) → IsSome (map.get all name) → HasSlot d.table.slots name
  only name is = by_shape (slots.shapes name) refl (slots.filled name)
    where
      by_shape : (o : Option FilesetShape) → slots.shapes name ≡ o → FillsThere d.contents o (map.get all name) → HasSlot d.table.slots name
      by_shape None none fills = absurd (no_value FilesetSlot (subst IsSome fills is))
      by_shape (Some shape) has fills = of_found name (slots.are.only name (is_there (slots.shapes name) shape has))

  pub names_all : NamesAll d.table.slots all
  names_all = record {
    own = own_names d stands.tables;
    originals = slots.no_clone;
    each = λ number entry has. let at = there d all slots number entry has in is_there (map.get all entry.name) at.0 at.1;
    only = only;
  }

  pub filesets_counted : map.len all ≡ count_by is_fileset d.table.slots
  filesets_counted = counted d.table.slots all names_all

  -- 16 are all that there may be
  pub is_full : (name : Name) → list_any (has_name name) d.table.slots ≡ false → 16 ≤ count_by is_fileset d.table.slots → refusal_of all (Mkfset name) ≡ Some FilesetsFull
  is_full name none many =
      ap (λ (o : Option FilesetSlot). first_refusal (refuse_if (is_some o) FilesetExists ∷ filesets_full all ∷ [])) (missing d all slots name none)
      ∙ ap (λ b. first_refusal (refuse_if b FilesetsFull ∷ [])) (le-leb 16 (map.len all) (subst (λ n. 16 ≤ n) (sym filesets_counted) many))

  pub full : (name : Name) → list_any (has_name name) d.table.slots ≡ false → 16 ≤ count_by is_fileset d.table.slots → Answers all (Mkfset name) (Refused FilesetsFull) all
  full name none many = refused all (Mkfset name) FilesetsFull (is_full name none many)

  pub not_full : count_by is_fileset d.table.slots < 16 → filesets_full all ≡ None
  not_full few = ap (λ b. refuse_if b FilesetsFull) (by_test (nat_le 16 (map.len all)) refl)
    where
      by_test : (b : Bool) → nat_le 16 (map.len all) ≡ b → b ≡ false
      by_test false is = refl
      by_test true is =
          let many = leb-true 16 (map.len all) is in
          let same = filesets_counted in
          absurd (omega (arith, many, same, few))
