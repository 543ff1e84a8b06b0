-- The tag page and the table page of the domain with one fileset.
use Rattle.std.proofs.Common.{◌≡◌, ◌∙◌, ◌⊎◌, inl, inr, drop, ℕ, zero, suc, ◌+◌, ◌*◌, ◌<◌, ◌≤◌, List, ◌∷◌, Bool, false, cond, nat_eq, Option, Some, None, IfSome, IsSomeAnd, length, slice_get, take, refl, sym, ap, subst, arith, length-append}
use Rattle.std.specs.Prelude.{replicate}
use Rattle.std.specs.List.{AllByRecursion, IsDistinct}
use Rattle.domain_making.specs.domain_base.Page.{length-zero_bytes, zero_bytes}
use Rattle.domain_making.specs.domain_base.declared.place.CellAt.{CellAt}
use Rattle.domain_making.specs.cell_records.Fields.{number_at}
use Rattle.domain_making.specs.metadata_cells.Cell.{IsAddress}
use Rattle.domain_making.specs.tag_dirs.TagPage.{IsAllowed, IsSpelled, IsTagPage, cell_in, entry_of, index_of, next_of, slot_of}
use Rattle.domain_making.specs.fileset_table.Page.{HasHeader, IsTablePage, slot_bytes}
use Rattle.domain_making.specs.fileset_table.Slot.{IsSlot}
use Rattle.domain_making.specs.fileset_table.Table.{IsTable, Table, is_fileset, leads_to_original, share_name, share_original}
use Rattle.domain_making.specs.fileset_table.Table as table
use Rattle.domain_making.specs.fileset_table.declared.slot.FilesetEntry.{FilesetEntry}
use Rattle.domain_making.specs.fileset_table.declared.slot.SlotItem.{SlotItem}
use Rattle.domain_making.specs.fileset_table.declared.slot.SlotItem.TheVariants.{Free, Original}
use Rattle.domain_making.proofs.OfDomainLayout.OnePage.{some_same}
use Rattle.domain_tests.specs.OneFileset.{name_a, table_front, table_page, tags_front, tags_page}
use Rattle.domain_tests.proofs.Zeros.{first_zeros, number_behind, part_behind}

-- ---- tags

-- where the root's cell stands
abbrev pub root_at : CellAt
root_at = record { vol = 1; page = 3; cell = 1 }

behind_two : (w c n : ℕ) → number_at w (16 + c + 8 * suc (suc n)) tags_page ≡ 0
behind_two w c n =
    let e : 16 + c + 8 * suc (suc n) ≡ 32 + (c + 8 * n) = omega arith in
    ap (λ at. number_at w at tags_page) e ∙ number_behind tags_front w (c + 8 * n) 8160

pub none_behind : (n : ℕ) → cell_in tags_page (suc (suc n)) ≡ None
none_behind n =
    ap (λ vol. cond (nat_eq vol 0) None (Some (record { vol = vol; page = number_at 4 (20 + 8 * suc (suc n)) tags_page; cell = number_at 1 (19 + 8 * suc (suc n)) tags_page })))
    (behind_two 1 2 n)

no_address : (vol cell page : ℕ) (at : Option CellAt) → vol ≡ 0 → cell ≡ 0 → page ≡ 0 → at ≡ None → IsAddress vol cell page at
no_address vol cell page at v c p none = subst (IsAddress vol cell page) (sym none) (v, c, p)

spelled : (e : ℕ) → e < 1022 → IsSpelled tags_page e
unfolding number_at
spelled zero within = (refl, refl, refl)
spelled (suc zero) within = ((omega arith, omega arith, omega arith), refl)
spelled (suc (suc n)) within =
    no_address (number_at 1 (18 + 8 * suc (suc n)) tags_page) (number_at 1 (19 + 8 * suc (suc n)) tags_page) (number_at 4 (20 + 8 * suc (suc n)) tags_page)
    (cell_in tags_page (suc (suc n))) (behind_two 1 2 n) (behind_two 1 3 n) (behind_two 4 4 n) (none_behind n)

pub first_index : index_of tags_page ≡ 0
unfolding number_at
first_index = refl

pub no_next : next_of tags_page ≡ None
unfolding number_at
no_next = refl

pub root_entry : entry_of tags_page 1 ≡ record { seq = 1; at = Some root_at }
unfolding number_at
root_entry = refl

pub no_entry : entry_of tags_page 0 ≡ record { seq = 0; at = None }
unfolding number_at
no_entry = refl

allowed : (e : ℕ) → e < 1022 → IsAllowed (slot_of tags_page e) (entry_of tags_page e)
allowed zero within = subst (IsAllowed (slot_of tags_page 0)) (sym no_entry) tt
allowed (suc zero) within =
    subst (IsAllowed (slot_of tags_page 1)) (sym root_entry)
    (omega arith, omega arith, (λ none. omega (arith, first_index, none)))
allowed (suc (suc n)) within =
    subst (λ at. IfSome at (λ cell. (cell.cell < 28) × (1 ≤ number_at 2 (16 + 8 * suc (suc n)) tags_page) × (¬ slot_of tags_page (suc (suc n)) ≡ 0))) (sym (none_behind n)) tt

magic : number_at 4 0 tags_page ≡ 0x50474154
unfolding number_at
magic = refl

no_volume : number_at 4 8 tags_page ≡ 0
unfolding number_at
no_volume = refl

pub length-tags : length tags_page ≡ 8192
length-tags = length-append tags_front (zero_bytes 8160) ∙ ap (λ n. 32 + n) (length-zero_bytes 8160)

pub good_tags : IsTagPage tags_page
good_tags = record {
  whole = length-tags;
  magic = magic;
  index = omega (arith, first_index);
  next = omega (arith, no_volume);
  spelled = spelled;
  entries = allowed;
}

-- ---- the table

abbrev pub entry_a : FilesetEntry
entry_a = record {
  name = name_a;
  first_tag = record { vol = 1; page = 133 };
  files_limit = 0;
  blocks_limit = 0;
  quota = None;
}

abbrev pub one_table : Table
one_table = record { slots = Original entry_a ∷ replicate 31 Free; made = 0 }

all_of : (P : SlotItem → Type 0) → P Free → (n : ℕ) → AllByRecursion P (replicate n Free)
all_of P is zero = tt
all_of P is (suc n) = (is, all_of P is n)

distinct_free : (shares : SlotItem → SlotItem → Bool) → shares Free Free ≡ false → (n : ℕ) → IsDistinct shares (replicate n Free)
unfolding IsDistinct
distinct_free shares apart zero = tt
distinct_free shares apart (suc n) = (all_of (λ y. shares Free y ≡ false) apart n, distinct_free shares apart n)

distinct_one : (shares : SlotItem → SlotItem → Bool) → shares Free Free ≡ false → shares (Original entry_a) Free ≡ false → IsDistinct shares one_table.slots
unfolding IsDistinct
distinct_one shares apart first = (all_of (λ y. shares (Original entry_a) y ≡ false) first 31, distinct_free shares apart 31)

good_table : IsTable one_table
good_table = record {
  whole = refl;
  allowed = ((refl, tt), all_of table.IsAllowed tt 31);
  together = record {
    few = omega arith;
    names = distinct_one share_name refl refl;
    originals = refl;
    clones = distinct_one share_original refl refl;
  };
  count = omega arith;
}

begins : HasHeader table_page
unfolding number_at
begins = record { magic = refl; zero = refl }

none_made : number_at 8 8 table_page ≡ 0
unfolding number_at
none_made = refl

abbrev slot_a : List ℕ
slot_a =
    1 ∷ 1 ∷ 0x61 ∷ 0 ∷ 0 ∷ 0 ∷ 0 ∷ 0 ∷ 0 ∷ 0 ∷ 0 ∷ 0 ∷ 0 ∷ 0 ∷ 0 ∷ 0
    ∷ 0 ∷ 0 ∷ 0 ∷ 0 ∷ 0 ∷ 0 ∷ 0 ∷ 0 ∷ 0 ∷ 0 ∷ 0 ∷ 0 ∷ 0 ∷ 0 ∷ 0 ∷ 0
    ∷ 0 ∷ 0 ∷ 0 ∷ 0 ∷ 0 ∷ 0 ∷ 0 ∷ 0 ∷ 0 ∷ 0 ∷ 0 ∷ 0 ∷ 0 ∷ 0 ∷ 0 ∷ 0
    ∷ 0 ∷ 0 ∷ 0 ∷ 0 ∷ 0 ∷ 0 ∷ 0 ∷ 0 ∷ 1 ∷ 0 ∷ 0 ∷ 0 ∷ 0x85 ∷ 0 ∷ 0 ∷ 0 ∷ zero_bytes 64

says_a : IsSlot slot_a (Original entry_a)
unfolding number_at zero_bytes
says_a = (
  refl,
  refl,
  record {
    named = record { form = refl; size = refl; spelled = refl };
    first_tag = ((omega arith, omega arith), refl);
    files_limit = refl;
    blocks_limit = refl;
    quota = record { zero = refl; address = (refl, refl, refl) };
  },
)

first_slot : slot_bytes table_page 0 ≡ slot_a
first_slot =
    ap (λ rest. 1 ∷ 1 ∷ 0x61 ∷ 0 ∷ 0 ∷ 0 ∷ 0 ∷ 0 ∷ 0 ∷ 0 ∷ 0 ∷ 0 ∷ 0 ∷ 0 ∷ 0 ∷ 0
    ∷ 0 ∷ 0 ∷ 0 ∷ 0 ∷ 0 ∷ 0 ∷ 0 ∷ 0 ∷ 0 ∷ 0 ∷ 0 ∷ 0 ∷ 0 ∷ 0 ∷ 0 ∷ 0
    ∷ 0 ∷ 0 ∷ 0 ∷ 0 ∷ 0 ∷ 0 ∷ 0 ∷ 0 ∷ 0 ∷ 0 ∷ 0 ∷ 0 ∷ 0 ∷ 0 ∷ 0 ∷ 0
    ∷ 0 ∷ 0 ∷ 0 ∷ 0 ∷ 0 ∷ 0 ∷ 0 ∷ 0 ∷ 1 ∷ 0 ∷ 0 ∷ 0 ∷ 0x85 ∷ 0 ∷ 0 ∷ 0 ∷ rest)
    (first_zeros 64 8112 (omega arith))

free_at : (n k : ℕ) → k < n → slice_get (replicate n Free) k ≡ Some Free
free_at zero k within = absurd (omega (arith, within))
free_at (suc n) zero within = refl
free_at (suc n) (suc k) within = free_at n k (omega (arith, within))

zero_state : number_at 1 0 (zero_bytes 128) ≡ 0
unfolding number_at zero_bytes
zero_state = refl

slot_free : (n : ℕ) → suc n < 32 → IsSlot (slot_bytes table_page (suc n)) Free
slot_free n within =
    let e : 16 + 128 * suc n ≡ 80 + (64 + 128 * n) = omega arith in
    ap (number_at 1 0) (ap (λ at. take 128 (drop at table_page)) e ∙ part_behind table_front (64 + 128 * n) 128 8112 (omega (arith, within))) ∙ zero_state

said : (number : ℕ) → number < 32 → IsSomeAnd (slice_get one_table.slots number) (IsSlot (slot_bytes table_page number))
said zero within = subst (λ bytes. IsSlot bytes (Original entry_a)) (sym first_slot) says_a
said (suc n) within =
    subst (λ o. IsSomeAnd o (IsSlot (slot_bytes table_page (suc n)))) (sym (free_at 31 n (omega (arith, within)))) (slot_free n within)

pub says_table : IsTablePage table_page one_table
says_table = record { header = begins; made = none_made; slots = record { whole = refl; said = said }; good = good_table }

pub length-table : length table_page ≡ 8192
length-table = length-append table_front (zero_bytes 8112) ∙ ap (λ n. 80 + n) (length-zero_bytes 8112)

-- what is in a slot: the fileset in the first one, and nothing in the others
pub item_is : (number : ℕ) (item : SlotItem) → slice_get one_table.slots number ≡ Some item → ((number ≡ 0) × (item ≡ Original entry_a)) ⊎ (item ≡ Free)
item_is zero item there = inl (refl, sym (some_same (Original entry_a) item there))
item_is (suc n) item there = inr (only_free 31 n item there)
  where
    only_free : (m k : ℕ) (item : SlotItem) → slice_get (replicate m Free) k ≡ Some item → item ≡ Free
    only_free zero k item there = let e : None ≡ Some item = there in absurd (cc)
    only_free (suc m) zero item there = sym (some_same Free item there)
    only_free (suc m) (suc k) item there = only_free m k item there
