-- Bytes say one slot at most, and a page one table.
use Rattle.std.proofs.Common.{◌≡◌, ◌∙◌, ℕ, suc, ◌+◌, ◌-◌, ◌<◌, ◌≤◌, Option, Some, None, List, [], ◌∷◌, length, take, slice_get, Result, Ok, Err, refl, sym, ap, arith}
use Rattle.std.proofs.lemmas.List.{take_at}
use Rattle.std.specs.Option.{IsSomeAnd, unwrap_or}
use Rattle.std.specs.Result.{IfOk}
use Rattle.fileset_table.specs.declared.slot.TableFault.{TableFault}
use Rattle.fileset_table.specs.declared.slot.TableFault.TheVariants.{Bad, OutOfMemory}
use Rattle.fileset_table.specs.Reading.{Reads}
use Rattle.metadata_cells.specs.domain_base.Page.{zero_bytes}
use Rattle.metadata_cells.specs.domain_base.declared.place.CellAt.{CellAt}
use Rattle.metadata_cells.specs.domain_base.declared.place.Home.{Home}
use Rattle.metadata_cells.specs.cell_records.Fields.{number_at}
use Rattle.metadata_cells.specs.Cell.{IsAddress, IsFileset}
use Rattle.fileset_table.specs.declared.slot.FilesetEntry.{FilesetEntry}
use Rattle.fileset_table.specs.declared.slot.SlotItem.{SlotItem}
use Rattle.fileset_table.specs.declared.slot.SlotItem.TheVariants.{Free, Original, Clone, Removed}
use Rattle.fileset_table.specs.Slot.{IsEntry, IsHome, IsNamed, IsSlot}
use Rattle.fileset_table.specs.Table.{Table}
use Rattle.fileset_table.specs.Page.{AreSlots, IsTablePage, slot_bytes}

nothing : (n : ℕ) → n ≡ 0 → 1 ≤ n → ⊥
nothing n none some = omega (arith, none, some)

apart : (n i j : ℕ) → n ≡ i → n ≡ j → i < j → ⊥
apart n i j p q less = omega (arith, p, q, less)

home_unique : (v p : ℕ) (a b : Option Home) → IsHome v p a → IsHome v p b → a ≡ b
home_unique v p None None x y = refl
home_unique v p None (Some b) x y = absurd (nothing v x y.0.0)
home_unique v p (Some a) None x y = absurd (nothing v y x.0.0)
home_unique v p (Some a) (Some b) x y = ap Some (x.1 ∙ sym y.1)

address_unique : (v c p : ℕ) (a b : Option CellAt) → IsAddress v c p a → IsAddress v c p b → a ≡ b
address_unique v c p None None x y = refl
address_unique v c p None (Some b) x y = absurd (nothing v x.0 y.0.0)
address_unique v c p (Some a) None x y = absurd (nothing v y.0 x.0.0)
address_unique v c p (Some a) (Some b) x y = ap Some (x.1 ∙ sym y.1)

pub name_unique : (bytes a b : List ℕ) → IsNamed bytes a → IsNamed bytes b → a ≡ b
name_unique bytes a b x y =
    sym (take_at a (zero_bytes (31 - length a)) (length a) refl) ∙ ap (take (length a)) (sym x.spelled ∙ y.spelled)
    ∙ take_at b (zero_bytes (31 - length b)) (length a) (sym y.size ∙ x.size)

entry_unique : (bytes : List ℕ) (a b : FilesetEntry) → IsEntry bytes a → IsEntry bytes b → a ≡ b
entry_unique bytes a b x y = λ i. record {
  name = name_unique bytes a.name b.name x.named y.named i;
  first_tag = (x.first_tag.1 ∙ sym y.first_tag.1) i;
  files_limit = (sym x.files_limit ∙ y.files_limit) i;
  blocks_limit = (sym x.blocks_limit ∙ y.blocks_limit) i;
  quota = address_unique (number_at 1 82 bytes) (number_at 1 83 bytes) (number_at 4 84 bytes) a.quota b.quota x.quota.address y.quota.address i;
}

same_original : (n a b : ℕ) → n ≡ a + 1 → n ≡ b + 1 → a ≡ b
same_original n a b p q = omega (arith, p, q)

slot_unique : (bytes : List ℕ) (a b : SlotItem) → IsSlot bytes a → IsSlot bytes b → a ≡ b
slot_unique bytes Free Free x y = refl
slot_unique bytes Free (Original e) x y = absurd (apart (number_at 1 0 bytes) 0 1 x y.0 (omega arith))
slot_unique bytes Free (Clone o n e) x y = absurd (apart (number_at 1 0 bytes) 0 2 x y.0 (omega arith))
slot_unique bytes Free (Removed t q) x y = absurd (apart (number_at 1 0 bytes) 0 3 x y.0 (omega arith))
slot_unique bytes (Original e) Free x y = absurd (apart (number_at 1 0 bytes) 0 1 y x.0 (omega arith))
slot_unique bytes (Original e) (Original f) x y = ap Original (entry_unique bytes e f x.2 y.2)
slot_unique bytes (Original e) (Clone o n f) x y = absurd (apart (number_at 1 0 bytes) 1 2 x.0 y.0 (omega arith))
slot_unique bytes (Original e) (Removed t q) x y = absurd (apart (number_at 1 0 bytes) 1 3 x.0 y.0 (omega arith))
slot_unique bytes (Clone o n e) Free x y = absurd (apart (number_at 1 0 bytes) 0 2 y x.0 (omega arith))
slot_unique bytes (Clone o n e) (Original f) x y = absurd (apart (number_at 1 0 bytes) 1 2 y.0 x.0 (omega arith))
slot_unique bytes (Clone o n e) (Clone p m f) x y =
    λ i. Clone (same_original (number_at 4 40 bytes) o p x.1.0 y.1.0 i) ((sym x.2 ∙ y.2) i) (entry_unique bytes e f x.3 y.3 i)
slot_unique bytes (Clone o n e) (Removed t q) x y = absurd (apart (number_at 1 0 bytes) 2 3 x.0 y.0 (omega arith))
slot_unique bytes (Removed t q) Free x y = absurd (apart (number_at 1 0 bytes) 0 3 y x.0 (omega arith))
slot_unique bytes (Removed t q) (Original f) x y = absurd (apart (number_at 1 0 bytes) 1 3 y.0 x.0 (omega arith))
slot_unique bytes (Removed t q) (Clone o n f) x y = absurd (apart (number_at 1 0 bytes) 2 3 y.0 x.0 (omega arith))
slot_unique bytes (Removed t q) (Removed u r) x y =
    λ i. Removed (home_unique (number_at 4 56 bytes) (number_at 4 60 bytes) t u x.1 y.1 i)
    (address_unique (number_at 1 82 bytes) (number_at 1 83 bytes) (number_at 4 84 bytes) q r x.2.address y.2.address i)

some_is : (a b : SlotItem) → Some a ≡ Some b → a ≡ b
some_is a b e = ap (λ (o : Option SlotItem). unwrap_or o a) e

-- lists of one length with the same at each place are the same
same_list : (xs ys : List SlotItem) → length xs ≡ length ys → ((k : ℕ) → k < length xs → slice_get xs k ≡ slice_get ys k) → xs ≡ ys
same_list [] [] len each = refl
same_list [] (y ∷ ys) len each = absurd (omega (arith, len))
same_list (x ∷ xs) [] len each = absurd (omega (arith, len))
same_list (x ∷ xs) (y ∷ ys) len each =
    let head : x ≡ y = some_is x y (each 0 (omega arith)) in
    let rest : xs ≡ ys = same_list xs ys (omega (arith, len)) (λ k less. each (suc k) (omega (arith, less))) in
    λ i. head i ∷ rest i

one_slot : (bytes : List ℕ) (a b : Option SlotItem) → IsSomeAnd a (IsSlot bytes) → IsSomeAnd b (IsSlot bytes) → a ≡ b
one_slot bytes None b x y = absurd x
one_slot bytes (Some a) None x y = absurd y
one_slot bytes (Some a) (Some b) x y = ap Some (slot_unique bytes a b x y)

pub slots_unique : (page : List ℕ) (xs ys : List SlotItem) → AreSlots page xs → AreSlots page ys → xs ≡ ys
slots_unique page xs ys x y =
    same_list xs ys (x.whole ∙ sym y.whole)
    (λ k less. let within : k < 32 = omega (arith, less, x.whole) in one_slot (slot_bytes page k) (slice_get xs k) (slice_get ys k) (x.said k within) (y.said k within))

pub table_unique : (page : List ℕ) (a b : Table) → IsTablePage page a → IsTablePage page b → a ≡ b
table_unique page a b x y = λ i. record {
  slots = slots_unique page a.slots b.slots x.slots y.slots i;
  made = (sym x.made ∙ y.made) i;
}

-- bytes of a clone's state that name no original are no slot's
pub no_clone : (bytes : List ℕ) → number_at 1 0 bytes ≡ 2 → ((original : ℕ) → ¬ IsFileset (number_at 4 40 bytes) (Some original)) → (x : SlotItem) → ¬ IsSlot bytes x
no_clone bytes state none Free is = apart (number_at 1 0 bytes) 0 2 is state (omega arith)
no_clone bytes state none (Original e) is = apart (number_at 1 0 bytes) 1 2 is.0 state (omega arith)
no_clone bytes state none (Clone o n e) is = none o is.1
no_clone bytes state none (Removed t q) is = apart (number_at 1 0 bytes) 2 3 state is.0 (omega arith)

-- a page of a table is read as that table, if there is memory
pub read_again : (page : List ℕ) (t : Table) → IsTablePage page t → (r : Result Table TableFault) → Reads (IsTablePage page) r → IfOk r (λ again. again ≡ t) × (r ≡ Err Bad → ⊥)
read_again page t is (Ok again) read = (table_unique page again t read is, λ fails. absurd (cc))
read_again page t is (Err Bad) none = absurd (none t is)
read_again page t is (Err OutOfMemory) read = (tt, λ fails. absurd (cc))
