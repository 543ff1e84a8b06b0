-- The filesets of a table's first slots, counted.
use Rattle.std.proofs.Common.{◌≡◌, ◌∙◌, ◌+◌, ◌<◌, ◌≤◌, ◌++◌, ◌∷◌, ℕ, zero, suc, Bool, true, false, cond, List, [], Some, count_by, get_or, length, slice_get, sum_by, take, refl, sym, ap, arith}
use Rattle.std.proofs.lemmas.List.{take_all, take_more}
use Rattle.std.proofs.lemmas.List.Sums.{sum_by-append, sum_by-cons}
use Rattle.domain_memory.specs.fileset_table.Table.{is_fileset}
use Rattle.domain_memory.specs.fileset_table.declared.slot.SlotItem.{SlotItem}

-- so many have filesets of the first n slots, and there are 32 if there is one
pub record IsCounted (slots : List SlotItem) (n count : ℕ) : Type 0 where
  pub is : count ≡ count_by is_fileset (take n slots)
  pub few : count ≤ n
  pub whole : 1 ≤ n → length slots ≡ 32

abbrev ones : SlotItem → ℕ
ones item = cond (is_fileset item) 1 0

some_same : (x y : SlotItem) → Some x ≡ Some y → x ≡ y
some_same x y e = cc

below : (slots : List SlotItem) (n : ℕ) (item : SlotItem) → slice_get slots n ≡ Some item → n < length slots
below [] n item there = absurd (cc)
below (x ∷ slots) zero item there = omega arith
below (x ∷ slots) (suc n) item there = omega (arith, below slots n item there)

got : (slots : List SlotItem) (n : ℕ) (item : SlotItem) → slice_get slots n ≡ Some item → get_or slots n item ≡ item
got [] n item there = refl
got (x ∷ slots) zero item there = some_same x item there
got (x ∷ slots) (suc n) item there = got slots n item there

-- with one slot more
counted_one : (slots : List SlotItem) (n : ℕ) (item : SlotItem) → slice_get slots n ≡ Some item → count_by is_fileset (take (n + 1) slots) ≡ count_by is_fileset (take n slots) + ones item
counted_one slots n item there =
    ap (sum_by ones) (take_more slots n item (below slots n item there)) ∙ sum_by-append ones (take n slots) (get_or slots n item ∷ [])
    ∙ ap (λ (k : ℕ). count_by is_fileset (take n slots) + k) (omega (arith, sum_by-cons ones (get_or slots n item) [], ap ones (got slots n item there)))

most_one : (item : SlotItem) → ones item ≤ 1
most_one item = by_test (is_fileset item)
  where
    by_test : (b : Bool) → cond b 1 0 ≤ 1
    by_test true = omega arith
    by_test false = omega arith

pub counted_more : (slots : List SlotItem) (n count now : ℕ) (item : SlotItem) → slice_get slots n ≡ Some item → now ≡ count + cond (is_fileset item) 1 0 → length slots ≡ 32 → IsCounted slots n count → IsCounted slots (n + 1) now
counted_more slots n count now item there is whole counted = record {
  is = is ∙ ap (λ (k : ℕ). k + ones item) counted.is ∙ sym (counted_one slots n item there);
  few = omega (arith, is, counted.few, most_one item);
  whole = λ some. whole;
}

pub all_counted : (slots : List SlotItem) (n count : ℕ) → IsCounted slots n count → 32 ≤ n → count ≡ count_by is_fileset slots
all_counted slots n count counted far = counted.is ∙ ap (count_by is_fileset) (take_all n slots (omega (arith, far, counted.whole (omega (arith, far)))))
