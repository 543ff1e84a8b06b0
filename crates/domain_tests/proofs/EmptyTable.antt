-- The table page of the empty domain.
use Rattle.std.proofs.Common.{◌≡◌, ◌∙◌, ℕ, zero, suc, ◌*◌, ◌<◌, Some, IsSomeAnd, slice_get, refl, sym, ap, subst, arith}
use Rattle.std.specs.Prelude.{replicate}
use Rattle.domain_making.specs.domain_base.Page.{zero_bytes}
use Rattle.domain_making.specs.cell_records.Fields.{number_at}
use Rattle.domain_making.specs.fileset_table.Page.{HasHeader, slot_bytes}
use Rattle.domain_making.specs.fileset_table.Slot.{IsSlot}
use Rattle.domain_making.specs.fileset_table.Table.{Table}
use Rattle.domain_making.specs.fileset_table.declared.slot.SlotItem.TheVariants.{Free}
use Rattle.domain_making.proofs.OfFilesetTable.NewTable.{AreFree, new_is_table}
use Rattle.domain_tests.specs.EmptyDomain.{table_front, table_page}
use Rattle.domain_tests.proofs.Zeros.{part_behind}
use Rattle.domain_making.specs.domain_layout.NewDomain.{IsNewTablePage}

abbrev free_table : Table
free_table = record { slots = replicate 32 Free; made = 0 }

all_free : (n : ℕ) → AreFree (replicate n Free)
all_free zero = tt
all_free (suc n) = (refl, all_free n)

free_at : (n k : ℕ) → k < n → slice_get (replicate n Free) k ≡ Some Free
free_at zero k within = absurd (omega (arith, within))
free_at (suc n) zero within = refl
free_at (suc n) (suc k) within = free_at n k (omega (arith, within))

begins : HasHeader table_page
unfolding number_at
begins = record { magic = refl; zero = refl }

none_made : number_at 8 8 table_page ≡ 0
unfolding number_at
none_made = refl

zero_state : number_at 1 0 (zero_bytes 128) ≡ 0
unfolding number_at zero_bytes
zero_state = refl

slot_free : (number : ℕ) → number < 32 → IsSlot (slot_bytes table_page number) Free
slot_free number within =
    ap (number_at 1 0) (part_behind table_front (128 * number) 128 8176 (omega (arith, within))) ∙ zero_state

pub says_table : IsNewTablePage table_page
says_table = record {
  table = free_table;
  says = record {
    header = begins;
    made = none_made;
    slots = record {
      whole = refl;
      said = λ number within. subst (λ o. IsSomeAnd o (IsSlot (slot_bytes table_page number))) (sym (free_at 32 number within)) (slot_free number within);
    };
    good = new_is_table (replicate 32 Free) refl (all_free 32);
  };
  fresh = record {
    good = new_is_table (replicate 32 Free) refl (all_free 32);
    free = all_free 32;
    none_made = refl;
  };
}
