-- The page of cells of the empty domain.
use Rattle.std.proofs.Common.{◌≡◌, ◌∙◌, ℕ, zero, suc, ◌+◌, ◌*◌, ◌<◌, inl, inr, List, [], ◌∷◌, Bool, true, false, None, count_by, drop, take, slice_index, refl, sym, ap, subst, arith}
use Rattle.std.proofs.lemmas.Bool.{eq-eqb}
use Rattle.std.specs.List.{range_with_len}
use Rattle.domain_making.specs.domain_base.Page.{zero_bytes}
use Rattle.domain_making.specs.cell_records.Fields.{number_at}
use Rattle.domain_making.specs.cell_records.Records.{Allowed, spelled, spelling}
use Rattle.domain_making.specs.cell_records.declared.record.Record.TheVariants as written
use Rattle.domain_making.specs.metadata_cells.declared.head.CellKind.TheVariants.{Volume}
use Rattle.domain_making.specs.metadata_cells.Cell.{Cell, IsCell, IsFreeCell, IsFreeOrUsed}
use Rattle.domain_making.specs.metadata_cells.CellPage.{IsCellPage, cell_of, index_of, is_cell_page, is_free_in, next_of}
use Rattle.domain_tests.specs.EmptyDomain.{cells_front, cells_page}
use Rattle.domain_tests.proofs.Zeros.{byte_behind, count_same, first_zeros, part_behind}

-- the cell that says the volume
abbrev pub volume_cell : Cell
volume_cell = record {
  head = record { next = None; slot = 0; seq = 0; fileset = None; kind = Volume };
  records = written.Volume 1 512 1 ∷ [];
}

-- its bytes
abbrev pub cell_bytes : List ℕ
cell_bytes =
    0 ∷ 0 ∷ 0 ∷ 0 ∷ 0 ∷ 0 ∷ 0 ∷ 0 ∷ 0 ∷ 0 ∷ 0 ∷ 0 ∷ 0 ∷ 0 ∷ 0 ∷ 4 ∷ 16 ∷ 0 ∷ 0 ∷ 0
    ∷ 12 ∷ 0 ∷ 16 ∷ 0 ∷ 1 ∷ 0 ∷ 0 ∷ 0 ∷ 0 ∷ 2 ∷ 0 ∷ 0 ∷ 1 ∷ 0 ∷ 0 ∷ 0 ∷ zero_bytes 256

volume_allowed : Allowed (written.Volume 1 512 1)
unfolding Allowed
volume_allowed = (omega arith, omega arith, omega arith)

pub says_volume : IsCell cell_bytes volume_cell
unfolding number_at spelling spelled
says_volume = record {
  head = record {
    zero = refl;
    next = (refl, refl, refl);
    slot = refl;
    seq = refl;
    fileset = refl;
    kind = refl;
    size = refl;
    fits = omega arith;
    end = refl;
  };
  records = refl;
  others = refl;
  well_formed = record { allowed = (volume_allowed, tt); rising = (omega arith, tt) };
}

first_bytes : cell_of cells_page 0 ≡ cell_bytes
first_bytes =
    ap (λ rest. 0 ∷ 0 ∷ 0 ∷ 0 ∷ 0 ∷ 0 ∷ 0 ∷ 0 ∷ 0 ∷ 0 ∷ 0 ∷ 0 ∷ 0 ∷ 0 ∷ 0 ∷ 4 ∷ 16 ∷ 0 ∷ 0 ∷ 0
    ∷ 12 ∷ 0 ∷ 16 ∷ 0 ∷ 1 ∷ 0 ∷ 0 ∷ 0 ∷ 0 ∷ 2 ∷ 0 ∷ 0 ∷ 1 ∷ 0 ∷ 0 ∷ 0 ∷ rest) (first_zeros 256 8140 (omega arith))

pub first_cell : IsCell (cell_of cells_page 0) volume_cell
first_cell = subst (λ bytes. IsCell bytes volume_cell) (sym first_bytes) says_volume

pub other_cells : (n : ℕ) → suc n < 28 → IsFreeCell (cell_of cells_page (suc n))
other_cells n within =
    let e : 16 + 292 * suc n ≡ 52 + (256 + 292 * n) = omega arith in
    ap (λ at. take 292 (drop at cells_page)) e ∙ part_behind cells_front (256 + 292 * n) 292 8140 (omega (arith, within))

-- the cells after the first one
behind_first : ℕ → Bool
behind_first zero = false
behind_first (suc n) = true

kinds : (c : ℕ) → is_free_in cells_page c ≡ behind_first c
unfolding behind_first
kinds zero = refl
kinds (suc n) =
    let e : 31 + 292 * suc n ≡ 52 + (271 + 292 * n) = omega arith in
    eq-eqb (slice_index cells_page (31 + 292 * suc n)) 0 (ap (slice_index cells_page) e ∙ byte_behind cells_front (271 + 292 * n) 8140)

counted : number_at 2 12 cells_page ≡ 27
unfolding number_at
counted = refl

each_cell : (c : ℕ) → c < 28 → IsFreeOrUsed (cell_of cells_page c)
each_cell zero within = inr (volume_cell, first_cell)
each_cell (suc n) within = inl (other_cells n within)

begins : is_cell_page cells_page ≡ true
unfolding number_at
begins = refl

ends : number_at 2 14 cells_page ≡ 0
unfolding number_at
ends = refl

counts : 27 ≡ count_by behind_first (range_with_len 0 28)
unfolding behind_first
counts = refl

pub good_page : IsCellPage cells_page
good_page = record {
  magic = begins;
  free = counted ∙ counts ∙ sym (count_same (is_free_in cells_page) behind_first (range_with_len 0 28) kinds);
  end = ends;
  cells = each_cell;
}

pub first_index : index_of cells_page ≡ 0
unfolding number_at
first_index = refl

pub no_next : next_of cells_page ≡ 0
unfolding number_at
no_next = refl
