-- The page of cells of the domain with one fileset.
use Rattle.std.proofs.Common.{◌≡◌, ◌∙◌, ℕ, zero, suc, ◌+◌, ◌*◌, ◌<◌, inl, inr, List, [], ◌∷◌, ◌++◌, Bool, true, false, Some, None, count_by, length, drop, take, nat_eq, slice_index, refl, sym, ap, subst, arith, length-append}
use Rattle.std.proofs.lemmas.Bool.{eq-eqb}
use Rattle.std.proofs.lemmas.List.{drop-drop, drop_at, get_or-append_right, get_or-drop, take_at}
use Rattle.std.specs.List.{range_with_len}
use Rattle.domain_making.specs.domain_base.Page.{length-zero_bytes, zero_bytes}
use Rattle.domain_making.specs.cell_records.Fields.{number_at}
use Rattle.domain_making.specs.cell_records.Records.{Allowed, NoExtent, spelled, spelling}
use Rattle.domain_making.specs.cell_records.declared.record.Record.{Record}
use Rattle.domain_making.specs.cell_records.declared.record.Record.TheVariants as written
use Rattle.domain_making.specs.extent_records.Writing.{no_extent}
use Rattle.domain_making.specs.metadata_cells.declared.head.CellKind.TheVariants.{Primary}
use Rattle.domain_making.specs.metadata_cells.Cell.{Cell, IsCell, IsFreeCell, IsFreeOrUsed}
use Rattle.domain_making.specs.metadata_cells.CellPage.{IsCellPage, cell_of, index_of, is_cell_page, is_free_in, next_of}
use Rattle.domain_making.specs.domain_layout.CellRules.{next_in}
use Rattle.domain_tests.specs.OneFileset.{cells_front, cells_page, root_front}
use Rattle.domain_tests.proofs.EmptyCells.{cell_bytes, says_volume, volume_cell}
use Rattle.domain_tests.proofs.Zeros.{byte_behind, count_same, first_zeros, part_behind}

abbrev pub root_records : List Record
root_records =
    written.Attributes 2 0 0 0 0 65536 1 0 0
    ∷ written.ShortExtents (no_extent ∷ no_extent ∷ no_extent ∷ no_extent ∷ [])
    ∷ written.Parent 1 1 ∷ []

-- the first cell of the root
abbrev pub root_cell : Cell
root_cell = record {
  head = record { next = None; slot = 1; seq = 1; fileset = Some 0; kind = Primary };
  records = root_records;
}

abbrev pub root_bytes : List ℕ
root_bytes = root_front ++ zero_bytes 140

root_allowed : Allowed (written.Attributes 2 0 0 0 0 65536 1 0 0)
unfolding Allowed
root_allowed =
    ((omega arith, omega arith), omega arith, omega arith, omega arith, omega arith, omega arith, (omega arith, omega arith), omega arith, omega arith)

none_is : NoExtent no_extent
none_is = record { page = refl; count = refl; volume = refl; first = refl }

pub extents_allowed : Allowed (written.ShortExtents (no_extent ∷ no_extent ∷ no_extent ∷ no_extent ∷ []))
unfolding Allowed
extents_allowed = (refl, inr (none_is, (none_is, (none_is, (none_is, tt)))))

parent_allowed : Allowed (written.Parent 1 1)
unfolding Allowed
parent_allowed = (omega arith, omega arith)

pub says_root : IsCell root_bytes root_cell
unfolding number_at spelling spelled
says_root = record {
  head = record {
    zero = refl;
    next = (refl, refl, refl);
    slot = refl;
    seq = refl;
    fileset = (refl, omega arith);
    kind = refl;
    size = refl;
    fits = omega arith;
    end = refl;
  };
  records = refl;
  others = refl;
  well_formed = record {
    allowed = (root_allowed, (extents_allowed, (parent_allowed, tt)));
    rising = (omega arith, (omega arith, (omega arith, tt)));
  };
}

-- neither cell leads to another
pub root_leads : next_in root_bytes ≡ None
unfolding number_at
root_leads = refl

pub volume_leads : next_in cell_bytes ≡ None
unfolding number_at
volume_leads = refl

-- ---- the cells of the page

pub first_bytes : cell_of cells_page 0 ≡ cell_bytes
first_bytes =
    ap (λ rest. 0 ∷ 0 ∷ 0 ∷ 0 ∷ 0 ∷ 0 ∷ 0 ∷ 0 ∷ 0 ∷ 0 ∷ 0 ∷ 0 ∷ 0 ∷ 0 ∷ 0 ∷ 4 ∷ 16 ∷ 0 ∷ 0 ∷ 0
    ∷ 12 ∷ 0 ∷ 16 ∷ 0 ∷ 1 ∷ 0 ∷ 0 ∷ 0 ∷ 0 ∷ 2 ∷ 0 ∷ 0 ∷ 1 ∷ 0 ∷ 0 ∷ 0 ∷ rest)
    (take_at (zero_bytes 256) (root_front ++ zero_bytes 7732) 256 (length-zero_bytes 256))

behind : drop 308 cells_page ≡ root_front ++ zero_bytes 7732
behind = drop_at (zero_bytes 256) (root_front ++ zero_bytes 7732) 256 (length-zero_bytes 256)

pub second_bytes : cell_of cells_page 1 ≡ root_bytes
second_bytes = ap (take 292) behind ∙ ap (λ rest. root_front ++ rest) (first_zeros 140 7732 (omega arith))

pub other_cells : (n : ℕ) → suc (suc n) < 28 → IsFreeCell (cell_of cells_page (suc (suc n)))
other_cells n within =
    let e : 16 + 292 * suc (suc n) ≡ 308 + (152 + (140 + 292 * n)) = omega arith in
    ap (λ at. take 292 (drop at cells_page)) e
    ∙ ap (take 292) (sym (drop-drop (152 + (140 + 292 * n)) 308 cells_page) ∙ ap (drop (152 + (140 + 292 * n))) behind)
    ∙ part_behind root_front (140 + 292 * n) 292 7732 (omega (arith, within))

pub first_cell : IsCell (cell_of cells_page 0) volume_cell
first_cell = subst (λ bytes. IsCell bytes volume_cell) (sym first_bytes) says_volume

pub second_cell : IsCell (cell_of cells_page 1) root_cell
second_cell = subst (λ bytes. IsCell bytes root_cell) (sym second_bytes) says_root

-- the cells after the first two
behind_two : ℕ → Bool
behind_two zero = false
behind_two (suc zero) = false
behind_two (suc (suc n)) = true

kinds : (c : ℕ) → is_free_in cells_page c ≡ behind_two c
unfolding behind_two
kinds zero = refl
kinds (suc zero) = ap (λ b. nat_eq b 0) (get_or-append_right (zero_bytes 256) (root_front ++ zero_bytes 7732) 256 271 0 (length-zero_bytes 256) (omega arith))
kinds (suc (suc n)) =
    let e : 31 + 292 * suc (suc n) ≡ 308 + (152 + (155 + 292 * n)) = omega arith in
    eq-eqb (slice_index cells_page (31 + 292 * suc (suc n))) 0
    (ap (slice_index cells_page) e ∙ sym (get_or-drop 308 cells_page (152 + (155 + 292 * n)) 0)
    ∙ ap (λ bytes. slice_index bytes (152 + (155 + 292 * n))) behind ∙ byte_behind root_front (155 + 292 * n) 7732)

counted : number_at 2 12 cells_page ≡ 26
unfolding number_at
counted = refl

counts : 26 ≡ count_by behind_two (range_with_len 0 28)
unfolding behind_two
counts = refl

each_cell : (c : ℕ) → c < 28 → IsFreeOrUsed (cell_of cells_page c)
each_cell zero within = inr (volume_cell, first_cell)
each_cell (suc zero) within = inr (root_cell, second_cell)
each_cell (suc (suc n)) within = inl (other_cells n within)

begins : is_cell_page cells_page ≡ true
unfolding number_at
begins = refl

ends : number_at 2 14 cells_page ≡ 0
unfolding number_at
ends = refl

pub good_page : IsCellPage cells_page
good_page = record {
  magic = begins;
  free = counted ∙ counts ∙ sym (count_same (is_free_in cells_page) behind_two (range_with_len 0 28) kinds);
  end = ends;
  cells = each_cell;
}

pub first_index : index_of cells_page ≡ 0
unfolding number_at
first_index = refl

pub no_next : next_of cells_page ≡ 0
unfolding number_at
no_next = refl

pub length-cells : length cells_page ≡ 8192
length-cells =
    length-append cells_front (zero_bytes 256 ++ (root_front ++ zero_bytes 7732))
    ∙ omega (arith, length-append (zero_bytes 256) (root_front ++ zero_bytes 7732), length-zero_bytes 256, length-append root_front (zero_bytes 7732), length-zero_bytes 7732)
