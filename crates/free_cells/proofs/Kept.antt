-- All volumes are kept, or taken back.
use Rattle.std.proofs.Common.{◌≡◌, ◌∙◌, ℕ, zero, suc, ◌<◌, ◌≤◌, [], ◌∷◌, length, get_or, map, refl, sym, ap, arith, inl}
use Rattle.std.proofs.lemmas.List.{length-map, get_or-map, ext_get_or}
use Rattle.metadata_cells.specs.domain_base.declared.place.CellAt.{CellAt}
use Rattle.metadata_cells.specs.page_store.Pages.{Pages}
use Rattle.free_cells.specs.VolumeTable.{KeptTable, VolumeTable, as_kept, is_among, no_table, with_kept}
use Rattle.free_cells.specs.Belong.{Belong}
use Rattle.free_cells.specs.Cells.{Cells, Holds, all_kept, is_closed, is_free, kept_of, table_of, taken_back, volume_of}
use Rattle.free_cells.proofs.Belongs.{belong_fewer}

-- ---- a loop that changes each volume

-- the first i volumes are changed, and the others are as they were
pub record IsPartMapped (change : VolumeTable → VolumeTable) (old new : Cells) (i : ℕ) : Type 0 where
  pub len : length new ≡ length old
  pub changed : (k : ℕ) → k < i → get_or new k no_table ≡ change (get_or old k no_table)
  pub others : (k : ℕ) → i ≤ k → get_or new k no_table ≡ get_or old k no_table

module _ (change : VolumeTable → VolumeTable) (old : Cells) where
  pub all_mapped : (new : Cells) (i : ℕ) → IsPartMapped change old new i → length new ≤ i → new ≡ map change old
  all_mapped new i part past =
      ext_get_or no_table new (map change old) (part.len ∙ sym (length-map old change))
      (λ k within. part.changed k (omega (arith, within, past)) ∙ sym (get_or-map change old k no_table no_table (omega (arith, within, part.len))))

-- what the volumes are after the loop
pub loop_mapped : (change : VolumeTable → VolumeTable) (items old new now self : Cells) (i : ℕ) → now ≡ new → items ≡ self → old ≡ items → IsPartMapped change old new i → length new ≤ i → now ≡ map change self
loop_mapped change items old new now self i is view read part past = is ∙ all_mapped change old new i part past ∙ ap (map change) (read ∙ view)

-- ---- what a volume is then

module _ (change : VolumeTable → VolumeTable) (none : change no_table ≡ no_table) where
  pub volume_mapped : (cells : Cells) (vol : ℕ) → volume_of (map change cells) vol ≡ change (volume_of cells vol)
  volume_mapped cells zero = sym none
  volume_mapped cells (suc k) = there cells k
    where
      there : (cells : Cells) (k : ℕ) → get_or (map change cells) k no_table ≡ change (get_or cells k no_table)
      there [] k = sym none
      there (v ∷ cells) zero = refl
      there (v ∷ cells) (suc k) = there cells k

pub volume_kept : (cells : Cells) (vol : ℕ) → volume_of (all_kept cells) vol ≡ with_kept (volume_of cells vol)
volume_kept = volume_mapped with_kept refl

pub volume_back : (cells : Cells) (vol : ℕ) → volume_of (taken_back cells) vol ≡ as_kept (volume_of cells vol)
volume_back = volume_mapped as_kept refl

pub kept_same : (cells : Cells) → Holds (table_of cells) (is_closed cells) (is_free cells) (kept_of (all_kept cells)) (all_kept cells)
kept_same cells = record {
  tables = λ vol. ap (λ (v : VolumeTable). v.table) (volume_kept cells vol);
  marks = λ vol. ap (λ (v : VolumeTable). v.is_closed) (volume_kept cells vol);
  cells = λ at. ap (λ (v : VolumeTable). is_among v.free (record { page = at.page; cell = at.cell })) (volume_kept cells at.vol);
  keeps = λ vol. refl;
}

module _ (change other : VolumeTable → VolumeTable) (same : (v : VolumeTable) → change (other v) ≡ other v) where
  twice : (cells : Cells) → map change (map other cells) ≡ map other cells
  twice [] = refl
  twice (v ∷ cells) = (λ i. same v i ∷ twice cells i)

pub kept_settled : (cells : Cells) → taken_back (all_kept cells) ≡ all_kept cells
kept_settled = twice as_kept with_kept (λ v. refl)

pub back_settled : (cells : Cells) → taken_back (taken_back cells) ≡ taken_back cells
back_settled = twice as_kept as_kept (λ v. refl)

-- ---- cells that are the same for one who does not see what was kept

pub same_belong : (old new : Cells) → ((vol : ℕ) → table_of new vol ≡ table_of old vol) → ((at : CellAt) → is_free new at ≡ is_free old at) → (pages : Pages) → Belong old pages → Belong new pages
same_belong old new tables free = belong_fewer old new (λ vol. inl (tables vol)) (λ at is. (sym (free at) ∙ is, tables at.vol))

pub back_same : (old new : Cells) → ((vol : ℕ) → kept_of new vol ≡ kept_of old vol) → ((vol : ℕ) → is_closed new vol ≡ is_closed old vol)
    → Holds (table_of (taken_back old)) (is_closed (taken_back old)) (is_free (taken_back old)) (kept_of (taken_back old)) (taken_back new)
back_same old new kept marks = record {
  tables = λ vol. ap (λ (v : VolumeTable). v.table) (volume_back new vol) ∙ ap (λ (k : KeptTable). k.table) (kept vol) ∙ sym (ap (λ (v : VolumeTable). v.table) (volume_back old vol));
  marks = λ vol. ap (λ (v : VolumeTable). v.is_closed) (volume_back new vol) ∙ marks vol ∙ sym (ap (λ (v : VolumeTable). v.is_closed) (volume_back old vol));
  cells = λ at. ap (λ (v : VolumeTable). is_among v.free (record { page = at.page; cell = at.cell })) (volume_back new at.vol)
      ∙ ap (λ (k : KeptTable). is_among k.free (record { page = at.page; cell = at.cell })) (kept at.vol)
      ∙ sym (ap (λ (v : VolumeTable). is_among v.free (record { page = at.page; cell = at.cell })) (volume_back old at.vol));
  keeps = λ vol. ap (λ (v : VolumeTable). v.kept) (volume_back new vol) ∙ kept vol ∙ sym (ap (λ (v : VolumeTable). v.kept) (volume_back old vol));
}
