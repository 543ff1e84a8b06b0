-- What the empty domain means.
use Rattle.std.proofs.Common.{◌≡◌, ◌↔◌, inl, inr, ◌⊎◌, ℕ, zero, suc, ◌+◌, ◌*◌, ◌<◌, ◌≤◌, [], ◌∷◌, true, Some, IsSomeAnd, refl, sym, ap, subst, arith, ⊎_elim}
use Rattle.std.specs.FinMap.{empty}
use Rattle.domain_making.specs.domain_base.Version.{bitmap_pages}
use Rattle.domain_making.specs.domain_base.declared.version.Version.{Version}
use Rattle.domain_making.specs.cell_records.declared.record.Record.TheVariants as written
use Rattle.domain_making.specs.free_space.Bits.{is_set}
use Rattle.domain_making.specs.volume_disk.Image.{page_at}
use Rattle.domain_making.specs.log_ring.Groups.{pages_in}
use Rattle.domain_making.specs.metadata_cells.Cell.{IsFreeCell}
use Rattle.domain_making.specs.metadata_cells.CellPage.{cell_of}
use Rattle.domain_making.specs.domain_layout.Read.{Means, ReadsFrom}
use Rattle.domain_making.specs.domain_layout.NewDomain.{IsNew, IsNewAnchor, IsNewBitmap, IsNewCells, IsNewTablePage, firsts, on_first}
use Rattle.domain_making.proofs.OfDomainLayout.NewDomain.{no_fault, reads_none}
use Rattle.domain_tests.specs.EmptyDomain.{bitmap_page, cells_page, image_of, page_of}
use Rattle.domain_tests.specs.Written.{anchor_of, frame_of}
use Rattle.domain_tests.proofs.Bitmap.{bits_are, five_bits}
use Rattle.domain_tests.proofs.EmptyCells.{first_cell, first_index, good_page, no_next, other_cells, volume_cell}
use Rattle.domain_tests.proofs.EmptyImage.{length-bitmap, length-cells, length-table}
use Rattle.domain_tests.proofs.Written.{page_is}
use Rattle.domain_tests.proofs.Zeros.{zero_anywhere}
use Rattle.domain_tests.proofs.WrittenLog.{has_log, no_first, one_bitmap, only_member}
use Rattle.domain_tests.proofs.EmptyTable.{says_table}

module _ (version : Version) where
  other_free : (number : ℕ) → 0 < number → number < 28 → IsFreeCell (cell_of cells_page number)
  other_free zero some within = absurd (omega (arith, some))
  other_free (suc n) some within = other_cells n within

  new_cells : IsNewCells (frame_of version) cells_page
  new_cells = record {
    good = good_page;
    indexed = first_index;
    last = no_next;
    cell = volume_cell;
    first = first_cell;
    says = record {
      kind = refl;
      alone = refl;
      says = ap (λ n. written.Volume 1 512 n ∷ []) (sym (one_bitmap version));
    };
    free = other_free;
  }

  table_at : (firsts (frame_of version)).table ≡ 132
  table_at = let e = one_bitmap version in omega (arith, e)

  new_bitmap : IsNewBitmap (frame_of version) 0 bitmap_page
  new_bitmap = record { bits = bits }
    where
      bits : (bit : ℕ) → bit < 65536 → (is_set bitmap_page bit ≡ true) ↔ ((65536 * 0 + bit ≤ (firsts (frame_of version)).table) ⊎ (512 ≤ 65536 * 0 + bit))
      bits bit within =
          let are = bits_are 31 5 five_bits (omega arith) bit within in (
            (λ set. ⊎_elim (λ low. inl (omega (arith, low, table_at))) (λ high. inr (omega (arith, high))) (are.0 set)),
            (λ either. are.1 (⊎_elim (λ low. inl (omega (arith, low, table_at))) (λ high. inr (omega (arith, high))) either)),
          )

  new_anchor : IsNewAnchor (frame_of version)
  new_anchor = record {
    member = record { first = omega arith; last = omega arith; there = omega arith; whole = omega arith };
    alone = λ vol member. only_member vol version member.first member.last member.there;
    log_volume = refl;
    log = let e = one_bitmap version in omega (arith, e);
    table = ap (λ page. Some (on_first page)) (sym table_at);
    room = omega (arith, table_at);
  }

  bitmaps : (number : ℕ) → number < bitmap_pages version 512 → IsSomeAnd (pages_in (image_of version) (on_first (2 + number))) (IsNewBitmap (frame_of version) number)
  bitmaps zero within = subst (IsNewBitmap (frame_of version) 0) (sym (page_is (page_of version) 2 (length-bitmap 31))) new_bitmap
  bitmaps (suc number) within = let e = one_bitmap version in absurd (omega (arith, e, within))

  is_new : IsNew (pages_in (image_of version)) (frame_of version)
  is_new = record {
    anchor = new_anchor;
    cells = subst (λ n. IsNewCells (frame_of version) (page_at (image_of version) 1 (2 + n))) (sym (one_bitmap version))
        (subst (IsNewCells (frame_of version)) (sym (page_is (page_of version) 3 length-cells)) new_cells);
    bitmap = bitmaps;
    table = subst (λ n. IsNewTablePage (page_at (image_of version) 1 n)) (sym table_at)
        (subst IsNewTablePage (sym (page_is (page_of version) 132 length-table)) says_table);
  }

  reads_at : ReadsFrom (pages_in (image_of version)) (on_first 132) empty
  reads_at = subst (λ n. ReadsFrom (pages_in (image_of version)) (on_first n) empty) table_at (reads_none (pages_in (image_of version)) (frame_of version) is_new)

  pub means_nothing : Means (512 ∷ []) (image_of version) empty
  means_nothing = record {
    anchor = anchor_of version;
    groups = [];
    version = version;
    log = has_log version (page_of version) refl refl (zero_anywhere 8192 0);
    is_version = refl;
    no_first = no_first version (page_of version) refl refl (zero_anywhere 8192 0);
    no_fault = no_fault (pages_in (image_of version)) (frame_of version) is_new;
    reads = record {
      anchor = anchor_of version;
      groups = [];
      log = has_log version (page_of version) refl refl (zero_anywhere 8192 0);
      home = on_first 132;
      table = refl;
      reads = reads_at;
    };
  }
