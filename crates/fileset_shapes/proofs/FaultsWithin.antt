-- The rules look at pages of members alone.
use Rattle.std.proofs.Common.{◌≡◌, ◌↔◌, ◌+◌, ◌<◌, ℕ, arith, ⊎_elim}
use Rattle.filesets_reading.specs.domain_base.declared.place.Home.{Home}
use Rattle.filesets_reading.specs.page_store.Pages.{Pages}
use Rattle.filesets_reading.specs.log_ring.Homes.{member_of}
use Rattle.filesets_reading.specs.domain_layout.Faults.{FaultRow, IsFault}
use Rattle.filesets_reading.specs.domain_layout.Reached.{Frame, IsWithin}
use Rattle.filesets_reading.specs.domain_layout.Looks.{IsLookedAt, IsOfBitmap, IsOfFiles, IsOfTables}
use Rattle.filesets_reading.proofs.OfDomainLayout.SameFaults.{same_faults}
use Rattle.fileset_shapes.specs.Within.{AgreeWithin, IsInside}

module _ (pages : Pages) (frame : Frame) (inside : IsInside frame) (home : Home) where
  of_tables : IsOfTables pages frame home → IsWithin frame home
  of_tables is = ⊎_elim (λ cells. cells.come.may.0) (λ tags. tags.come.may.0) is

  of_bitmap : IsOfBitmap frame home → IsWithin frame home
  of_bitmap is = (is.member, room)
    where
      room : home.page < (member_of frame.anchor home.vol).pages
      room = let all = inside.bitmaps home.vol is.member in omega (arith, all, is.last)

  of_files : IsOfFiles pages frame home → IsWithin frame home
  of_files is = ⊎_elim of_bitmap (λ more. ⊎_elim (λ index. index.come.may.0) (λ directory. directory.within) more) is

  looks_within : IsLookedAt pages frame home → IsWithin frame home
  looks_within is = ⊎_elim (λ table. inside.table home table) (λ more. ⊎_elim (λ tables. of_tables tables.1) (λ files. of_files files.1) more) is

pub faults_within : (one other : Pages) (frame : Frame) (row : FaultRow) → IsInside frame → AgreeWithin one other frame → IsFault one frame row ↔ IsFault other frame row
faults_within one other frame row inside agree = same_faults one other frame row (λ home looked. agree home (looks_within one frame inside home looked))
