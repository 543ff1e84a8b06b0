-- The pages at which the rules look, and those of files, are such as a log may have.
use Rattle.std.proofs.Common.{◌≡◌, ℕ, ◌<◌, List, Some, inl, inr, ap, subst, arith, ⊎_elim}
use Rattle.std.proofs.lemmas.Bool.{cases_lt}
use Rattle.domain_faults.specs.domain_base.Version.{bitmap_pages}
use Rattle.domain_faults.specs.domain_base.declared.place.Home.{Home}
use Rattle.domain_faults.specs.domain_base.declared.place.Tag.{Tag}
use Rattle.domain_faults.specs.page_store.Pages.{Pages}
use Rattle.domain_faults.specs.metadata_cells.Chain.{PlacedCell}
use Rattle.domain_faults.specs.fileset_table.Table.{Table}
use Rattle.domain_faults.specs.log_ring.Homes.{IsLoggable, member_of}
use Rattle.domain_faults.specs.domain_layout.Faults.{HasNoFault}
use Rattle.domain_faults.specs.domain_layout.Layout.{IsLayout, Layout}
use Rattle.domain_faults.specs.domain_layout.Owners.{frame_of}
use Rattle.domain_faults.specs.domain_layout.DirectoryRules.{Has}
use Rattle.domain_faults.specs.domain_layout.Reached.{Frame, MayBe, first_cells}
use Rattle.domain_faults.specs.domain_layout.Seen.{SeenFile}
use Rattle.domain_faults.proofs.OfDomainLayout.NoTables.{none_of_extents, none_of_tables}
use Rattle.domain_faults.specs.domain_layout.Looks.{IsLookedAt, IsOfBitmap, IsOfDirectory, IsOfFiles, IsOfTables}
use Rattle.domain_faults.proofs.OfFilesetShapes.MayStand.{has_may}
use Rattle.image_loading.proofs.NoneBroken.{one_table}
use Rattle.domain_faults.proofs.OfFilesetShapes.Held.{says_table}
use Rattle.domain_bringing.specs.Brought.{IsGoodFrame}

-- behind label, anchors and bitmap stand two pages at least
first_behind : (frame : Frame) (home : Home) → (home.page < first_cells frame home.vol → ⊥) → 1 < home.page
first_behind frame home behind = ⊎_elim (λ low. absurd (behind (omega (arith, low)))) (λ high. omega (arith, high)) (cases_lt home.page 2)

-- a page that tables and files may have
pub may_loggable : (frame : Frame) (home : Home) → MayBe frame home → IsLoggable frame.anchor home
may_loggable frame home may = record {
  first_volume = may.0.0.first;
  last_volume = may.0.0.last;
  member = (may.0.0.there, may.0.0.whole);
  within = may.0.1;
  behind = first_behind frame home (λ low. may.1 (inl low));
  outside = λ log. may.1 (inr log);
}

-- a page of a bitmap
pub bitmap_loggable : (frame : Frame) (home : Home) → IsGoodFrame frame → IsOfBitmap frame home → IsLoggable frame.anchor home
bitmap_loggable frame home good of =
    let first = of.first in
    let last = of.last in
    let all = good.inside.bitmaps home.vol of.member in
    record {
      first_volume = of.member.first;
      last_volume = of.member.last;
      member = (of.member.there, of.member.whole);
      within = omega (arith, last, all);
      behind = omega (arith, first);
      outside = λ log.
          let front = good.log.behind in
          let low = log.1 in
          let same : bitmap_pages frame.version (member_of frame.anchor home.vol).pages ≡ bitmap_pages frame.version (member_of frame.anchor frame.anchor.log_vol).pages = ap (λ v. bitmap_pages frame.version (member_of frame.anchor v).pages) log.0 in
          omega (arith, front, low, last, same);
    }

-- each page at which the rules look, where none is broken
module _ (pages : Pages) (layout : Layout) (laid : IsLayout pages layout) (good : IsGoodFrame (frame_of layout)) (none : HasNoFault pages (frame_of layout)) where
  table_loggable : (home : Home) → layout.anchor.table ≡ Some home → IsLoggable layout.anchor home
  table_loggable home at = may_loggable (frame_of layout) home (good.inside.table home at, λ reserved. (none_of_tables pages (frame_of layout) none).table home (record { at = at; wrong = inl reserved }))

  tables_loggable : (home : Home) → IsOfTables pages (frame_of layout) home → IsLoggable layout.anchor home
  tables_loggable home of = ⊎_elim (λ c. may_loggable (frame_of layout) home c.come.may) (λ t. may_loggable (frame_of layout) home t.come.may) of

  -- a page of a file
  pub file_loggable : (number : ℕ) (tag : Tag) (cells : List PlacedCell) (seen : SeenFile) → Has pages layout.table number tag cells seen → (page : ℕ) (home : Home) → seen.homes page ≡ Some home → IsLoggable layout.anchor home
  file_loggable number tag cells seen has page home at = may_loggable (frame_of layout) home (has_may pages layout laid (none_of_extents pages (frame_of layout) none) number tag cells seen has page home at)

  directory_loggable : (home : Home) → IsOfDirectory pages (frame_of layout) home → IsLoggable layout.anchor home
  directory_loggable home d =
      let same : d.table ≡ layout.table = one_table pages (frame_of layout) d.table layout.table d.says (says_table pages layout laid) in
      file_loggable d.number d.dir d.cells d.seen (subst (λ (t : Table). Has pages t d.number d.dir d.cells d.seen) same d.has) d.page home d.at

  files_loggable : (home : Home) → IsOfFiles pages (frame_of layout) home → IsLoggable layout.anchor home
  files_loggable home of =
      ⊎_elim (λ b. bitmap_loggable (frame_of layout) home good b)
      (λ more. ⊎_elim (λ i. may_loggable (frame_of layout) home i.come.may) (λ d. directory_loggable home d) more) of

  pub looks_loggable : (home : Home) → IsLookedAt pages (frame_of layout) home → IsLoggable layout.anchor home
  looks_loggable home looks = ⊎_elim (λ at. table_loggable home at) (λ more. ⊎_elim (λ t. tables_loggable home t.1) (λ f. files_loggable home f.1) more) looks
