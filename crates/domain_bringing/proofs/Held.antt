-- Where the pages of files were brought to those of a domain without a fault, all of its pages are
-- there.
use Rattle.std.proofs.Common.{◌≡◌, ℕ, ◌+◌, ◌/◌, ◌<◌, ◌≤◌, List, Option, Some, None, IsSome, inl, inr, refl, sym, subst, arith}
use Rattle.domain_faults.specs.domain_base.Version.{bitmap_pages, most_pages}
use Rattle.domain_faults.specs.domain_base.declared.place.Home.{Home}
use Rattle.domain_faults.specs.domain_base.declared.version.Version.{Version}
use Rattle.domain_faults.specs.domain_base.declared.version.Version.TheVariants.{Four, Three}
use Rattle.domain_faults.specs.page_store.Pages.{Pages}
use Rattle.domain_faults.specs.log_ring.Homes.{member_of}
use Rattle.domain_faults.specs.domain_layout.Faults.{HasNoFault, HasNoTablesFault, SaysTable}
use Rattle.domain_faults.specs.domain_layout.Layout.{IsLayout, Layout}
use Rattle.domain_faults.specs.domain_layout.Owners.{frame_of}
use Rattle.domain_faults.specs.domain_layout.Reached.{Frame, IsWithin}
use Rattle.domain_faults.proofs.OfDomainLayout.NoTables.{none_of_tables}
use Rattle.domain_faults.specs.domain_layout.Looks.{AgreeWhereRulesLook}
use Rattle.domain_faults.proofs.OfDomainLayout.SameFaults.{same_faults, sides}
use Rattle.domain_faults.proofs.OfDomainLayout.Sides.{AreSides, flipped}
use Rattle.domain_faults.specs.fileset_shapes.Found.{HasAllPages}
use Rattle.domain_faults.proofs.OfFilesetShapes.Held.{says_table}
use Rattle.domain_faults.specs.cell_chains.declared.run.FileRun.{FileRun}
use Rattle.image_loading.specs.Loading.{HasWhereRulesLook}
use Rattle.domain_faults.specs.page_faults.Files.{AreFilePages, AreGoodCells}
use Rattle.domain_bringing.specs.Brought.{HasBitmaps, HasDomainPages, IsGoodFrame, IsLaidOut}
use Rattle.domain_bringing.specs.Files.{HasPagesOfAll}
use Rattle.domain_bringing.proofs.FileHomes.{IsFilePage, has_said}
use Rattle.domain_bringing.proofs.Looks.{has_too, looked_too}

-- whether a page is there is decided
some_by : (o : Option (List ℕ)) → ¬ ¬ IsSome o → IsSome o
some_by (Some page) not = refl
some_by None not = absurd (not (λ is. let e : IsSome {T = List ℕ} None = is in absurd (cc)))

module _ (old new : Pages) (layout : Layout) (laid : IsLayout old layout) (none : HasNoFault old (frame_of layout)) (looked : HasWhereRulesLook old (frame_of layout))
    (kept : (home : Home) → IsSome (old home) → new home ≡ old home) where
  agree : AgreeWhereRulesLook old new (frame_of layout)
  agree home looks = sym (kept home (looked home looks))

  both : AreSides old new layout
  both = sides old new layout agree (none_of_tables old (frame_of layout) none) laid

  back : AreSides new old layout
  back = flipped old new layout both

  stays : (home : Home) → IsSome (old home) → IsSome (new home)
  stays home some = subst IsSome (sym (kept home some)) some

  module _ (runs : List FileRun) (files : AreFilePages old (frame_of layout) runs) (there : HasPagesOfAll new (frame_of layout) runs) where
    page_there : (home : Home) → IsWithin (frame_of layout) home → IsFilePage old (frame_of layout) home → IsSome (new home)
    page_there home within (at, number, has) =
        let have = (files at number home).1 has in
        let here = there have.0 have.1 number have.2.1 in
        subst (λ h. IsWithin (frame_of layout) h → IsSome (new h)) have.2.2 here within

    all_pages : HasAllPages new (frame_of layout)
    all_pages table says number tag cells seen has page home at within =
        some_by (new home)
        (λ away. has_said old layout laid (none_of_tables old (frame_of layout) none) number tag cells seen (has_too new old layout back table says number tag cells seen has) page home at
        (λ is. away (page_there home within is)))

    whole : HasDomainPages new (frame_of layout)
    whole = record {
      laid_out = record { layout = layout; is = refl; laid = both.behind.laid };
      no_fault = λ row fault. none row ((same_faults old new (frame_of layout) row agree).1 fault);
      looked = λ home looks. stays home (looked home (looked_too new old layout back home looks));
      all = all_pages;
    }

pub held : (old new : Pages) (frame : Frame) (runs : List FileRun) → IsLaidOut old frame → HasNoFault old frame → HasWhereRulesLook old frame → ((home : Home) → IsSome (old home) → new home ≡ old home)
    → AreFilePages old frame runs → HasPagesOfAll new frame runs → HasDomainPages new frame
held old new frame runs laid_out =
    subst (λ f. HasNoFault old f → HasWhereRulesLook old f → ((home : Home) → IsSome (old home) → new home ≡ old home) → AreFilePages old f runs → HasPagesOfAll new f runs → HasDomainPages new f) laid_out.is
    (λ none looked kept files there. whole old new laid_out.layout laid_out.laid none looked kept runs files there)

-- ---- cells

-- where no rule of tables is broken, none of cells is, by the table of the layout
pub good_cells : (pages : Pages) (frame : Frame) (layout : Layout) → frame_of layout ≡ frame → IsLayout pages layout → HasNoTablesFault pages frame → AreGoodCells pages frame layout.table
good_cells pages frame layout is laid none home fault =
    none.tables (record { code = 5; home = home }) (layout.table, subst (λ f. SaysTable pages f layout.table) is (says_table pages layout laid), inl (refl, fault))

-- ---- bitmaps

bit_within : (version : Version) (pages page : ℕ) → pages ≤ most_pages version → page < pages → page / 65536 < bitmap_pages version pages
bit_within Three pages page most within = omega (arith, most, within)
bit_within Four pages page most within = omega (arith, most, within)

pub has_bitmaps : (pages : Pages) (frame : Frame) → IsGoodFrame frame → HasDomainPages pages frame → HasBitmaps pages frame
has_bitmaps pages frame good has vol page member within =
    let below = bit_within frame.version (member_of frame.anchor vol).pages page (good.few vol member) within in
    has.looked (record { vol = vol; page = 2 + page / 65536 })
    (inr (inr (none_of_tables pages frame has.no_fault, inl (record { member = member; first = omega arith; last = omega (arith, below) }))))
