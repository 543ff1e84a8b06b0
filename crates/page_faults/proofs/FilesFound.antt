-- Cells that are found to say wrong pages, and pages of bitmaps with wrong bits, are those of the
-- rules.
use Rattle.std.proofs.Common.{◌≡◌, ◌∙◌, ◌⊎◌, ◌↔◌, inl, inr, ℕ, List, Contains, refl, sym, ap, subst, ⊎_elim}
use Rattle.tag_faults.specs.domain_base.declared.place.CellAt.{CellAt}
use Rattle.tag_faults.specs.domain_base.declared.place.Home.{Home}
use Rattle.tag_faults.specs.page_store.Pages.{Pages}
use Rattle.tag_faults.specs.metadata_cells.CellPage.{home_of}
use Rattle.tag_faults.specs.fileset_table.Table.{Table}
use Rattle.tag_faults.specs.domain_layout.Reached.{Frame, IsWithin}
use Rattle.tag_faults.proofs.OfDomainLayout.Reached.{member_or_none}
use Rattle.tag_faults.specs.cell_chains.declared.links.CellLinks.{CellLinks}
use Rattle.tag_faults.specs.cell_faults.Links.{AreLinks}
use Rattle.tag_faults.specs.cell_chains.Reading.{AreSaid}
use Rattle.tag_faults.specs.cell_chains.Runs.{HaveAt, IsPageOf, IsShared, home_in, on}
use Rattle.tag_faults.specs.cell_chains.declared.run.FileRun.{FileRun}
use Rattle.tag_faults.proofs.UsedCells.{used_by, used_link}
use Rattle.page_faults.specs.Files.{AreFilePages, HasPageAt, HasWrongBit, HasWrongPage, IsNoFiles, IsTakenPage, SaysWrongPage}
use Rattle.page_faults.specs.Owned.{AreOfTables, IsTaken}
use Rattle.page_faults.specs.Wrong.{HasRun, IsOwnedBy, IsWrongBitmap, IsWrongRun}
use Rattle.page_faults.proofs.BitmapsFound.{same_bits}

-- what was read of cells in use speaks of all of them
pub file_pages : (pages : Pages) (frame : Frame) (links : CellLinks) → AreLinks pages frame links → (runs : List FileRun) → AreSaid pages links runs → AreFilePages pages frame runs
file_pages pages frame links are runs said at page home = (
  λ have. let (used, (cell, stands, says)) = (said at page home).0 have in (cell, used_by pages frame links are at cell used stands, says),
  λ (cell, is, says). (said at page home).1 (used_link pages frame links are at cell is, (cell, is.stands, says)),
)

module _ (pages : Pages) (frame : Frame) (table : Table) (homes : List Home) (runs : List FileRun) (are : AreOfTables pages frame table homes) (files : AreFilePages pages frame runs) where
  taken_to : (home : Home) → IsTaken frame homes home → IsNoFiles pages frame table home
  taken_to home taken = ⊎_elim (λ reserved. inl reserved) (λ among. inr ((are home).0 among)) taken

  taken_from : (home : Home) → IsNoFiles pages frame table home → IsTaken frame homes home
  taken_from home taken = ⊎_elim (λ reserved. inl reserved) (λ of. inr ((are home).1 of)) taken

  wrong_to : (run : FileRun) → Contains runs run → IsWrongRun frame homes runs run → SaysWrongPage pages frame table run.at
  wrong_to run among wrong = ⊎_elim
      (λ (page, is, out). record { page = page; home = home_in run page; has = has page is; wrong = inl out })
      (λ (same, member, (page, is, others)). record {
        page = page;
        home = home_in run page;
        has = has page is;
        wrong = inr (⊎_elim (λ taken. inl (taken_to (home_in run page) taken))
            (λ (other, number, have, differ). inr (other, number, (files other number (home_in run page)).0 have, differ)) others);
      }) wrong
    where
      has : (page : ℕ) → IsPageOf run page → HasPageAt pages frame run.at page (home_in run page)
      has page is = (files run.at page (home_in run page)).0 (run, among, (refl, is, refl))

  wrong_from : (at : CellAt) (page : ℕ) (home : Home) → (¬ IsWithin frame home ⊎ IsNoFiles pages frame table home ⊎ ((other : CellAt) × (number : ℕ) × HasPageAt pages frame other number home × ¬ ((other ≡ at) × (number ≡ page))))
      → (run : FileRun) → run.at ≡ at → IsPageOf run page → home_in run page ≡ home → IsWrongRun frame homes runs run
  wrong_from at page home (inl out) run same is there = inl (page, is, subst (λ (h : Home). ¬ IsWithin frame h) (sym there) out)
  wrong_from at page home (inr others) run same is there =
      ⊎_elim (λ member. inr (refl, member, (page, is, anothers)))
      (λ none. inl (page, is, (λ within. none within.0))) (member_or_none frame.anchor run.row.vol)
    where
      anothers : IsTaken frame homes (home_in run page) ⊎ IsShared runs run page
      anothers = ⊎_elim (λ taken. inl (subst (IsTaken frame homes) (sym there) (taken_from home taken)))
          (λ (other, number, has, differ). inr (
            other,
            number,
            subst (HaveAt runs other number) (sym there) ((files other number home).1 has),
            (λ (cell, number_is). differ (cell ∙ same, number_is)),
          )) others

  pub pages_all : (home : Home) → HasRun runs (IsWrongRun frame homes runs) home ↔ HasWrongPage pages frame table home
  pages_all home = (
    λ (run, among, same, wrong). (run.at, same, wrong_to run among wrong),
    λ (at, same, wrong).
        let (run, among, (here, is, there)) = (files at wrong.page wrong.home).1 wrong.has in
        (run, among, ap (λ (a : CellAt). home_of a) here ∙ same, wrong_from at wrong.page wrong.home wrong.wrong run here is there),
  )

  owned_as : (home : Home) → IsOwnedBy frame homes runs home ↔ IsTakenPage pages frame table home
  owned_as home = (
    λ owned. ⊎_elim (λ taken. inl (taken_to home taken)) (λ (at, page, have). inr (at, page, (files at page home).0 have)) owned,
    λ which. ⊎_elim (λ taken. inl (taken_from home taken)) (λ (at, page, has). inr (at, page, (files at page home).1 has)) which,
  )

  pub bits_all : (home : Home) → IsWrongBitmap pages frame homes runs home ↔ HasWrongBit pages frame table home
  bits_all home = (
    λ (vol, (member, wrong)). (vol, member, same_bits pages frame (λ n. IsOwnedBy frame homes runs (on vol n)) (λ n. IsTakenPage pages frame table (on vol n)) (λ n. owned_as (on vol n)) vol home wrong),
    λ (vol, member, wrong). (vol, (member, same_bits pages frame (λ n. IsTakenPage pages frame table (on vol n)) (λ n. IsOwnedBy frame homes runs (on vol n)) (λ n. let both = owned_as (on vol n) in (both.1, both.0)) vol home wrong)),
  )
