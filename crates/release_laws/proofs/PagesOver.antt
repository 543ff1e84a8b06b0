-- Pages that are of no table of cells are the same after steps.
use Rattle.std.proofs.Common.{◌≡◌, ◌∙◌, ℕ, length, Contains, refl, sym, ap, subst, arith, ⊎_elim}
use Rattle.standing_laws.specs.domain_base.declared.place.Home.{Home}
use Rattle.standing_laws.specs.domain_base.declared.version.Version.{Version}
use Rattle.standing_laws.specs.log_ring.Homes.{IsMember}
use Rattle.standing_laws.specs.free_cells.Cells.{table_of}
use Rattle.standing_laws.specs.release_list.Standing.{Files}
use Rattle.standing_laws.specs.release_list.Steps.{IsWell, Now, Steps, more, none}
use Rattle.standing_laws.proofs.OfReleaseSteps.HeldSteps.{tables_on}
use Rattle.standing_laws.proofs.OfReleaseSteps.Tags.{page_stays, was_listed}
use Rattle.standing_laws.proofs.OfReleaseSteps.Wells.{well_step}
use Rattle.standing_laws.specs.domain_standing.Chains.{IndexesAt}
use Rattle.standing_laws.specs.domain_standing.Domain.{DomainNow, all_of}
use Rattle.standing_laws.specs.domain_standing.Holders.{Holder, Holds}
use Rattle.standing_laws.specs.domain_standing.Holders.Holder.{of_cells, of_tags}
use Rattle.standing_laws.proofs.OfDomainLayout.Reached.{member_or_none}
use Rattle.standing_laws.specs.Leads.{StandsBelow}
use Rattle.standing_laws.proofs.IndexWell.{listed_has}
use Rattle.release_laws.specs.Released.{Releases}

record PagesStill (first now : Now) (h : Home) : Type 0 where
  well : IsWell now
  gone : ¬ Contains now.list.tag_pages h
  same : ¬ Contains (table_of now.cells h.vol) h.page → now.pages h ≡ first.pages h

pages_still : (group : ℕ) (version : Version) (first : Now) (count : ℕ) (last : Now) → IsWell first → Steps group version first count last → (h : Home) → ¬ Contains first.list.tag_pages h → PagesStill first last h
pages_still group version first count last well steps h out =
    elim steps as (λ count last steps. PagesStill first last h) [
      | none ↦ record { well = well; gone = out; same = λ off. refl }
      | more n between last (steps → was) step ↦ record {
        well = well_step group version between last was.well step;
        gone = λ inside. was.gone (was_listed group version between last was.well step h inside);
        same = λ off. page_stays group version between last was.well step h off was.gone ∙ was.same (λ on. off (tables_on group version between last was.well step h.vol h.page on));
      }
    ]

-- no page of a tag directory comes on the list
pub none_listed : (group : ℕ) (version : Version) (first : Now) (count : ℕ) (last : Now) → IsWell first → Steps group version first count last → (h : Home) → ¬ Contains first.list.tag_pages h → ¬ Contains last.list.tag_pages h
none_listed group version first count last well steps h out = (pages_still group version first count last well steps h out).gone

module _ (group count : ℕ) (d now : DomainNow) (files files_now : Files) (indexes : IndexesAt) (below : StandsBelow d files indexes) (after : StandsBelow now files_now indexes) (r : Releases group count d now files files_now) where
  -- a page that is on the list is one of a tag directory
  pub not_listed : (home : Home) (holder : Holder) → Holds d files indexes holder home → ((n : ℕ) → ¬ holder ≡ of_tags n) → ¬ Contains d.list.tag_pages home
  not_listed home holder held other inside =
      let empty = below.chains.tag_pages home inside in
      other empty.0 (below.owned.once home holder (of_tags empty.0) held (listed_has (d.tags empty.0) home (subst (λ homes. Contains homes home) (sym empty.1.listed) inside)))

  member_now : (vol p : ℕ) → Contains (table_of now.cells vol) p → IsMember now.frame.anchor vol
  member_now vol p on = ⊎_elim
      (λ member. member)
      (λ none. let e : length (table_of now.cells vol) ≡ 0 = ap length (after.tables.cells.others vol none) in absurd (omega (arith, e, on.1)))
      (member_or_none now.frame.anchor vol)

  -- a page that is held for something else is on no table of cells
  pub off_tables : (home : Home) (holder : Holder) → Holds now files_now indexes holder home → ¬ holder ≡ of_cells → ¬ Contains (table_of now.cells home.vol) home.page
  off_tables home holder held other on = other (after.owned.once home holder of_cells held (member_now home.vol home.page on, on))

  pub page_same : (home : Home) → ¬ Contains d.list.tag_pages home → ¬ Contains (table_of now.cells home.vol) home.page → now.pages home ≡ d.pages home
  page_same home out off = (pages_still group d.frame.version (all_of d files) count (all_of now files_now) below.chains.well r.steps home out).same off

  -- it is the same, if it is of no tag directory
  pub held_same : (home : Home) (holder : Holder) → Holds d files indexes holder home → Holds now files_now indexes holder home → ((n : ℕ) → ¬ holder ≡ of_tags n) → ¬ holder ≡ of_cells → now.pages home ≡ d.pages home
  held_same home holder held held_now no_tags no_cells = page_same home (not_listed home holder held no_tags) (off_tables home holder held_now no_cells)
