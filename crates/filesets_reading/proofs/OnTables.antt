-- A cell that has a place stands on a page of its volume's table.
use Rattle.std.proofs.Common.{◌≡◌, ◌∙◌, ℕ, zero, suc, ◌+◌, Bool, true, false, cond, nat_eq, List, [], ◌∷◌, ◌++◌, length, Some, None, Contains, IsSomeAnd, slice_get, slice_index, refl, sym, ap, subst, arith}
use Rattle.std.specs.Prelude.{slice_index_or}
use Rattle.domain_layout.specs.domain_base.declared.place.CellAt.{CellAt}
use Rattle.domain_layout.specs.domain_base.declared.place.Home.{Home}
use Rattle.domain_layout.specs.page_store.Pages.{Pages}
use Rattle.domain_layout.specs.metadata_cells.Cell.{Cell}
use Rattle.domain_layout.specs.metadata_cells.CellPage.{home_of, next_of}
use Rattle.domain_layout.specs.metadata_cells.Chain.{StandsAt}
use Rattle.domain_layout.specs.CellRules.{IsPlace}
use Rattle.domain_layout.specs.Layout.{IsLayout, IsPageAt, Layout}
use Rattle.domain_layout.specs.Owners.{IsOnTable, frame_of}
use Rattle.domain_layout.specs.Reached.{Reaches, begins, cells_way, goes_on}
use Rattle.domain_layout.proofs.OnePage.{some_same}
use Rattle.filesets_reading.proofs.Ways.{pushed, within_of}
use Rattle.domain_layout.specs.log_ring.Homes.{IsMember}

pub contains_at : (xs : List ℕ) (k x : ℕ) → slice_get xs k ≡ Some x → Contains xs x
contains_at [] k x is = absurd (let e : None ≡ Some x = is in absurd (cc))
contains_at (y ∷ ys) zero x is = (0, omega arith, some_same y x is)
contains_at (y ∷ ys) (suc k) x is = let more = contains_at ys k x is in (suc more.0, omega (arith, more.1), more.2)

some_at : (xs : List ℕ) (k : ℕ) → ¬ slice_index_or xs k 0 ≡ 0 → slice_get xs k ≡ Some (slice_index_or xs k 0)
some_at [] k some = absurd (some refl)
some_at (x ∷ xs) zero some = refl
some_at (x ∷ xs) (suc k) some = some_at xs k some

index_at : (xs : List ℕ) (k x : ℕ) → slice_get xs k ≡ Some x → slice_index xs k ≡ x
index_at [] k x is = absurd (let e : None ≡ Some x = is in absurd (cc))
index_at (y ∷ ys) zero x is = some_same y x is
index_at (y ∷ ys) (suc k) x is = index_at ys k x is

-- a home that is come to after this number of pages is that page of the table
pub record IsThere (table : List ℕ) (vol : ℕ) (passed : List Home) (home : Home) : Type 0 where
  pub same : home.vol ≡ vol
  pub there : slice_get table (length passed) ≡ Some home.page

module _ (pages : Pages) (layout : Layout) (laid : IsLayout pages layout) (vol : ℕ) (member : IsMember layout.anchor vol) where
  leads_on : (passed : List Home) (home onto : Home) (page : List ℕ) → IsThere (layout.cells vol) vol passed home → pages home ≡ Some page
      → cond (nat_eq (next_of page) 0) None (Some (record { vol = home.vol; page = next_of page })) ≡ Some onto → IsThere (layout.cells vol) vol (passed ++ home ∷ []) onto
  leads_on passed home onto page at there leads = by_test (nat_eq (next_of page) 0) refl leads
    where
      stands : IsPageAt (layout.cells vol) (length passed) page
      stands =
          let within = within_of (layout.cells vol) (length passed) home.page at.there in
          let number : slice_index (layout.cells vol) (length passed) ≡ home.page = index_at (layout.cells vol) (length passed) home.page at.there in
          let same : record { vol = vol; page = slice_index (layout.cells vol) (length passed) } ≡ home = (λ i. record { vol = sym at.same i; page = number i }) in
          subst (λ o. IsSomeAnd o (IsPageAt (layout.cells vol) (length passed))) (ap pages same ∙ there) ((laid.cells vol member).each (length passed) within)

      by_test : (b : Bool) → nat_eq (next_of page) 0 ≡ b → cond b None (Some (record { vol = home.vol; page = next_of page })) ≡ Some onto → IsThere (layout.cells vol) vol (passed ++ home ∷ []) onto
      by_test true zero_there leads = absurd (let e : None ≡ Some onto = leads in absurd (cc))
      by_test false some leads =
          let same : record { vol = home.vol; page = next_of page } ≡ onto = some_same (record { vol = home.vol; page = next_of page }) onto leads in
          let next : slice_index_or (layout.cells vol) (length passed + 1) 0 ≡ onto.page = sym stands.linked ∙ ap (λ (h : Home). h.page) same in
          let not_zero : ¬ slice_index_or (layout.cells vol) (length passed + 1) 0 ≡ 0 = (λ zero_there. absurd (let e : true ≡ false = sym (eq_zero (next_of page) (stands.linked ∙ zero_there)) ∙ some in absurd (cc))) in
          record {
            same = sym (ap (λ (h : Home). h.vol) same) ∙ at.same;
            there = ap (slice_get (layout.cells vol)) (pushed passed home ∙ omega arith) ∙ some_at (layout.cells vol) (length passed + 1) not_zero ∙ ap Some next;
          }
        where
          eq_zero : (n : ℕ) → n ≡ 0 → nat_eq n 0 ≡ true
          eq_zero n is = ap (λ m. nat_eq m 0) is

  pub is_there : (passed : List Home) (home : Home) → Reaches pages (frame_of layout) (cells_way (frame_of layout) vol) passed home → IsThere (layout.cells vol) vol passed home
  is_there passed home reached = elim reached as (λ passed home reached. IsThere (layout.cells vol) vol passed home) [
    | begins ↦ record { same = refl; there = (laid.cells vol member).begins }
    | goes_on passed home onto page (before → earlier) may fresh there so leads ↦ leads_on passed home onto page earlier there leads
  ]

pub on_table : (pages : Pages) (layout : Layout) → IsLayout pages layout → (at : CellAt) (cell : Cell) → IsPlace pages (frame_of layout) at → StandsAt pages at cell → IsOnTable pages layout at cell
on_table pages layout laid at cell place stands =
    let there = is_there pages layout laid at.vol place.is.member place.is.read.passed (home_of at) place.is.read.reached in
    record { member = place.is.member; table = contains_at (layout.cells at.vol) (length place.is.read.passed) at.page there.there; stands = stands }
