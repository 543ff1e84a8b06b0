-- The table of one volume joins those of the volumes in front of it.
use Rattle.std.proofs.Common.{◌≡◌, ◌==◌, ◌∙◌, ◌⊎◌, ◌↔◌, inl, inr, ℕ, ◌+◌, ◌<◌, ◌≤◌, Bool, true, false, List, [], ◌∷◌, ◌++◌, Option, Some, None, Contains, slice_get, if◌then◌else◌, refl, sym, ap, subst, arith, ⊎_elim}
use Rattle.std.proofs.lemmas.Bool.{cases_lt}
use Rattle.std.proofs.lemmas.List.Elements.{Contains-append_left, Contains-push, Contains-push_cases}
use Rattle.page_ways.specs.domain_base.declared.place.Home.{Home}
use Rattle.page_ways.specs.page_store.Pages.{Pages}
use Rattle.page_ways.specs.metadata_cells.CellPage.{next_of}
use Rattle.page_ways.specs.domain_layout.CellRules.{IsNoCellsPage}
use Rattle.page_ways.specs.domain_layout.Reached.{Frame, IsRead, IsUnread, Reaches, begins, cells_way, goes_on}
use Rattle.page_ways.specs.Walk.{AreRead}
use Rattle.cell_faults.specs.Tables.{AreTables, AreTablesBelow, IsNoneBelow, IsThere}
use Rattle.cell_faults.specs.declared.tables.CellsPage.{CellsPage}
use Rattle.page_ways.specs.log_ring.Homes.{IsMember}

next_vol : (b : Bool) (home onto : Home) (page : List ℕ) → (if b then None else Some (record { vol = home.vol; page = next_of page })) ≡ Some onto → onto.vol ≡ home.vol
next_vol true home onto page leads = let e : None ≡ Some onto = leads in absurd (cc)
next_vol false home onto page leads = cc

-- the pages of cells that are come to stand on their volume
on_volume : (pages : Pages) (frame : Frame) (vol : ℕ) (passed : List Home) (home : Home) → Reaches pages frame (cells_way frame vol) passed home → home.vol ≡ vol
on_volume pages frame vol passed home reached = elim reached as (λ passed home reached. home.vol ≡ vol) [
  | begins ↦ refl
  | goes_on passed home onto page (before → earlier) may fresh there so leads ↦ next_vol (next_of page == 0) home onto page leads ∙ earlier
]

module _ (pages : Pages) (frame : Frame) (vol : ℕ) (old new : List CellsPage) (none more : List Home) where
  pub table_joins : (homes : List Home) (stop : Option Home) → IsMember frame.anchor vol → AreTablesBelow vol pages frame old none
      → AreRead pages frame (cells_way frame vol) homes stop
      → ((page : CellsPage) → Contains new page ↔ (Contains old page ⊎ (slice_get homes page.place ≡ Some page.home)))
      → ((home : Home) → Contains more home ↔ (Contains none home ⊎ (stop ≡ Some home)))
      → AreTablesBelow (vol + 1) pages frame new more
  table_joins homes stop member are read pushed stopped = record { each = λ page. (to page, from page); none = λ home. (none_to home, none_from home) }
    where
      to : (page : CellsPage) → Contains new page → (page.home.vol < vol + 1) × IsThere pages frame page
      to page is =
          ⊎_elim (λ before. let there = (are.each page).0 before in (omega (arith, there.0), there.1))
          (λ put.
          let found = (read.each page.place page.home).0 put in
          let same : page.home.vol ≡ vol = on_volume pages frame vol found.1.passed page.home found.1.reached in (
            omega (arith, same),
            (
              found.0,
              record {
                member = subst (IsMember frame.anchor) (sym same) member;
                read = subst (λ v. IsRead pages frame (cells_way frame v) page.place page.home found.0) (sym same) found.1;
              },
            ),
          ))
          ((pushed page).0 is)

      from : (page : CellsPage) → (page.home.vol < vol + 1) × IsThere pages frame page → Contains new page
      from page (below, (bytes, is)) =
          (pushed page).1 (⊎_elim (λ low. inl ((are.each page).1 (low, (bytes, is))))
          (λ high.
          let same : page.home.vol ≡ vol = omega (arith, below, high) in
          inr ((read.each page.place page.home).1 (bytes, subst (λ v. IsRead pages frame (cells_way frame v) page.place page.home bytes) same is.read)))
          (cases_lt page.home.vol vol))

      none_to : (home : Home) → Contains more home → IsNoneBelow (vol + 1) pages frame home
      none_to home is =
          ⊎_elim (λ before. let at = (are.none home).0 before in record { vol = at.vol; below = omega (arith, at.below); member = at.member; unread = at.unread })
          (λ here. record { vol = vol; below = omega arith; member = member; unread = (read.wrong home).0 here })
          ((stopped home).0 is)

      none_from : (home : Home) → IsNoneBelow (vol + 1) pages frame home → Contains more home
      none_from home is =
          (stopped home).1 (⊎_elim (λ low. inl ((are.none home).1 (record { vol = is.vol; below = low; member = is.member; unread = is.unread })))
          (λ high.
          let same : is.vol ≡ vol = omega (arith, is.below, high) in
          inr ((read.wrong home).1 (subst (λ v. IsUnread pages frame (cells_way frame v) home) same is.unread)))
          (cases_lt is.vol vol))

some_same : {X : Type 0} (a b : X) → Some a ≡ Some b → a ≡ b
some_same a b e = cc

-- what is told of a page that is come to and not read
pub stop_there : (none : List Home) (at home : Home) → Contains (none ++ at ∷ []) home ↔ (Contains none home ⊎ (Some at ≡ Some home))
stop_there none at home = (
  λ is. ⊎_elim (λ before. inl before) (λ last. inr (ap (λ h. Some h) last)) (Contains-push_cases none at home is),
  λ is. ⊎_elim (λ before. Contains-append_left none (at ∷ []) home before) (λ last. subst (Contains (none ++ at ∷ [])) (some_same at home last) (Contains-push none at)) is,
)

pub no_stop : (none : List Home) (home : Home) → Contains none home ↔ (Contains none home ⊎ (None ≡ Some home))
no_stop none home = (λ is. inl is, λ is. ⊎_elim (λ before. before) (λ here. let e : None ≡ Some home = here in absurd (cc)) is)

-- a volume that is no member has none
pub no_table : (pages : Pages) (frame : Frame) (vol : ℕ) (read : List CellsPage) (none : List Home) → ¬ IsMember frame.anchor vol → AreTablesBelow vol pages frame read none
    → AreTablesBelow (vol + 1) pages frame read none
no_table pages frame vol read none not are = record { each = λ page. (to page, from page); none = λ home. (none_to home, none_from home) }
  where
    to : (page : CellsPage) → Contains read page → (page.home.vol < vol + 1) × IsThere pages frame page
    to page is = let there = (are.each page).0 is in (omega (arith, there.0), there.1)

    from : (page : CellsPage) → (page.home.vol < vol + 1) × IsThere pages frame page → Contains read page
    from page (below, (bytes, is)) =
        ⊎_elim (λ low. (are.each page).1 (low, (bytes, is)))
        (λ high. let same : page.home.vol ≡ vol = omega (arith, below, high) in absurd (not (subst (IsMember frame.anchor) same is.member))) (cases_lt page.home.vol vol)

    none_to : (home : Home) → Contains none home → IsNoneBelow (vol + 1) pages frame home
    none_to home is = let at = (are.none home).0 is in record { vol = at.vol; below = omega (arith, at.below); member = at.member; unread = at.unread }

    none_from : (home : Home) → IsNoneBelow (vol + 1) pages frame home → Contains none home
    none_from home is =
        ⊎_elim (λ low. (are.none home).1 (record { vol = is.vol; below = low; member = is.member; unread = is.unread }))
        (λ high. let same : is.vol ≡ vol = omega (arith, is.below, high) in absurd (not (subst (IsMember frame.anchor) same is.member))) (cases_lt is.vol vol)

-- behind the last volume there is none more
pub all_tables : (pages : Pages) (frame : Frame) (number : ℕ) (read : List CellsPage) (none : List Home) → 9 ≤ number → AreTablesBelow number pages frame read none → AreTables pages frame read none
all_tables pages frame number read none last are = record { each = λ page. (to page, from page); none = λ home. (none_to home, none_from home) }
  where
    to : (page : CellsPage) → Contains read page → IsThere pages frame page
    to page is = ((are.each page).0 is).1

    from : (page : CellsPage) → IsThere pages frame page → Contains read page
    from page (bytes, is) = (are.each page).1 (omega (arith, is.member.last, last), (bytes, is))

    none_to : (home : Home) → Contains none home → IsNoCellsPage pages frame home
    none_to home is = let at = (are.none home).0 is in record { vol = at.vol; member = at.member; unread = at.unread }

    none_from : (home : Home) → IsNoCellsPage pages frame home → Contains none home
    none_from home is = (are.none home).1 (record { vol = is.vol; below = omega (arith, is.member.last, last); member = is.member; unread = is.unread })
