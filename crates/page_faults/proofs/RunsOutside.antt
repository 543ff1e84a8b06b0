-- Runs that are found to be wrong, by what was found of their pages.
use Rattle.std.proofs.Common.{◌≡◌, ◌⊎◌, ◌↔◌, inl, inr, ℕ, ◌+◌, ◌-◌, ◌<◌, ◌≤◌, List, Contains, sym, subst, arith, ⊎_elim}
use Rattle.std.proofs.lemmas.Bool.{cases_lt}
use Rattle.tag_faults.specs.domain_base.declared.place.Home.{Home}
use Rattle.tag_faults.specs.metadata_cells.CellPage.{home_of}
use Rattle.tag_faults.specs.log_ring.Homes.{IsMember, member_of}
use Rattle.tag_faults.specs.domain_layout.Reached.{Frame}
use Rattle.tag_faults.specs.cell_chains.Runs.{IsPageOf, IsShared, home_in, on, page_in}
use Rattle.tag_faults.specs.cell_chains.declared.run.FileRun.{FileRun}
use Rattle.page_faults.specs.Owned.{IsTaken}
use Rattle.page_faults.specs.Wrong.{HasRun, IsAnothersBelow, IsAnothersOn, IsMet, IsOutside, IsWrongRun}

module _ (frame : Frame) (run : FileRun) where
  pub no_page : run.row.count ≡ 0 → ¬ IsOutside frame run
  no_page none (page, (from, to), wrong) = omega (arith, none, from, to)

  pub no_member : ¬ run.row.count ≡ 0 → ¬ IsMember frame.anchor run.row.vol → IsOutside frame run
  no_member some none = (
    run.row.page,
    (omega arith, ⊎_elim (λ empty. absurd (some (let e : run.row.count ≡ 0 = omega (arith, empty) in e))) (λ more. omega (arith, more)) (cases_lt run.row.count 1)),
    (λ within. none within.0),
  )

  pub past_end : ¬ run.row.count ≡ 0 → IsMember frame.anchor run.row.vol → ((member_of frame.anchor run.row.vol).pages < run.row.first + run.row.count) ↔ IsOutside frame run
  past_end some member = (
    λ past.
        let more : 1 ≤ run.row.count = ⊎_elim (λ empty. absurd (some (let e : run.row.count ≡ 0 = omega (arith, empty) in e))) (λ more. more) (cases_lt run.row.count 1) in
        let last : ℕ = run.row.page + (run.row.count - 1) in (
          last,
          (omega arith, omega (arith, more)),
          (λ within. let stands : page_in run last ≡ run.row.first + (run.row.count - 1) = omega (arith, more) in omega (arith, within.1, stands, past, more)),
        ),
    λ (page, (from, to), wrong).
        ⊎_elim (λ inside. absurd (wrong (member, inside))) (λ past. omega (arith, past, from, to)) (cases_lt (page_in run page) (member_of frame.anchor run.row.vol).pages),
  )

module _ (frame : Frame) (homes : List Home) (runs : List FileRun) where
  -- runs of which a page is among those that were found
  pub met_all : (vol : ℕ) → IsMember frame.anchor vol → (Is : ℕ → Type 0)
      → ((run : FileRun) (page : ℕ) → Contains runs run → run.row.vol ≡ vol → IsPageOf run page → Is (page_in run page) ↔ (IsTaken frame homes (on vol (page_in run page)) ⊎ IsShared runs run page))
      → (home : Home) → HasRun runs (IsMet vol Is) home ↔ HasRun runs (IsAnothersOn vol frame homes runs) home
  met_all vol member Is all home = (
    λ (run, among, same, (there, (page, is, met))). (run, among, same, (there, member, (page, is, taken run page there ((all run page among there is).0 met)))),
    λ (run, among, same, (there, also, (page, is, wrong))). (run, among, same, (there, (page, is, (all run page among there is).1 (back run page there wrong)))),
  )
    where
      here : (run : FileRun) (page : ℕ) → run.row.vol ≡ vol → home_in run page ≡ on vol (page_in run page)
      here run page there = (λ i. record { vol = there i; page = page_in run page })

      taken : (run : FileRun) (page : ℕ) → run.row.vol ≡ vol → IsTaken frame homes (on vol (page_in run page)) ⊎ IsShared runs run page → IsTaken frame homes (home_in run page) ⊎ IsShared runs run page
      taken run page there (inl is) = inl (subst (IsTaken frame homes) (sym (here run page there)) is)
      taken run page there (inr shared) = inr shared

      back : (run : FileRun) (page : ℕ) → run.row.vol ≡ vol → IsTaken frame homes (home_in run page) ⊎ IsShared runs run page → IsTaken frame homes (on vol (page_in run page)) ⊎ IsShared runs run page
      back run page there (inl is) = inl (subst (IsTaken frame homes) (here run page there) is)
      back run page there (inr shared) = inr shared

  -- runs on no member are none of those
  pub none_on : (vol : ℕ) → ¬ IsMember frame.anchor vol → (home : Home) → ¬ HasRun runs (IsAnothersOn vol frame homes runs) home
  none_on vol none home (run, among, same, (there, member, wrong)) = none member

  abbrev pub HasBelow : Home → ℕ → Type 0
  HasBelow home number = HasRun runs (IsAnothersBelow number frame homes runs) home

  pub none_below : (home : Home) → ¬ HasBelow home 1
  none_below home (run, among, same, (vol, below, (there, member, wrong))) = omega (arith, below, member.first)

  pub below_more : (home : Home) (number : ℕ) → (HasBelow home number ⊎ HasRun runs (IsAnothersOn number frame homes runs) home) ↔ HasBelow home (number + 1)
  below_more home number = (
    λ which. ⊎_elim (λ (run, among, same, (vol, below, wrong)). (run, among, same, (vol, omega (arith, below), wrong))) (λ (run, among, same, wrong). (run, among, same, (number, omega arith, wrong))) which,
    λ (run, among, same, (vol, below, wrong)).
        ⊎_elim (λ low. inl (run, among, same, (vol, low, wrong)))
        (λ high. let is : vol ≡ number = omega (arith, below, high) in inr (run, among, same, subst (λ v. IsAnothersOn v frame homes runs run) is wrong)) (cases_lt vol number),
  )

  pub wrong_all : (home : Home) (number : ℕ) → 9 ≤ number → (HasRun runs (IsOutside frame) home ⊎ HasBelow home number) ↔ HasRun runs (IsWrongRun frame homes runs) home
  wrong_all home number whole = (
    λ which. ⊎_elim (λ (run, among, same, out). (run, among, same, inl out))
        (λ (run, among, same, (vol, below, wrong)). (run, among, same, inr (subst (λ v. IsAnothersOn v frame homes runs run) (sym wrong.0) wrong))) which,
    λ (run, among, same, wrong). by_wrong run among same wrong,
  )
    where
      by_wrong : (run : FileRun) → Contains runs run → home_of run.at ≡ home → IsWrongRun frame homes runs run → HasRun runs (IsOutside frame) home ⊎ HasBelow home number
      by_wrong run among same (inl out) = inl (run, among, same, out)
      by_wrong run among same (inr wrong) = inr (run, among, same, (run.row.vol, omega (arith, whole, wrong.1.last), wrong))
