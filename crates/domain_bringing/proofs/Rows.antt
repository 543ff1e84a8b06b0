-- The first row of faults.
use Rattle.std.proofs.Common.{◌≡◌, ◌∙◌, ℕ, List, [], ◌∷◌, Some, None, slice_get, refl, sym, ap}
use Rattle.domain_faults.proofs.OfDomainLayout.OnePage.{some_same}
use Rattle.domain_faults.specs.Rows.{row_there, rows_there}
use Rattle.domain_faults.specs.declared.rows.FaultRow.{FaultRow as Told}
use Rattle.domain_bringing.specs.Fault.{BeginsAt}

-- rows that begin with one, which is on this volume
pub begins_with : (rows : List Told) (row : Told) (vol : ℕ) → Some row ≡ slice_get rows 0 → vol ≡ row.home.vol → BeginsAt (rows_there rows) vol row.home.page
begins_with [] row vol is on = absurd (let e : Some row ≡ None = is in absurd (cc))
begins_with (first ∷ more) row vol is on =
    let same : first ≡ row = some_same first row (sym is) in
    (row_there first, rows_there more, refl, ap (λ (r : Told). r.home.vol) same ∙ sym on, ap (λ (r : Told). r.home.page) same)
