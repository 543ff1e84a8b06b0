-- The pages of a record in dense rows.
use Rattle.std.proofs.Common.{◌≡◌, ℕ, ◌≤◌, List, [], ◌∷◌, length, refl, ◌∙◌, arith}
use Rattle.std.proofs.lemmas.List.{length-append}
use Rattle.extent_maps.specs.declared.run.Run.{Run}
use Rattle.extent_maps.specs.declared.run.PagePlace.{PagePlace}
use Rattle.extent_maps.specs.declared.run.PagePlace.TheVariants.{At, Hole, Absent}
use Rattle.extent_maps.specs.Runs.{AreRuns, SamePlaces, place_of}
use Rattle.cell_records.specs.declared.record.Record.{Record}
use Rattle.cell_records.specs.declared.record.Record.TheVariants.{Extents, ShortExtents}
use Rattle.cell_records.specs.Records.{kind_of}
use Rattle.extent_records.specs.Rows.{runs_in}
use Rattle.extent_records.specs.Listing.{HoldsRuns}
use Rattle.extent_records.specs.Writing.{AllSuit, IsLeastRecord, IsMapRecord, Suits, dense_kind, is_of_holes, most_pages, most_rows, parts, pieces, places_in, rows_for}
use Rattle.extent_records.proofs.FewestLemmas.{few_pieces, fewest}
use Rattle.extent_records.proofs.RecordLemmas.{allowed_few, least_same, suits_map, suits_runs, written}

-- runs are no more than the rows that say them
parts_more : (most : ℕ) (runs : List Run) → length runs ≤ length (parts most runs)
parts_more most [] = omega arith
parts_more most (r ∷ rs) = omega (arith, parts_more most rs, (few_pieces most r).0, length-append (pieces most r) (parts most rs))

more_rows : (r : Record) → most_rows (kind_of r) ≤ most_rows (dense_kind (kind_of r))
more_rows (Extents rows) = omega arith
more_rows (ShortExtents rows) = omega arith
more_rows _ = omega arith

same_sort : (r : Record) → is_of_holes (dense_kind (kind_of r)) ≡ is_of_holes (kind_of r)
same_sort (Extents rows) = refl
same_sort (ShortExtents rows) = refl
same_sort _ = refl

suits_dense : (r : Record) (x : PagePlace) → Suits (kind_of r) x → Suits (dense_kind (kind_of r)) x
suits_dense r Absent s = tt
suits_dense r (At home) s = (same_sort r ∙ s.0, s.1)
suits_dense r Hole s = same_sort r ∙ s

-- the runs of a record suit the dense kind, and are no more than its rows
pub dense_suits : (r : Record) (map : List Run) → IsMapRecord r → AreRuns map → SamePlaces (runs_in r) map → AllSuit (dense_kind (kind_of r)) map
dense_suits r map is h same = suits_runs (dense_kind (kind_of r)) map h (λ p. suits_dense r (place_of map p) (suits_map r map p is same))

pub dense_fits : (r : Record) (map : List Run) → IsMapRecord r → AreRuns map → SamePlaces (runs_in r) map → length map ≤ most_rows (dense_kind (kind_of r))
dense_fits r map is h same =
    let few = allowed_few r is.allowed in
    let rows : length (rows_for (kind_of r) map) ≤ length (runs_in r) = fewest (most_pages (kind_of r)) (runs_in r) map 0 h few.rising same in
    omega (arith, rows, few.few, parts_more (most_pages (kind_of r)) map, more_rows r)

-- a record that holds the runs of another's map has its places, in as few rows as can be
pub dense_least : (r empty new : Record) (map : List Run) → IsMapRecord r → IsMapRecord empty → AreRuns map → SamePlaces (runs_in r) map → AllSuit (kind_of empty) map
    → HoldsRuns (kind_of empty) map new → IsLeastRecord (kind_of empty) (places_in r) new
dense_least r empty new map is none h same suits holds =
    least_same (kind_of empty) (place_of map) (places_in r) new same
    ((written map empty new h suits none (record { of_kind = holds.of_kind; allowed = holds.is_map.allowed; says = holds.rows })).written refl)
