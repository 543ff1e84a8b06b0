-- One record of a chain's: which one takes a page, and what its change does to the chain's map.
use Rattle.std.specs.Prelude.{◌≡◌, ℕ, ◌+◌, ◌<◌, ◌≤◌, ◌⊎◌, true, false, List, [], ◌∷◌, take, length, get_or, Option, Some, None}
use Rattle.std.specs.List.{AllByRecursion}
use Rattle.extent_maps.specs.declared.run.PagePlace.{PagePlace}
use Rattle.extent_maps.specs.declared.run.PagePlace.TheVariants.{At, Hole, Absent}
use Rattle.extent_maps.specs.Runs.{Places, place_of, with_place}
use Rattle.cell_records.specs.declared.record.Record.{Record}
use Rattle.cell_records.specs.Records.{kind_of}
use Rattle.extent_records.specs.Rows.{AreOneMap, IsPlaced, NoPageTwice, runs_in, runs_of}
use Rattle.extent_records.specs.Writing.{CanSay, IsMapRecord, is_of_holes, most_rows, places_before, places_from, places_in}

-- a record of a chain that does not have the page: if it has rows, they say where pages stand
pub record CanTake (page : ℕ) (r : Record) : Type 0 where
  pub is_map : 1 ≤ most_rows (kind_of r) → IsMapRecord r
  pub absent : places_in r page ≡ Absent

-- records of that kind have rows of extents
abbrev pub HasExtents : ℕ → Type 0
HasExtents kind = (1 ≤ most_rows kind) × (is_of_holes kind ≡ false)

-- rows of that kind are for pages at such a place
abbrev pub IsFor : PagePlace → ℕ → Type 0
IsFor Absent kind = ⊥
IsFor (At home) kind = HasExtents kind
IsFor Hole kind = is_of_holes kind ≡ true

-- the record can have the page at that place beside what it has
abbrev pub Takes : ℕ → PagePlace → Record → Type 0
Takes page place r = IsFor place (kind_of r)
    × CanSay (kind_of r) (with_place page place (places_in r))

-- the second place is the one after the first, or both are holes
abbrev pub IsNext : PagePlace → PagePlace → Type 0
IsNext (At a) (At b) = (a.vol ≡ b.vol) × (a.page + 1 ≡ b.page)
IsNext Hole Hole = Unit {0}
IsNext _ _ = ⊥

-- the page goes on from the one before it
abbrev pub JoinsBefore : ℕ → PagePlace → Record → Type 0
JoinsBefore page place r = (p : ℕ) × (p + 1 ≡ page) × IsNext (places_in r p) place

-- that, or the page after it goes on from it
abbrev pub Joins : ℕ → PagePlace → Record → Type 0
Joins page place r = JoinsBefore page place r ⊎ IsNext place (places_in r (page + 1))

-- the first of the records for which this holds
pub record IsFirst (P : Record → Type 0) (records : List Record) (i : ℕ) : Type 0 where
  pub within : i < length records
  pub is : (d : Record) → P (get_or records i d)
  pub before : AllByRecursion (λ (r : Record). P r → ⊥) (take i records)

-- this holds for no record
abbrev pub IsNone : (Record → Type 0) → List Record → Type 0
IsNone P records = AllByRecursion (λ (r : Record). P r → ⊥) records

-- the first record for which this holds, or that it holds for none
abbrev pub Finds : (Record → Type 0) → List Record → Option ℕ → Type 0
Finds P records (Some i) = IsFirst P records i
Finds P records None = IsNone P records

-- the record for a page: the first that takes it where it joins a row, else the first that takes
-- it, else none
abbrev pub IsChoice : ℕ → PagePlace → List Record → Option ℕ → Type 0
IsChoice page place records (Some i) =
    IsFirst (λ r. Takes page place r × Joins page place r) records i
    ⊎ (IsNone (λ r. Takes page place r × Joins page place r) records
    × IsFirst (Takes page place) records i)
IsChoice page place records None = IsNone (Takes page place) records

-- each page that has another place in the new record is in no other record of the chain
abbrev pub ChangesAlone : List Record → Record → Record → Type 0
ChangesAlone records old new = (p : ℕ)
    → (places_in new p ≡ places_in old p) ⊎ (place_of (runs_of records) p ≡ places_in old p)

-- a chain's map after the change of one record: pages that are there in no other record have the
-- places that the new one says, and all whose places there stayed are where they were
pub record FollowsChange (records : List Record) (old new : Record) (after : List Record)
    : Type 0 where
  pub one_map : AreOneMap after
  pub changed : (p : ℕ) → place_of (runs_of records) p ≡ places_in old p
      → place_of (runs_of after) p ≡ places_in new p
  pub same : (p : ℕ) → places_in new p ≡ places_in old p
      → place_of (runs_of after) p ≡ place_of (runs_of records) p

-- a chain whose map has one page at another place, and all others where they were
pub record ChangesChain (page : ℕ) (place : PagePlace) (old new : List Record) : Type 0 where
  pub one_map : AreOneMap new
  pub places : (p : ℕ) → place_of (runs_of new) p ≡ with_place page place (place_of (runs_of old)) p

-- a chain whose map is that of another
pub record KeepsMap (old new : List Record) : Type 0 where
  pub one_map : AreOneMap new
  pub same : (p : ℕ) → place_of (runs_of new) p ≡ place_of (runs_of old) p

-- two records, one with the pages of a third that come before one, and one with those from it on
pub record ArePartsOf (from : ℕ) (whole front tail : Record) : Type 0 where
  pub front_map : IsMapRecord front
  pub tail_map : IsMapRecord tail
  pub front_places : (p : ℕ) → places_in front p ≡ places_before from (places_in whole) p
  pub tail_places : (p : ℕ) → places_in tail p ≡ places_from from (places_in whole) p

-- two records of these kinds that say one map, which has each page at its place
pub record ArePartsFor (places : Places) (front_kind tail_kind : ℕ) (front tail : Record)
    : Type 0 where
  pub front_map : IsMapRecord front
  pub tail_map : IsMapRecord tail
  pub of_front : kind_of front ≡ front_kind
  pub of_tail : kind_of tail ≡ tail_kind
  pub one_map : AreOneMap (front ∷ tail ∷ [])
  pub same : (p : ℕ) → place_of (runs_of (front ∷ tail ∷ [])) p ≡ places p

-- a record that has the pages of another that come before one, at the places where the other has
-- them
pub record IsCutRecord (from : ℕ) (old new : Record) : Type 0 where
  pub placed : AllByRecursion IsPlaced (runs_in new)
  pub once : NoPageTwice (runs_in new)
  pub places : (p : ℕ) → places_in new p ≡ places_before from (places_in old) p

-- each record of a list has the pages of the old one at its place that come before one
abbrev pub AreCutRecords : ℕ → List Record → List Record → Type 0
AreCutRecords from [] [] = Unit {0}
AreCutRecords from [] (new ∷ news) = ⊥
AreCutRecords from (old ∷ olds) [] = ⊥
AreCutRecords from (old ∷ olds) (new ∷ news) = IsCutRecord from old new
    × AreCutRecords from olds news

-- a chain whose map has the pages of another's map that come before one
pub record CutsChain (from : ℕ) (old new : List Record) : Type 0 where
  pub one_map : AreOneMap new
  pub places : (p : ℕ) → place_of (runs_of new) p ≡ places_before from (place_of (runs_of old)) p
