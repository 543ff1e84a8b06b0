-- A file's pages: where each stands, and the runs of them that belong together.
use Rattle.std.specs.Prelude.{◌≡◌, ℕ, ◌+◌, ◌-◌, ◌^◌, ◌<◌, ◌≤◌, ◌==◌, ◌&&◌, Bool, true, false, List, [], ◌∷◌, nat_le, nat_lt, Option, Some, None, if◌then◌else◌}
use Rattle.std.specs.List.{AllByRecursion}
use Rattle.domain_base.specs.Limits.{file_pages}
use Rattle.domain_base.specs.declared.place.Home.{Home}
use Rattle.extent_maps.specs.declared.run.PagePlace.{PagePlace}
use Rattle.extent_maps.specs.declared.run.PagePlace.TheVariants.{At, Hole, Absent}
use Rattle.extent_maps.specs.declared.run.RunPlace.{RunPlace}
use Rattle.extent_maps.specs.declared.run.RunPlace.TheVariants as place
use Rattle.extent_maps.specs.declared.run.Run.{Run}

-- where each page is
abbrev pub Places : Type 0
Places = ℕ → PagePlace

-- a page of a run: at its home, or kept as a hole
abbrev pub placed : RunPlace → PagePlace
placed (place.At home) = At home
placed place.Holes = Hole

-- the places with another place for one page
abbrev pub with_place : ℕ → PagePlace → Places → Places
with_place page place places = λ p. if p == page then place else places p

-- the place of the page that stands `count` pages after a run's first
abbrev pub behind : ℕ → RunPlace → RunPlace
behind count (place.At home) = place.At (record { vol = home.vol; page = home.page + count })
behind count place.Holes = place.Holes

-- the number after the last page of a run
abbrev pub end_of : Run → ℕ
end_of run = run.page + run.count

-- the run has the page
abbrev pub covers : Run → ℕ → Bool
covers run page = nat_le run.page page && nat_lt page (end_of run)

-- where the runs have a page
abbrev pub place_of : List Run → Places
place_of [] page = Absent
place_of (run ∷ runs) page =
    if covers run page then placed (behind (page - run.page) run.first) else place_of runs page

-- two homes are one, or both are holes
abbrev pub same_place : RunPlace → RunPlace → Bool
same_place (place.At a) (place.At b) = (a.vol == b.vol) && (a.page == b.page)
same_place place.Holes place.Holes = true
same_place _ _ = false

-- the second run goes on where the first ends, in the file and on its volume
abbrev pub goes_on : Run → Run → Bool
goes_on run next = (end_of run == next.page) && same_place (behind run.count run.first) next.first

-- the first of the runs goes on where this one ends
abbrev pub first_goes_on : Run → List Run → Bool
first_goes_on run [] = false
first_goes_on run (next ∷ runs) = goes_on run next

-- a run goes on where the last of the runs ends
abbrev pub goes_on_last : List Run → Run → Bool
goes_on_last [] run = false
goes_on_last (last ∷ []) run = goes_on last run
goes_on_last (other ∷ next ∷ runs) run = goes_on_last (next ∷ runs) run

-- the pages of two runs as one
abbrev pub joined : Run → Run → Run
joined run next = record run { count = run.count + next.count }

-- a run parted at the page that stands `count` pages after its first: the pages before that one,
-- and those from it on
abbrev pub front_of : ℕ → Run → Run
front_of count run = record run { count = count }

-- a run without its first `count` pages
abbrev pub rest_from : ℕ → Run → Run
rest_from count run =
    record { page = run.page + count; count = run.count - count; first = behind count run.first }

-- what is left of a run without that page, before it and after it
abbrev pub front_piece : ℕ → Run → List Run
front_piece count run = if count == 0 then [] else front_of count run ∷ []

-- what is left of a run after one of its pages, if anything is
abbrev pub rest_piece : ℕ → Run → List Run
rest_piece count run = if run.count == count + 1 then [] else rest_from (count + 1) run ∷ []

-- `count` pages from a home on are pages that a volume can have
abbrev pub FitsVolume : ℕ → RunPlace → Type 0
FitsVolume count (place.At home) = home.page + count ≤ 2 ^ 32
FitsVolume count place.Holes = Unit {0}

-- one page or more of a file, at pages that a volume can have
pub record IsRun (run : Run) : Type 0 where
  pub some : 1 ≤ run.count
  pub ends : end_of run ≤ file_pages
  pub homes : FitsVolume run.count run.first

-- a run that has the page
pub record Has (page : ℕ) (run : Run) : Type 0 where
  pub is_run : IsRun run
  pub begins : run.page ≤ page
  pub ends : page < end_of run

-- the second begins after the first, and does not go on from it
pub record Follows (run next : Run) : Type 0 where
  pub behind : end_of run ≤ next.page
  pub apart : goes_on run next ≡ false

abbrev pub FirstFollows : Run → List Run → Type 0
FirstFollows run [] = Unit {0}
FirstFollows run (next ∷ runs) = Follows run next

-- runs in the order of their pages, each as long as it can be
abbrev pub AreRuns : List Run → Type 0
AreRuns [] = Unit {0}
AreRuns (run ∷ runs) = IsRun run × FirstFollows run runs × AreRuns runs

-- runs that begin at the page or before it, and runs that begin after it
abbrev pub BeginUpTo : ℕ → List Run → Type 0
BeginUpTo page runs = AllByRecursion (λ (run : Run). run.page ≤ page) runs

-- all of these runs begin after a page
abbrev pub BeginBehind : ℕ → List Run → Type 0
BeginBehind page runs = AllByRecursion (λ (run : Run). page < run.page) runs

-- all of these runs begin before a page
abbrev pub BeginBefore : ℕ → List Run → Type 0
BeginBefore page runs = AllByRecursion (λ (run : Run). run.page < page) runs

-- all of these runs begin at a page or after it
abbrev pub BeginFrom : ℕ → List Run → Type 0
BeginFrom page runs = AllByRecursion (λ (run : Run). page ≤ run.page) runs

-- runs that end at the page or before it
abbrev pub EndUpTo : ℕ → List Run → Type 0
EndUpTo page runs = AllByRecursion (λ (run : Run). end_of run ≤ page) runs

-- the runs have each page where it was
abbrev pub SamePlaces : List Run → List Run → Type 0
SamePlaces old new = (page : ℕ) → place_of new page ≡ place_of old page

-- the runs have one page at another place, and all others where they were
abbrev pub ChangesPlace : ℕ → PagePlace → List Run → List Run → Type 0
ChangesPlace page place old new = (p : ℕ) → place_of new p ≡ with_place page place (place_of old) p

-- none of the run's pages is there or kept
abbrev pub IsFree : Run → List Run → Type 0
IsFree run runs = (page : ℕ) → covers run page ≡ true → place_of runs page ≡ Absent

-- the runs have exactly the pages of one at its places, and all others where they were
abbrev pub PutsRun : Run → List Run → List Run → Type 0
PutsRun run old new = (page : ℕ) → place_of new page
    ≡ (if covers run page then placed (behind (page - run.page) run.first) else place_of old page)

-- the home of a page that has one
abbrev pub home_at : PagePlace → Option Home
home_at (At home) = Some home
home_at Hole = None
home_at Absent = None

-- runs parted at a page: those of the pages before it, and those of the pages from it on
pub record IsPartedAt (from : ℕ) (runs front tail : List Run) : Type 0 where
  pub front_runs : AreRuns front
  pub tail_runs : AreRuns tail
  pub front_places : (p : ℕ) → place_of front p ≡
      (if nat_lt p from then place_of runs p else Absent)
  pub tail_places : (p : ℕ) → place_of tail p ≡ (if nat_lt p from then Absent else place_of runs p)
