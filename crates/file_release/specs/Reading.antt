-- What a clone's file reads that has pages of its own and reads others through another file.
use Rattle.std.specs.Prelude.{◌≡◌, ◌⊎◌, ◌<◌, ◌≤◌, ℕ, Option, Some, None, nat_lt, if◌then◌else◌}
use Rattle.fileset_files.specs.domain_base.declared.place.Home.{Home}
use Rattle.fileset_files.specs.extent_maps.declared.run.PagePlace.{PagePlace}
use Rattle.fileset_files.specs.extent_maps.declared.run.PagePlace.TheVariants.{At, Hole, Absent}
use Rattle.fileset_files.specs.extent_maps.Runs.{Places, home_at}

-- the home of a page that is there, none of a hole, and if it is absent another one
abbrev pub own_or : PagePlace → Option Home → Option Home
own_or (At home) other = Some home
own_or Hole other = None
own_or Absent other = other

-- the home at which a page is read, none if zeros are read: its own, and if it is absent and before
-- the end of the frozen pages that of the source, whatever the source keeps
abbrev pub read_home : ℕ → Places → Places → ℕ → Option Home
read_home frozen own source page =
    own_or (own page) (if nat_lt page frozen then home_at (source page) else None)

-- a page from one on is there
pub record HasPageFrom (from : ℕ) (places : Places) : Type 0 where
  pub page : ℕ
  pub begins : from ≤ page
  pub there : ¬ places page ≡ Absent

-- a page that was absent and is frozen has the home that the source had there and has no more
pub record IsHandedOver (frozen : ℕ) (own own_now source source_now : Places) (page : ℕ) : Type 0
  where
    pub home : Home
    pub absent : own page ≡ Absent
    pub is_frozen : page < frozen
    pub was : source page ≡ At home
    pub is : own_now page ≡ At home
    pub gone : source_now page ≡ Absent

-- the source lets go of pages from one on, and each page is read where it was: what it has it had
-- at that place, and what the reader has it had too, or was handed over
pub record LetsGo (from frozen : ℕ) (own own_now source source_now : Places) : Type 0 where
  pub kept : (page : ℕ) → page < from → source_now page ≡ source page
  pub left : (page : ℕ) → (source_now page ≡ source page) ⊎ (source_now page ≡ Absent)
  pub handed : (page : ℕ) → (own_now page ≡ own page)
      ⊎ IsHandedOver frozen own own_now source source_now page
  pub reads : (page : ℕ) → read_home frozen own_now source_now page
      ≡ read_home frozen own source page

-- a home that the source had and has no more, and the reader has not got
pub record IsGone (own_now source source_now : Places) (home : Home) : Type 0 where
  pub page : ℕ
  pub was : source page ≡ At home
  pub gone : source_now page ≡ Absent
  pub nowhere : (other : ℕ) → ¬ own_now other ≡ At home
