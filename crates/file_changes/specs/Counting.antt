-- How many pages of a file are there, by its runs.
use Rattle.std.specs.Prelude.{◌-◌, ℕ, min}
use Rattle.domain_memory.specs.extent_maps.Runs.{end_of}
use Rattle.domain_memory.specs.extent_maps.declared.run.Run.{Run}
use Rattle.domain_memory.specs.extent_maps.declared.run.RunPlace.{RunPlace}
use Rattle.domain_memory.specs.extent_maps.declared.run.RunPlace.TheVariants.{At, Holes}

-- how many pages from one up to another have a home
abbrev pub count_between : RunPlace → ℕ → ℕ → ℕ
count_between (At home) from end = end - from
count_between Holes from end = 0

-- how many pages of a run that come before page `keep` have a home
abbrev pub count_in : ℕ → Run → ℕ
count_in keep run = count_between run.first run.page (min keep (end_of run))
