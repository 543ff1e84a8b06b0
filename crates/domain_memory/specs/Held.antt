-- How many pages of open volumes are held.
use Rattle.std.specs.Prelude.{ℕ, Option, Some, None, if◌then◌else◌, sum_by}
use Rattle.standing_laws.specs.free_space.VolumeSpace.{VolumeSpace}
use Rattle.standing_laws.specs.free_space.Spaces.{Spaces, held_pages}

-- those of a volume, if it is there and open
abbrev pub held_if_open : Option VolumeSpace → ℕ
held_if_open None = 0
held_if_open (Some v) = if v.is_open then held_pages (Some v) else 0

-- those of all
abbrev pub held_open : Spaces → ℕ
held_open space = sum_by held_if_open space.volumes
