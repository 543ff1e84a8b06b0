-- The log as it is held in memory: what has been made durable since its start, and what was
-- appended after that.
use Rattle.std.specs.Option.{unwrap_or}
use Rattle.std.specs.Prelude.{◌≡◌, ◌⊎◌, ◌+◌, ◌-◌, ◌^◌, ◌<◌, ◌≤◌, ℕ, List, [], ◌∷◌, length, map, min}
use Rattle.log_ring.specs.domain_base.Limits.{group_images, log_pages}
use Rattle.log_ring.specs.domain_base.declared.place.Home.{Home}
use Rattle.log_ring.specs.page_store.Pages.{Pages}
use Rattle.log_ring.specs.volume_disk.Disk.{Disk}
use Rattle.log_ring.specs.disk_label.FirstPages.{anchors_page}
use Rattle.log_ring.specs.disk_label.declared.anchor.Anchor.{Anchor}
use Rattle.log_ring.specs.Images.{AreDistinctHomes, joined}
use Rattle.log_ring.specs.declared.image.PageImage.{PageImage}
use Rattle.log_ring.specs.Groups.{Group, LogStands, images_of, span}
use Rattle.log_ring.specs.Homes.{AreLoggable}

-- its anchor, how many groups are durable after that, their images in order, and the images that
-- the next force makes durable
pub record Log : Type 0 where
  pub anchor : Anchor
  pub groups : ℕ
  pub logged : List PageImage
  pub pending : List PageImage

-- one with no group
abbrev pub new_log : Anchor → Log
new_log anchor = record { anchor = anchor; groups = 0; logged = []; pending = [] }

-- the places of the ring that the durable groups take
abbrev pub used : Log → ℕ
used log = log.groups + length log.logged

-- the number of the group after them
abbrev pub next_number : Log → ℕ
next_number log = log.anchor.group + log.groups

-- the group of that number and these images
abbrev pub group_of : ℕ → List PageImage → Group
group_of number images = record { number = number; images = images }

-- and none if there is no image
abbrev pub groups_of : ℕ → List PageImage → List Group
groups_of number [] = []
groups_of number (image ∷ images) = group_of number (image ∷ images) ∷ []

-- what the next force makes durable
abbrev pub pending_groups : Log → List Group
pending_groups log = groups_of (next_number log) log.pending

-- what holds of every log: what is pending fits after the durable groups, and all images may be
-- logged
pub record IsLog (log : Log) : Type 0 where
  pub slot : log.anchor.slot ≤ 1
  pub start : log.anchor.start < log_pages
  pub behind : anchors_page < log.anchor.log_page
  pub fits : used log + span (pending_groups log) + 1 ≤ log_pages
  pub number : next_number log + length (pending_groups log) < 2 ^ 63
  pub most : length log.pending ≤ group_images
  pub distinct : AreDistinctHomes log.pending
  pub pending : AreLoggable log.anchor log.pending
  pub logged : AreLoggable log.anchor log.logged

-- on each image that a stop might leave now, these groups are the durable ones
pub record Stands (disk : Disk) (log : Log) (groups : List Group) : Type 0 where
  pub stands : LogStands disk log.anchor groups
  pub images : images_of groups ≡ log.logged
  pub count : length groups ≡ log.groups

-- What may be appended.

-- the image of a home with the page that stands there in a store
abbrev pub image_in : Pages → Home → PageImage
image_in pages home = record { home = home; page = unwrap_or (pages home) [] }

-- those of homes, in their order
abbrev pub images_at : Pages → List Home → List PageImage
images_at pages homes = map (image_in pages) homes

-- the log with a change joined to what is pending
abbrev pub appended : Log → List PageImage → Log
appended log change = record log { pending = joined change log.pending }

-- `n` images fit one group, and that group fits the ring after the durable groups, with the next
-- header
pub record HasPlaceFor (log : Log) (n : ℕ) : Type 0 where
  pub group : n ≤ group_images
  pub ring : used log + n + 2 ≤ log_pages

-- they do not
abbrev pub IsFullFor : Log → ℕ → Type 0
IsFullFor log n = (group_images < n) ⊎ (log_pages < used log + n + 2)

-- how many images each change has a place for
abbrev pub room_of : Log → ℕ
room_of log =
    min (group_images - length log.pending) (log_pages - 2 - used log - length log.pending)
