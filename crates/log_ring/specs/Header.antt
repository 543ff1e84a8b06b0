-- The page that begins a group of the log. It is a gate of 512 bytes. After it come the number of
-- the group, how many images it has, four zeros, and their homes.
use Rattle.std.specs.List.{flat_map}
use Rattle.std.specs.Prelude.{◌≡◌, ◌+◌, ◌-◌, ◌*◌, ◌^◌, ◌<◌, ◌≤◌, ℕ, List, [], ◌∷◌, ◌++◌, length, slice_index_or, take}
use Rattle.byteorder.specs.Endian.{little_bytes}
use Rattle.disk_label.specs.domain_base.Gate.{IsOpen}
use Rattle.disk_label.specs.domain_base.Limits.{block_bytes, group_images, max_volumes}
use Rattle.disk_label.specs.domain_base.Page.{zero_bytes}
use Rattle.disk_label.specs.domain_base.declared.place.Home.{Home}
use Rattle.cell_records.specs.Fields.{number_at}
use Rattle.log_ring.specs.Images.{AreDistinct, homes_of}
use Rattle.log_ring.specs.declared.header.Header.{Header}
use Rattle.log_ring.specs.declared.header.HeaderRead.{HeaderRead}
use Rattle.log_ring.specs.declared.header.HeaderRead.TheVariants.{Closed, Group, Bad}
use Rattle.log_ring.specs.declared.image.PageImage.{PageImage}

-- a home stands at this byte: a volume from 1 to 8, and a page
pub record IsHomeAt (bytes : List ℕ) (at : ℕ) (home : Home) : Type 0 where
  pub volume : number_at 4 at bytes ≡ home.vol
  pub first : 1 ≤ home.vol
  pub last : home.vol ≤ max_volumes
  pub page : number_at 4 (at + 4) bytes ≡ home.page

-- these homes stand one after the other from this byte on
abbrev pub AreHomesAt : List ℕ → ℕ → List Home → Type 0
AreHomesAt page at [] = Unit {0}
AreHomesAt page at (home ∷ homes) = IsHomeAt page at home × AreHomesAt page (at + 8) homes

-- what a group's header may say: a number below 2^63, and 1 to 60 homes, no two the same
pub record IsSayable (header : Header) : Type 0 where
  pub number : header.number < 2 ^ 63
  pub some : 1 ≤ length header.homes
  pub most : length header.homes ≤ group_images
  pub distinct : AreDistinct header.homes

-- a page has this header, whether its gate is open or not
pub record IsHeader (page : List ℕ) (header : Header) : Type 0 where
  pub number : number_at 8 512 page ≡ header.number
  pub count : number_at 4 520 page ≡ length header.homes
  pub homes : AreHomesAt page 528 header.homes
  pub sayable : IsSayable header

-- what is read of a page: nothing after a closed gate, and after an open one its header, or that it
-- has none
abbrev pub IsRead : List ℕ → HeaderRead → Type 0
IsRead page Closed = ¬ IsOpen page
IsRead page (Group header) = IsOpen page × IsHeader page header
IsRead page Bad = IsOpen page × ((header : Header) → ¬ IsHeader page header)

-- the header of a group of this number and these images
abbrev pub header_for : ℕ → List PageImage → Header
header_for number images = record { number = number; homes = homes_of images }

-- What the calls that read and write it say.

-- `count` homes are read from byte 528 on
abbrev pub AreHomesOf : List ℕ → ℕ → List Home → Type 0
AreHomesOf page count homes = (length homes ≡ count) × AreHomesAt page 528 homes

-- the header of this number and these homes, and none where two of them are the same
abbrev pub IsHeaderOf : ℕ → List Home → HeaderRead → Type 0
IsHeaderOf number homes Closed = ⊥
IsHeaderOf number homes (Group header) =
    (header.number ≡ number) × (header.homes ≡ homes) × AreDistinct homes
IsHeaderOf number homes Bad = ¬ AreDistinct homes

-- a home as there may be one: on a volume from 1 to 8, and its page has four bytes
pub record IsPlace (home : Home) : Type 0 where
  pub first : 1 ≤ home.vol
  pub last : home.vol ≤ max_volumes
  pub page : home.page < 2 ^ 32

-- the first n of these are such homes
abbrev pub ArePlaces : List Home → ℕ → Type 0
ArePlaces homes n = (i : ℕ) (default : Home) → i < n → IsPlace (slice_index_or homes i default)

-- the eight bytes of a home
abbrev pub home_bytes : Home → List ℕ
home_bytes home = little_bytes 4 home.vol ++ little_bytes 4 home.page

-- all that follows the gate of a page with this header, as it is written
unfoldable pub header_bytes : Header → List ℕ
header_bytes header =
    little_bytes 8 header.number ++ little_bytes 4 (length header.homes) ++ zero_bytes 4
    ++ flat_map home_bytes header.homes ++ zero_bytes (7664 - 8 * length header.homes)

-- a page with a number and a count after its gate, and zeros after them
unfoldable pub begun : List ℕ → ℕ → ℕ → List ℕ
begun page number count =
    take block_bytes page
    ++ (little_bytes 8 number ++ little_bytes 4 count ++ zero_bytes 4 ++ zero_bytes 7664)
