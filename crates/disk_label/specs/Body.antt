-- The fields of an anchor's body. Its first 112 bytes are in use.
use Rattle.std.specs.Prelude.{◌&&◌, ◌^◌, ◌+◌, ◌*◌, ◌-◌, ◌≤◌, ℕ, nat_le, if◌then◌else◌, List, [], ◌∷◌, drop, slice_index_or, Option, Some, None}
use Rattle.byteorder.specs.Endian.{little_number}
use Rattle.volume_disk.specs.domain_base.declared.place.Home.{Home}
use Rattle.disk_label.specs.declared.anchor.Anchor.{Anchor}
use Rattle.disk_label.specs.declared.anchor.Member.{Member}

-- the number of four bytes from byte 4k on, the lowest first
abbrev pub word_at : List ℕ → ℕ → ℕ
word_at body k = little_number 4 (drop (4 * k) body)

-- the number of eight bytes from byte 4k on
abbrev pub long_at : List ℕ → ℕ → ℕ
long_at body k = word_at body k + 2 ^ 32 * word_at body (k + 1)

-- a home, and none if the volume's number is outside of 1 to 8
abbrev pub home_from : ℕ → ℕ → Option Home
home_from vol page =
    if nat_le 1 vol && nat_le vol 8 then Some (record { vol = vol; page = page }) else None

-- the fields of the member at this index
abbrev pub member_from : List ℕ → ℕ → Member
member_from body i = record { pages = word_at body (12 + 2 * i); state = word_at body (13 + 2 * i) }

-- the anchor that a body in this slot of a volume stands for
unfoldable pub anchor_from : List ℕ → ℕ → Anchor
anchor_from body slot = record {
  number = long_at body 0;
  version = word_at body 2;
  log_vol = word_at body 3;
  log_page = word_at body 4;
  log_pages = word_at body 5;
  start = word_at body 6;
  group = long_at body 8;
  table = home_from (word_at body 10) (word_at body 11);
  members =
      member_from body 0 ∷ member_from body 1 ∷ member_from body 2 ∷ member_from body 3
      ∷ member_from body 4 ∷ member_from body 5 ∷ member_from body 6 ∷ member_from body 7 ∷ [];
  slot = slot;
}

-- a volume that is no member
abbrev pub no_member : Member
no_member = record { pages = 0; state = 0 }

-- the log's volume is a member, open or closed
abbrev pub HasLogMember : Anchor → Type 0
HasLogMember anchor =
    let state = (slice_index_or anchor.members (anchor.log_vol - 1) no_member).state in
    (1 ≤ state) × (state ≤ 2)
