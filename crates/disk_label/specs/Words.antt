-- The fields of an anchor in their order, as numbers of four bytes, and the bytes that are written
-- for them.
use Rattle.std.specs.List.{flat_map}
use Rattle.std.specs.Prelude.{◌^◌, ◌%◌, ◌/◌, ℕ, List, [], ◌∷◌, ◌++◌, Option, Some, None}
use Rattle.byteorder.specs.Endian.{little_bytes}
use Rattle.volume_disk.specs.domain_base.Gate.{opened}
use Rattle.volume_disk.specs.domain_base.Page.{zero_bytes}
use Rattle.volume_disk.specs.domain_base.declared.place.Home.{Home}
use Rattle.disk_label.specs.declared.anchor.Anchor.{Anchor}
use Rattle.disk_label.specs.declared.anchor.Member.{Member}

-- a home as numbers of four bytes; zeros for none
abbrev pub home_words : Option Home → List ℕ
home_words None = 0 ∷ 0 ∷ []
home_words (Some home) = home.vol ∷ home.page ∷ []

-- a member's entry as numbers of four bytes
abbrev pub member_words : Member → List ℕ
member_words member = member.pages ∷ member.state ∷ []

-- the fields of an anchor as numbers of four bytes, in the order of its body
abbrev pub words_of : Anchor → List ℕ
words_of anchor =
    (
    anchor.number % 2 ^ 32 ∷ anchor.number / 2 ^ 32 ∷ anchor.version
    ∷ anchor.log_vol ∷ anchor.log_page ∷ anchor.log_pages ∷ anchor.start
    ∷ 0 ∷ anchor.group % 2 ^ 32 ∷ anchor.group / 2 ^ 32 ∷ []
    )
    ++ home_words anchor.table ++ flat_map member_words anchor.members

-- its body: the fields, and zeros
unfoldable pub body_bytes : Anchor → List ℕ
body_bytes anchor = flat_map (little_bytes 4) (words_of anchor) ++ zero_bytes 3472

-- its slot: the open gate, and the body
unfoldable pub slot_bytes : Anchor → List ℕ
slot_bytes anchor = opened ++ body_bytes anchor
