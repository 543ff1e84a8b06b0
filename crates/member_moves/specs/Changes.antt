-- What a change of members makes of an anchor.
use Rattle.std.specs.Prelude.{◌≡◌, ◌≢◌, ◌-◌, ◌≤◌, ℕ, IsSomeAnd, length, slice_set}
use Rattle.log_recovery.specs.disk_label.declared.anchor.Anchor.{Anchor}
use Rattle.log_recovery.specs.disk_label.declared.anchor.Member.{Member}
use Rattle.log_recovery.specs.log_ring.Homes.{member_of}

-- the anchor with this entry for a volume
abbrev pub with_entry : ℕ → Member → Anchor → Anchor
with_entry vol member anchor =
    record anchor { members = slice_set anchor.members (vol - 1) member }

-- the fileset table stands on that volume
abbrev pub IsTableOn : Anchor → ℕ → Type 0
IsTableOn anchor vol = IsSomeAnd anchor.table (λ home. home.vol ≡ vol)

-- the new anchor has this entry for the volume, and for each other volume the old one
pub record ChangesEntry (old new : Anchor) (vol : ℕ) (member : Member) : Type 0 where
  pub entry : 1 ≤ vol → vol ≤ length old.members → member_of new vol ≡ member
  pub others : (v : ℕ) → 1 ≤ v → 1 ≤ vol → v ≢ vol → member_of new v ≡ member_of old v
