-- A rack at rest: of a domain that was just made, and where all is as it was.
use Rattle.std.proofs.Common.{◌≡◌, ◌∙◌, ℕ, ◌*◌, ◌<◌, ◌≤◌, List, Some, length, false, refl, sym, ap, subst, arith}
use Rattle.std.proofs.Math.Nat.{le-min, min-le_left, min-le_right}
use Rattle.no_faults.specs.domain_base.Version.{most_pages}
use Rattle.no_faults.specs.domain_base.declared.place.Home.{Home}
use Rattle.no_faults.specs.domain_base.declared.version.Version.{Version}
use Rattle.no_faults.specs.domain_base.declared.version.Version.TheVariants.{Four, Three}
use Rattle.no_faults.specs.volume_disk.Disk.{Disk, HasVolume, MayLeave, Tells, volume_pages}
use Rattle.no_faults.specs.volume_disk.Image.{Image, bytes_from}
use Rattle.no_faults.specs.disk_label.FirstPages.{first_pages}
use Rattle.no_faults.specs.disk_label.declared.anchor.Anchor.{Anchor}
use Rattle.no_faults.specs.log_ring.Groups.{pages_in}
use Rattle.no_faults.specs.log_ring.Homes.{HasMembers, IsMember, member_of}
use Rattle.no_faults.specs.domain_making.Making.{IsLarge, IsMade, new_anchor, pages_in_use}
use Rattle.no_faults.proofs.OfDomainMaking.Empty.{new_anchor_is}
use Rattle.no_faults.specs.page_ways.declared.frame.DomainFrame.{DomainFrame}
use Rattle.no_faults.specs.domain_memory.Kept.{KeepsKept}
use Rattle.no_faults.specs.domain_memory.declared.memory.DomainMemory.{DomainMemory}
use Rattle.domain_state.specs.Rest.{IsAtRest}

-- ---- a domain that was just made

large_enough : (version : Version) (pages : ℕ) → pages ≤ most_pages version → 160 ≤ pages → ((first_pages version pages).table < pages) × (pages ≤ 1048576)
large_enough Three pages most least = (omega (arith, least), omega (arith, most))
large_enough Four pages most least = (omega (arith, least, most), most)

least_of : (version : Version) → 160 ≤ most_pages version
least_of Three = omega arith
least_of Four = omega arith

module _ (version : Version) (sizes : List ℕ) (large : IsLarge sizes) where
  abbrev pages : ℕ
  pages = pages_in_use version sizes

  enough : ((first_pages version pages).table < pages) × (pages ≤ 1048576)
  enough = large_enough version pages (min-le_right (volume_pages sizes 1) (most_pages version)) (le-min large (least_of version))

  only_one : (vol : ℕ) → IsMember (new_anchor version pages) vol → vol ≡ 1
  only_one = (new_anchor_is version pages enough.0 (min-le_right (volume_pages sizes 1) (most_pages version))).alone

  has_members : 1 ≤ length sizes → HasMembers sizes (new_anchor version pages)
  has_members some vol first last there whole =
      let is = only_one vol (record { first = first; last = last; there = there; whole = whole }) in
      subst (λ v. (v ≤ length sizes) × ((member_of (new_anchor version pages) v).pages ≤ volume_pages sizes v) × ((member_of (new_anchor version pages) v).pages ≤ 1048576)) (sym is)
      (some, min-le_left (volume_pages sizes 1) (most_pages version), enough.1)

-- the pages of the first volume are as a read gives them
by_volume : (new : Disk) (anchor : Anchor) → IsMade new anchor → (image : Image) → MayLeave new.now image → (home : Home) → home.vol ≡ 1 → pages_in image home ≡ pages_in new.now.contents home
by_volume new anchor made image left home first =
    let row : image home.vol ≡ new.now.contents home.vol = λ i k. left.synced home.vol k (subst (λ v. new.now.unsynced v k ≡ false) (sym first) (made.synced k)) i in
    ap (λ f. Some (bytes_from f (8192 * home.page) 8192)) row

-- a rack on which a domain was made is at rest
pub made_rests : (version : Version) (old new : Disk) (anchor : Anchor) → HasVolume old 1 → IsLarge old.sizes → new.sizes ≡ old.sizes → new.told ≡ old.told → anchor ≡ new_anchor version (pages_in_use version old.sizes)
    → (Tells old → IsMade new anchor) → IsAtRest new anchor
made_rests version old new anchor there large sizes told is made = record {
  members = subst (λ (l : List ℕ). HasMembers l anchor) (sym sizes) (subst (HasMembers old.sizes) (sym is) (has_members version old.sizes large there.1));
  none = λ tells. let now = made (sym told ∙ tells) in record { stands = λ image left. (now.images image left).log; good = λ image left. (now.images image left).good };
  synced = λ tells image left home member beside. by_volume new anchor (made (sym told ∙ tells)) image left home (only_one version old.sizes large home.vol (subst (λ (a : Anchor). IsMember a home.vol) is member));
}

-- ---- where all is as it was

-- with the same rack and the same anchor
pub rests_still : (old new : Disk) (one other : Anchor) → new ≡ old → other ≡ one → ∥ IsAtRest old one ∥₁ → ∥ IsAtRest new other ∥₁
rests_still old new one other disk anchor rest = subst (λ (d : Disk). ∥ IsAtRest d other ∥₁) (sym disk) (subst (λ (a : Anchor). ∥ IsAtRest old a ∥₁) (sym anchor) rest)

-- over what was kept of memory
pub rests_kept : (disk : Disk) (old new : DomainMemory) → KeepsKept old new → ∥ IsAtRest disk old.frame.anchor ∥₁ → ∥ IsAtRest disk new.frame.anchor ∥₁
rests_kept disk old new kept = rests_still disk disk old.frame.anchor new.frame.anchor refl (ap (λ (f : DomainFrame). f.anchor) kept.frame)
