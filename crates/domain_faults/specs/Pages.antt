-- Pages of a domain's members that were read.
use Rattle.std.specs.Prelude.{◌≡◌, ◌^◌, ◌<◌, ◌≤◌, ℕ, List, Some, IsSome, length}
use Rattle.slot_files.specs.domain_base.Limits.{max_volume_pages_4}
use Rattle.slot_files.specs.domain_base.declared.place.Home.{Home}
use Rattle.slot_files.specs.page_store.Pages.{Pages, with_page}
use Rattle.slot_files.specs.volume_disk.Disk.{Disk, Tells, raised_at, volume_pages}
use Rattle.slot_files.specs.volume_disk.Image.{Image}
use Rattle.slot_files.specs.log_ring.Images.{overlaid}
use Rattle.slot_files.specs.log_ring.declared.image.PageImage.{PageImage}
use Rattle.slot_files.specs.log_ring.Groups.{pages_in}
use Rattle.domain_faults.specs.declared.fault.ReadFault.{ReadFault}
use Rattle.domain_faults.specs.declared.fault.ReadFault.TheVariants.{Fault, OutOfMemory}

-- a fault has raised the read count of the volume that it names, and no other count of reads
abbrev pub HasCause : Disk → Disk → ReadFault → Type 0
HasCause old new (Fault vol) = new.read_faults ≡ raised_at old.read_faults vol
HasCause old new OutOfMemory = new.read_faults ≡ old.read_faults

-- a page of a volume of a rack, with a number that any version allows
pub record IsOnRack (sizes : List ℕ) (home : Home) : Type 0 where
  pub first : 1 ≤ home.vol
  pub last : home.vol ≤ length sizes
  pub within : home.page < volume_pages sizes home.vol
  pub limit : home.page < max_volume_pages_4

-- a page of an image as it is once these images are laid over it
abbrev pub is_redone : List PageImage → Image → Home → List ℕ → Type 0
is_redone images image home page = overlaid images (pages_in image) home ≡ Some page

-- such a page is put among those that were read
pub record PutsPage (disk : Disk) (images : List PageImage) (home : Home) (old new : Pages)
    : Type 0 where
  pub page : List ℕ
  pub put : new ≡ with_page home page old
  pub is : Tells disk → is_redone images disk.now.contents home page

-- a page was read of a home
pub record IsReadAt (disk : Disk) (images : List PageImage) (pages : Pages) (home : Home) : Type 0
  where
    pub there : IsSome (pages home)
    pub is : Tells disk → pages home ≡ overlaid images (pages_in disk.now.contents) home
