-- What holds of images and headers, whatever calls are made.
use Rattle.std.specs.Prelude.{◌≡◌, ◌+◌, ◌≤◌, ◌++◌, ℕ, List, drop, length}
use Rattle.std.specs.Option.{option_or}
use Rattle.disk_label.specs.domain_base.Limits.{block_bytes}
use Rattle.disk_label.specs.domain_base.declared.place.Home.{Home}
use Rattle.page_store.specs.Pages.{Pages}
use Rattle.log_ring.specs.Header.{IsHeader}
use Rattle.log_ring.specs.Images.{AreDistinctHomes, image_at, joined, overlaid}
use Rattle.log_ring.specs.declared.header.Header.{Header}
use Rattle.log_ring.specs.declared.image.PageImage.{PageImage}

-- Images.

-- to lay images over pages, and then more of them, is to lay all of them over the pages
abbrev pub OverlayInTurn : List PageImage → List PageImage → Pages → Type 0
OverlayInTurn first second pages =
    overlaid (first ++ second) pages ≡ overlaid second (overlaid first pages)

-- a change joined to what is pending has its own page at each of its homes, and elsewhere what was
-- pending
abbrev pub JoinsAt : List PageImage → List PageImage → Home → Type 0
JoinsAt change pending home =
    AreDistinctHomes pending
    → image_at home (joined change pending)
    ≡ option_or (image_at home change) (image_at home pending)

-- and it is no longer than both, and has each home once if what was pending had
pub record JoinsWell (change pending : List PageImage) : Type 0 where
  pub distinct : AreDistinctHomes pending → AreDistinctHomes (joined change pending)
  pub longer : length pending ≤ length (joined change pending)
  pub most : length (joined change pending) ≤ length change + length pending

-- Headers.

-- a page has one header at most
abbrev pub HasOneHeader : List ℕ → Header → Header → Type 0
HasOneHeader page one other = IsHeader page one → IsHeader page other → one ≡ other

-- pages that agree after the gate have the same header
abbrev pub DependsBehindGate : List ℕ → List ℕ → Header → Type 0
DependsBehindGate one other header =
    drop block_bytes one ≡ drop block_bytes other → IsHeader one header → IsHeader other header
