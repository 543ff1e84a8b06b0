-- A page that was read and is kept.
use Rattle.std.proofs.Common.{◌≡◌, ◌<◌, ℕ, List, Result, Ok, Err, OnOk}
use Rattle.page_cache.specs.domain_base.declared.place.Home.{Home}
use Rattle.page_cache.specs.declared.cache.PageCache.{PageCache}
use Rattle.page_cache.specs.Cache.{kept_of}
use Rattle.logged_rack.specs.volume_disk.Disk.{Disk, Tells}
use Rattle.logged_rack.specs.volume_disk.Image.{page_at}
use Rattle.file_pages.specs.InPlace.{HasBrought}
use Rattle.file_pages.specs.Lent.{Adds, Displaces}

pub brought : {T E : Type 0} (disk : Disk) (home : Home) (lent : List Home) (old new : PageCache) (page : List ℕ) → (Tells disk → page ≡ page_at disk.now.contents home.vol home.page) → (answer : Result T E)
    → OnOk answer (kept_of old < 1024 → Adds lent home page old new) → OnOk answer (kept_of old ≡ 1024 → Displaces lent home page old new) → OnOk answer (HasBrought disk home lent old new)
brought disk home lent old new page read (Ok x) adds displaces = record { page = page; read = read; adds = adds; displaces = displaces }
brought disk home lent old new page read (Err e) adds displaces = tt
