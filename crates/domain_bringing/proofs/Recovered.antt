-- What is brought after calls that only read is brought of what the rack had before.
use Rattle.std.proofs.Common.{◌≡◌, ◌∙◌, List, ℕ, subst, sym}
use Rattle.domain_faults.specs.page_store.Pages.{Pages}
use Rattle.domain_faults.specs.volume_disk.Disk.{Disk, Moment, Tells}
use Rattle.domain_faults.specs.volume_disk.Run.{OnlyReads}
use Rattle.domain_faults.specs.log_ring.Groups.{Group}
use Rattle.domain_faults.specs.log_recovery.Outcome.{HasRecovered}
use Rattle.domain_faults.specs.log_recovery.declared.redone.Redone.{Redone}
use Rattle.domain_bringing.specs.Brought.{IsBroughtFrom}

pub brought_before : (old mid : Disk) (pages : Pages) (found : Redone) → OnlyReads old mid → (Tells old → (groups : List Group) × HasRecovered old.sizes old.now.contents groups found)
    → (Tells mid → (groups : List Group) → HasRecovered mid.sizes mid.now.contents groups found → IsBroughtFrom mid.sizes mid.now.contents pages found) → Tells old → IsBroughtFrom old.sizes old.now.contents pages found
brought_before old mid pages found reads has from told =
    let now : mid.now ≡ old.now = reads.now told in
    let sizes : mid.sizes ≡ old.sizes = reads.touches.sizes in
    let was = has told in
    subst (λ (m : Moment). IsBroughtFrom old.sizes m.contents pages found) now
    (subst (λ (s : List ℕ). IsBroughtFrom s mid.now.contents pages found) sizes
    (from (reads.touches.told ∙ told) was.0
    (subst (λ (s : List ℕ). HasRecovered s mid.now.contents was.0 found) (sym sizes) (subst (λ (m : Moment). HasRecovered old.sizes m.contents was.0 found) (sym now) was.1))))
