-- What runs of reads leave as it was.
use Rattle.std.proofs.Common.{◌≡◌, ℕ, ◌*◌, ◌++◌, List, length, take, drop, sym, ap, ◌∙◌, subst, arith}
use Rattle.std.proofs.lemmas.List.{take_at}
use Rattle.log_ring.specs.volume_disk.Disk.{Disk, Moment, Tells}
use Rattle.log_ring.specs.volume_disk.Image.{Image, bytes_at, bytes_from}
use Rattle.log_ring.specs.volume_disk.Run.{OnlyReads}
use Rattle.log_ring.proofs.OfVolumeDisk.Bytes.{length-bytes_from}
use Rattle.log_ring.specs.disk_label.declared.anchor.Anchor.{Anchor}
use Rattle.log_ring.specs.Ring.{place_at, ring_page}
use Rattle.log_recovery.specs.Fault.{IfNotADomain}
use Rattle.log_recovery.specs.declared.fault.RecoverFault.{RecoverFault}
use Rattle.log_recovery.specs.declared.fault.RecoverFault.TheVariants.{Fault, NotADomain, OutOfMemory}

-- a rack tells what it holds still
pub told_on : (old mid : Disk) → OnlyReads old mid → Tells old → Tells mid
told_on old mid reads told = reads.touches.told ∙ told

-- what holds of what it holds now held before
pub held_before : (P : List ℕ → Image → Type 0) (old mid : Disk) → OnlyReads old mid → Tells old → P mid.sizes mid.now.contents → P old.sizes old.now.contents
held_before P old mid reads told now =
    subst (λ (sizes : List ℕ). P sizes old.now.contents) reads.touches.sizes (subst (λ (m : Moment). P mid.sizes m.contents) (reads.now told) now)

-- and the other way round
pub held_now : (P : List ℕ → Image → Type 0) (old mid : Disk) → OnlyReads old mid → Tells old → P old.sizes old.now.contents → P mid.sizes mid.now.contents
held_now P old mid reads told before =
    subst (λ (sizes : List ℕ). P sizes mid.now.contents) (sym reads.touches.sizes) (subst (λ (m : Moment). P old.sizes m.contents) (sym (reads.now told)) before)

-- What is read of a place of the log.

module _ (image : Image) (anchor : Anchor) (place vol len n : ℕ) (out items got page : List ℕ) where
  pub place_read : (found : ℕ) → found ≡ ring_page anchor place → page ≡ got → got ≡ take len (out ++ drop (length out) items) → out ≡ bytes_at image vol (512 * (16 * found)) n → n ≡ 8192 → len ≡ 8192 → vol ≡ anchor.log_vol → page ≡ place_at image anchor place
  place_read found there is_got is_out read whole whole_vec volume =
      let at : 512 * (16 * found) ≡ 8192 * ring_page anchor place = omega arith in
      let size : length out ≡ len = ap (length {A = ℕ}) read ∙ length-bytes_from (image vol) (512 * (16 * found)) n ∙ whole ∙ sym whole_vec in
      is_got ∙ is_out ∙ take_at out (drop (length out) items) len size ∙ read ∙ (λ i. bytes_from (image (volume i)) (at i) (whole i))

-- what follows at the place at which there is no domain
pub not_a_domain : (fault : RecoverFault) (P Q : ℕ → ℕ → Type 0) → ((vol at : ℕ) → P vol at → Q vol at) → IfNotADomain fault P → IfNotADomain fault Q
not_a_domain (Fault vol) P Q weak holds = tt
not_a_domain (NotADomain vol at) P Q weak holds = weak vol at holds
not_a_domain OutOfMemory P Q weak holds = tt
