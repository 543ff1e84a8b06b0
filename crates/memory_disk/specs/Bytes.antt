-- What volumes in memory hold are bytes, and nothing is pending but on them.
use Rattle.std.specs.Prelude.{◌≡◌, ◌+◌, ◌<◌, ◌≤◌, ℕ, zero, suc, true, false, List, [], ◌∷◌, length, vec_len}
use Rattle.std.proofs.Common.{refl, subst, sym, inl, inr, arith}
use Rattle.std.proofs.lemmas.Bool.{both_ways, cases_lt}
use Rattle.std.proofs.lemmas.List.{get_or_past, length-map}
use Rattle.volume_disk.specs.Image.{AreBytes}
use Rattle.memory_disk.specs.Volume.{byte_of, field_at, field_of, mark_of, sizes_of}
use Rattle.memory_disk.specs.declared.volume.Volume.{Volume}
use Rattle.memory_disk.specs.declared.volumes.Volumes.{Volumes}

byte_below : (volume : Volume) (k : ℕ) → byte_of volume k < 256
byte_below volume k = elim (cases_lt k (length volume.bytes.items)) [
  | inl lt ↦ volume.fit k 0 lt
  | inr past ↦
      subst (λ (b : ℕ). b < 256) (sym (get_or_past volume.bytes.items k 0 past)) (omega arith)
]

bytes_below : (volumes : List Volume) (i k : ℕ) → field_at byte_of (λ _. 0) volumes i k < 256
bytes_below [] i k = omega arith
bytes_below (volume ∷ volumes) zero k = byte_below volume k
bytes_below (volume ∷ volumes) (suc i) k = bytes_below volumes i k

pub are_bytes : (volumes : List Volume) → AreBytes (field_of byte_of (λ _. 0) volumes)
are_bytes volumes zero k = omega arith
are_bytes volumes (suc i) k = bytes_below volumes i k

-- a volume with a mark is one of them
marked_there : (volumes : List Volume) (i k : ℕ)
    → field_at mark_of (λ _. false) volumes i k ≡ true → i + 1 ≤ length (sizes_of volumes)
marked_there [] i k is = absurd (both_ways false refl is)
marked_there (volume ∷ volumes) zero k is = omega arith
marked_there (volume ∷ volumes) (suc i) k is =
    let there = marked_there volumes i k is in omega arith

within : (volumes : List Volume) → length volumes ≤ 8 → (v k : ℕ)
    → field_of mark_of (λ _. false) volumes v k ≡ true
    → ((1 ≤ v) × (v ≤ length (sizes_of volumes))) × (v ≤ 8)
within volumes few zero k is = absurd (both_ways false refl is)
within volumes few (suc i) k is =
    let there = marked_there volumes i k is in
    let size = length-map volumes (λ (v : Volume). v.pages) in
    ((omega arith, omega arith), omega arith)

pub are_within : (volumes : Volumes) → (v k : ℕ)
    → field_of mark_of (λ _. false) volumes.items.items v k ≡ true
    → ((1 ≤ v) × (v ≤ length (sizes_of volumes.items.items))) × (v ≤ 8)
are_within volumes =
    let few : vec_len volumes.items ≤ 8 = volumes.few in
    let size = volumes.items.ok.0 in
    within volumes.items.items (omega arith)
