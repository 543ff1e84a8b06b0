-- What volumes in memory hold.
use Rattle.std.specs.Prelude.{◌≡◌, ◌/◌, ℕ, zero, suc, Bool, false, List, [], ◌∷◌, map, slice_index}
use Rattle.volume_disk.specs.Disk.{Moment}
use Rattle.memory_disk.specs.Marks.{is_marked}
use Rattle.memory_disk.specs.declared.volume.Volume.{Volume}

-- the byte at a place of a volume
abbrev pub byte_of : Volume → ℕ → ℕ
byte_of volume k = slice_index volume.bytes.items k

-- a place's block is marked as not synced
abbrev pub mark_of : Volume → ℕ → Bool
mark_of volume k = is_marked volume.unsynced.words.items (k / 512)

-- a field of the volume at this index, or d past the last
abbrev pub field_at : {X : Type 0} → (Volume → X) → X → List Volume → ℕ → X
field_at f d [] i = d
field_at f d (volume ∷ volumes) zero = f volume
field_at f d (volume ∷ volumes) (suc i) = field_at f d volumes i

-- a field of the volume with this number, which is counted from 1
abbrev pub field_of : {X : Type 0} → (Volume → X) → X → List Volume → ℕ → X
field_of f d volumes zero = d
field_of f d volumes (suc i) = field_at f d volumes i

abbrev pub sizes_of : List Volume → List ℕ
sizes_of volumes = map (λ volume. volume.pages) volumes

abbrev pub read_faults_of : List Volume → ℕ → ℕ
read_faults_of = field_of (λ volume. volume.read_faults) 0

abbrev pub write_faults_of : List Volume → ℕ → ℕ
write_faults_of = field_of (λ volume. volume.write_faults) 0

abbrev pub moment_of : List Volume → Moment
moment_of volumes = record {
  contents = field_of byte_of (λ _. 0) volumes;
  unsynced = field_of mark_of (λ _. false) volumes;
}

-- what they hold, with nothing pending
abbrev pub settled_of : List Volume → Moment
settled_of volumes = record {
  contents = field_of byte_of (λ _. 0) volumes;
  unsynced = λ _ _. false;
}

-- the counts and sizes are the same
pub record SameCounts (old new : List Volume) : Type 0 where
  pub sizes : sizes_of new ≡ sizes_of old
  pub read_faults : read_faults_of new ≡ read_faults_of old
  pub write_faults : write_faults_of new ≡ write_faults_of old
