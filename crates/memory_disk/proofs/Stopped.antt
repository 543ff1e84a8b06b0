-- Volumes that a stop may leave, made one after another.
use Rattle.std.proofs.Common.{◌≡◌, ℕ, zero, suc, ◌+◌, ◌<◌, ◌≤◌, Bool, false, List, [], ◌∷◌, ◌++◌, length, get_or, refl, sym, ◌∙◌, ap, inl, inr, arith}
use Rattle.std.proofs.lemmas.Bool.{cases_lt}
use Rattle.volume_disk.specs.Disk.{MayLeave}
use Rattle.memory_disk.specs.Bytes.{are_bytes}
use Rattle.memory_disk.specs.Volume.{byte_of, mark_of, field_at, field_of, moment_of}
use Rattle.memory_disk.proofs.VolumeFields.{field_at-read, field_at-past, field_at-push_before, field_at-push_last}
use Rattle.memory_disk.specs.declared.volume.Volume.{Volume}

abbrev bytes_at : List Volume → ℕ → ℕ → ℕ
bytes_at = field_at byte_of (λ _. 0)

abbrev marks_at : List Volume → ℕ → ℕ → Bool
marks_at = field_at mark_of (λ _. false)

-- below i each place that was synced is kept
abbrev pub KeepsSynced : List Volume → List Volume → ℕ → Type 0
KeepsSynced old items i = (j k : ℕ) → j < i → marks_at old j k ≡ false → bytes_at items j k ≡ bytes_at old j k

-- below i all bytes are kept
abbrev pub KeepsAll : List Volume → List Volume → ℕ → Type 0
KeepsAll old items i = (j : ℕ) → j < i → bytes_at items j ≡ bytes_at old j

module _ (old items later : List Volume) (new v : Volume) (i : ℕ) (pushed : later ≡ items ++ new ∷ []) (count : length items ≡ i) (lt : i < length old) (read : v ≡ get_or old i v) where
  before : (j : ℕ) → j < i → bytes_at later j ≡ bytes_at items j
  before j below = ap (λ (l : List Volume). bytes_at l j) pushed ∙ field_at-push_before byte_of (λ _. 0) items new j (omega arith)

  last : (j : ℕ) → j ≡ i → bytes_at later j ≡ byte_of new
  last j is = ap (λ (l : List Volume). bytes_at l j) pushed ∙ field_at-push_last byte_of (λ _. 0) items new j (omega arith)

  here : (j : ℕ) → j ≡ i → bytes_at old j ≡ byte_of v
  here j is = ap (λ (l : ℕ). bytes_at old l) is ∙ field_at-read byte_of (λ _. 0) old i v lt read

  pub KeepsSynced-more : KeepsSynced old items i → ((k : ℕ) → mark_of v k ≡ false → byte_of new k ≡ byte_of v k) → KeepsSynced old later (i + 1)
  KeepsSynced-more so_far made j k within synced = elim (cases_lt j i) [
    | inl below ↦ ap (λ (each : ℕ → ℕ). each k) (before j below) ∙ so_far j k below synced
    | inr le ↦
        let is : j ≡ i = omega arith in
        let mark : mark_of v k ≡ false = ap (λ (each : ℕ → Bool). each k) (sym (ap (λ (l : ℕ). marks_at old l) is ∙ field_at-read mark_of (λ _. false) old i v lt read)) ∙ synced in
        ap (λ (each : ℕ → ℕ). each k) (last j is) ∙ made k mark ∙ ap (λ (each : ℕ → ℕ). each k) (sym (here j is))
  ]

  pub KeepsAll-more : KeepsAll old items i → byte_of new ≡ byte_of v → KeepsAll old later (i + 1)
  KeepsAll-more so_far made j within = elim (cases_lt j i) [
    | inl below ↦ before j below ∙ so_far j below
    | inr le ↦ let is : j ≡ i = omega arith in last j is ∙ made ∙ sym (here j is)
  ]

  pub length-more : length later ≡ i + 1
  length-more = ap length pushed ∙ longer items i count
    where
      longer : (items : List Volume) (i : ℕ) → length items ≡ i → length (items ++ new ∷ []) ≡ i + 1
      longer [] i is = omega arith
      longer (y ∷ items) zero is = absurd (omega arith)
      longer (y ∷ items) (suc i) is = let more = longer items i (omega arith) in omega (arith, more)

module _ (old items : List Volume) (i : ℕ) (count : length items ≡ i) (all : i ≡ length old) where
  past : (j : ℕ) → i ≤ j → bytes_at items j ≡ bytes_at old j
  past j le = field_at-past byte_of (λ _. 0) items j (omega arith) ∙ sym (field_at-past byte_of (λ _. 0) old j (omega arith))

  pub MayLeave-all : KeepsSynced old items i → MayLeave (moment_of old) (field_of byte_of (λ _. 0) items)
  MayLeave-all keeps = record { synced = synced; bytes = are_bytes items }
    where
      synced : (v k : ℕ) → (moment_of old).unsynced v k ≡ false → field_of byte_of (λ _. 0) items v k ≡ (moment_of old).contents v k
      synced zero k was = refl
      synced (suc j) k was = elim (cases_lt j i) [ inl lt ↦ keeps j k lt was | inr le ↦ ap (λ (each : ℕ → ℕ). each k) (past j le) ]

  pub contents-all : KeepsAll old items i → field_of byte_of (λ _. 0) items ≡ field_of byte_of (λ _. 0) old
  contents-all keeps = λ d v. place v d
    where
      place : (v : ℕ) → field_of byte_of (λ _. 0) items v ≡ field_of byte_of (λ _. 0) old v
      place zero = refl
      place (suc j) = elim (cases_lt j i) [ inl lt ↦ keeps j lt | inr le ↦ past j le ]
