-- The calls that a rack in memory keeps, and what they make of the moment at its making.
use Rattle.std.specs.Prelude.{◌≡◌, ℕ, ◌+◌, ◌*◌, ◌%◌, ◌≤◌, nat_le, if◌then◌else◌, Bool, false, IsTrue, List, [], ◌∷◌, ◌++◌, length}
use Rattle.volume_disk.specs.Disk.{Moment, volume_pages}
use Rattle.memory_disk.specs.Moment.{written, torn, synced}
use Rattle.memory_disk.specs.declared.kept.Effect.{Effect}
use Rattle.memory_disk.specs.declared.kept.Effect.TheVariants.{Wrote, Tore, Synced}
use Rattle.memory_disk.specs.declared.kept.KeptCall.{KeptCall}

-- the moment after a call with this effect on a volume
abbrev pub effect_on : Moment → ℕ → Effect → Moment
effect_on moment vol (Wrote block bytes) = written moment vol (512 * block) bytes.items
effect_on moment vol (Tore block bytes) = torn moment vol (512 * block) (length bytes.items)
effect_on moment vol Synced = synced moment vol

-- the moment after call t
abbrev pub replayed : Moment → List KeptCall → ℕ → Moment
replayed moment [] t = moment
replayed moment (call ∷ calls) t =
    let next = if nat_le call.number t then effect_on moment call.vol call.effect else moment in
    replayed next calls t

abbrev pub block_of : Effect → ℕ
block_of (Wrote block bytes) = block
block_of (Tore block bytes) = block
block_of Synced = 0

-- the bytes that it changes
abbrev pub size_of : Effect → ℕ
size_of (Wrote block bytes) = length bytes.items
size_of (Tore block bytes) = length bytes.items
size_of Synced = 0

-- a call is of whole blocks of one of the volumes
pub record FitsIn (sizes : List ℕ) (call : KeptCall) : Type 0 where
  pub in_rack : call.vol ≤ length sizes
  pub whole : size_of call.effect % 512 ≡ 0
  pub within : 512 * block_of call.effect + size_of call.effect ≤ 8192 * volume_pages sizes call.vol

-- a call with this number is added, for `size` bytes of a volume from a block on; it makes of each
-- moment the one after
pub record IsAdded (old new : List KeptCall) (number vol block size : ℕ)
    (next : Moment → Moment) : Type 0 where
  pub call : KeptCall
  pub last : new ≡ old ++ call ∷ []
  pub number_is : call.number ≡ number
  pub vol_is : call.vol ≡ vol
  pub block_is : block_of call.effect ≡ block
  pub size_is : size_of call.effect ≡ size
  pub next_is : (moment : Moment) → effect_on moment call.vol call.effect ≡ next moment

-- if calls are kept, such a call is added
pub record Adds (keeps : Bool) (old new : List KeptCall) (number vol block size : ℕ)
    (next : Moment → Moment) : Type 0 where
  pub kept : IsTrue keeps → IsAdded old new number vol block size next
  pub unkept : keeps ≡ false → new ≡ old
