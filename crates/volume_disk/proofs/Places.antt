-- Places of volumes, in a range and outside of it.
use Rattle.std.proofs.Common.{◌≡◌, ◌≢◌, ◌⊎◌, ◌==◌, ℕ, ◌+◌, true, false, refl, inl, inr, arith}
use Rattle.std.proofs.lemmas.Bool.{cases_eq, cases_lt, eq-eqb, ne_eqb}
use Rattle.volume_disk.specs.Disk.{put_at}
use Rattle.volume_disk.specs.Image.{Image, IsIn}

pub put_at-same : {X : Type 0} (each : ℕ → X) (vol : ℕ) (x : X) → put_at each vol x vol ≡ x
put_at-same each vol x = let at : (vol == vol) ≡ true = eq-eqb vol vol refl in rw at refl

pub put_at-other : {X : Type 0} (each : ℕ → X) (vol v : ℕ) (x : X) → v ≢ vol → put_at each vol x v ≡ each v
put_at-other each vol v x other = let at : (v == vol) ≡ false = ne_eqb v vol other in rw at refl

-- a place is in the range or it isn't
pub in_or_out : (vol at n v k : ℕ) → IsIn vol at n v k ⊎ (¬ IsIn vol at n v k)
in_or_out vol at n v k = elim (cases_eq v vol) [
  | inr other ↦ inr (λ is_in. other is_in.0)
  | inl same ↦ elim (cases_lt k at) [
    | inl lt ↦ inr (λ is_in. omega (arith, is_in.1))
    | inr le ↦ elim (cases_lt k (at + n)) [ inl lt ↦ inl (same, le, lt) | inr far ↦ inr (λ is_in. omega (arith, is_in.2)) ]
  ]
]

-- An image that has one image's bytes in a range and another's outside of it.
module _ (vol at n : ℕ) (inner outer : Image) where
  abbrev chosen : (v k : ℕ) → IsIn vol at n v k ⊎ (¬ IsIn vol at n v k) → ℕ
  chosen v k (inl is_in) = inner v k
  chosen v k (inr out) = outer v k

  pub mixed : Image
  mixed v k = chosen v k (in_or_out vol at n v k)

  pub mixed-in : (v k : ℕ) → IsIn vol at n v k → mixed v k ≡ inner v k
  unfolding mixed
  mixed-in v k is_in = by_place (in_or_out vol at n v k)
    where
      by_place : (where_is : IsIn vol at n v k ⊎ (¬ IsIn vol at n v k)) → chosen v k where_is ≡ inner v k
      by_place (inl _) = refl
      by_place (inr out) = absurd (out is_in)

  pub mixed-out : (v k : ℕ) → ¬ IsIn vol at n v k → mixed v k ≡ outer v k
  unfolding mixed
  mixed-out v k out = by_place (in_or_out vol at n v k)
    where
      by_place : (where_is : IsIn vol at n v k ⊎ (¬ IsIn vol at n v k)) → chosen v k where_is ≡ outer v k
      by_place (inl is_in) = absurd (out is_in)
      by_place (inr _) = refl
