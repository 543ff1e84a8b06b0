-- What each call makes of a moment, as the model says it.
use Rattle.std.proofs.Common.{◌≡◌, ◌&&◌, ◌||◌, ℕ, ◌+◌, ◌-◌, ◌<◌, ◌≤◌, Bool, true, false, List, length, get_or, leb, ltb, refl, sym, ◌∙◌, ap, inl, inr, arith}
use Rattle.std.proofs.lemmas.Bool.{cases_eq, cases_lt, lt-leb, le-leb, lt-ltb, le-ltb, both_ways}
use Rattle.volume_disk.specs.Disk.{Moment, put_at, MayTear, Writes, Syncs}
use Rattle.volume_disk.specs.Image.{IsIn}
use Rattle.volume_disk.proofs.Places.{in_or_out, put_at-same, put_at-other}
use Rattle.memory_disk.specs.Moment.{IsPending, overlaid, marked, torn, written, synced}

inside : (at n k : ℕ) → at ≤ k → k < at + n → (leb at k && ltb k (at + n)) ≡ true
inside at n k le lt = let a : leb at k ≡ true = le-leb at k le in let b : ltb k (at + n) ≡ true = lt-ltb k (at + n) lt in rw (a, b) refl

outside : (at n k : ℕ) → ((at ≤ k) × (k < at + n) → ⊥) → (leb at k && ltb k (at + n)) ≡ false
outside at n k out = elim (cases_lt k at) [
  | inl lt ↦ let a : leb at k ≡ false = lt-leb at k lt in rw a refl
  | inr le ↦ elim (cases_lt k (at + n)) [
    | inl lt ↦ absurd (out (le, lt))
    | inr far ↦ let a : leb at k ≡ true = le-leb at k le in let b : ltb k (at + n) ≡ false = le-ltb k (at + n) far in rw (a, b) refl
  ]
]

or_true : (b : Bool) → (b || true) ≡ true
or_true true = refl
or_true false = refl

module _ (moment : Moment) (vol at n : ℕ) where
  abbrev marks : ℕ → ℕ → Bool
  marks = put_at moment.unsynced vol (marked (moment.unsynced vol) at n)

  marks-in : (v k : ℕ) → IsIn vol at n v k → marks v k ≡ true
  marks-in v k is_in =
      ap (λ (w : ℕ). marks w k) is_in.0
      ∙ ap (λ (each : ℕ → Bool). each k) (put_at-same moment.unsynced vol (marked (moment.unsynced vol) at n))
      ∙ (let test = inside at n k is_in.1 is_in.2 in rw test refl)

  marks-out : (v k : ℕ) → ¬ IsIn vol at n v k → marks v k ≡ moment.unsynced v k
  marks-out v k out = elim (cases_eq v vol) [
    | inr other ↦ ap (λ (each : ℕ → Bool). each k) (put_at-other moment.unsynced vol v (marked (moment.unsynced vol) at n) other)
    | inl same ↦
        let test = outside at n k (λ is_in. out (same, is_in.0, is_in.1)) in
        ap (λ (w : ℕ). marks w k) same
        ∙ ap (λ (each : ℕ → Bool). each k) (put_at-same moment.unsynced vol (marked (moment.unsynced vol) at n))
        ∙ (rw test (ap (λ (w : ℕ). moment.unsynced w k) (sym same)))
  ]

  marks-still : (v k : ℕ) → moment.unsynced v k ≡ true → marks v k ≡ true
  marks-still v k was = elim (in_or_out vol at n v k) [ inl is_in ↦ marks-in v k is_in | inr out ↦ marks-out v k out ∙ was ]

  -- a failed write may leave all as it was
  pub MayTear-same : MayTear vol at n moment moment
  MayTear-same = record { contents = λ v k out. refl; unsynced = λ v k out. refl; still = λ v k was. was; known = λ v k synced. refl }

  pub torn-pending : IsPending (torn moment vol at n) vol at n
  unfolding torn
  torn-pending = marks-in

  -- or its range not synced
  pub MayTear-torn : MayTear vol at n moment (torn moment vol at n)
  unfolding torn
  MayTear-torn = record { contents = λ v k out. refl; unsynced = marks-out; still = marks-still; known = λ v k synced. refl }

module _ (moment : Moment) (vol at : ℕ) (bytes : List ℕ) where
  abbrev over : ℕ → ℕ → ℕ
  over = put_at moment.contents vol (overlaid (moment.contents vol) at bytes)

  over-out : (v k : ℕ) → ¬ IsIn vol at (length bytes) v k → over v k ≡ moment.contents v k
  over-out v k out = elim (cases_eq v vol) [
    | inr other ↦ ap (λ (each : ℕ → ℕ). each k) (put_at-other moment.contents vol v (overlaid (moment.contents vol) at bytes) other)
    | inl same ↦
        let test = outside at (length bytes) k (λ is_in. out (same, is_in.0, is_in.1)) in
        ap (λ (w : ℕ). over w k) same
        ∙ ap (λ (each : ℕ → ℕ). each k) (put_at-same moment.contents vol (overlaid (moment.contents vol) at bytes))
        ∙ (rw test (ap (λ (w : ℕ). moment.contents w k) (sym same)))
  ]

  over-in : (k : ℕ) → k < length bytes → over vol (at + k) ≡ get_or bytes k 0
  over-in k lt =
      let test = inside at (length bytes) (at + k) (omega arith) (omega arith) in
      let back : at + k - at ≡ k = omega arith in
      ap (λ (each : ℕ → ℕ). each (at + k)) (put_at-same moment.contents vol (overlaid (moment.contents vol) at bytes))
      ∙ (rw (test, back) refl)

  over-known : (v k : ℕ) → marks moment vol at (length bytes) v k ≡ false → over v k ≡ moment.contents v k
  over-known v k synced = elim (in_or_out vol at (length bytes) v k) [
    | inl is_in ↦ absurd (both_ways (marks moment vol at (length bytes) v k) synced (marks-in moment vol at (length bytes) v k is_in))
    | inr out ↦ over-out v k out
  ]

  pub Writes-written : Writes vol at bytes moment (written moment vol at bytes)
  unfolding written
  Writes-written = record {
    tears = record {
      contents = over-out;
      unsynced = marks-out moment vol at (length bytes);
      still = marks-still moment vol at (length bytes);
      known = over-known;
    };
    written = over-in;
    pending = marks-in moment vol at (length bytes);
  }

pub Syncs-synced : (moment : Moment) (vol : ℕ) → Syncs vol moment (synced moment vol)
unfolding synced
Syncs-synced moment vol = record {
  contents = refl;
  here = λ k. ap (λ (each : ℕ → Bool). each k) (put_at-same moment.unsynced vol (λ _. false));
  elsewhere = λ v k other. ap (λ (each : ℕ → Bool). each k) (put_at-other moment.unsynced vol v (λ _. false) other);
}
