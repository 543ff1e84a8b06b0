-- Runs of free pages, as the walk finds them in a bitmap's bytes.
use Rattle.std.proofs.Common.{◌≡◌, ℕ, ◌+◌, ◌-◌, ◌*◌, ◌<◌, ◌≤◌, false, ◌||◌, List, length, nat_lt, sym, ◌∙◌, ap, arith, ⊎_elim, Some, None}
use Rattle.std.proofs.lemmas.Bool.{cases_lt, both_ways, le-ltb, lt-ltb, le-leb, lt-leb, or_parts}
use Rattle.std.specs.FinSet.{contains}
use Rattle.free_space.specs.VolumePages.{IsFreeRun, IsFirstRun}
use Rattle.free_space.specs.Bits.{is_set, used_below, IsKept, ShowsMap}
use Rattle.free_space.specs.Walk.{is_taken, NoneTaken, IsFound}
use Rattle.free_space.proofs.Used.{contains-used, viewed_map}

bit_free : (bytes : List ℕ) (from q : ℕ) → is_taken bytes from q ≡ false → is_set bytes q ≡ false
unfolding is_taken
bit_free bytes from q free = (or_parts (nat_lt q from) (is_set bytes q) free).1

reached : (bytes : List ℕ) (from q : ℕ) → is_taken bytes from q ≡ false → from ≤ q
unfolding is_taken
reached bytes from q free =
    ⊎_elim (λ early. absurd (both_ways (nat_lt q from) (or_parts (nat_lt q from) (is_set bytes q) free).0 (lt-ltb q from early))) (λ late. late) (cases_lt q from)

not_taken : (bytes : List ℕ) (from q : ℕ) → from ≤ q → is_set bytes q ≡ false → is_taken bytes from q ≡ false
unfolding is_taken
not_taken bytes from q late free = (λ i. le-ltb q from late i || free i)

module _ {bytes : List ℕ} {pages free : ℕ} (kept : IsKept bytes pages free) (from count : ℕ) (some : 0 < count) where
  ends_within : (p : ℕ) → p + count ≤ 8 * length bytes → NoneTaken (is_taken bytes from) p (p + count) → p + count ≤ pages
  ends_within p inside none = ⊎_elim
      (λ past.
      let last = none (p + count - 1) (omega arith) (omega arith) in
      absurd (both_ways (is_set bytes (p + count - 1)) (bit_free bytes from (p + count - 1) last) (kept.past (p + count - 1) (omega arith) (omega arith))))
      (λ within. within) (cases_lt pages (p + count))

  pub run_from_taken : (p : ℕ) → p + count ≤ 8 * length bytes → NoneTaken (is_taken bytes from) p (p + count) → IsFreeRun (viewed_map bytes pages) p count
  run_from_taken p inside none = record {
    within = ends_within p inside none;
    free = λ q after before.
        contains-used bytes pages q (omega (arith, ends_within p inside none)) ∙ bit_free bytes from q (none q after before);
  }

  taken_from_run : (p : ℕ) → from ≤ p → IsFreeRun (viewed_map bytes pages) p count → NoneTaken (is_taken bytes from) p (p + count)
  taken_from_run p late run q after before =
      not_taken bytes from q (omega arith) (sym (contains-used bytes pages q (omega (arith, run.within))) ∙ run.free q after before)

  pub first_found : (p : ℕ) → p + count ≤ 8 * length bytes → IsFound (is_taken bytes from) count p → IsFirstRun (viewed_map bytes pages) from count (Some p)
  first_found p inside is = (
    reached bytes from p (is.free p (omega arith) (omega arith)),
    run_from_taken p inside is.free,
    λ q late early run. is.none q early (taken_from_run q late run),
  )

  pub none_found : (words : ℕ) → pages ≤ 64 * words → ((p : ℕ) → p + count ≤ 64 * words → ¬ NoneTaken (is_taken bytes from) p (p + count)) →
      IsFirstRun (viewed_map bytes pages) from count None
  none_found words covers none p late run = none p (omega (arith, run.within)) (taken_from_run p late run)

-- the bytes that are kept are the map's
pub shows_map : {bytes : List ℕ} {pages free : ℕ} → IsKept bytes pages free → ShowsMap (viewed_map bytes pages) bytes
shows_map {bytes} {pages} kept = record {
  len = kept.size;
  bits = λ p within. ⊎_elim
      (λ inside. sym (contains-used bytes pages p inside) ∙ sym (ap (λ b. b || contains (used_below bytes pages) p) (lt-leb pages p inside)))
      (λ past. kept.past p past within ∙ sym (ap (λ b. b || contains (used_below bytes pages) p) (le-leb pages p past))) (cases_lt p pages);
}
