-- The calls keep a volume's free space sound.
use Rattle.std.proofs.Common.{◌≡◌, ℕ, zero, suc, ◌+◌, ◌^◌, ◌<◌, ◌≤◌, true, false, not, cond, ◌&&◌, ◌||◌, List, [], ◌∷◌, ◌++◌, length, nat_eq, set, refl, sym, ◌∙◌, ap, subst, arith, ⊎_elim, ◌⊎◌, inl, inr, Option, Some, None}
use Rattle.std.proofs.lemmas.Bool.{cases_Bool, both_ways, true≢false, ne_eqb, and_parts, eqb-true, or_cases, or_right}
use Rattle.std.proofs.lemmas.List.{length_push}
use Rattle.std.specs.Cmp.{nat_cmp_total}
use Rattle.std.specs.List.{AllByRecursion, IsDistinct}
use Rattle.std.specs.Ordering.{nat_cmp}
use Rattle.std.specs.FinSet.{FinSet, contains, insert, remove, len, len-insert}
use Rattle.std.specs.Option.{IfNone, IfSome}
use Rattle.free_space.specs.VolumePages.{IsFreeRun, IsFirstRun}
use Rattle.free_space.proofs.Used.{contains-inserted, contains-removed}
use Rattle.free_space.specs.declared.waiting.Waiting.{Waiting}
use Rattle.free_space.specs.declared.waiting.PageUse.{PageUse}
use Rattle.free_space.specs.declared.waiting.PageUse.TheVariants.{Data}
use Rattle.free_space.specs.VolumeSpace.{without_due, still_waiting, is_among, is_due, VolumeSpace, IsFreePage, AreFreePages, volume_pages, insert_run, with_run}
use Rattle.free_space.specs.Sound.{IsSound, IsSoundVolume, same_page}
use Rattle.free_space.proofs.Apart.{length_le_len, len_le, apart_push, among_push, among_filter, apart_filter}
use Rattle.free_space.proofs.Due.{contains-without_due, due_at, due_not_still}

-- a volume that was just added
nothing_apart : IsDistinct same_page []
unfolding IsDistinct
nothing_apart = tt

pub sound_new : (pages : ℕ) (used : FinSet nat_cmp) → pages ≤ 2 ^ 20 → ((p : ℕ) → contains used p ≡ true → p < pages) → IsSound pages used []
sound_new pages used small within = record { limit = small; within = within; held = λ p waits. absurd (true≢false (sym waits)); apart = nothing_apart }

module _ {pages : ℕ} {used : FinSet nat_cmp} {ws : List Waiting} (sound : IsSound pages used ws) where
  pub waiting_used : length ws ≤ len used
  waiting_used = length_le_len ws used sound.apart sound.held

  pub used_pages : len used ≤ pages
  used_pages = len_le pages used sound.within

  -- a page that does not wait, though it is used
  module _ (p : ℕ) (held : contains used p ≡ true) (settled : is_among ws p ≡ false) where
    pub room_left : length ws < pages
    room_left =
        let w : Waiting = record { page = p; kind = Data; group = 0 } in
        let all = length_le_len (ws ++ w ∷ []) used (apart_push ws w sound.apart settled)
        (λ q there. ⊎_elim (λ here. subst (λ x. contains used x ≡ true) (sym here) held) (λ old. sound.held q old) (among_push ws w q there)) in
        omega (arith, used_pages, all, length_push ws w)

    pub sound_remove : IsSound pages (remove used p) ws
    sound_remove = record {
      limit = sound.limit;
      within = λ q there. sound.within q (and_parts (not (nat_eq q p)) (contains used q) (sym (contains-removed used p q) ∙ there)).1;
      held = λ q waits.
          let other : q ≡ p → ⊥ = λ same. both_ways (is_among ws p) settled (subst (λ x. is_among ws x ≡ true) same waits) in
          contains-removed used p q ∙ (λ i. not (ne_eqb q p other i) && sound.held q waits i);
      apart = sound.apart;
    }

    pub sound_waiting : (w : Waiting) → w.page ≡ p → IsSound pages used (ws ++ w ∷ [])
    sound_waiting w is = record {
      limit = sound.limit;
      within = sound.within;
      held = λ q waits. ⊎_elim (λ here. subst (λ x. contains used x ≡ true) (sym (here ∙ is)) held) (λ old. sound.held q old) (among_push ws w q waits);
      apart = apart_push ws w sound.apart (ap (is_among ws) is ∙ settled);
    }

  -- the pages that are due leave the set and the list
  due_used : (kind : PageUse) (group q : ℕ) → contains used q ≡ true → (due_at kind group ws q ≡ true → ⊥) → contains (without_due used ws kind group) q ≡ true
  due_used kind group q there not_due =
      contains-without_due kind group used ws q
      ∙ (λ i. there i && not (⊎_elim (λ due. absurd (not_due due)) (λ none. none) (cases_Bool (due_at kind group ws q)) i))

  pub sound_released : (kind : PageUse) (group : ℕ) → IsSound pages (without_due used ws kind group) (still_waiting kind group ws)
  sound_released kind group = record {
    limit = sound.limit;
    within = λ q there. sound.within q (and_parts (contains used q) (not (due_at kind group ws q)) (sym (contains-without_due kind group used ws q) ∙ there)).0;
    held = λ q waits. due_used kind group q (sound.held q (among_filter (λ w. not (is_due kind group w)) ws q waits)) (λ due. due_not_still kind group ws q sound.apart due waits);
    apart = apart_filter (λ w. not (is_due kind group w)) ws sound.apart;
  }

-- one page more is used
pub sound_insert : {pages : ℕ} {used : FinSet nat_cmp} {ws : List Waiting} → IsSound pages used ws → (p : ℕ) → p < pages → IsSound pages (insert used p) ws
sound_insert {pages} {used} {ws} sound p inside = record {
  limit = sound.limit;
  within = λ q there. ⊎_elim (λ here. let e : q ≡ p = eqb-true q p here in omega arith) (λ old. sound.within q old)
      (or_cases (nat_eq q p) (contains used q) (sym (contains-inserted used p q) ∙ there));
  held = λ q waits. contains-inserted used p q ∙ or_right (nat_eq q p) (contains used q) (sound.held q waits);
  apart = sound.apart;
}

pub sound_run : {pages : ℕ} {used : FinSet nat_cmp} {ws : List Waiting} → IsSound pages used ws → (p count : ℕ) → p + count ≤ pages → IsSound pages (insert_run used p count) ws
sound_run sound p zero inside = sound
sound_run sound p (suc count) inside = sound_insert (sound_run sound p count (omega arith)) (p + count) (omega arith)

-- a run of free pages is no longer than the free pages are many
module _ (pages : ℕ) (used : FinSet nat_cmp) (p : ℕ) where
  contains-run : (count q : ℕ) → q < p ⊎ p + count ≤ q → contains (insert_run used p count) q ≡ contains used q
  contains-run zero q out = refl
  contains-run (suc count) q out =
      let other : q ≡ p + count → ⊥ = ⊎_elim (λ before same. absurd (omega arith)) (λ after same. absurd (omega arith)) out in
      let out' : q < p ⊎ p + count ≤ q = ⊎_elim (λ before. inl before) (λ after. inr (omega arith)) out in
      contains-inserted (insert_run used p count) (p + count) q ∙ ap (λ b. b || contains (insert_run used p count) q) (ne_eqb q (p + count) other) ∙ contains-run count q out'

  len-run : (count : ℕ) → ((q : ℕ) → p ≤ q → q < p + count → contains used q ≡ false) → len (insert_run used p count) ≡ len used + count
  len-run zero free = omega arith
  len-run (suc count) free =
      let new : contains (insert_run used p count) (p + count) ≡ false = contains-run count (p + count) (inr (omega arith)) ∙ free (p + count) (omega arith) (omega arith) in
      let more : len (insert_run used p (suc count)) ≡ len (insert_run used p count) + 1 =
      len-insert nat_cmp_total (insert_run used p count) (p + count) ∙ ap (λ b. cond b (len (insert_run used p count)) (len (insert_run used p count) + 1)) new in
      omega (arith, more, len-run count (λ q after before. free q after (omega arith)))

  run_within : (count : ℕ) → ((q : ℕ) → contains used q ≡ true → q < pages) → p + count ≤ pages → (q : ℕ) → contains (insert_run used p count) q ≡ true → q < pages
  run_within zero within inside q there = within q there
  run_within (suc count) within inside q there =
      ⊎_elim (λ here. let e : q ≡ p + count = eqb-true q (p + count) here in omega arith) (λ old. run_within count within (omega arith) q old)
      (or_cases (nat_eq q (p + count)) (contains (insert_run used p count) q) (sym (contains-inserted (insert_run used p count) (p + count) q) ∙ there))

  pub run_fits : (count : ℕ) → ((q : ℕ) → contains used q ≡ true → q < pages) → IsFreeRun (record { pages = pages; used = used }) p count → count + len used ≤ pages
  run_fits count within run =
      omega (arith, len-run count run.free, len_le pages (insert_run used p count) (run_within count within run.within))

-- what the bitmap says of the volume's free pages
module _ (v : VolumeSpace) (sound : IsSoundVolume v) where
  pub free_page : (p : ℕ) → p < v.pages → contains v.used p ≡ false → IsFreePage v p
  free_page p within unused = record {
    within = within;
    unused = unused;
    settled = ⊎_elim (λ waits. absurd (both_ways (contains v.used p) unused (sound.held p waits))) (λ settled. settled) (cases_Bool (is_among v.waiting p));
  }

  free_pages_of : (p count : ℕ) → IsFreeRun (volume_pages v) p count → AreFreePages v p count
  free_pages_of p count run = record { within = run.within; free = λ q after before. free_page q (omega (arith, run.within)) (run.free q after before) }

  run_of : (p count : ℕ) → AreFreePages v p count → IsFreeRun (volume_pages v) p count
  run_of p count are = record { within = are.within; free = λ q after before. (are.free q after before).unused }

  -- what is found is free, and where nothing is found nothing is
  pub found_free : (from count p : ℕ) → IsFirstRun (volume_pages v) from count (Some p) → AreFreePages v p count
  found_free from count p first = free_pages_of p count first.1

  none_free : (count : ℕ) → IsFirstRun (volume_pages v) 0 count None → (p : ℕ) → ¬ AreFreePages v p count
  none_free count none p are = none p (omega arith) (run_of p count are)

  -- fewer pages are free
  pub too_few : (free count : ℕ) → free + len v.used ≡ v.pages → free < count → (p : ℕ) → ¬ AreFreePages v p count
  too_few free count counted few p are = omega (arith, counted, few, run_fits v.pages v.used p count sound.within (run_of p count are))

  -- the same of a search's answer
  pub none_answered : (count : ℕ) (r : Option ℕ) → IsFirstRun (volume_pages v) 0 count r → IfNone r ((p : ℕ) → v.is_open ≡ true → ¬ AreFreePages v p count)
  none_answered count None none = λ p _. none_free count none p
  none_answered count (Some p) first = tt

  pub run_answered : (count : ℕ) (r : Option ℕ) → v.is_open ≡ true → IsFirstRun (volume_pages v) 0 count r → IfSome r (λ p. (v.is_open ≡ true) × AreFreePages v p count)
  run_answered count None is_open none = tt
  run_answered count (Some p) is_open first = (is_open, found_free 0 count p first)

-- a free page is a run of one
pub one_page : {v : VolumeSpace} {p : ℕ} → IsFreePage v p → AreFreePages v p 1
one_page {v} {p} is = record {
  within = omega (arith, is.within);
  free = λ q after before. let same : q ≡ p = omega arith in subst (λ x. IsFreePage v x) (sym same) is;
}

-- the page after the i pages of a free run that were taken is still free
pub next_of_run : (v : VolumeSpace) (p count i : ℕ) → AreFreePages v p count → i < count → IsFreePage (with_run p i v) (p + i)
next_of_run v p count i are within =
    let free = are.free (p + i) (omega arith) (omega arith) in
    record {
      within = free.within;
      unused = contains-run v.pages v.used p i (p + i) (inr (omega arith)) ∙ free.unused;
      settled = free.settled;
    }

-- ---- all volumes

pub all_set : {X : Type 0} (P : X → Type 0) (xs : List X) (i : ℕ) (x : X) → AllByRecursion P xs → P x → AllByRecursion P (set xs i x)
all_set P [] i x all new = all
all_set P (y ∷ xs) zero x all new = (new, all.1)
all_set P (y ∷ xs) (suc i) x all new = (all.0, all_set P xs i x all.1 new)
