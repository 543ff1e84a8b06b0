-- The pages that come free when a group is done.
use Rattle.std.proofs.Common.{◌≡◌, ℕ, Bool, true, false, not, cond, ◌&&◌, ◌||◌, List, [], ◌∷◌, ◌++◌, nat_eq, refl, sym, ◌∙◌, ap, subst, ⊎_elim}
use Rattle.std.proofs.lemmas.Bool.{both_ways, or_cases, and_parts, eqb-true, true≢false, not-true, or_left, or_right}
use Rattle.std.proofs.lemmas.List.Folds.{list_any-append}
use Rattle.std.specs.List.{list_any, IsDistinct}
use Rattle.std.specs.Ordering.{nat_cmp}
use Rattle.std.specs.FinSet.{FinSet, contains, remove, contains-retain, nat_cmp-IsAntisymmetric}
use Rattle.free_space.proofs.Used.{contains-removed, same_pages}
use Rattle.free_space.specs.declared.waiting.Waiting.{Waiting}
use Rattle.free_space.specs.declared.waiting.PageUse.{PageUse}
use Rattle.free_space.specs.VolumeSpace.{is_among, is_due, without_due, still_waiting}
use Rattle.free_space.specs.Sound.{same_page}
use Rattle.free_space.proofs.Apart.{among_filter, head_apart, tail_apart}

module _ (kind : PageUse) (group : ℕ) where
  -- whether page q waits and is due
  abbrev pub due_at : List Waiting → ℕ → Bool
  due_at ws q = list_any (λ (w : Waiting). nat_eq q w.page && is_due kind group w) ws

  pub contains-without_due : (used : FinSet nat_cmp) (ws : List Waiting) (q : ℕ) → contains (without_due used ws kind group) q ≡ (contains used q && not (due_at ws q))
  contains-without_due used ws q =
      contains-retain used (λ p. not (due_at ws p)) q (λ x tie. sym (ap (λ p. not (due_at ws p)) (nat_cmp-IsAntisymmetric q x tie)))

  and_true : (b : Bool) → (b && true) ≡ b
  and_true true = refl
  and_true false = refl

  -- nothing waits, and so nothing is due
  pub without_none : (used : FinSet nat_cmp) → without_due used [] kind group ≡ used
  without_none used = same_pages (without_due used [] kind group) used (λ q. contains-without_due used [] q ∙ and_true (contains used q))

  -- one page more
  due_push : (ws : List Waiting) (w : Waiting) (q : ℕ) → due_at (ws ++ w ∷ []) q ≡ (due_at ws q || ((nat_eq q w.page && is_due kind group w) || false))
  due_push ws w q = list_any-append (λ (v : Waiting). nat_eq q v.page && is_due kind group v) ws (w ∷ [])

  later_page : (a d e : Bool) → (a && not (d || ((e && false) || false))) ≡ (a && not d)
  later_page true true e = refl
  later_page true false true = refl
  later_page true false false = refl
  later_page false d e = refl

  due_page : (a d e : Bool) → (a && not (d || ((e && true) || false))) ≡ (not e && (a && not d))
  due_page true true true = refl
  due_page true true false = refl
  due_page true false true = refl
  due_page true false false = refl
  due_page false d true = refl
  due_page false d false = refl

  pub without_later : (used : FinSet nat_cmp) (ws : List Waiting) (w : Waiting) → is_due kind group w ≡ false →
      without_due used (ws ++ w ∷ []) kind group ≡ without_due used ws kind group
  without_later used ws w later = same_pages (without_due used (ws ++ w ∷ []) kind group) (without_due used ws kind group) (λ q.
      contains-without_due used (ws ++ w ∷ []) q
      ∙ ap (λ b. contains used q && not b) (due_push ws w q ∙ ap (λ b. due_at ws q || ((nat_eq q w.page && b) || false)) later)
      ∙ later_page (contains used q) (due_at ws q) (nat_eq q w.page) ∙ sym (contains-without_due used ws q))

  pub without_more : (used : FinSet nat_cmp) (ws : List Waiting) (w : Waiting) → is_due kind group w ≡ true →
      without_due used (ws ++ w ∷ []) kind group ≡ remove (without_due used ws kind group) w.page
  without_more used ws w due = same_pages (without_due used (ws ++ w ∷ []) kind group) (remove (without_due used ws kind group) w.page) (λ q.
      contains-without_due used (ws ++ w ∷ []) q
      ∙ ap (λ b. contains used q && not b) (due_push ws w q ∙ ap (λ b. due_at ws q || ((nat_eq q w.page && b) || false)) due)
      ∙ due_page (contains used q) (due_at ws q) (nat_eq q w.page)
      ∙ sym (contains-removed (without_due used ws kind group) w.page q ∙ ap (λ b. not (nat_eq q w.page) && b) (contains-without_due used ws q)))

  -- what is due waits
  pub due_member : (ws : List Waiting) (q : ℕ) → due_at ws q ≡ true → is_among ws q ≡ true
  due_member [] q due = absurd (true≢false (sym due))
  due_member (w ∷ ws) q due =
      ⊎_elim (λ here. or_left (nat_eq q w.page) (is_among ws q) (and_parts (nat_eq q w.page) (is_due kind group w) here).0)
      (λ later. or_right (nat_eq q w.page) (is_among ws q) (due_member ws q later))
      (or_cases (nat_eq q w.page && is_due kind group w) (due_at ws q) due)

  -- a page that stands once stands nowhere else
  not_alone : (w : Waiting) (ws : List Waiting) (q : ℕ) → is_among ws w.page ≡ false → is_among ws q ≡ true → nat_eq q w.page ≡ true → ⊥
  not_alone w ws q alone there same = both_ways (is_among ws w.page) alone (subst (λ p. is_among ws p ≡ true) (eqb-true q w.page same) there)

  -- what still waits is not due
  still_step : (w : Waiting) (ws : List Waiting) (q : ℕ) → is_among ws w.page ≡ false →
      (due_at ws q ≡ true → is_among (still_waiting kind group ws) q ≡ true → ⊥) →
      (is_among (still_waiting kind group ws) q ≡ true → is_among ws q ≡ true) →
      (b : Bool) → not (is_due kind group w) ≡ b → due_at (w ∷ ws) q ≡ true →
      is_among (cond b (w ∷ still_waiting kind group ws) (still_waiting kind group ws)) q ≡ true → ⊥
  still_step w ws q alone rest kept true is due still =
      ⊎_elim
      (λ here. both_ways (is_due kind group w) (not-true (is_due kind group w) is) (and_parts (nat_eq q w.page) (is_due kind group w) here).1)
      (λ later. ⊎_elim (λ same. not_alone w ws q alone (due_member ws q later) same) (λ other. rest later other)
      (or_cases (nat_eq q w.page) (is_among (still_waiting kind group ws) q) still))
      (or_cases (nat_eq q w.page && is_due kind group w) (due_at ws q) due)
  still_step w ws q alone rest kept false is due still =
      ⊎_elim (λ here. not_alone w ws q alone (kept still) (and_parts (nat_eq q w.page) (is_due kind group w) here).0) (λ later. rest later still)
      (or_cases (nat_eq q w.page && is_due kind group w) (due_at ws q) due)

  pub due_not_still : (ws : List Waiting) (q : ℕ) → IsDistinct same_page ws → due_at ws q ≡ true → is_among (still_waiting kind group ws) q ≡ true → ⊥
  due_not_still [] q apart due still = true≢false (sym due)
  due_not_still (w ∷ ws) q apart due still =
      still_step w ws q (head_apart w ws apart) (due_not_still ws q (tail_apart w ws apart)) (among_filter (λ v. not (is_due kind group v)) ws q) (not (is_due kind group w)) refl due still
