-- All pages that wait come free.
use Rattle.std.proofs.Common.{◌≡◌, ℕ, ◌+◌, ◌<◌, Bool, true, false, not, ◌&&◌, ◌||◌, List, [], ◌∷◌, ◌++◌, length, nat_eq, take, get_or, refl, sym, ◌∙◌, ap}
use Rattle.std.proofs.lemmas.Bool.{and_parts}
use Rattle.std.proofs.lemmas.List.{take_more}
use Rattle.std.proofs.lemmas.List.Folds.{list_any-append}
use Rattle.std.specs.Ordering.{nat_cmp}
use Rattle.std.specs.FinSet.{FinSet, contains, remove, contains-retain, nat_cmp-IsAntisymmetric}
use Rattle.free_space.specs.VolumePages.{VolumePages}
use Rattle.free_space.proofs.Used.{contains-removed, same_pages, with_used}
use Rattle.free_space.specs.declared.waiting.Waiting.{Waiting}
use Rattle.free_space.specs.VolumeSpace.{is_among, without_waiting}
use Rattle.free_space.specs.Sound.{IsSound}
use Rattle.free_space.proofs.StaysSound.{sound_new}

pub contains-without_waiting : (used : FinSet nat_cmp) (ws : List Waiting) (q : ℕ) → contains (without_waiting used ws) q ≡ (contains used q && not (is_among ws q))
contains-without_waiting used ws q = contains-retain used (λ p. not (is_among ws p)) q (λ x tie. sym (ap (λ p. not (is_among ws p)) (nat_cmp-IsAntisymmetric q x tie)))

and_true : (b : Bool) → (b && true) ≡ b
and_true true = refl
and_true false = refl

waiting_none : (used : FinSet nat_cmp) → without_waiting used [] ≡ used
waiting_none used = same_pages (without_waiting used []) used (λ q. contains-without_waiting used [] q ∙ and_true (contains used q))

freed_page : (a d e : Bool) → (a && not (d || (e || false))) ≡ (not e && (a && not d))
freed_page true true true = refl
freed_page true true false = refl
freed_page true false true = refl
freed_page true false false = refl
freed_page false d true = refl
freed_page false d false = refl

waiting_more : (used : FinSet nat_cmp) (ws : List Waiting) (w : Waiting) → without_waiting used (ws ++ w ∷ []) ≡ remove (without_waiting used ws) w.page
waiting_more used ws w = same_pages (without_waiting used (ws ++ w ∷ [])) (remove (without_waiting used ws) w.page) (λ q.
    contains-without_waiting used (ws ++ w ∷ []) q
    ∙ ap (λ b. contains used q && not b) (list_any-append (λ (v : Waiting). nat_eq q v.page) ws (w ∷ []))
    ∙ freed_page (contains used q) (is_among ws q) (nat_eq q w.page)
    ∙ sym (contains-removed (without_waiting used ws) w.page q ∙ ap (λ b. not (nat_eq q w.page) && b) (contains-without_waiting used ws q)))

-- the loop that frees them
pub free_none : (m : VolumePages) → m ≡ with_used m (without_waiting m.used [])
free_none m = ap (λ s. with_used m s) (sym (waiting_none m.used))

pub free_more : (first m : VolumePages) (ws : List Waiting) (i : ℕ) (d : Waiting) → i < length ws → m ≡ with_used first (without_waiting first.used (take i ws))
    → with_used m (remove m.used (get_or ws i d).page) ≡ with_used first (without_waiting first.used (take (i + 1) ws))
free_more first m ws i d within is =
    ap (λ (n : VolumePages). with_used n (remove n.used (get_or ws i d).page)) is
    ∙ ap (λ s. with_used first s) (sym (ap (without_waiting first.used) (take_more ws i d within) ∙ waiting_more first.used (take i ws) (get_or ws i d)))

pub sound_freed : {pages : ℕ} {used : FinSet nat_cmp} {ws : List Waiting} → IsSound pages used ws → IsSound pages (without_waiting used ws) []
sound_freed {pages} {used} {ws} sound = sound_new pages (without_waiting used ws) sound.limit (λ q there. sound.within q (and_parts (contains used q) (not (is_among ws q)) (sym (contains-without_waiting used ws q) ∙ there)).0)
