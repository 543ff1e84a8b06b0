-- What a volume keeps of its changes, through the calls.
use Rattle.std.proofs.Common.{◌≡◌, ℕ, ◌<◌, ◌≤◌, true, false, List, [], ◌∷◌, ◌++◌, length, take, drop, refl, sym, subst, arith}
use Rattle.std.proofs.lemmas.List.{length-take-le, length_push, take_all, take-take, take-append-le, take-append-drop}
use Rattle.std.specs.Ordering.{nat_cmp}
use Rattle.std.specs.FinSet.{FinSet, contains, insert, remove}
use Rattle.free_space.specs.declared.waiting.Waiting.{Waiting}
use Rattle.free_space.specs.VolumeSpace.{is_among}
use Rattle.free_space.specs.Sound.{IsSound, IsKept, used_before, without}
use Rattle.free_space.proofs.Changing.{before_none, no_changes, listed, changes_taken, before_taken, changes_freed, before_freed, room_for_one, not_taken, not_freed}
use Rattle.free_space.proofs.StaysSound.{sound_insert, sound_remove, sound_waiting}

-- everything is kept as it is
pub kept_now : {pages : ℕ} {used : FinSet nat_cmp} {ws : List Waiting} {room taken_room freed_room : ℕ} → IsSound pages used ws →
    pages ≤ room → pages ≤ taken_room → pages ≤ freed_room → IsKept pages used ws [] [] (length ws) room taken_room freed_room
kept_now {pages} {used} {ws} sound enough enough_taken enough_freed = record {
  sound = sound;
  changes = no_changes pages used;
  before = subst (λ s. IsSound pages s (take (length ws) ws)) (sym (before_none used))
      (subst (IsSound pages used) (sym (take_all (length ws) ws (omega arith))) sound);
  longer = omega arith;
  enough = enough;
  enough_taken = enough_taken;
  enough_freed = enough_freed;
}

module _ {pages : ℕ} {used : FinSet nat_cmp} {ws : List Waiting} {taken freed : List ℕ} {kept room taken_room freed_room : ℕ}
    (is : IsKept pages used ws taken freed kept room taken_room freed_room) where
  -- what was kept comes back
  pub kept_back : IsKept pages (used_before used taken freed) (take kept ws) [] [] kept room taken_room freed_room
  kept_back = record {
    sound = is.before;
    changes = no_changes pages (used_before used taken freed);
    before = subst (λ s. IsSound pages s (take kept (take kept ws))) (sym (before_none (used_before used taken freed)))
        (subst (IsSound pages (used_before used taken freed)) (sym (take-take kept kept ws (omega arith))) is.before);
    longer = omega (arith, length-take-le kept ws is.longer);
    enough = is.enough;
    enough_taken = is.enough_taken;
    enough_freed = is.enough_freed;
  }

  -- one page more waits
  pub kept_waiting : (w : Waiting) → contains used w.page ≡ true → is_among ws w.page ≡ false → IsKept pages used (ws ++ w ∷ []) taken freed kept room taken_room freed_room
  kept_waiting w held settled = record {
    sound = sound_waiting is.sound w.page held settled w refl;
    changes = is.changes;
    before = subst (IsSound pages (used_before used taken freed)) (sym (take-append-le kept ws (w ∷ []) is.longer)) is.before;
    longer = omega (arith, is.longer, length_push ws w);
    enough = is.enough;
    enough_taken = is.enough_taken;
    enough_freed = is.enough_freed;
  }

  module _ (p : ℕ) where
    -- a free page is taken
    pub taken_room_left : p < pages → contains used p ≡ false → length taken < taken_room
    taken_room_left within free =
        omega (arith, is.enough_taken, room_for_one pages taken p is.changes.taken_once (not_taken is.changes p free) within (λ q one. is.sound.within q (is.changes.there q one)))

    pub kept_taken : p < pages → contains used p ≡ false → IsKept pages (insert used p) ws (listed freed taken p) (without p freed) kept room taken_room freed_room
    kept_taken within free = record {
      sound = sound_insert is.sound p within;
      changes = changes_taken is.changes p within free;
      before = subst (λ s. IsSound pages s (take kept ws)) (sym (before_taken is.changes p within free)) is.before;
      longer = is.longer;
      enough = is.enough;
      enough_taken = is.enough_taken;
      enough_freed = is.enough_freed;
    }

    -- a used page that does not wait is freed
    pub freed_room_left : contains used p ≡ true → length freed < freed_room
    freed_room_left held =
        omega (arith, is.enough_freed, room_for_one pages freed p is.changes.freed_once (not_freed is.changes p held) (is.sound.within p held) is.changes.within)

    pub kept_freed : contains used p ≡ true → is_among ws p ≡ false → IsKept pages (remove used p) ws (without p taken) (listed taken freed p) kept room taken_room freed_room
    kept_freed held settled = record {
      sound = sound_remove is.sound p held settled;
      changes = changes_freed is.changes p (is.sound.within p held) held;
      before = subst (λ s. IsSound pages s (take kept ws)) (sym (before_freed is.changes p (is.sound.within p held) held)) is.before;
      longer = is.longer;
      enough = is.enough;
      enough_taken = is.enough_taken;
      enough_freed = is.enough_freed;
    }

-- what has come to wait stands after what waited
pub waits_behind : {X : Type 0} (kept : ℕ) (ws : List X) → ws ≡ take kept ws ++ drop kept ws
waits_behind kept ws = sym (take-append-drop kept ws)
