-- Changes of a cache, and one after the other.
use Rattle.std.proofs.Common.{rules, Result, Ok, Err, OnOk, ◌≡◌, ◌==◌, ◌&&◌, ◌∙◌, ◌^◌, ◌<◌, ◌≤◌, ℕ, Bool, true, false, List, Option, Some, None, length, nat_lt, if◌then◌else◌, eqb-true, refl, sym, ap, subst, arith}
use Rattle.std.specs.Option.{option_map}
use mathlib.Core.Bool.{false≢true}
use Rattle.page_store.specs.domain_base.declared.page.Page.{Page}
use Rattle.page_store.specs.domain_base.declared.place.Home.{Home}
use Rattle.page_store.specs.Pages.{same_home}
use Rattle.page_store.specs.sorted_sets.Homes.{number_of}
use Rattle.page_cache.specs.declared.cache.PageCache.{PageCache}
use Rattle.page_cache.specs.declared.frame.Frame.{Frame}
use Rattle.page_cache.specs.Frames.{Frames, cleaned, group_of, groups, placed, with_frame, without_number}
use Rattle.page_cache.specs.Entries.{Becomes, Displaces, Entries, frame_at, frames_in, groups_in, one_for}
use Rattle.page_cache.specs.Cache.{Changes, KeepsAll, Replaces, dirty_of, frames_of, kept_of}
use Rattle.page_cache.specs.Queues.{Groups, IsQueueOf, IsSound, Moves, with_group}
use Rattle.page_cache.proofs.Entries.{clean_or_waits, not_in_order, waits_not}

-- what is found at a home is what its number has
pub found : (entries : Entries) (home : Home) → home.page < 2 ^ 32 → frames_in entries home ≡ frame_at entries (number_of home)
found entries home narrow = let t : nat_lt home.page (2 ^ 32) ≡ true = grind (arith, narrow) in rw t refl

-- the queue of what waits the same
pub same_queue : (one two : Groups) (queue : List (ℕ × Home)) → ((n : ℕ) → one n ≡ two n) → IsQueueOf one queue → IsQueueOf two queue
same_queue one two queue same of = subst (λ g. IsQueueOf g queue) (λ i n. same n i) of

-- the groups once a number has another frame
pub groups_after : (old new : Entries) (number : ℕ) (frame : Option Frame) → Becomes number frame old new → (n : ℕ) → with_group number (group_of frame) (groups_in old) n ≡ groups_in new n
groups_after old new number frame becomes n = (elim (number == n) as (λ b. frame_at new n ≡ (if b then frame else frame_at old n) → (if b then group_of frame else groups_in old n) ≡ groups_in new n) [
  | true ↦ λ is. sym (ap group_of is)
  | false ↦ λ is. sym (ap group_of is)
]) (becomes.frames n)

both : (a b : Bool) → (a && b) ≡ true → (a ≡ true) × (b ≡ true)
both true b is = (refl, is)
both false b is = absurd (false≢true is)

same : (h home : Home) → same_home h home ≡ true → h ≡ home
same h home is =
    let parts = both (h.vol == home.vol) (h.page == home.page) is in
    let vol = eqb-true h.vol home.vol parts.0 in
    let page = eqb-true h.page home.page parts.1 in
    λ i. record { vol = vol i; page = page i }

-- the frames are the same with none at a home that has none
pub with_none : (home : Home) (frames : Frames) → frames home ≡ None → frames ≡ with_frame home None frames
with_none home frames none = λ i h. (elim (same_home h home) as (λ b. same_home h home ≡ b → frames h ≡ (if b then None else frames h)) [
  | true ↦ λ t. ap frames (same h home t) ∙ none
  | false ↦ λ t. refl
] refl) i

-- using a frame that is not kept changes nothing
pub changes_nothing : (home : Home) (cache : PageCache) → home.page < 2 ^ 32 → frames_of cache home ≡ None → Changes home (frames_of cache home) cache cache
changes_nothing home cache width none = rw none (record {
  frames = with_none home (frames_of cache) none;
  order = sym (not_in_order (number_of home) cache.frames.entries (sym (found cache.frames.entries home width) ∙ none));
  kept = rw none refl;
  dirty = rw none refl;
})

module _ (home : Home) (frame : Option Frame) (first next last : PageCache) where
  -- a change after one of none
  pub after_same : KeepsAll first next → Changes home frame next last → Changes home frame first last
  after_same same changes = record {
    frames = changes.frames ∙ ap (with_frame home frame) same.frames;
    order = changes.order ∙ ap (placed (number_of home) frame) same.order;
    kept = omega (arith, changes.kept, same.kept, ap (λ (f : Frames). one_for (f home)) same.frames);
    dirty = omega (arith, changes.dirty, same.dirty, ap (λ (f : Frames). one_for (groups f home)) same.frames);
  }

-- so of a frame that is replaced
pub replaces_after : (home : Home) (frame : Frame) (first next last : PageCache) → KeepsAll first next → Replaces home frame next last → Replaces home frame first last
replaces_after home frame first next last same replaces = record {
  goes = replaces.goes;
  earlier = replaces.earlier;
  last = sym same.order ∙ replaces.last;
  was_clean = λ other at. ap (λ (f : Frames). groups f other) (sym same.frames) ∙ replaces.was_clean other at;
  frames = replaces.frames ∙ ap (λ (f : Frames). with_frame home (Some frame) (without_number replaces.goes f)) same.frames;
  order = replaces.order;
  kept = replaces.kept ∙ same.kept;
  dirty = replaces.dirty ∙ same.dirty;
}

same_home-same : (home : Home) → same_home home home ≡ true
same_home-same home = grind arith

-- a frame that is used has the bytes that it had
pub same_page : (home : Home) (old new : PageCache) → Changes home (frames_of old home) old new → option_map (λ (f : Frame). f.page) (frames_of new home) ≡ option_map (λ (f : Frame). f.page) (frames_of old home)
same_page home old new used =
    ap (λ (f : Frames). option_map (λ (f : Frame). f.page) (f home)) used.frames
    ∙ ap (λ b. option_map (λ (f : Frame). f.page) (if b then frames_of old home else frames_of old home)) (same_home-same home)

pub cleaned_waits_not : (frame : Option Frame) → group_of (option_map cleaned frame) ≡ None
cleaned_waits_not None = refl
cleaned_waits_not (Some f) = refl

-- the queue has room for one home more
pub has_room : (entries : Entries) (queue : List (ℕ × Home)) (len room : ℕ) → IsSound entries queue len room → length entries ≤ 1024 → len < room
has_room entries queue len room sound most = omega (arith, sound.parts, sound.fit, most)

-- the queue is that of the frames, once the frame of a home is another one and its home has moved
pub sound_after : (home : Home) → home.page < 2 ^ 32 → (frame : Option Frame) (old new : Entries) (queue moved : List (ℕ × Home)) (len moved_len room new_room : ℕ) (number : ℕ) (group to : Option ℕ) → number ≡ number_of home → Becomes number frame old new → group ≡ groups (frames_in old) home → to ≡ group_of frame → Moves home group to queue moved len moved_len → new_room ≡ room → IsSound old queue len room → IsSound new moved moved_len new_room
sound_after home width frame old new queue moved len moved_len room new_room number group to is becomes waits waits_now moves same sound =
    let here = subst (λ n. Becomes n frame old new) is becomes in
    let at = waits ∙ ap group_of (found old home width) in
    let moves_here = subst (λ g. Moves home (groups_in old (number_of home)) g queue moved len moved_len) waits_now (subst (λ g. Moves home g to queue moved len moved_len) at moves) in
    record {
      queued = same_queue _ _ moved (groups_after old new (number_of home) frame here) (moves_here.queues (groups_in old) sound.queued refl);
      parts = omega (arith, sound.parts, here.kept, here.clean, moves_here.lens (groups_in old) sound.queued refl, clean_or_waits frame, clean_or_waits (frame_at old (number_of home)));
      fit = omega (arith, sound.fit, same);
    }

-- a displaced frame is a replaced one
pub displaced_frames : (home : Home) → home.page < 2 ^ 32 → (frame : Frame) (old new : Entries) (displaces : Displaces (number_of home) frame old new) → frames_in new ≡ with_frame home (Some frame) (without_number displaces.goes (frames_in old))
displaced_frames home width frame old new displaces = let frames = displaces.frames in search rules

-- where the last clean frame is displaced, it is replaced
pub replaces : (home : Home) → home.page < 2 ^ 32 → (frame : Frame) (old new : PageCache) → dirty_of new ≡ dirty_of old → (number : ℕ) → number ≡ number_of home → (result : Result (Unit {0}) Page) → OnOk result (kept_of old ≡ 1024 → Displaces number frame old.frames.entries new.frames.entries) → OnOk result (kept_of old ≡ 1024 → Replaces home frame old new)
replaces home width frame old new dirty number is (Ok u) displaces = λ full.
    let its = subst (λ n. Displaces n frame old.frames.entries new.frames.entries) is (displaces full) in
    record {
      goes = its.goes;
      earlier = its.earlier;
      last = its.last;
      was_clean = λ other at. elim (nat_lt other.page (2 ^ 32)) as (λ b. group_of (if b then frame_at old.frames.entries (number_of other) else None) ≡ None) [
        | true ↦ rw at (waits_not (frame_at old.frames.entries its.goes) its.was_clean)
        | false ↦ refl
      ];
      frames = displaced_frames home width frame old.frames.entries new.frames.entries its;
      order = its.order;
      kept = its.kept;
      dirty = dirty;
    }
replaces home width frame old new dirty number is (Err page) displaces = displaces
