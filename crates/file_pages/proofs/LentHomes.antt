-- Homes that are lent, and their frames.
use Rattle.std.proofs.Common.{◌≡◌, ◌≢◌, ◌==◌, ◌⊎◌, ◌||◌, ℕ, ◌+◌, ◌<◌, ◌≤◌, Bool, true, false, cond, List, [], ◌∷◌, ◌++◌, length, length-append, Option, None, Some, IsNone, IsSome, is_none, is_some, refl, sym, ◌∙◌, ap, subst, inl, inr, arith}
use Rattle.std.proofs.lemmas.Bool.{both_ways, false_from_ne_true, ne_eqb}
use Rattle.std.specs.Option.{option_map}
use Rattle.page_cache.specs.domain_base.declared.place.Home.{Home}
use Rattle.page_cache.specs.page_store.Pages.{same_home}
use Rattle.page_cache.specs.page_store.sorted_sets.Homes.{number_of}
use Rattle.page_cache.specs.declared.cache.PageCache.{PageCache}
use Rattle.page_cache.specs.declared.frame.Frame.{Frame}
use Rattle.page_cache.specs.Cache.{Changes, KeepsAll, Replaces, dirty_of, frames_of, kept_of, order_of}
use Rattle.page_cache.specs.Entries.{one_for}
use Rattle.page_cache.specs.Frames.{Frames, cleaned, group_of, groups, is_clean, placed, with_frame, without_number}
use Rattle.file_pages.specs.Lent.{Adds, AreKept, ComesWithin, Displaces, KeepsFrames, clean_of, is_among, used_each, with_home, without_homes}
use Rattle.file_pages.proofs.LeastUsed.{free_of, used_all, used_one_more, without_both}
use Rattle.file_pages.proofs.SameHomes.{homes_same, same_itself}
use Rattle.file_pages.proofs.UseOrder.{not_last, used_another, used_itself}

-- Homes.

-- a home that is among others and one more is one of them, or that one
pub among_one_more : (homes : List Home) (one home : Home) → is_among (homes ++ one ∷ []) home ≡ true → (is_among homes home ≡ true) ⊎ (home ≡ one)
among_one_more [] one home is = inr (homes_same home one (alone (same_home home one) is))
  where
    alone : (b : Bool) → (b || false) ≡ true → b ≡ true
    alone true is = refl
    alone false is = is
among_one_more (first ∷ homes) one home is = go (same_home home first) is (among_one_more homes one home)
  where
    go : (b : Bool) → (b || is_among (homes ++ one ∷ []) home) ≡ true → (is_among (homes ++ one ∷ []) home ≡ true → (is_among homes home ≡ true) ⊎ (home ≡ one)) → ((b || is_among homes home) ≡ true) ⊎ (home ≡ one)
    go true is rest = inl refl
    go false is rest = rest is

-- Frames.

-- a home keeps its frame
with_its_own : (home : Home) (frames : Frames) → with_frame home (frames home) frames ≡ frames
with_its_own home frames = λ i h. at h i
  where
    at : (h : Home) → cond (same_home h home) (frames home) (frames h) ≡ frames h
    at h = (elim (same_home h home) as (λ b. same_home h home ≡ b → cond b (frames home) (frames h) ≡ frames h) [
      | true ↦ λ is. ap frames (sym (homes_same h home is))
      | false ↦ λ is. refl
    ]) refl

same_count : (a b x : ℕ) → a + x ≡ b + x → a ≡ b
same_count a b x is = omega (arith, is)

pub keeps_itself : (cache : PageCache) → KeepsFrames cache cache
keeps_itself cache = record { frames = refl; kept = refl; dirty = refl }

pub keeps_then : (first next last : PageCache) → KeepsFrames first next → KeepsFrames next last → KeepsFrames first last
keeps_then first next last one two = record { frames = two.frames ∙ one.frames; kept = two.kept ∙ one.kept; dirty = two.dirty ∙ one.dirty }

pub keeps_all : (old new : PageCache) → KeepsAll old new → KeepsFrames old new
keeps_all old new keeps = record { frames = keeps.frames; kept = keeps.kept; dirty = keeps.dirty }

-- a use changes no frame
pub keeps_used : (home : Home) (old new : PageCache) → Changes home (frames_of old home) old new → KeepsFrames old new
keeps_used home old new changes = record {
  frames = changes.frames ∙ with_its_own home (frames_of old);
  kept = same_count _ _ _ changes.kept;
  dirty = same_count _ _ _ changes.dirty;
}

-- a count to which none is added
count_new : {X : Type 0} (n m : ℕ) (o : Option X) → IsNone o → n + one_for o ≡ m → n ≡ m
count_new n m None none is = omega (arith, is)
count_new n m (Some x) none is = absurd (both_ways true none refl)

none_waits : (frame : Option Frame) → IsNone frame → IsNone (group_of frame)
none_waits None none = none
none_waits (Some frame) none = absurd (both_ways true none refl)

-- uses of frames, and then a clean one for a home that has none
pub adds : (lent : List Home) (home : Home) (page : List ℕ) (first used last : PageCache) → KeepsFrames first used → order_of used ≡ used_each (frames_of first) lent (order_of first) → IsNone (frames_of first home) → Changes home (Some (clean_of page)) used last → Adds lent home page first last
adds lent home page first used last keeps order none changes = record {
  frames = changes.frames ∙ ap (with_frame home (Some (clean_of page))) keeps.frames;
  order = changes.order ∙ ap (placed (number_of home) (Some (clean_of page))) order;
  kept = count_new (kept_of last) (kept_of used + 1) (frames_of used home) none_used changes.kept ∙ ap (λ (n : ℕ). n + 1) keeps.kept;
  dirty =
      let same = keeps.dirty in
      let now : dirty_of last ≡ dirty_of used + 0 = count_new (dirty_of last) (dirty_of used + 0) (groups (frames_of used) home) (none_waits (frames_of used home) none_used) changes.dirty in
      omega (arith, same, now);
}
  where
    none_used : IsNone (frames_of used home)
    none_used = subst (λ (f : Frames). IsNone (f home)) (sym keeps.frames) none

-- Lent homes and their frames.

pub kept_still : (old new : PageCache) (homes : List Home) → KeepsFrames old new → AreKept (frames_of old) homes → AreKept (frames_of new) homes
kept_still old new homes keeps kept home among = subst (λ (f : Frames). IsSome (f home)) (sym keeps.frames) (kept home among)

-- a home that has no frame is not lent
pub none_lent : (frames : Frames) (homes : List Home) (home : Home) → AreKept frames homes → IsNone (frames home) → is_among homes home ≡ false
none_lent frames homes home kept none = false_from_ne_true (is_among homes home) (λ among. both_ways (is_some (frames home)) none (kept home among))

-- one more is lent that has a frame
pub kept_one_more : (frames : Frames) (homes : List Home) (one : Home) → AreKept frames homes → IsSome (frames one) → AreKept frames (homes ++ one ∷ [])
kept_one_more frames homes one kept some home among = elim (among_one_more homes one home among) [
  | inl was ↦ kept home was
  | inr is ↦ subst (λ (h : Home). IsSome (frames h)) (sym is) some
]

-- a home has another frame
pub kept_with : (frames : Frames) (homes : List Home) (one : Home) (frame : Option Frame) → AreKept frames homes → IsSome frame → AreKept (with_frame one frame frames) homes
kept_with frames homes one frame kept some home among = go (same_home home one)
  where
    go : (b : Bool) → IsSome (cond b frame (frames home))
    go true = some
    go false = kept home among

-- a home that is not lent has none
pub kept_without : (frames : Frames) (homes : List Home) (one : Home) → AreKept frames homes → is_among homes one ≡ false → AreKept (with_frame one None frames) homes
kept_without frames homes one kept free home among = go (same_home home one) refl
  where
    go : (b : Bool) → same_home home one ≡ b → IsSome (cond b None (frames home))
    go true is = absurd (both_ways (is_among homes one) free (ap (is_among homes) (sym (homes_same home one is)) ∙ among))
    go false is = kept home among

pub kept_along : (one other : Frames) (homes : List Home) → other ≡ one → AreKept one homes → AreKept other homes
kept_along one other homes is kept home among = subst (λ (f : Frames). IsSome (f home)) (sym is) (kept home among)

-- a frame that waits for no group is clean
clean_frame : (frame : Option Frame) → IsSome frame → group_of frame ≡ None → is_clean frame ≡ true
clean_frame None some none = absurd (both_ways false refl some)
clean_frame (Some frame) some none = ap is_none none

pub some_cleaned : (frame : Option Frame) → IsSome frame → IsSome (option_map cleaned frame)
some_cleaned None some = some
some_cleaned (Some frame) some = refl

pub some_waits : (frame : Option Frame) (group : ℕ) → group_of frame ≡ Some group → IsSome frame
some_waits None group is = cc
some_waits (Some frame) group is = refl

-- Uses of several frames, one after the other.

-- each of these comes among the first k of an order, if its frame is clean
abbrev pub ComeWithin : ℕ → List Home → Frames → List ℕ → Type 0
ComeWithin k homes frames order = (home : Home) → is_among homes home ≡ true → is_clean (frames home) ≡ true → ComesWithin k (number_of home) order

pub one_more_used : (k : ℕ) (homes : List Home) (one : Home) (first old new : PageCache) → KeepsFrames first old → Changes one (frames_of old one) old new → ComeWithin k homes (frames_of first) (order_of old) → ComeWithin (k + 1) (homes ++ one ∷ []) (frames_of first) (order_of new)
one_more_used k homes one first old new keeps changes so_far home among clean =
    subst (λ (order : List ℕ). ComesWithin (k + 1) (number_of home) order) (sym changes.order) (elim (among_one_more homes one home among) [
      | inl was ↦ used_another k (number_of home) (number_of one) (frames_of old one) (order_of old) (so_far home was clean)
      | inr is ↦ subst (λ (h : Home). ComesWithin (k + 1) (number_of h) (placed (number_of one) (frames_of old one) (order_of old))) (sym is)
          (used_itself k (number_of one) (frames_of old one) (order_of old) (ap (λ (f : Frames). is_clean (f one)) keeps.frames ∙ subst (λ (h : Home). is_clean (frames_of first h) ≡ true) is clean))
    ])

-- the order after one more use
pub order_once_more : (homes : List Home) (one : Home) (first old new : PageCache) → KeepsFrames first old → Changes one (frames_of old one) old new → order_of old ≡ used_each (frames_of first) homes (order_of first) → order_of new ≡ used_each (frames_of first) (homes ++ one ∷ []) (order_of first)
order_once_more homes one first old new keeps changes so_far =
    changes.order
    ∙ ap (λ (f : Frames). placed (number_of one) (f one) (order_of old)) keeps.frames
    ∙ ap (placed (number_of one) (frames_of first one)) so_far
    ∙ sym (used_one_more (frames_of first) homes one (order_of first))

-- A frame that goes as another one is kept.
module _ (lent : List Home) (home : Home) (page : List ℕ) (first used last : PageCache) (keeps : KeepsFrames first used) (order : order_of used ≡ used_each (frames_of first) lent (order_of first)) (within : ComeWithin (length lent) lent (frames_of first) (order_of used)) (kept : AreKept (frames_of first) lent) (few : length lent < 4) (clean : dirty_of first ≤ 1020) (counted : length (order_of used) + dirty_of used ≡ kept_of used) (full : kept_of first ≡ 1024) (replaces : Replaces home (clean_of page) used last) where
  few_before : length lent ≤ length replaces.earlier
  few_before =
      let size = ap (λ (l : List ℕ). length l) replaces.last ∙ length-append replaces.earlier (replaces.goes ∷ []) in
      let same_dirty = keeps.dirty in
      let same_kept = keeps.kept in
      omega (arith, size, counted, same_dirty, same_kept, full, clean, few)

  was_clean : (other : Home) → number_of other ≡ replaces.goes → groups (frames_of first) other ≡ None
  was_clean other is = sym (ap (λ (f : Frames). groups f other) keeps.frames) ∙ replaces.was_clean other is

  stays : (other : Home) → is_among lent other ≡ true → number_of other ≢ replaces.goes
  stays other among is =
      not_last (length lent) (number_of other) replaces.goes replaces.earlier few_before
      (subst (λ (order : List ℕ). ComesWithin (length lent) (number_of other) order) replaces.last
      (within other among (clean_frame (frames_of first other) (kept other among) (was_clean other is)))) is

  frames_are : frames_of last ≡ with_frame home (Some (clean_of page)) (without_number replaces.goes (frames_of first))
  frames_are = replaces.frames ∙ ap (λ (f : Frames). with_frame home (Some (clean_of page)) (without_number replaces.goes f)) keeps.frames

  last_used : used_each (frames_of first) lent (order_of first) ≡ replaces.earlier ++ replaces.goes ∷ []
  last_used = sym order ∙ replaces.last

  least_used : without_homes lent (order_of first) ≡ without_homes lent replaces.earlier ++ replaces.goes ∷ []
  least_used =
      sym (used_all lent (frames_of first) (order_of first))
      ∙ ap (without_homes lent) last_used
      ∙ without_both lent replaces.goes replaces.earlier (free_of lent replaces.goes stays)

  pub displaces : Displaces lent home page first last
  displaces = record {
    goes = replaces.goes;
    earlier = replaces.earlier;
    last = last_used;
    least = least_used;
    was_clean = was_clean;
    was_free = λ other is. false_from_ne_true (is_among lent other) (λ among. stays other among is);
    frames = frames_are;
    order = replaces.order;
    kept = replaces.kept ∙ keeps.kept;
    dirty = replaces.dirty ∙ keeps.dirty;
  }

  kept_others : AreKept (without_number replaces.goes (frames_of first)) lent
  kept_others other among =
      let is : (replaces.goes == number_of other) ≡ false = ne_eqb replaces.goes (number_of other) (λ same. stays other among (sym same)) in
      subst (λ (b : Bool). IsSome (cond b None (frames_of first other))) (sym is) (kept other among)

  pub kept_all : AreKept (frames_of last) (lent ++ home ∷ [])
  kept_all =
      kept_along (with_frame home (Some (clean_of page)) (without_number replaces.goes (frames_of first))) (frames_of last) (lent ++ home ∷ []) frames_are
      (kept_one_more _ lent home (kept_with _ lent home _ kept_others refl) (its_own (same_home home home) (same_itself home)))
    where
      its_own : (b : Bool) → b ≡ true → IsSome (cond b (Some (clean_of page)) (without_number replaces.goes (frames_of first) home))
      its_own true is = refl
      its_own false is = cc

-- No frame goes.
pub kept_added : (lent : List Home) (home : Home) (frame : Frame) (first last : PageCache) → AreKept (frames_of first) lent → frames_of last ≡ with_frame home (Some frame) (frames_of first) → AreKept (frames_of last) (lent ++ home ∷ [])
kept_added lent home frame first last kept frames =
    kept_along (with_frame home (Some frame) (frames_of first)) (frames_of last) (lent ++ home ∷ []) frames
    (kept_one_more _ lent home (kept_with _ lent home _ kept refl) (its_own (same_home home home) (same_itself home)))
  where
    its_own : (b : Bool) → b ≡ true → IsSome (cond b (Some frame) (frames_of first home))
    its_own true is = refl
    its_own false is = cc

-- One that was not lent is among those that are.
pub with_new : (homes : List Home) (home : Home) → is_among homes home ≡ false → homes ++ home ∷ [] ≡ with_home homes home
with_new homes home free = sym (ap (λ (b : Bool). cond b homes (homes ++ home ∷ [])) free)

-- One that was changes nothing.
pub with_old : (homes : List Home) (home : Home) → is_among homes home ≡ true → homes ≡ with_home homes home
with_old homes home among = sym (ap (λ (b : Bool). cond b homes (homes ++ home ∷ [])) among)
