use Rattle.std.proofs.Common.{◌≡◌, ◌<◌, ◌++◌, ◌∷◌, [], List, IsNone, None, length, sym, ◌∙◌, ap, subst, inl, inr, arith}
use Rattle.std.proofs.lemmas.Bool.{cases_lt}
use Rattle.page_cache.specs.domain_base.declared.place.Home.{Home}
use Rattle.page_cache.specs.Cache.{frames_of, kept_of, order_of}
use Rattle.page_cache.specs.Frames.{Frames}
use Rattle.file_pages.specs.Lent.{AreKept, used_each}
use Rattle.file_pages.proofs.LentHomes.{ComeWithin, adds, displaces, kept_added, kept_all, kept_still, keeps_all, keeps_then}
use Rattle.file_pages.proofs.held.FilePages.keep.Goals as goal

pub keep-requires-clause-new : goal.keep-requires-clause-new
keep-requires-clause-new c = subst (λ (f : Frames). IsNone (f c.args.home)) (sym c.touch_each.ensures.keeps.frames) c.requires.new

pub returns-in-Ok-clause-adds : goal.returns-in-Ok-clause-adds
returns-in-Ok-clause-adds c = λ less.
    let old = c.args.self.now.cache in
    let used = c.touch_each.new.cache in
    let lent : List Home = c.args.self.now.lent.items in
    let keeps = c.touch_each.ensures.keeps in
    let same = keeps.kept in
    let order = subst (λ (l : List Home). order_of used ≡ used_each (frames_of old) l (order_of old)) c.as_slice.ensures.value c.touch_each.ensures.order in
    adds lent c.args.home c.args.page old used c.keep.new.self keeps order c.requires.new (c.in-Ok.ensures.adds (omega (arith, same, less)))

pub returns-in-Ok-clause-displaces : goal.returns-in-Ok-clause-displaces
returns-in-Ok-clause-displaces c = λ full.
    let old = c.args.self.now.cache in
    let used = c.touch_each.new.cache in
    let lent : List Home = c.args.self.now.lent.items in
    let keeps = c.touch_each.ensures.keeps in
    let within = subst (λ (l : List Home). ComeWithin (length l) l (frames_of old) (order_of used)) c.as_slice.ensures.value c.touch_each.ensures.within in
    let size = ap (λ (l : List Home). length l) c.as_slice.ensures.value in
    let few : length lent < 4 = omega (arith, c.as_slice.ensures.len, size, c.requires.few) in
    let order = subst (λ (l : List Home). order_of used ≡ used_each (frames_of old) l (order_of old)) c.as_slice.ensures.value c.touch_each.ensures.order in
    displaces lent c.args.home c.args.page old used c.keep.new.self keeps order within c.args.self.now.kept few c.requires.clean c.frames_are_counted.ensures.dirty full (c.in-Ok.ensures.replaces (keeps.kept ∙ full))

pub invariant_of-self : goal.invariant_of-self
invariant_of-self c =
    let old = c.args.self.now.cache in
    let used = c.touch_each.new.cache in
    let new = c.keep.new.self in
    let lent : List Home = c.args.self.now.lent.items in
    let home = c.args.home in
    let keeps = c.touch_each.ensures.keeps in
    let within = subst (λ (l : List Home). ComeWithin (length l) l (frames_of old) (order_of used)) c.as_slice.ensures.value c.touch_each.ensures.within in
    let size = ap (λ (l : List Home). length l) c.as_slice.ensures.value in
    let few : length lent < 4 = omega (arith, c.as_slice.ensures.len, size, c.requires.few) in
    let order = subst (λ (l : List Home). order_of used ≡ used_each (frames_of old) l (order_of old)) c.as_slice.ensures.value c.touch_each.ensures.order in
    let most = c.frames_are_counted.ensures.kept in
    let same = keeps.kept in
    let kept : AreKept (frames_of new) (lent ++ home ∷ []) =
    elim (cases_lt (kept_of old) 1024) [
      | inl less ↦ kept_added lent home (record { page = c.args.page; waits = None }) old new c.args.self.now.kept
          (adds lent home c.args.page old used new keeps order c.requires.new (c.in-Ok.ensures.adds (omega (arith, same, less)))).frames
      | inr all ↦ let full : kept_of old ≡ 1024 = omega (arith, same, most, all) in
          kept_all lent home c.args.page old used new keeps order within c.args.self.now.kept few c.requires.clean c.frames_are_counted.ensures.dirty full (c.in-Ok.ensures.replaces (same ∙ full))
    ] in
    record {
      most = omega (arith, c.push_reserved.ensures.len, c.requires.few);
      room = c.push_reserved.ensures.capacity ∙ c.args.self.now.room;
      kept = subst (λ (l : List Home). AreKept (frames_of new) l) (sym c.push_reserved.ensures.items) kept;
    }

pub invariant_of-self-in-Err-1 : goal.invariant_of-self-in-Err-1
invariant_of-self-in-Err-1 c =
    let old = c.args.self.now.cache in
    let used = c.touch_each.new.cache in
    let new = c.keep.new.self in
    record {
      most = c.args.self.now.most;
      room = c.args.self.now.room;
      kept = kept_still old new c.args.self.now.lent.items (keeps_then old used new c.touch_each.ensures.keeps (keeps_all used new c.in-Err.ensures.err)) c.args.self.now.kept;
    }
