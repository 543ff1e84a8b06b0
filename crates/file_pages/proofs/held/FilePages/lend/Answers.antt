use Rattle.std.proofs.Common.{◌≡◌, ◌∙◌, IsSome, List, false, sym, subst, arith}
use Rattle.page_cache.specs.domain_base.declared.place.Home.{Home}
use Rattle.page_cache.specs.Cache.{frames_of}
use Rattle.page_cache.specs.Frames.{Frames}
use Rattle.file_pages.specs.Lent.{AreKept, is_among}
use Rattle.file_pages.proofs.LentHomes.{kept_one_more, kept_still, keeps_used}
use Rattle.file_pages.proofs.held.FilePages.lend.Goals as goal

pub invariant_of-self : goal.invariant_of-self
invariant_of-self c =
    let old = c.args.self.now.cache in
    record {
      most = c.args.self.now.most;
      room = c.args.self.now.room;
      kept = kept_still old c.touch.new.self c.args.self.now.lent.items (keeps_used c.args.home old c.touch.new.self c.touch.ensures) c.args.self.now.kept;
    }

pub invariant_of-self-2 : goal.invariant_of-self-2
invariant_of-self-2 c =
    let old = c.args.self.now.cache in
    let new = c.touch.new.self in
    let items = c.args.self.now.lent.items in
    let keeps = keeps_used c.args.home old new c.touch.ensures in
    let free = subst (λ (l : List Home). is_among l c.args.home ≡ false) c.as_slice.ensures.value (sym c.contains.ensures ∙ c.if-contains.false) in
    record {
      most = omega (arith, c.push_reserved.ensures.len, c.requires.few free);
      room = c.push_reserved.ensures.capacity ∙ c.args.self.now.room;
      kept =
          subst (λ (l : List Home). AreKept (frames_of new) l) (sym c.push_reserved.ensures.items)
          (kept_one_more (frames_of new) items c.args.home (kept_still old new items keeps c.args.self.now.kept) (subst (λ (f : Frames). IsSome (f c.args.home)) (sym keeps.frames) c.requires.kept));
    }

pub returns-then-contains-clause-keeps : goal.returns-then-contains-clause-keeps
returns-then-contains-clause-keeps c = keeps_used c.args.home c.args.self.now.cache c.touch.new.self c.touch.ensures

pub returns-clause-keeps : goal.returns-clause-keeps
returns-clause-keeps c = keeps_used c.args.home c.args.self.now.cache c.touch.new.self c.touch.ensures
