use Rattle.std.proofs.Common.{refl}
use Rattle.page_cache.specs.Cache.{frames_of}
use Rattle.file_pages.proofs.LentHomes.{kept_along, kept_with}
use Rattle.file_pages.proofs.held.FilePages.put.Goals as goal

pub invariant_of-self : goal.invariant_of-self
invariant_of-self c =
    let old = frames_of c.args.self.now.cache in
    let items = c.args.self.now.lent.items in
    record {
      most = c.args.self.now.most;
      room = c.args.self.now.room;
      kept = kept_along _ (frames_of c.write.new.self) items c.write.ensures.frames (kept_with old items c.args.home _ c.args.self.now.kept refl);
    }
