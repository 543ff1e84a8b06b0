use Rattle.page_cache.specs.Cache.{frames_of}
use Rattle.file_pages.proofs.LentHomes.{kept_along, kept_with, some_cleaned}
use Rattle.file_pages.proofs.held.FilePages.written.Goals as goal

pub invariant_of-self : goal.invariant_of-self
invariant_of-self c =
    let old = frames_of c.args.self.now.cache in
    let items = c.args.self.now.lent.items in
    record {
      most = c.args.self.now.most;
      room = c.args.self.now.room;
      kept =
          kept_along _ (frames_of c.written.new.self) items c.written.ensures.frames
          (kept_with old items c.args.home _ c.args.self.now.kept (some_cleaned (old c.args.home) c.requires));
    }
