use Rattle.std.proofs.Common.{None}
use Rattle.page_cache.specs.Cache.{frames_of}
use Rattle.page_cache.specs.Frames.{with_frame}
use Rattle.file_pages.proofs.LentHomes.{kept_along, kept_without}
use Rattle.file_pages.proofs.held.FilePages.drop_frame.Goals as goal

pub invariant_of-self : goal.invariant_of-self
invariant_of-self c =
    let old = frames_of c.args.self.now.cache in
    let items = c.args.self.now.lent.items in
    record {
      most = c.args.self.now.most;
      room = c.args.self.now.room;
      kept =
          kept_along (with_frame c.args.home None old) (frames_of c.drop_frame.new.self) items c.drop_frame.ensures.changes.frames
          (kept_without old items c.args.home c.args.self.now.kept c.requires.free);
    }
