use Rattle.std.proofs.Common.{rules, ◌≡◌, Some, sym, subst, nat_eq}
use Rattle.lru.specs.LruCache.{lru_cache, put_entries}
use Rattle.page_cache.specs.Entries.{Becomes, Entries, frame_at}
use Rattle.page_cache.proofs.Entries.{put_again, some_is}
use Rattle.page_cache.proofs.frames.set_frame.Goals as goal

pub returns-clause-becomes : goal.returns-clause-becomes
returns-clause-becomes c =
    let old = c.args.frames.now in
    let there = some_is (frame_at old.entries c.args.number) c.requires in
    let is : c.put.new.self.entries ≡ put_entries nat_eq (lru_cache old.entries old.cap) c.args.number c.args.frame = search rules in
    subst (λ (l : Entries). Becomes c.args.number (Some c.args.frame) old.entries l) (sym is) (put_again c.args.number old.entries c.len.ensures.valid.0 there.0 c.args.frame old.cap there.1)
