use Rattle.std.proofs.Common.{◌≡◌, take}
use Rattle.page_cache.specs.Cache.{frames_of, order_of}
use Rattle.file_pages.specs.Lent.{KeepsFrames, used_each}
use Rattle.file_pages.proofs.LentHomes.{ComeWithin}
use Rattle.file_pages.proofs.homes.touch_each.Given as goal

abbrev pub invariant-loop-home : goal.invariant-loop-home
invariant-loop-home l = record {
  keeps : KeepsFrames l.initial.cache l.cache;
  order : order_of l.cache ≡ used_each (frames_of l.initial.cache) (take l.home-index l.homes) (order_of l.initial.cache);
  within : ComeWithin l.home-index (take l.home-index l.homes) (frames_of l.initial.cache) (order_of l.cache);
}
