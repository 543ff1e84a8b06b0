use Rattle.std.proofs.Common.{◌≡◌, length, take}
use Rattle.log_ring.specs.page_store.Pages.{Pages}
use Rattle.log_ring.specs.Images.{joined}
use Rattle.meta_log.specs.Log.{images_at}
use Rattle.meta_log.proofs.slots.count_at.Given as goal

abbrev pub invariant-loop-home : goal.invariant-loop-home
invariant-loop-home l = (pages : Pages) → l.count ≡ length (joined (take l.home-index (images_at pages l.homes)) l.pending)
