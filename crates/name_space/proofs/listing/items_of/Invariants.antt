use Rattle.std.proofs.Common.{◌≡◌, map}
use Rattle.name_space.specs.Lists.{item_of}
use Rattle.name_space.proofs.listing.items_of.Given as goal

abbrev pub invariant-loop-row : goal.invariant-loop-row
invariant-loop-row l = l.items.items ≡ map item_of l.yielded
