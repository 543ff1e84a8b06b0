use Rattle.std.proofs.Common.{◌-◌}
use Rattle.directory_pages.proofs.search.+page_from.Given as goal

abbrev pub decreases-page_from : goal.decreases-page_from
decreases-page_from g l = l.high - l.low
