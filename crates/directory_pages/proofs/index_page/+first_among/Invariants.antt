use Rattle.std.proofs.Common.{◌-◌}
use Rattle.directory_pages.proofs.index_page.+first_among.Given as goal

abbrev pub decreases-first_among : goal.decreases-first_among
decreases-first_among l = l.high - l.low
