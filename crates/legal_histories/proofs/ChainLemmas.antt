-- Chains of points.
use Rattle.legal_histories.specs.Legal.{Chain}
use Rattle.legal_histories.specs.Legal.Chain.{stays, begin, silent, entry}
use Rattle.legal_histories.specs.Point.{Point}

pub joined : (first middle last : Point) → Chain first middle → Chain middle last → Chain first last
joined first middle _ chain stays = chain
joined first middle _ chain (begin {point} more idle command movers) = begin (joined first middle point chain more) idle command movers
joined first middle _ chain (silent {point} more new may) = silent (joined first middle point chain more) new may
joined first middle _ chain (entry {point} more e new follows step) = entry (joined first middle point chain more) e new follows step
