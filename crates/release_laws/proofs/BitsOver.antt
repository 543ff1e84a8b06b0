-- Bits of bitmaps say what they said after steps.
use Rattle.std.proofs.Common.{ℕ, ◌<◌, sym, subst}
use Rattle.standing_laws.specs.log_ring.Homes.{IsMember}
use Rattle.standing_laws.specs.release_list.Standing.{Files}
use Rattle.standing_laws.specs.domain_layout.Reached.{Frame, first_cells}
use Rattle.standing_laws.specs.domain_standing.Chains.{IndexesAt}
use Rattle.standing_laws.specs.domain_standing.Domain.{DomainNow}
use Rattle.standing_laws.specs.domain_standing.Holders.Holder.{of_volume}
use Rattle.standing_laws.specs.domain_standing.Standing.{IsMarkedBut}
use Rattle.standing_laws.specs.free_space.Spaces.{Spaces}
use Rattle.standing_laws.specs.Leads.{StandsBelow}
use Rattle.standing_laws.specs.OtherPages.{KeepsVolumes}
use Rattle.standing_laws.proofs.BitsStay.{bits_stay}
use Rattle.release_laws.specs.Released.{Releases}
use Rattle.release_laws.proofs.PagesOver.{held_same}

module _ (group count : ℕ) (d now : DomainNow) (files files_now : Files) (indexes : IndexesAt) (below : StandsBelow d files indexes) (after : StandsBelow now files_now indexes) (r : Releases group count d now files files_now) where
  keeps : KeepsVolumes d now
  keeps home member first = held_same group count d now files files_now indexes below after r home of_volume (member, first) (subst (λ (f : Frame). IsMember f.anchor home.vol × (home.page < first_cells f home.vol)) (sym r.frame) (member, first)) (λ n e. absurd (cc)) (λ e. absurd (cc))

  pub bits_over : (space : Spaces) → IsMarkedBut (record d { space = space }) → IsMarkedBut (record now { space = space })
  bits_over = bits_stay d now below.tables r.frame keeps
