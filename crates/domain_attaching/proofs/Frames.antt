-- Members and cells, of two anchors of one domain.
use Rattle.std.proofs.Common.{ℕ, Option, Some, None, IsSomeAnd}
use Rattle.attached_domain.specs.domain_base.declared.place.CellAt.{CellAt}
use Rattle.attached_domain.specs.domain_base.declared.place.Home.{Home}
use Rattle.attached_domain.specs.metadata_cells.Cell.{Cell}
use Rattle.attached_domain.specs.disk_label.declared.anchor.Anchor.{Anchor}
use Rattle.attached_domain.specs.log_recovery.Readable.{restarted}
use Rattle.attached_domain.specs.log_ring.Homes.{IsMember}
use Rattle.attached_domain.specs.domain_layout.Owners.{IsOnTable}
use Rattle.attached_domain.specs.domain_layout.Reached.{IsWithin}
use Rattle.attached_domain.specs.domain_standing.Domain.{DomainNow, layout_of}

-- what is so of a value that is there, is another so
pub some_too : (X : Type 0) (P Q : X → Type 0) (o : Option X) → ((x : X) → P x → Q x) → IsSomeAnd o P → IsSomeAnd o Q
some_too X P Q (Some x) on is = on x is
some_too X P Q None on is = is

-- the domain with its anchor written anew
abbrev pub anew : DomainNow → (number slot start group : ℕ) → DomainNow
anew d number slot start group = record d { frame = record d.frame { anchor = restarted d.frame.anchor number slot start group } }

pub member_to : (a : Anchor) (number slot start group vol : ℕ) → IsMember a vol → IsMember (restarted a number slot start group) vol
member_to a number slot start group vol is = record { first = is.first; last = is.last; there = is.there; whole = is.whole }

pub member_from : (a : Anchor) (number slot start group vol : ℕ) → IsMember (restarted a number slot start group) vol → IsMember a vol
member_from a number slot start group vol is = record { first = is.first; last = is.last; there = is.there; whole = is.whole }

module _ (d : DomainNow) (number slot start group : ℕ) where
  pub within_to : (home : Home) → IsWithin d.frame home → IsWithin (anew d number slot start group).frame home
  within_to home is = (member_to d.frame.anchor number slot start group home.vol is.0, is.1)

  pub within_from : (home : Home) → IsWithin (anew d number slot start group).frame home → IsWithin d.frame home
  within_from home is = (member_from d.frame.anchor number slot start group home.vol is.0, is.1)

  pub on_from : (at : CellAt) (cell : Cell) → IsOnTable d.pages (layout_of (anew d number slot start group)) at cell → IsOnTable d.pages (layout_of d) at cell
  on_from at cell on = record { member = member_from d.frame.anchor number slot start group at.vol on.member; table = on.table; stands = on.stands }
