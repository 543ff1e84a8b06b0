-- The pages of a domain that are brought may be read.
use Rattle.std.proofs.Common.{◌≡◌, true, false, Option, Some, None, IsSome, refl}
use Rattle.attached_domain.specs.domain_base.declared.place.Home.{Home}
use Rattle.attached_domain.specs.page_store.Pages.{Pages}
use Rattle.attached_domain.specs.domain_layout.Reached.{Frame}
use Rattle.attached_domain.specs.Causes.{MayBeRead}
use Rattle.domain_bringing.specs.Brought.{IsWholeDomain}
use Rattle.domain_bringing.proofs.Held.{has_bitmaps}

pub may_be_read : (pages : Pages) (frame : Frame) → IsWholeDomain pages frame → MayBeRead pages frame
may_be_read pages frame whole = record {
  named = whole.good.named;
  no_fault = whole.has.no_fault;
  all = whole.has.all;
  log = whole.good.log;
  few = whole.good.few;
  within = whole.good.inside.table;
  bitmaps = has_bitmaps pages frame whole.good whole.has;
}

-- an anchor names the page of its table
pub table_home : (o : Option Home) → IsSome o → (home : Home) × (o ≡ Some home)
table_home None some = absurd (let e : false ≡ true = some in cc)
table_home (Some home) some = (home, refl)
