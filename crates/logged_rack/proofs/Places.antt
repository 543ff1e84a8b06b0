-- Where a page that may be logged stands.
use Rattle.std.proofs.Common.{ℕ, List, arith}
use Rattle.std.proofs.lemmas.List.Elements.{All-weaker}
use Rattle.meta_log.specs.domain_base.declared.place.Home.{Home}
use Rattle.meta_log.specs.disk_label.declared.anchor.Anchor.{Anchor}
use Rattle.meta_log.specs.log_ring.Homes.{AreOutside, HasMembers, IsHomeOf, IsLogPage, IsLoggable}
use Rattle.meta_log.specs.log_ring.declared.image.PageImage.{PageImage}
use Rattle.meta_log.specs.Log.{IsLog, Log}

-- it is a page of the rack, after label and anchors
pub home_of_member : (sizes : List ℕ) (anchor : Anchor) (home : Home) → HasMembers sizes anchor → IsLoggable anchor home → IsHomeOf sizes home
home_of_member sizes anchor home members loggable =
    let there = members home.vol loggable.first_volume loggable.last_volume loggable.member.0 loggable.member.1 in
    let pages = there.1 in
    let limit = there.2 in
    let within = loggable.within in
    record {
      first_volume = loggable.first_volume;
      last_volume = there.0;
      few_volumes = loggable.last_volume;
      behind = loggable.behind;
      within = omega arith;
      limit = omega arith;
    }

-- no image of a log has a page of it as its home
pub outside_log : (log : Log) → IsLog log → AreOutside log.anchor log.logged
outside_log log is = All-weaker (λ (i : PageImage). IsLoggable log.anchor i.home) (λ (i : PageImage). ¬ IsLogPage log.anchor i.home) (λ i on. on.outside) log.logged is.logged
