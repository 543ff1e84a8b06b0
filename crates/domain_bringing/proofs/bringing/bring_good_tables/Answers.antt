use Rattle.std.proofs.Common.{List}
use Rattle.domain_faults.specs.page_ways.Frame.{frame_in}
use Rattle.domain_faults.specs.log_ring.Groups.{Group}
use Rattle.domain_faults.specs.log_recovery.Outcome.{HasRecovered}
use Rattle.domain_faults.specs.volume_disk.Disk.{Tells}
use Rattle.domain_bringing.specs.Fault.{HasCause, HasFirstRow, IfNotADomain, IsNoDomain, IsWrongOn}
use Rattle.domain_bringing.proofs.Causes.{cause_before, err_weaker, no_place, place_weaker}
use Rattle.domain_bringing.proofs.Means.{agree_by, brought_same, no_domain}
use Rattle.domain_bringing.proofs.bringing.bring_good_tables.Goals as goal

pub returns-in-Err-clause-wrong : goal.returns-in-Err-clause-wrong
returns-in-Err-clause-wrong g c =
    let old = g.R.Rack.disk c.args.rack.now in
    no_place (λ vol at. Tells old → (groups : List Group) → HasRecovered old.sizes old.now.contents groups c.args.redone.now → IsNoDomain old.sizes old.now.contents vol at) c.in-Err.fault c.in-Err.ensures.no_place

pub returns-clause-wrong : goal.returns-clause-wrong
returns-clause-wrong g c =
    let old = g.R.Rack.disk c.args.rack.now in
    let mid = g.R.Rack.disk c.bring_tables.new.rack in
    let pages = g.M.MetaPages.pages c.bring_tables.new.pages in
    let frame = frame_in c.args.frame.now in
    let found = c.args.redone.now in
    err_weaker c.look_for_faults.result (λ fault. IfNotADomain fault (HasFirstRow pages frame)) (IsWrongOn old found)
    (λ fault. place_weaker (HasFirstRow pages frame) (λ vol at. Tells old → (groups : List Group) → HasRecovered old.sizes old.now.contents groups found → IsNoDomain old.sizes old.now.contents vol at)
    (λ vol at row told groups has. no_domain old.sizes old.now.contents groups found pages frame has c.requires.anchor c.requires.good.named
    (agree_by pages frame groups old.now.contents c.in-Ok.ensures.looked (brought_same old mid found.images pages groups told c.in-Ok.ensures.brings has.images)) vol at row) fault)
    c.look_for_faults.ensures.first

pub returns-clause-cause : goal.returns-clause-cause
returns-clause-cause g c =
    let old = g.R.Rack.disk c.args.rack.now in
    let mid = g.R.Rack.disk c.bring_tables.new.rack in
    err_weaker c.look_for_faults.result (HasCause mid mid) (HasCause old mid) (λ fault. cause_before old mid mid c.in-Ok.ensures.passed fault) (c.look_for_faults.ensures.cause mid)
