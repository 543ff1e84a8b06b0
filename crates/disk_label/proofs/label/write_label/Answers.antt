use Rattle.std.proofs.Common.{ℕ, List, refl, subst}
use Rattle.std.proofs.lemmas.Result.{on_ok_weaker}
use Rattle.volume_disk.specs.Run.{Settles}
use Rattle.disk_label.proofs.Bodies.{label_is}
use Rattle.disk_label.proofs.label.write_label.Goals as goal

pub returns-clause-label : goal.returns-clause-label
returns-clause-label g c =
    let old = g.R.Rack.disk c.args.rack.now in
    let new = g.R.Rack.disk c.write_synced.new.rack in
    let page = label_is c.write_u32_into.new.dst _ c.number.result c.number-2.result c.bitmap_pages.result c.args.vol c.args.pages c.args.version c.write_u32_into.ensures c.number.ensures c.number-2.ensures.value c.bitmap_pages.ensures refl in
    on_ok_weaker c.write_synced.result (λ settled told. subst (λ (bytes : List ℕ). Settles c.args.vol 0 bytes old.now new.now) page (settled told)) c.write_synced.ensures.settled
