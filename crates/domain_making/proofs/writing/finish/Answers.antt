use Rattle.std.proofs.Common.{◌∙◌, ◌≤◌, ℕ, List, Option, sym, subst}
use Rattle.std.proofs.lemmas.Result.{on_ok_weaker}
use Rattle.domain_layout.specs.volume_disk.Disk.{volume_pages}
use Rattle.domain_layout.specs.disk_label.Anchor.{IsAnchor, IsNext}
use Rattle.domain_layout.specs.disk_label.Slot.{HasWritten, WritesAnchor}
use Rattle.domain_layout.specs.disk_label.declared.anchor.Anchor.{Anchor}
use Rattle.domain_making.proofs.Finished.{anchor_since_pages, both_writes, is_made, label_1, may_follow, none_or_empty, pages_writes, ready_1, since_both}
use Rattle.domain_making.proofs.writing.finish.Goals as goal

pub returns-in_err-write_pages-clause-writes : goal.returns-in_err-write_pages-clause-writes
returns-in_err-write_pages-clause-writes g c = pages_writes c.args.version c.args.pages (g.R.Rack.disk c.args.rack.now) (g.R.Rack.disk c.write_pages.new.rack) c.write_pages.ensures.writes

pub returns-in_err-write_pages-clause-any_moment : goal.returns-in_err-write_pages-clause-any_moment
returns-in_err-write_pages-clause-any_moment g c = λ told label.
    none_or_empty c.args.version c.args.pages (g.R.Rack.disk c.args.rack.now) (g.R.Rack.disk c.write_pages.new.rack) told c.write_pages.ensures.writes (c.requires.ready told)

pub write_anchor-requires-clause-next : goal.write_anchor-requires-clause-next
write_anchor-requires-clause-next g c = λ told_1.
    let d0 = g.R.Rack.disk c.args.rack.now in
    let d1 = g.R.Rack.disk c.write_pages.new.rack in
    let told = sym c.write_pages.ensures.writes.touches.told ∙ told_1 in
    subst (λ (a : Anchor). (before : Option Anchor) × IsAnchor d1.sizes d1.now.contents before × IsNext before a) (sym c.new_anchor.ensures)
    (may_follow c.args.version c.args.pages d0 d1 told c.write_pages.ensures.writes (c.requires.ready told) (g.met.R.Rack.holds_bytes c.write_pages.new.rack told_1))

pub returns-clause-writes : goal.returns-clause-writes
returns-clause-writes g c =
    let d0 = g.R.Rack.disk c.args.rack.now in
    let d1 = g.R.Rack.disk c.write_pages.new.rack in
    let d2 = g.R.Rack.disk c.write_anchor.new.rack in
    let writes = subst (λ (a : Anchor). WritesAnchor d1 d2 a) c.new_anchor.ensures c.write_anchor.ensures.writes in
    both_writes c.args.version c.args.pages d0 d1 d2 c.write_pages.ensures.writes writes.writes

pub returns-clause-made : goal.returns-clause-made
returns-clause-made g c = on_ok_weaker c.write_anchor.result (λ written told label.
    let d0 = g.R.Rack.disk c.args.rack.now in
    let d1 = g.R.Rack.disk c.write_pages.new.rack in
    let d2 = g.R.Rack.disk c.write_anchor.new.rack in
    let first = c.write_pages.ensures.writes in
    let ready = c.requires.ready told in
    let told_1 = first.touches.told ∙ told in
    let writes = subst (λ (a : Anchor). WritesAnchor d1 d2 a) c.new_anchor.ensures c.write_anchor.ensures.writes in
    is_made c.args.version c.args.pages c.requires.room c.requires.most c.args.new.now c.requires.new d1 d2 (subst (λ (sizes : List ℕ). c.args.pages ≤ volume_pages sizes 1) (sym first.touches.sizes) c.requires.pages) told_1
    (c.in_ok-write_pages.ensures.synced told) (label_1 c.args.version c.args.pages d0 d1 told first ready label) (c.in_ok-write_pages.ensures.written told) (ready_1 c.args.version c.args.pages d0 d1 told first ready) writes
    (g.met.R.Rack.holds_bytes c.write_anchor.new.rack (writes.writes.touches.told ∙ told_1)) (subst (λ (a : Anchor). HasWritten d1 d2 a) c.new_anchor.ensures written)) c.write_anchor.ensures.done

pub returns-clause-any_moment : goal.returns-clause-any_moment
returns-clause-any_moment g c = λ told label.
    let d0 = g.R.Rack.disk c.args.rack.now in
    let d1 = g.R.Rack.disk c.write_pages.new.rack in
    let d2 = g.R.Rack.disk c.write_anchor.new.rack in
    let first = c.write_pages.ensures.writes in
    let ready = c.requires.ready told in
    let told_1 = first.touches.told ∙ told in
    let writes = subst (λ (a : Anchor). WritesAnchor d1 d2 a) c.new_anchor.ensures c.write_anchor.ensures.writes in
    since_both c.args.version c.args.pages d0 d1 d2 first.touches.sizes (none_or_empty c.args.version c.args.pages d0 d1 told first ready)
    (anchor_since_pages c.args.version c.args.pages c.requires.room c.requires.most c.args.new.now c.requires.new d1 d2 (subst (λ (sizes : List ℕ). c.args.pages ≤ volume_pages sizes 1) (sym first.touches.sizes) c.requires.pages) told_1
    (c.in_ok-write_pages.ensures.synced told) (label_1 c.args.version c.args.pages d0 d1 told first ready label) (c.in_ok-write_pages.ensures.written told) (ready_1 c.args.version c.args.pages d0 d1 told first ready) writes)
