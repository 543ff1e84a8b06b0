use Rattle.std.proofs.Common.{◌≡◌, ℕ, ◌+◌, ◌-◌, ◌*◌, ◌≤◌, sym, ◌∙◌, ap, subst, arith}
use Rattle.std.proofs.lemmas.Bool.{both_ways}
use Rattle.volume_disk.proofs.Laws.{only_reads-then}
use Rattle.volume_disk.specs.Disk.{Moment, volume_pages}
use Rattle.volume_disk.specs.Image.{bytes_at}
use Rattle.disk_label.specs.Anchor.{Counts}
use Rattle.disk_label.specs.Body.{HasLogMember}
use Rattle.disk_label.proofs.Slots.{volume_is, gate_at, anchor_read}
use Rattle.disk_label.proofs.store.read_slot.Goals.{else-anchor-number-via-then-anchor-number+else-has_log_member, else-anchor-number-via-else-anchor-number}
use Rattle.disk_label.proofs.store.read_slot.Goals as goal

pub returns-in_err-read_blocks-clause-reads : goal.returns-in_err-read_blocks-clause-reads
returns-in_err-read_blocks-clause-reads g c = only_reads-then (g.R.Rack.disk c.args.rack.now) (g.R.Rack.disk c.is_slot_open.new.rack) (g.R.Rack.disk c.read_blocks.new.rack) c.is_slot_open.ensures.reads c.read_blocks.ensures.reads

pub returns-then-has_log_member-clause-reads : goal.returns-then-has_log_member-clause-reads
returns-then-has_log_member-clause-reads g c = only_reads-then (g.R.Rack.disk c.args.rack.now) (g.R.Rack.disk c.is_slot_open.new.rack) (g.R.Rack.disk c.read_blocks.new.rack) c.is_slot_open.ensures.reads c.read_blocks.ensures.reads

pub returns-else-anchor-number-clause-reads : goal.returns-else-anchor-number-clause-reads
returns-else-anchor-number-clause-reads g c = only_reads-then (g.R.Rack.disk c.args.rack.now) (g.R.Rack.disk c.is_slot_open.new.rack) (g.R.Rack.disk c.read_blocks.new.rack) c.is_slot_open.ensures.reads c.read_blocks.ensures.reads

pub returns-then-has_log_member-clause-found : goal.returns-then-has_log_member-clause-found
returns-then-has_log_member-clause-found g c = λ told.
    let old = g.R.Rack.disk c.args.rack.now in
    let image = old.now.contents in
    let vol = c.args.vol in
    let slot = c.args.slot in
    let body = 512 * (c.gate_block.result + 1) in
    let same = c.is_slot_open.ensures.reads.now told in
    let bytes : c.read_blocks.new.out ≡ bytes_at image vol body 512 = c.in_ok-read_blocks.ensures.bytes (c.is_slot_open.ensures.reads.touches.told ∙ told) ∙ ap (λ (m : Moment). bytes_at m.contents vol body 512) same in
    let is = anchor_read vol slot c.requires.there.0 c.requires.slot image c.read_blocks.new.out body (omega (arith, c.gate_block.ensures.block)) bytes ∙ sym c.decode-anchor.ensures in
    let number = volume_is vol slot c.requires.there.0 c.requires.slot in
    let counts : Counts old.sizes image (2 * (vol - 1) + slot) = record {
      there = subst (λ (v : ℕ). 2 ≤ volume_pages old.sizes v) (sym number) c.requires.pages;
      is_open = gate_at vol slot c.requires.there.0 c.requires.slot image ∙ (c.in_ok-is_slot_open.ensures.gate told).0 c.if-not-branch.false;
      names = (λ i. (is i).log_vol) ∙ c.if-anchor-number.true ∙ c.number.ensures.value ∙ sym number;
      member = subst HasLogMember (sym is) (c.has_log_member.ensures.0 c.if-has_log_member.true);
    } in
    (counts, is)

pub returns-else-anchor-number-clause-found : goal.returns-else-anchor-number-clause-found
returns-else-anchor-number-clause-found g c = λ told counts.
    let old = g.R.Rack.disk c.args.rack.now in
    let image = old.now.contents in
    let vol = c.args.vol in
    let slot = c.args.slot in
    let body = 512 * (c.gate_block.result + 1) in
    let same = c.is_slot_open.ensures.reads.now told in
    let bytes : c.read_blocks.new.out ≡ bytes_at image vol body 512 = c.in_ok-read_blocks.ensures.bytes (c.is_slot_open.ensures.reads.touches.told ∙ told) ∙ ap (λ (m : Moment). bytes_at m.contents vol body 512) same in
    let is = anchor_read vol slot c.requires.there.0 c.requires.slot image c.read_blocks.new.out body (omega (arith, c.gate_block.ensures.block)) bytes ∙ sym c.decode-anchor.ensures in
    let number = volume_is vol slot c.requires.there.0 c.requires.slot in
    elim c.else-anchor-number.branch [
      | else-anchor-number-via-then-anchor-number+else-has_log_member w ↦ both_ways w.has_log_member.result w.if-has_log_member.false (w.has_log_member.ensures.1 (subst HasLogMember is counts.member))
      | else-anchor-number-via-else-anchor-number w ↦ w.if-anchor-number.false ((λ i. (sym is i).log_vol) ∙ counts.names ∙ number ∙ sym c.number.ensures.value)
    ]
