use Rattle.std.proofs.Common.{◌≡◌, ◌∙◌, ℕ, refl, subst, arith}
use Rattle.attached_domain.specs.domain_base.declared.place.Home.{Home}
use Rattle.attached_domain.proofs.OfVolumeDisk.Laws.{touches-none, touches-then}
use Rattle.attached_domain.specs.staged_pages.Store.{pages_of}
use Rattle.domain_attaching.specs.Closing.{AreTheseHome, IsChosen, IsOnThese}
use Rattle.domain_attaching.proofs.HomeKept.{members_still, one_volume_more, stay_then}
use Rattle.domain_attaching.proofs.homeward.bring_pages_home.Goals as goal

pub bring_home_on-requires-clause-members : goal.bring_home_on-requires-clause-members
bring_home_on-requires-clause-members g c =
    members_still (g.R.Rack.disk c.args.rack.now) (g.R.Rack.disk c.loop-number.rack) c.args.memory.now.frame.anchor (IsOnThese (IsChosen c.args.memory.now.frame.anchor c.args.tables.now c.args.of_tables)) c.loop-number.invariant.touches c.requires.members

pub loop-number-init : goal.loop-number-init
loop-number-init g c =
    let old = g.R.Rack.disk c.args.rack.now in
    record {
      touches = touches-none old (IsOnThese (IsChosen c.args.memory.now.frame.anchor c.args.tables.now c.args.of_tables));
      buffer = c.requires.buffer;
      passed = refl;
      stays = λ told home was. was;
      there = λ told home is loggable. let below = is.0 in let first = loggable.first_volume in absurd (omega (arith, below, first));
    }

pub loop-number-preserved : goal.loop-number-preserved
loop-number-preserved g c =
    let old = g.R.Rack.disk c.args.rack.now in
    let mid = g.R.Rack.disk c.loop-number.rack in
    let new = g.R.Rack.disk c.bring_home_on.new.rack in
    let anchor = c.args.memory.now.frame.anchor in
    let pages = pages_of c.args.memory.now.pages in
    let These : Home → Type 0 = IsChosen anchor c.args.tables.now c.args.of_tables in
    let so_far = c.loop-number.invariant in
    record {
      touches = touches-then old mid new (IsOnThese These) so_far.touches c.bring_home_on.ensures.touches;
      buffer = c.bring_home_on.ensures.buffer;
      passed = c.in_ok-bring_home_on.ensures.fault ∙ so_far.passed;
      stays = stay_then pages anchor old mid new (IsOnThese These) so_far.touches so_far.stays c.in_ok-bring_home_on.ensures.stays;
      there = λ told.
          let told_mid = so_far.touches.told ∙ told in
          let next = subst (λ (v : ℕ). AreTheseHome (λ home. (home.vol ≡ v) × These home) pages anchor new.now.contents) c.in-Some.ensures.value (c.in_ok-bring_home_on.ensures.home told_mid) in
          one_volume_more pages anchor These new.now.contents c.loop-number.number (λ home is. c.in_ok-bring_home_on.ensures.stays told_mid home (so_far.there told home is)) next;
    }

pub returns-in_err-bring_home_on-clause-touches : goal.returns-in_err-bring_home_on-clause-touches
returns-in_err-bring_home_on-clause-touches g c =
    touches-then (g.R.Rack.disk c.args.rack.now) (g.R.Rack.disk c.loop-number.rack) (g.R.Rack.disk c.bring_home_on.new.rack) (IsOnThese (IsChosen c.args.memory.now.frame.anchor c.args.tables.now c.args.of_tables)) c.loop-number.invariant.touches c.bring_home_on.ensures.touches
