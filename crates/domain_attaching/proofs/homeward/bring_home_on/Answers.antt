use Rattle.std.proofs.Common.{◌∙◌, ◌+◌, ◌-◌, ◌≤◌, max, refl, subst, arith}
use Rattle.attached_domain.proofs.OfVolumeDisk.Laws.{touches-none, touches-then}
use Rattle.attached_domain.specs.domain_base.declared.place.Home.{Home}
use Rattle.attached_domain.specs.disk_label.declared.anchor.Member.{Member}
use Rattle.attached_domain.specs.staged_pages.Store.{pages_of}
use Rattle.domain_attaching.specs.Closing.{IsChosen, IsOnThese, StandsHome}
use Rattle.domain_attaching.proofs.HomeKept.{all_home_on, members_still, stay_then}
use Rattle.domain_attaching.proofs.Rows.{by_count, by_end, homes_more, next_page, row_on_rack, row_on_these, stay_row}
use Rattle.domain_attaching.proofs.homeward.bring_home_on.Goals as goal
use Rattle.domain_attaching.proofs.homeward.bring_home_on.Goals.{else-page-end, then-page-end+in_ok-bring_row}

pub bring_row-requires : goal.bring_row-requires
bring_row-requires g c =
    let anchor = c.args.memory.now.frame.anchor in
    let first = c.loop-page.page in
    let row = c.end_of_row-end.ensures in
    let mid = g.R.Rack.disk c.loop-page.rack in
    let members = members_still (g.R.Rack.disk c.args.rack.now) mid anchor (IsOnThese (IsChosen anchor c.args.tables.now c.args.of_tables)) c.loop-page.invariant.touches c.requires.members in
    record {
      there = λ page low high. (row.row page low (omega (arith, high, row.from))).1;
      on = row_on_rack mid.sizes anchor c.args.vol first c.end_of_row-end.result members c.if-page-end.true (λ page low high. (row.row page low high).0.0);
      some = omega (arith, c.if-page-end.true);
      most = omega (arith, row.most);
      buffer = c.loop-page.invariant.buffer;
    }

pub loop-page-init : goal.loop-page-init
loop-page-init g c =
    let old = g.R.Rack.disk c.args.rack.now in
    record {
      touches = touches-none old (IsOnThese (IsChosen c.args.memory.now.frame.anchor c.args.tables.now c.args.of_tables));
      buffer = c.requires.buffer;
      passed = refl;
      stays = λ told home was. was;
      there = λ told home is. let below = is.1 in absurd (omega (arith, below));
    }

pub loop-page-preserved : goal.loop-page-preserved
loop-page-preserved g c =
    let old = g.R.Rack.disk c.args.rack.now in
    let mid = g.R.Rack.disk c.loop-page.rack in
    let memory = c.args.memory.now in
    let anchor = memory.frame.anchor in
    let tables = c.args.tables.now in
    let of_tables = c.args.of_tables in
    let pages = pages_of memory.pages in
    let vol = c.args.vol in
    let first = c.loop-page.page in
    let end = c.end_of_row-end.result in
    let row = c.end_of_row-end.ensures in
    let These : Home → Type 0 = IsChosen anchor tables of_tables in
    let so_far = c.loop-page.invariant in
    elim c.if-page-end.branch [
      | then-page-end+in_ok-bring_row w ↦
          let new = g.R.Rack.disk w.bring_row.new.rack in
          let touched = w.bring_row.ensures.touches in
          let stays = stay_row pages anchor mid new vol first (end - first) touched w.in_ok-bring_row.ensures.there in
          rw (w.rack-is, w.found-is, c.max-page.ensures)
          (record {
            touches = touches-then old mid new (IsOnThese These) so_far.touches (row_on_these mid new These vol first (end - first) (by_count vol first end These row.from (λ page low high. (row.row page low high).0)) touched);
            buffer = w.bring_row.ensures.buffer;
            passed = w.in_ok-bring_row.ensures.fault ∙ so_far.passed;
            stays = stay_then pages anchor old mid new (IsOnThese These) so_far.touches so_far.stays stays;
            there = λ told.
                let told_mid = so_far.touches.told ∙ told in
                homes_more pages anchor tables of_tables vol mid new first end (max end (first + 1)) row.from (next_page first end row.from) row.none stays told_mid (so_far.there told)
                (by_end vol first end (StandsHome pages new.now.contents) row.from (w.in_ok-bring_row.ensures.there told_mid));
          })
      | else-page-end w ↦
          rw (w.rack-is, w.found-is, c.max-page.ensures)
          (record {
            touches = so_far.touches;
            buffer = so_far.buffer;
            passed = so_far.passed;
            stays = so_far.stays;
            there = λ told.
                let told_mid = so_far.touches.told ∙ told in
                homes_more pages anchor tables of_tables vol mid mid first end (max end (first + 1)) row.from (next_page first end row.from) row.none (λ still home was. was) told_mid (so_far.there told)
                (λ page low high. absurd (omega (arith, low, high, w.if-page-end.false)));
          })
    ]

pub returns-in_err-bring_row-clause-touches : goal.returns-in_err-bring_row-clause-touches
returns-in_err-bring_row-clause-touches g c =
    let old = g.R.Rack.disk c.args.rack.now in
    let mid = g.R.Rack.disk c.loop-page.rack in
    let new = g.R.Rack.disk c.bring_row.new.rack in
    let first = c.loop-page.page in
    let end = c.end_of_row-end.result in
    let row = c.end_of_row-end.ensures in
    let These : Home → Type 0 = IsChosen c.args.memory.now.frame.anchor c.args.tables.now c.args.of_tables in
    touches-then old mid new (IsOnThese These) c.loop-page.invariant.touches (row_on_these mid new These c.args.vol first (end - first) (by_count c.args.vol first end These row.from (λ page low high. (row.row page low high).0)) c.bring_row.ensures.touches)

pub returns-clause-home : goal.returns-clause-home
returns-clause-home g c = λ told.
    let anchor = c.args.memory.now.frame.anchor in
    all_home_on (pages_of c.args.memory.now.pages) anchor (IsChosen anchor c.args.tables.now c.args.of_tables) (g.R.Rack.disk c.loop-page.rack).now.contents c.args.vol c.loop-page.page
    (subst (λ (m : Member). m.pages ≤ c.loop-page.page) c.member.ensures (omega (arith, c.loop-page-test.false))) (c.loop-page.invariant.there told)
