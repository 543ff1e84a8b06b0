use Rattle.std.proofs.Common.{◌≡◌, ◌∙◌, ℕ, IsSome, refl, arith}
use Rattle.slot_files.specs.domain_base.declared.place.Home.{Home}
use Rattle.slot_files.specs.domain_layout.Reached.{IsWithin}
use Rattle.slot_files.specs.sorted_sets.Members.{entries}
use Rattle.slot_files.specs.sorted_sets.Homes.{number_of}
use Rattle.slot_files.specs.page_ways.Frame.{frame_in}
use Rattle.image_loading.proofs.Brought.{brings_none, brings_then, members_stay}
use Rattle.image_loading.proofs.Walking.{page_stays}
use Rattle.image_loading.proofs.Listed.{entry_of, hold_all, hold_next, hold_none}
use Rattle.image_loading.proofs.homes.load_homes.Goals as goal

pub fetch_within-requires : goal.fetch_within-requires
fetch_within-requires g c = record { members = members_stay (g.R.Rack.disk c.args.rack.now) (g.R.Rack.disk c.loop-home.rack) c.args.frame.now.anchor c.loop-home.invariant.brings.reads c.requires }

pub loop-home-init : goal.loop-home-init
loop-home-init g c = record {
  brings = brings_none (g.R.Rack.disk c.args.rack.now) (g.M.MetaPages.pages c.args.pages.now);
  passed = refl;
  before = refl;
  below = hold_none c.as_slice-home-items.result.now (λ (entry : ℕ × Home). IsWithin (frame_in c.args.frame.now) entry.1 → IsSome (g.M.MetaPages.pages c.args.pages.now entry.1));
}

pub loop-home-preserved : goal.loop-home-preserved
loop-home-preserved g c =
    let disk = g.R.Rack.disk in
    let pages = g.M.MetaPages.pages in
    let frame = frame_in c.args.frame.now in
    record {
      brings = brings_then (disk c.args.rack.now) (disk c.loop-home.rack) (disk c.fetch_within.new.rack) (pages c.args.pages.now) (pages c.loop-home.pages) (pages c.fetch_within.new.pages) c.loop-home.invariant.brings c.fetch_within.ensures.brings;
      passed = c.in_ok-fetch_within.ensures.fault ∙ c.loop-home.invariant.passed;
      before = c.fetch_within.ensures.before ∙ c.loop-home.invariant.before;
      below = hold_next c.as_slice-home-items.result.now c.loop-home.home-index c.loop-home-item.result (λ (entry : ℕ × Home). IsWithin frame entry.1 → IsSome (pages c.loop-home.pages entry.1)) (λ (entry : ℕ × Home). IsWithin frame entry.1 → IsSome (pages c.fetch_within.new.pages entry.1))
          c.loop-home-test.true c.loop-home-item.is (λ entry there within. page_stays (pages c.loop-home.pages) (pages c.fetch_within.new.pages) frame c.fetch_within.ensures.brings.kept entry.1 (there within)) c.loop-home.invariant.below c.in_ok-fetch_within.ensures.there;
    }

pub returns-in_err-fetch_within-clause-brings : goal.returns-in_err-fetch_within-clause-brings
returns-in_err-fetch_within-clause-brings g c =
    let disk = g.R.Rack.disk in
    let pages = g.M.MetaPages.pages in
    brings_then (disk c.args.rack.now) (disk c.loop-home.rack) (disk c.fetch_within.new.rack) (pages c.args.pages.now) (pages c.loop-home.pages) (pages c.fetch_within.new.pages) c.loop-home.invariant.brings c.fetch_within.ensures.brings

pub returns-clause-whole : goal.returns-clause-whole
returns-clause-whole g c = λ home in_set within.
    let pages = g.M.MetaPages.pages in
    let at = entry_of c.args.homes.now home in_set in
    hold_all (entries c.args.homes.now) c.as_slice-home-items.result.now c.loop-home.home-index (λ (entry : ℕ × Home). IsWithin (frame_in c.args.frame.now) entry.1 → IsSome (pages c.loop-home.pages entry.1)) c.as_slice-home-items.ensures.value (omega (arith, c.loop-home-test.false))
    c.loop-home.invariant.below at.0 (number_of home, home) at.1 within
