use Rattle.std.proofs.Common.{◌∙◌, refl, arith, subst}
use Rattle.image_loading.specs.Loading.{HasTagsOf}
use Rattle.std.proofs.lemmas.Option.{slice_get_within}
use Rattle.slot_files.specs.page_ways.Frame.{frame_in}
use Rattle.image_loading.proofs.Brought.{brings_none, brings_then, members_stay}
use Rattle.image_loading.proofs.Walking.{tags_in, tags_next}
use Rattle.image_loading.proofs.tables.load_tags.Goals as goal

pub load_tags_of-requires : goal.load_tags_of-requires
load_tags_of-requires g c =
    members_stay (g.R.Rack.disk c.args.rack.now) (g.R.Rack.disk c.loop-number.rack) c.args.frame.now.anchor c.loop-number.invariant.brings.reads c.requires

pub loop-number-init : goal.loop-number-init
loop-number-init g c = record {
  brings = brings_none (g.R.Rack.disk c.args.rack.now) (g.M.MetaPages.pages c.args.pages.now);
  passed = refl;
  before = refl;
  whole = λ number less. absurd (omega (arith, less));
}

pub loop-number-preserved : goal.loop-number-preserved
loop-number-preserved g c =
    let disk = g.R.Rack.disk in
    let pages = g.M.MetaPages.pages in
    record {
      brings = brings_then (disk c.args.rack.now) (disk c.loop-number.rack) (disk c.load_tags_of.new.rack) (pages c.args.pages.now) (pages c.loop-number.pages) (pages c.load_tags_of.new.pages)
          c.loop-number.invariant.brings c.load_tags_of.ensures.brings;
      passed = c.in_ok-load_tags_of.ensures.fault ∙ c.loop-number.invariant.passed;
      before = c.load_tags_of.ensures.before ∙ c.loop-number.invariant.before;
      whole = tags_next (pages c.loop-number.pages) (pages c.load_tags_of.new.pages) (frame_in c.args.frame.now) c.load_tags_of.ensures.brings.kept c.args.table.now c.loop-number.number c.loop-number.invariant.whole (subst (HasTagsOf (pages c.load_tags_of.new.pages) (frame_in c.args.frame.now) c.args.table.now) c.slot.ensures (tags_in (pages c.load_tags_of.new.pages) (frame_in c.args.frame.now) c.args.table.now c.slot.result c.slot-in-loop-number.result.now c.slot-in-loop-number.ensures.value c.in_ok-load_tags_of.ensures.whole));
    }

pub returns-in_err-load_tags_of-clause-brings : goal.returns-in_err-load_tags_of-clause-brings
returns-in_err-load_tags_of-clause-brings g c =
    let disk = g.R.Rack.disk in
    let pages = g.M.MetaPages.pages in
    brings_then (disk c.args.rack.now) (disk c.loop-number.rack) (disk c.load_tags_of.new.rack) (pages c.args.pages.now) (pages c.loop-number.pages) (pages c.load_tags_of.new.pages)
    c.loop-number.invariant.brings c.load_tags_of.ensures.brings

pub returns-clause-whole : goal.returns-clause-whole
returns-clause-whole g c = λ number first has.
    c.loop-number.invariant.whole number (omega (arith, slice_get_within c.args.table.now.slots number has.item has.there, c.count_slots-number-end.ensures.whole, c.count_slots-number-end.ensures.value, c.loop-number-test.false)) first has
