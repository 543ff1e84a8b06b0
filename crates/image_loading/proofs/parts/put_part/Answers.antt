use Rattle.std.proofs.Common.{◌∙◌, ◌*◌, ◌+◌, Some, refl, ap, arith}
use Rattle.image_loading.proofs.Brought.{brings_then}
use Rattle.image_loading.proofs.PagesRead.{one_there, read_in}
use Rattle.image_loading.proofs.parts.put_part.Goals as goal

pub returns-in_err-put_missing-clause-brings : goal.returns-in_err-put_missing-clause-brings
returns-in_err-put_missing-clause-brings g c disk is =
    let pages = g.M.MetaPages.pages in
    brings_then disk disk disk (pages c.args.pages.now) (pages c.loop-number.pages) (pages c.put_missing.new.pages) (c.loop-number.invariant.brings disk is)
    (c.put_missing.ensures.brings disk (λ told. ap Some (read_in disk.now.contents c.args.vol c.args.first c.args.count c.loop-number.number (c.loop-number.number * 8192) (c.loop-number.number * 8192 + 8192) c.args.bytes.now (is told) c.loop-number-test.true (omega arith) refl)))

pub loop-number-preserved : goal.loop-number-preserved
loop-number-preserved g c =
    let pages = g.M.MetaPages.pages in
    record {
      brings = λ disk is.
          brings_then disk disk disk (pages c.args.pages.now) (pages c.loop-number.pages) (pages c.put_missing.new.pages) (c.loop-number.invariant.brings disk is)
          (c.put_missing.ensures.brings disk (λ told. ap Some (read_in disk.now.contents c.args.vol c.args.first c.args.count c.loop-number.number (c.loop-number.number * 8192) (c.loop-number.number * 8192 + 8192) c.args.bytes.now (is told) c.loop-number-test.true (omega arith) refl)));
      before = c.put_missing.ensures.before ∙ c.loop-number.invariant.before;
      there = one_there c.args.vol c.args.first c.loop-number.number (pages c.loop-number.pages) (pages c.put_missing.new.pages) c.put_missing.ensures.kept c.loop-number.invariant.there c.in_ok-put_missing.ensures.there;
    }
