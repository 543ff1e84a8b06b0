use Rattle.std.proofs.Common.{◌∙◌, length, refl, sym, ap, arith}
use Rattle.domain_memory.proofs.TagsForgotten.{all_left, kept_left, last_is_alone, one_fewer}
use Rattle.domain_memory.proofs.slots.SlotFiles.take_back.Goals as goal

pub loop-init : goal.loop-init
loop-init c = all_left _ _ (ap length c.tag_places-end.ensures)

pub forget_tag_page-requires : goal.forget_tag_page-requires
forget_tag_page-requires c places place is = last_is_alone c.args.self.now.files.tags c.loop.invariant.left c.requires.once places place (sym c.loop.invariant.tags ∙ is)

pub loop-preserved : goal.loop-preserved
loop-preserved c =
    one_fewer _ _ _ c.loop.counter _ c.loop.invariant c.loop.auto.counter c.loop-test.true c.requires.few c.forget_tag_page.ensures.fileset c.forget_tag_page.ensures.tags refl refl

pub returns : goal.returns
returns c = record {
  number = c.loop.invariant.number;
  tags = kept_left _ c.loop.self c.loop.counter _ c.loop.invariant (omega (arith, c.loop-test.false, c.loop.auto.counter, c.loop.auto.counter-end, c.requires.few, c.tag_places-end.ensures, c.loop.invariant.whole));
  book = ap (λ b. b.book) c.loop.invariant.book ∙ c.take_back.ensures.book;
  kept = ap (λ b. b.kept) c.loop.invariant.book ∙ c.take_back.ensures.kept;
  tag_pages = c.loop.invariant.tag_pages;
}
