use Rattle.std.proofs.Common.{◌∙◌, subst, sym}
use Rattle.std.proofs.lemmas.Bool.{true≢false}
use Rattle.fileset_table.specs.Table.{AreTogether}
use Rattle.fileset_table.proofs.Tried.{comes_back, put_back}
use Rattle.fileset_table.proofs.table.try_exchange.Goals as goal

pub returns-clause-err : goal.returns-clause-err
returns-clause-err c =
    let slots = c.args.slots.now.items in
    let mid = c.exchange-had.new.slots.items in (
      comes_back slots mid c.args.at c.args.item c.exchange.result c.requires c.exchange-had.ensures.slots c.exchange.ensures.had,
      put_back slots mid c.exchange.new.slots.items c.args.at c.args.item c.exchange-had.result c.exchange-had.ensures.slots c.exchange-had.ensures.had c.exchange.ensures.slots,
      λ together. true≢false (sym (c.are_slots.ensures.1 (subst AreTogether (sym (c.deref.ensures.value ∙ c.exchange-had.ensures.slots)) together)) ∙ c.if-are_slots.false),
    )
