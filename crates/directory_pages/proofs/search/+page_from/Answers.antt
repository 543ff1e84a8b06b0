use Rattle.std.proofs.Common.{◌∙◌, ◌+◌, ◌-◌, ◌/◌, sym, ap, subst, arith}
use Rattle.std.specs.Option.{is_some}
use Rattle.directory_pages.specs.Entries.{EndsBelow, Rise, first_from}
use Rattle.directory_pages.specs.Index.{index_pages}
use Rattle.directory_pages.proofs.IndexParts.{no_page, none_before, page_behind, page_here, page_skipped, rise_page}
use Rattle.directory_pages.proofs.search.+page_from.Goals as goal

pub returns-in_default : goal.returns-in_default
returns-in_default g t c =
    let middle = c.args.low + (c.args.high - c.args.low) / 2 in
    no_page (index_pages (g.S.BitfileSet.files c.args.set.now) c.args.dir) c.args.key.now c.args.low middle c.args.high (omega arith) (omega arith) c.requires c.page_from.result c.in_default.ensures c.page_from.ensures

pub returns-then-ends_below : goal.returns-then-ends_below
returns-then-ends_below g t c =
    let middle = c.args.low + (c.args.high - c.args.low) / 2 in
    let has = c.in-Some.ensures in
    page_skipped (index_pages (g.S.BitfileSet.files c.args.set.now) c.args.dir) c.args.key.now c.args.low middle c.args.high (omega arith) (omega arith) c.requires has.part has.there
    c.page_from-then-ends_below.result (subst (EndsBelow c.args.key.now) has.read (c.ends_below.ensures c.if-ends_below.true)) c.page_from-then-ends_below.ensures

pub first_on-requires-clause-rise : goal.first_on-requires-clause-rise
first_on-requires-clause-rise g t c =
    let middle = c.args.low + (c.args.high - c.args.low) / 2 in
    let has = c.in-Some.ensures in
    subst Rise (sym has.read) (rise_page (index_pages (g.S.BitfileSet.files c.args.set.now) c.args.dir) middle has.part c.requires.rise has.there)

pub returns-then-is_some-2 : goal.returns-then-is_some-2
returns-then-is_some-2 g t c =
    let index = index_pages (g.S.BitfileSet.files c.args.set.now) c.args.dir in
    let key = c.args.key.now in
    let middle = c.args.low + (c.args.high - c.args.low) / 2 in
    let has = c.in-Some.ensures in
    let before = none_before index key c.args.low middle c.args.high (omega arith) (omega arith) c.requires has.part has.there c.page_from-before.result (sym c.is_some.ensures ∙ c.if-is_some.false) c.page_from-before.ensures in
    page_here index key c.args.low middle c.args.high (omega arith) (omega arith) c.requires has.part has.there before
    (ap (λ es. is_some (first_from key es)) (sym has.read) ∙ ap is_some (sym c.first_on.ensures) ∙ sym c.is_some-2.ensures ∙ c.if-is_some-2.true)

pub returns : goal.returns
returns g t c =
    let index = index_pages (g.S.BitfileSet.files c.args.set.now) c.args.dir in
    let key = c.args.key.now in
    let middle = c.args.low + (c.args.high - c.args.low) / 2 in
    let has = c.in-Some.ensures in
    let before = none_before index key c.args.low middle c.args.high (omega arith) (omega arith) c.requires has.part has.there c.page_from-before.result (sym c.is_some.ensures ∙ c.if-is_some.false) c.page_from-before.ensures in
    page_behind index key c.args.low middle c.args.high (omega arith) (omega arith) c.requires has.part has.there c.page_from-2.result before
    (ap (λ es. is_some (first_from key es)) (sym has.read) ∙ ap is_some (sym c.first_on.ensures) ∙ sym c.is_some-2.ensures ∙ c.if-is_some-2.false) c.page_from-2.ensures
