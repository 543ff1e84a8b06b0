use Rattle.std.proofs.Common.{◌≡◌, ◌∙◌, ap, sym, subst, arith, map, Some}
use mathlib.Core.Option.{some-injective}
use lib.ListN.{length-map}
use Rattle.std.specs.Slots.{slots_items}
use Rattle.atomic_table.specs.Table.{Final, Seen}
use Rattle.domain_turn.specs.Kept.{Kept}
use Rattle.domain_turn.specs.Passes.{IsLast, known}
use Rattle.domain_turn.specs.Telling.{telling}
use Rattle.domain_turn.specs.declared.view.View.{View}
use Rattle.domain_turn.proofs.Opening.{closes}
use Rattle.domain_turn.proofs.table.Turn.close.Goals as goal

pub gather-seat-requires-clause-some : goal.gather-seat-requires-clause-some
gather-seat-requires-clause-some g c = let some = c.args.self.some in let all = c.requires.all in omega (arith, some, all)

pub returns : goal.returns
returns g c =
    let told = telling g.T.Told.history g.T.Told.lasting g.T.Told.rests g.T.Told.room g.T.Told.begun in
    let start = c.args.self.table.shared.key in
    let shares = map known c.args.passes.items in
    let closed = c.close_with-closed.result in
    let last = closes told start c.gather-seat.result.id shares (slots_items closed.words) (slots_items closed.slots)
    (length-map c.args.passes.items known ∙ c.requires.all)
    (subst (λ (v : View g.row.T.Denot). Final (Seen (Kept told start) c.gather-seat.result.id v) (slots_items closed.words) (slots_items closed.slots))
    (ap (λ m. m.0) c.gather-seat.ensures.all) c.close_with-closed.ensures.values.2) in
    let same : Some last.0 ≡ Some c.in-Some.value = some-injective _ _ (sym last.1 ∙ c.in-Some.ensures.value) in
    subst (IsLast told shares (g.T.Told.history start.value.value)) (cc same) last.2

pub unreachable-requires : goal.unreachable-requires
unreachable-requires g c =
    let told = telling g.T.Told.history g.T.Told.lasting g.T.Told.rests g.T.Told.room g.T.Told.begun in
    let start = c.args.self.table.shared.key in
    let shares = map known c.args.passes.items in
    let closed = c.close_with-closed.result in
    let last = closes told start c.gather-seat.result.id shares (slots_items closed.words) (slots_items closed.slots)
    (length-map c.args.passes.items known ∙ c.requires.all)
    (subst (λ (v : View g.row.T.Denot). Final (Seen (Kept told start) c.gather-seat.result.id v) (slots_items closed.words) (slots_items closed.slots))
    (ap (λ m. m.0) c.gather-seat.ensures.all) c.close_with-closed.ensures.values.2) in
    let found : Some last.0 ≡ c.take-value.result = some-injective _ _ (sym last.1 ∙ c.take-value.ensures.value) in
    absurd (cc (found, c.in-None.is))
