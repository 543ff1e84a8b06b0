use Rattle.std.proofs.Common.{⊎_elim, ap}
use Rattle.std.proofs.Math.Logic.{∥∥₁_elim}
use Rattle.advfs_run.proofs.NoFault.{never_faults, shown_quiet, tells_no_space}
use Rattle.advfs_run.proofs.Taken.{stamps_on, turn_quiet, turn_stamped, turn_taken}
use Rattle.advfs_run.proofs.turns.take_turn.Goals as goal

pub returns-clause-turn : goal.returns-clause-turn
returns-clause-turn g c =
    let answered = c.command-domain.result.history in
    let before = c.args.domain.history.entries.items in
    let ended = c.end_event.new.self.history.entries.items in
    ⊎_elim
    (⊎_elim
    (λ answer. turn_taken (g.R.Rack.disk answered.rack).calls before answered.entries.items ended _ answered.added c.command-domain.ensures.added answer.adds c.end_event.ensures.history)
    (λ none. turn_taken (g.R.Rack.disk answered.rack).calls before answered.entries.items ended _ answered.added c.command-domain.ensures.added none.adds c.end_event.ensures.history))
    (λ shown. turn_taken (g.R.Rack.disk answered.rack).calls before answered.entries.items ended _ answered.added c.command-domain.ensures.added shown.added.adds c.end_event.ensures.history)
    c.command-domain.ensures.adds

pub returns-clause-stamps : goal.returns-clause-stamps
returns-clause-stamps g c =
    let answered = c.command-domain.result.history in
    let before = c.args.domain.history.entries.items in
    let ended = c.end_event.new.self.history.entries.items in
    stamps_on _ _ before ended (ap (λ rack. (g.R.Rack.disk rack).calls) c.command-domain.ensures.rack)
    (⊎_elim
    (⊎_elim
    (λ answer. turn_stamped (g.R.Rack.disk answered.rack).calls before answered.entries.items ended _ answered.added c.command-domain.ensures.added answer.adds c.end_event.ensures.history)
    (λ none. turn_stamped (g.R.Rack.disk answered.rack).calls before answered.entries.items ended _ answered.added c.command-domain.ensures.added none.adds c.end_event.ensures.history))
    (λ shown. turn_stamped (g.R.Rack.disk answered.rack).calls before answered.entries.items ended _ answered.added c.command-domain.ensures.added shown.added.adds c.end_event.ensures.history)
    c.command-domain.ensures.adds)

pub returns-clause-quiet : goal.returns-clause-quiet
returns-clause-quiet g c =
    let domain = c.args.domain in
    let answered = c.command-domain.result.history in
    let before = domain.history.entries.items in
    let ended = c.end_event.new.self.history.entries.items in
    let calls = (g.R.Rack.disk answered.rack).calls in
    ⊎_elim
    (⊎_elim
    (λ answer. turn_quiet calls before answered.entries.items ended _ answered.added c.command-domain.ensures.added answer.adds c.end_event.ensures.history
    (λ volume. (
      λ is. ∥∥₁_elim domain.stands (λ x y. absurd x) (λ goes. let means = answer.means goes.all goes.stands in (never_faults goes.all c.args.asked answer.reply means.0 means.1 volume).0 is),
      λ is. ∥∥₁_elim domain.stands (λ x y. absurd x) (λ goes. let means = answer.means goes.all goes.stands in (never_faults goes.all c.args.asked answer.reply means.0 means.1 volume).1 is),
    )))
    (λ none. turn_quiet calls before answered.entries.items ended _ answered.added c.command-domain.ensures.added none.adds c.end_event.ensures.history (tells_no_space _ _)))
    (λ shown. turn_quiet calls before answered.entries.items ended _ answered.added c.command-domain.ensures.added shown.added.adds c.end_event.ensures.history
    (λ volume. (
      λ is. ∥∥₁_elim domain.stands (λ x y. absurd x) (λ goes. (shown_quiet domain.memory goes.all c.args.asked shown.reply (shown.shown goes.all goes.stands) volume).0 is),
      λ is. ∥∥₁_elim domain.stands (λ x y. absurd x) (λ goes. (shown_quiet domain.memory goes.all c.args.asked shown.reply (shown.shown goes.all goes.stands) volume).1 is),
    )))
    c.command-domain.ensures.adds
