use Rattle.std.proofs.Common.{◌≡◌, ◌∙◌, ◌-◌, ap, sym, subst, arith, length, map, None, vec_capacity}
use lib.ListN.{length-replicate}
use Rattle.domain_turn.specs.Kept.{shares_from}
use Rattle.domain_turn.specs.Passes.{known}
use Rattle.domain_turn.specs.Telling.{Telling}
use Rattle.domain_turn.specs.Views.{total}
use Rattle.domain_turn.specs.declared.ledger.Ledger.{Ledger}
use Rattle.domain_turn.proofs.Readying.{AllMay, all_may, all_ready, as_many_passes, sum_of}
use Rattle.domain_turn.proofs.working.begin.Goals as goal

pub new-requires-2-clause-room : goal.new-requires-2-clause-room
new-requires-2-clause-room g c =
    let lefts = c.as_slice.ensures.value ∙ c.in-Ok-from_elem.ensures.items_if_clones_equal (λ y is. is) in
    let sum = ap (total (λ left. left)) lefts ∙ sum_of c.args.clients c.args.count in
    let room = c.in-Ok.ensures.room in
    let none = ap length c.in-Ok.ensures.none in
    omega (arith, sum, room, none)

pub returns-in-Ok-new-clause-ready : goal.returns-in-Ok-new-clause-ready
returns-in-Ok-new-clause-ready g c =
    let told : Telling (Ledger g.row.N.Denot g.N.Named) = record {
      history = λ ledger. ledger.entries.items;
      lasting = λ ledger. ledger.kept;
      rests = λ ledger. Unit {0};
      room = λ ledger. vec_capacity ledger.entries - length ledger.entries.items;
      begun = λ ledger. ledger.job;
    } in
    let value = c.in-Ok.ledger in
    let lefts = c.as_slice.ensures.value ∙ c.in-Ok-from_elem.ensures.items_if_clones_equal (λ y is. is) in
    let made = c.in-Ok-new.made in
    let passes : map known made.1.items ≡ shares_from told value 0 c.as_slice.result.now = c.in-Ok-new.ensures.passes in
    let few = c.requires.few.1 in
    let long = ap length lefts ∙ length-replicate c.args.clients c.args.count in
    let many = as_many_passes told value c.as_slice.result.now made.1.items passes in
    record {
      all = many ∙ sym c.in-Ok-new.ensures.count;
      each = all_ready told value c.args.count made.0 c.as_slice.result.now made.1.items
          (subst (AllMay told value c.args.count) (sym lefts) (all_may told value c.args.clients c.args.count))
          (omega (arith, long, few)) passes many c.in-Ok-new.ensures.here;
    }

pub returns-in-Ok-new-clause-all : goal.returns-in-Ok-new-clause-all
returns-in-Ok-new-clause-all g c =
    let told : Telling (Ledger g.row.N.Denot g.N.Named) = record {
      history = λ ledger. ledger.entries.items;
      lasting = λ ledger. ledger.kept;
      rests = λ ledger. Unit {0};
      room = λ ledger. vec_capacity ledger.entries - length ledger.entries.items;
      begun = λ ledger. ledger.job;
    } in
    let value = c.in-Ok.ledger in
    let lefts = c.as_slice.ensures.value ∙ c.in-Ok-from_elem.ensures.items_if_clones_equal (λ y is. is) in
    let made = c.in-Ok-new.made in
    let passes : map known made.1.items ≡ shares_from told value 0 c.as_slice.result.now = c.in-Ok-new.ensures.passes in
    as_many_passes told value c.as_slice.result.now made.1.items passes ∙ ap length lefts ∙ length-replicate c.args.clients c.args.count
