use Rattle.std.proofs.Common.{◌≡◌, ◌∙◌, ◌-◌, ◌∷◌, [], ap, sym, arith, length, map, vec_capacity, List, ℕ}
use Rattle.domain_turn.specs.Kept.{shares_from}
use Rattle.domain_turn.specs.Passes.{known}
use Rattle.domain_turn.specs.Telling.{Telling}
use Rattle.domain_turn.specs.declared.ledger.Ledger.{Ledger}
use Rattle.domain_turn.proofs.Readying.{all_back, as_many_passes}
use Rattle.domain_turn.proofs.working.begin_all.Goals as goal

pub new-requires-2-clause-room : goal.new-requires-2-clause-room
new-requires-2-clause-room g c = let room = c.in-Ok.ensures.room in let none = ap length c.in-Ok.ensures.none in omega (arith, room, none)

pub returns-in-Ok-new : goal.returns-in-Ok-new
returns-in-Ok-new g c =
    let told : Telling (Ledger g.row.N.Denot g.N.Named) = record {
      history = λ ledger. ledger.entries.items;
      lasting = λ ledger. ledger.kept;
      rests = λ ledger. Unit {0};
      room = λ ledger. vec_capacity ledger.entries - length ledger.entries.items;
      begun = λ ledger. ledger.job;
    } in
    let value = c.in-Ok.ledger in
    let made = c.in-Ok-new.made in
    let ten : List ℕ = 1 ∷ 1 ∷ 1 ∷ 1 ∷ 1 ∷ 1 ∷ 1 ∷ 1 ∷ 1 ∷ 1 ∷ [] in
    let passes : map known made.1.items ≡ shares_from told value 0 ten = c.in-Ok-new.ensures.passes in
    record {
      back = record {
        all = as_many_passes told value ten made.1.items passes ∙ sym c.in-Ok-new.ensures.count;
        each = all_back made.0 made.1.items c.in-Ok-new.ensures.here;
      };
    }
