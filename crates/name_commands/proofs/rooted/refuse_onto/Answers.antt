use Rattle.std.proofs.Common.{◌∙◌, Some, IfErr, IfOk, ap, subst, sym}
use Rattle.std.proofs.Math.Logic.{∥∥₁_map}
use Rattle.name_changes.proofs.Same.{still_back, still_keeps}
use Rattle.name_commands.specs.Placing.{IsLost, IsPlaced}
use Rattle.name_commands.proofs.RootMoved.{placed_valid}
use Rattle.name_commands.proofs.ToldAgain.{none_a_clone}
use Rattle.name_commands.proofs.rooted.refuse_onto.Goals as goal

pub returns-in-Ok-clause-ends : goal.returns-in-Ok-clause-ends
returns-in-Ok-clause-ends c = λ command is all stands.
    let place = c.args.place.now in
    let p = subst (λ r. IfOk r (λ at. IsPlaced c.args.memory all place at.number at.tag at.kind)) c.in-Ok.is (c.find_place-memory.ensures.placed all stands) in
    is.there all p.fileset c.in-Ok.at.kind p.here p.role (placed_valid c.args.memory all place c.in-Ok.at.number c.in-Ok.at.tag c.in-Ok.at.kind p) p.leads.allowed p.leads.kind
    ∙ ap (λ r. Some r) (sym c.refusal_onto-refusal.ensures)

pub returns-in-Ok-clause-kept : goal.returns-in-Ok-clause-kept
returns-in-Ok-clause-kept c = ∥∥₁_map c.requires.back (λ m. still_keeps c.args.memory c.find_place-memory.result.0 c.find_place-memory.ensures.same)

pub returns-in-Ok-clause-back : goal.returns-in-Ok-clause-back
returns-in-Ok-clause-back c = ∥∥₁_map c.requires.back (still_back c.args.memory c.find_place-memory.result.0 c.find_place-memory.ensures.same)

pub returns-in-Err-clause-ends : goal.returns-in-Err-clause-ends
returns-in-Err-clause-ends c = λ command is all stands.
    is.lost all (none_a_clone c.args.memory c.requires.settled all stands) c.in-Err.stop (subst (λ r. IfErr r (IsLost all c.args.place.now)) c.in-Err.is (c.find_place-memory.ensures.lost all stands))

pub returns-in-Err-clause-kept : goal.returns-in-Err-clause-kept
returns-in-Err-clause-kept c = ∥∥₁_map c.requires.back (λ m. still_keeps c.args.memory c.find_place-memory.result.0 c.find_place-memory.ensures.same)

pub returns-in-Err-clause-back : goal.returns-in-Err-clause-back
returns-in-Err-clause-back c = ∥∥₁_map c.requires.back (still_back c.args.memory c.find_place-memory.result.0 c.find_place-memory.ensures.same)
