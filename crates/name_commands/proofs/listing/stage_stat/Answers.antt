use Rattle.std.proofs.Common.{◌∷◌, [], IfErr, IfOk, refl, subst}
use Rattle.std.proofs.Math.Logic.{∥∥₁_map}
use Rattle.domain_changes.specs.fileset_model.Apply.{out_of_sync}
use Rattle.domain_changes.specs.fileset_values.declared.command.Command.TheVariants.{Stat}
use Rattle.domain_changes.proofs.OfDomainMemory.SettledKept.{settled_kept}
use Rattle.name_changes.proofs.Same.{still_back, still_kept, still_staged}
use Rattle.name_commands.specs.Placing.{IsLost, IsPlaced}
use Rattle.name_commands.proofs.PlacedThere.{ends_so, placed_is}
use Rattle.name_commands.proofs.Removal.{staged_some}
use Rattle.name_commands.proofs.listing.stage_stat.Goals as goal

pub stat_at-requires-clause-stands : goal.stat_at-requires-clause-stands
stat_at-requires-clause-stands c =
    ∥∥₁_map (staged_some c.args.memory c.requires.settled c.requires.stands) (λ s. (s.0, still_staged c.args.memory c.find_place-memory.result.0 c.find_place-memory.ensures.same s.0 s.1))

pub stat_at-requires-clause-back : goal.stat_at-requires-clause-back
stat_at-requires-clause-back c = ∥∥₁_map c.requires.back (still_back c.args.memory c.find_place-memory.result.0 c.find_place-memory.ensures.same)

pub returns-in-Ok-clause-ends : goal.returns-in-Ok-clause-ends
returns-in-Ok-clause-ends c = λ all stands.
    let memory = c.args.memory in
    let mid = c.find_place-memory.result.0 in
    let last = c.stat_at.result.0 in
    let kept = still_kept mid last c.stat_at.ensures.same all (still_kept memory mid c.find_place-memory.ensures.same all (settled_kept memory all c.requires.settled stands)) in
    ends_so last all (Stat c.args.place.now) c.stat_at.result.1 kept refl
    (c.stat_at.ensures.replies all c.args.place.now (placed_is memory mid c.find_place-memory.ensures.same all c.args.place.now c.in-Ok.at.number c.in-Ok.at.tag c.in-Ok.at.kind
    (subst (λ r. IfOk r (λ at. IsPlaced memory all c.args.place.now at.number at.tag at.kind)) c.in-Ok.is (c.find_place-memory.ensures.placed all stands))))

pub returns-in-Ok-clause-back : goal.returns-in-Ok-clause-back
returns-in-Ok-clause-back c =
    ∥∥₁_map c.requires.back (λ m. still_back c.find_place-memory.result.0 c.stat_at.result.0 c.stat_at.ensures.same (still_back c.args.memory c.find_place-memory.result.0 c.find_place-memory.ensures.same m))

pub returns-in-Err-clause-ends : goal.returns-in-Err-clause-ends
returns-in-Err-clause-ends c = λ all stands.
    (subst (λ r. IfErr r (IsLost all c.args.place.now)) c.in-Err.is (c.find_place-memory.ensures.lost all stands)) (λ slot. out_of_sync slot c.args.place.now.path ∷ [])

pub returns-in-Err-clause-back : goal.returns-in-Err-clause-back
returns-in-Err-clause-back c = ∥∥₁_map c.requires.back (still_back c.args.memory c.find_place-memory.result.0 c.find_place-memory.ensures.same)
