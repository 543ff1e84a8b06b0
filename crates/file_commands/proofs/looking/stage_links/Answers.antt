use Rattle.std.proofs.Common.{◌∷◌, [], IfErr, IfOk, refl, subst, sym}
use Rattle.std.proofs.Math.Logic.{∥∥₁_map}
use Rattle.name_commands.specs.fileset_model.Apply.{out_of_sync}
use Rattle.name_commands.specs.fileset_model.Paths.{directory_here}
use Rattle.name_commands.specs.fileset_values.declared.command.Command.TheVariants.{Links}
use Rattle.name_commands.proofs.OfDomainMemory.SettledKept.{settled_kept}
use Rattle.name_commands.proofs.OfNameChanges.Same.{still_back, still_keeps, still_kept, still_staged}
use Rattle.name_commands.specs.Ending.{EndsAs}
use Rattle.name_commands.specs.Placing.{IsLost, IsPlaced}
use Rattle.name_commands.proofs.PlacedThere.{ends_so, placed_is}
use Rattle.name_commands.proofs.Removal.{staged_some}
use Rattle.file_commands.proofs.looking.stage_links.Goals.{in-Ok, in-Err}
use Rattle.file_commands.proofs.looking.stage_links.Goals as goal

pub count_links-answer-requires-clause-stands : goal.count_links-answer-requires-clause-stands
count_links-answer-requires-clause-stands c =
    ∥∥₁_map (staged_some c.args.memory c.requires.settled c.requires.stands) (λ s. (s.0, still_staged c.args.memory c.find_place-memory.result.0 c.find_place-memory.ensures.same s.0 s.1))

pub count_links-answer-requires-clause-back : goal.count_links-answer-requires-clause-back
count_links-answer-requires-clause-back c = ∥∥₁_map c.requires.back (still_back c.args.memory c.find_place-memory.result.0 c.find_place-memory.ensures.same)

pub returns-clause-ends : goal.returns-clause-ends
returns-clause-ends c = λ all stands.
    let memory = c.args.memory in
    let last = c.find_place-memory.result.0 in
    let same = c.find_place-memory.ensures.same in
    let kept = still_kept memory last same all (settled_kept memory all c.requires.settled stands) in
    let command = Links c.args.place.now in
    elim c.match-found.branch [
      | in-Ok w ↦
          subst (EndsAs last all command) (sym w.answer-is)
          (ends_so last all command w.count_links-answer.result kept refl
          (w.count_links-answer.ensures all c.args.place.now (placed_is memory last same all c.args.place.now w.in-Ok.at.number w.in-Ok.at.tag w.in-Ok.at.kind
          (subst (λ r. IfOk r (λ at. IsPlaced memory all c.args.place.now at.number at.tag at.kind)) w.in-Ok.is (c.find_place-memory.ensures.placed all stands)))))
      | in-Err w ↦
          subst (EndsAs last all command) (sym w.answer-is)
          ((subst (λ r. IfErr r (IsLost all c.args.place.now)) w.in-Err.is (c.find_place-memory.ensures.lost all stands)) (λ slot. directory_here slot c.args.place.now.path ∷ out_of_sync slot c.args.place.now.path ∷ []))
    ]

pub returns-clause-kept : goal.returns-clause-kept
returns-clause-kept c = ∥∥₁_map c.requires.back (λ m. still_keeps c.args.memory c.find_place-memory.result.0 c.find_place-memory.ensures.same)

pub returns-clause-back : goal.returns-clause-back
returns-clause-back c = ∥∥₁_map c.requires.back (still_back c.args.memory c.find_place-memory.result.0 c.find_place-memory.ensures.same)
