use Rattle.std.proofs.Common.{◌∙◌, ◌∷◌, [], IfErr, IfOk, Ok, refl, subst, sym}
use Rattle.std.proofs.Math.Logic.{∥∥₁_map}
use Rattle.name_commands.specs.fileset_model.Apply.{read_only}
use Rattle.name_commands.specs.fileset_model.Paths.{first_refusal, target_refusal}
use Rattle.name_commands.specs.fileset_values.declared.command.Command.TheVariants.{Fsync}
use Rattle.name_commands.specs.fileset_values.declared.reply.Reply.TheVariants.{Done}
use Rattle.name_commands.proofs.OfDomainMemory.SettledKept.{settled_kept}
use Rattle.name_commands.proofs.OfNameChanges.Same.{still_back, still_keeps, still_kept}
use Rattle.name_commands.specs.Ending.{EndsAs}
use Rattle.name_commands.specs.Placing.{IsLost, IsPlaced}
use Rattle.name_commands.proofs.Means.{in_this}
use Rattle.name_commands.proofs.PlacedThere.{ends_so}
use Rattle.name_commands.proofs.ToldAgain.{lost_writable, none_a_clone, original_writable}
use Rattle.file_commands.proofs.lasting.stage_fsync.Goals.{in-Ok, in-Err}
use Rattle.file_commands.proofs.lasting.stage_fsync.Goals as goal

pub returns-clause-ends : goal.returns-clause-ends
returns-clause-ends c = λ all stands.
    let memory = c.args.memory in
    let place = c.args.place.now in
    let last = c.find_place-memory.result.0 in
    let kept = still_kept memory last c.find_place-memory.ensures.same all (settled_kept memory all c.requires.settled stands) in
    elim c.match-found.branch [
      | in-Ok w ↦
          let p = subst (λ r. IfOk r (λ at. IsPlaced memory all place at.number at.tag at.kind)) w.in-Ok.is (c.find_place-memory.ensures.placed all stands) in
          subst (EndsAs last all (Fsync place)) (sym w.answer-is)
          (ends_so last all (Fsync place) (Ok Done) kept refl
          (in_this all place.fileset p.fileset (λ s. read_only s ∷ target_refusal s place.path ∷ []) p.here ∙ (λ i. first_refusal (original_writable p.fileset p.role i ∷ p.leads.allowed i ∷ [])), refl))
      | in-Err w ↦
          subst (EndsAs last all (Fsync place)) (sym w.answer-is)
          (lost_writable all (none_a_clone memory c.requires.settled all stands) place w.in-Err.stop (subst (λ r. IfErr r (IsLost all place)) w.in-Err.is (c.find_place-memory.ensures.lost all stands)) (λ s. []))
    ]

pub returns-clause-kept : goal.returns-clause-kept
returns-clause-kept c = ∥∥₁_map c.requires.back (λ m. still_keeps c.args.memory c.find_place-memory.result.0 c.find_place-memory.ensures.same)

pub returns-clause-back : goal.returns-clause-back
returns-clause-back c = ∥∥₁_map c.requires.back (still_back c.args.memory c.find_place-memory.result.0 c.find_place-memory.ensures.same)
