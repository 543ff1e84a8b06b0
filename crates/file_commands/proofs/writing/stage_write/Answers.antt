use Rattle.std.proofs.Common.{◌∷◌, ◌≡◌, ◌+◌, [], ℕ, List, IfErr, IfOk, None, length, nat_lt, subst, sym}
use Rattle.std.proofs.Math.Logic.{∥∥₁_map}
use Rattle.std.specs.Option.{option_map_or}
use Rattle.name_commands.specs.domain_base.Limits.{file_bytes}
use Rattle.name_commands.specs.fileset_model.Apply.{write_quota}
use Rattle.name_commands.specs.fileset_model.Paths.{directory_here, node_at, refuse_if}
use Rattle.name_commands.specs.fileset_values.declared.reply.Refusal.TheVariants.{TooFar}
use Rattle.name_commands.specs.fileset_values.declared.command.Command.TheVariants.{Write}
use Rattle.name_commands.specs.domain_memory.Kept.{KeepsKept}
use Rattle.name_commands.specs.domain_memory.Staged.{MayGoBack}
use Rattle.name_commands.specs.domain_memory.declared.memory.DomainMemory.{DomainMemory}
use Rattle.name_commands.proofs.OfDomainMemory.KeptStands.{kept_joined}
use Rattle.name_commands.proofs.OfNameChanges.Same.{still_back, still_keeps, still_settled}
use Rattle.name_commands.specs.Ending.{EndsAs, LacksPage}
use Rattle.name_commands.specs.Placing.{IsLost, IsPlaced}
use Rattle.name_commands.specs.declared.stop.Stop.TheVariants.{NoPage}
use Rattle.file_commands.proofs.FileAnswers.{lost_wants_none, placed_some}
use Rattle.name_commands.proofs.PlacedThere.{placed_is}
use Rattle.name_commands.proofs.Still.{stands_still}
use Rattle.name_commands.proofs.ToldAgain.{lost_writable, none_a_clone}
use Rattle.file_commands.proofs.Written.{wants_all}
use Rattle.file_commands.proofs.writing.stage_write.Goals.{in-Ok, in-Err}
use Rattle.file_commands.proofs.writing.stage_write.Goals as goal

pub write_found-answer-requires-clause-settled : goal.write_found-answer-requires-clause-settled
write_found-answer-requires-clause-settled c = still_settled c.args.memory c.find_place-memory.result.0 c.find_place-memory.ensures.same c.requires.settled

pub write_found-answer-requires-clause-placed : goal.write_found-answer-requires-clause-placed
write_found-answer-requires-clause-placed c =
    let at = c.in-Ok.at in
    placed_some c.args.memory c.find_place-memory.result.0 c.find_place-memory.ensures.same c.args.place.now at.number at.tag at.kind c.requires.stands
    (λ all stands. subst (λ r. IfOk r (λ at. IsPlaced c.args.memory all c.args.place.now at.number at.tag at.kind)) c.in-Ok.is (c.find_place-memory.ensures.placed all stands))

pub write_found-answer-requires-clause-back : goal.write_found-answer-requires-clause-back
write_found-answer-requires-clause-back c = ∥∥₁_map c.requires.back (still_back c.args.memory c.find_place-memory.result.0 c.find_place-memory.ensures.same)

pub returns-clause-ends : goal.returns-clause-ends
returns-clause-ends c = λ all stands.
    let memory = c.args.memory in
    let last = c.find_place-memory.result.0 in
    let same = c.find_place-memory.ensures.same in
    let place = c.args.place.now in
    let command = Write place c.args.offset c.args.bytes.now in
    elim c.match-found.branch [
      | in-Ok w ↦
          let at = w.in-Ok.at in
          subst (λ (m : DomainMemory). EndsAs m all command c.match-found.answer) (sym w.memory-is)
          (subst (EndsAs w.write_found-answer.new.memory all command) (sym w.answer-is)
          (subst (λ (b : List ℕ). EndsAs w.write_found-answer.new.memory all (Write place c.args.offset b) w.write_found-answer.result) w.as_slice.ensures
          (w.write_found-answer.ensures.ends all place (stands_still memory last same all stands)
          (placed_is memory last same all place at.number at.tag at.kind (subst (λ r. IfOk r (λ at. IsPlaced memory all place at.number at.tag at.kind)) w.in-Ok.is (c.find_place-memory.ensures.placed all stands))))))
      | in-Err w ↦
          subst (EndsAs c.match-found.memory all command) (sym w.answer-is)
          (lost_writable all (none_a_clone memory c.requires.settled all stands) place w.in-Err.stop (subst (λ r. IfErr r (IsLost all place)) w.in-Err.is (c.find_place-memory.ensures.lost all stands))
          (λ slot. directory_here slot place.path ∷ refuse_if (nat_lt file_bytes (c.args.offset + length c.args.bytes.now)) TooFar ∷ option_map_or (write_quota slot.tree c.args.offset c.args.bytes.now) (node_at slot.tree place.path) None ∷ []))
    ]

pub returns-clause-kept : goal.returns-clause-kept
returns-clause-kept c =
    let memory = c.args.memory in
    let last = c.find_place-memory.result.0 in
    let same = c.find_place-memory.ensures.same in
    elim c.match-found.branch [
      | in-Ok w ↦ subst (λ (m : DomainMemory). ∥ KeepsKept memory m ∥₁) (sym w.memory-is)
          (∥∥₁_map c.requires.back (λ m. kept_joined memory last w.write_found-answer.new.memory (still_keeps memory last same) w.write_found-answer.ensures.kept))
      | in-Err w ↦ subst (λ (m : DomainMemory). ∥ KeepsKept memory m ∥₁) (sym w.memory-is) (∥∥₁_map c.requires.back (λ m. still_keeps memory last same))
    ]

pub returns-clause-back : goal.returns-clause-back
returns-clause-back c =
    elim c.match-found.branch [
      | in-Ok w ↦ subst (λ (m : DomainMemory). ∥ MayGoBack m ∥₁) (sym w.memory-is) w.write_found-answer.ensures.back
      | in-Err w ↦ subst (λ (m : DomainMemory). ∥ MayGoBack m ∥₁) (sym w.memory-is) (∥∥₁_map c.requires.back (still_back c.args.memory c.find_place-memory.result.0 c.find_place-memory.ensures.same))
    ]

pub returns-clause-cause : goal.returns-clause-cause
returns-clause-cause c =
    let memory = c.args.memory in
    let place = c.args.place.now in
    let command = Write place c.args.offset c.args.bytes.now in
    elim c.match-found.branch [
      | in-Ok w ↦ subst (λ r. IfErr r (λ stop. stop ≡ NoPage → LacksPage command memory)) (sym w.answer-is) (subst (λ (b : List ℕ). IfErr w.write_found-answer.result (λ stop. stop ≡ NoPage → LacksPage (Write place c.args.offset b) memory)) w.as_slice.ensures
          (wants_all memory place c.args.offset w.as_slice.result.now w.write_found-answer.result (λ all stands.
          let last = c.find_place-memory.result.0 in
          let same = c.find_place-memory.ensures.same in
          let at = w.in-Ok.at in
          w.write_found-answer.ensures.wants all place (stands_still memory last same all stands)
          (placed_is memory last same all place at.number at.tag at.kind (subst (λ r. IfOk r (λ at. IsPlaced memory all place at.number at.tag at.kind)) w.in-Ok.is (c.find_place-memory.ensures.placed all stands))))))
      | in-Err w ↦ subst (λ r. IfErr r (λ stop. stop ≡ NoPage → LacksPage command memory)) (sym w.answer-is)
          (λ wanted. absurd (lost_wants_none memory place w.in-Err.stop c.requires.stands (λ all stands. subst (λ r. IfErr r (IsLost all place)) w.in-Err.is (c.find_place-memory.ensures.lost all stands)) wanted))
    ]
