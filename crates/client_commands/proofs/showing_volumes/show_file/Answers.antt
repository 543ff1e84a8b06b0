use Rattle.std.proofs.Common.{IfErr, IfOk, subst, sym}
use Rattle.std.proofs.Math.Logic.{∥∥₁_map}
use Rattle.file_commands.specs.fileset_values.declared.command.Command.TheVariants.{Showfile}
use Rattle.file_commands.proofs.OfNameChanges.Same.{still_back, still_staged}
use Rattle.file_commands.specs.name_commands.Placing.{IsLost, IsPlaced}
use Rattle.client_commands.specs.Shown.{ShowsAs}
use Rattle.client_commands.proofs.FileShown.{lost_shown, shows_still, turned}
use Rattle.file_commands.proofs.OfNameCommands.PlacedThere.{placed_is}
use Rattle.file_commands.proofs.OfNameCommands.Removal.{staged_some}
use Rattle.client_commands.proofs.showing_volumes.show_file.Goals.{in-Ok, in-Err}
use Rattle.client_commands.proofs.showing_volumes.show_file.Goals as goal

pub show_extents-answer-requires-clause-stands : goal.show_extents-answer-requires-clause-stands
show_extents-answer-requires-clause-stands c =
    ∥∥₁_map (staged_some c.args.memory c.requires.settled c.requires.stands) (λ s. (s.0, still_staged c.args.memory c.find_place-memory.result.0 c.find_place-memory.ensures.same s.0 s.1))

pub show_extents-answer-requires-clause-back : goal.show_extents-answer-requires-clause-back
show_extents-answer-requires-clause-back c = ∥∥₁_map c.requires.back (still_back c.args.memory c.find_place-memory.result.0 c.find_place-memory.ensures.same)

pub returns-clause-shown : goal.returns-clause-shown
returns-clause-shown c = λ all stands.
    let memory = c.args.memory in
    let last = c.find_place-memory.result.0 in
    let same = c.find_place-memory.ensures.same in
    let place = c.args.place.now in
    elim c.match-found.branch [
      | in-Ok w ↦
          subst (ShowsAs memory all (Showfile place)) (sym w.answer-is)
          (shows_still last memory (turned memory last same) all (Showfile place) w.show_extents-answer.result tt
          (w.show_extents-answer.ensures all place (placed_is memory last same all place w.in-Ok.at.number w.in-Ok.at.tag w.in-Ok.at.kind
          (subst (λ r. IfOk r (λ at. IsPlaced memory all place at.number at.tag at.kind)) w.in-Ok.is (c.find_place-memory.ensures.placed all stands)))))
      | in-Err w ↦
          subst (ShowsAs memory all (Showfile place)) (sym w.answer-is)
          (lost_shown memory all place w.in-Err.stop (subst (λ r. IfErr r (IsLost all place)) w.in-Err.is (c.find_place-memory.ensures.lost all stands)))
    ]
