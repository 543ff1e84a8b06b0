-- What the checks of a command answer, and what a command answers after them.
use Rattle.std.specs.Prelude.{◌≡◌, MatchResult, Option, Result, Some, None}
use Rattle.legal_histories.specs.fileset_model.Apply.{Answers, refusal_of}
use Rattle.legal_histories.specs.fileset_model.Filesets.{FilesetMap}
use Rattle.legal_histories.specs.fileset_values.declared.command.Command.{Command}
use Rattle.legal_histories.specs.fileset_values.declared.reply.Refusal.{Refusal}
use Rattle.legal_histories.specs.fileset_values.declared.reply.Reply.{Reply}
use Rattle.plain_program.specs.declared.stop.Stop.{Stop}
use Rattle.plain_program.specs.declared.stop.Stop.TheVariants.{Refused, OutOfMemory}

-- a check that takes no memory passes if nothing is refused, and else answers the refusal
abbrev pub Refuses : {T : Type 0} → Option Refusal → Result T Refusal → Type 0
Refuses refusal result = MatchResult result (λ _. refusal ≡ None) (λ why. refusal ≡ Some why)

-- a stop for this refusal; want of memory may stop a command at any time
abbrev pub StopsFor : Option Refusal → Stop → Type 0
StopsFor refusal (Refused why) = refusal ≡ Some why
StopsFor refusal OutOfMemory = Unit {0}

-- a check that takes memory passes if nothing is refused, and else stops for the refusal
abbrev pub Checks : {T : Type 0} → Option Refusal → Result T Stop → Type 0
Checks refusal result = MatchResult result (λ _. refusal ≡ None) (StopsFor refusal)

-- a command that passes its checks answers and changes what it should; one that is stopped changes
-- nothing
abbrev pub AnswersOrStops : FilesetMap → Command → Result Reply Stop → FilesetMap → Type 0
AnswersOrStops all command result new =
    MatchResult result
    (λ reply. Answers all command reply new)
    (λ stop. StopsFor (refusal_of all command) stop × (new ≡ all))
