use Rattle.std.proofs.Common.{◌==◌, refl, sym, ◌∙◌}
use Rattle.std.proofs.lemmas.Bool.{eq-eqb}
use Rattle.script_text.specs.History.{refusal_number}
use Rattle.history_reading.specs.Reading.{refusal_at, refusals}
use Rattle.script_text.proofs.OfCommandText.FindLemmas.{find-here, find-next}
use Rattle.script_text.specs.fileset_values.declared.reply.Refusal.TheVariants.{NoFileset}
use Rattle.history_reading.proofs.Steps.{differs}
use Rattle.history_reading.proofs.refusals.refusal_at.Goals as goal

pub loop-refusal-init : goal.loop-refusal-init
unfolding refusal_at
loop-refusal-init c = refl

pub returns-then-refusal_number-number : goal.returns-then-refusal_number-number
returns-then-refusal_number-number c =
    find-here (λ r. refusal_number r == c.args.number) refusals c.loop-refusal.refusal-index NoFileset _ c.loop-refusal-test.true c.loop-refusal.invariant
    (eq-eqb _ _ (sym c.refusal_number.ensures ∙ c.if-refusal_number-number.true))

pub loop-refusal-preserved : goal.loop-refusal-preserved
loop-refusal-preserved c =
    find-next (λ r. refusal_number r == c.args.number) refusals c.loop-refusal.refusal-index NoFileset _ c.loop-refusal-test.true c.loop-refusal.invariant
    (differs c.refusal_number.result _ c.args.number c.refusal_number.ensures c.if-refusal_number-number.false)
