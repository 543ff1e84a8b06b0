use Rattle.std.proofs.Common.{refl, sym, ◌∙◌}
use Rattle.std.specs.Str.{bytes_eq}
use Rattle.command_text.specs.Commands.{row_of, verb_of, verbs}
use Rattle.command_text.proofs.FindLemmas.{find-here, find-next}
use Rattle.command_text.proofs.verb.known_verb.Goals as goal

pub loop-verb-init : goal.loop-verb-init
unfolding verb_of
loop-verb-init c = refl

pub returns-then-is_named : goal.returns-then-is_named
returns-then-is_named c =
    find-here (λ v. bytes_eq (row_of v).text c.args.word.now) verbs c.loop-verb.verb-index _ _ c.loop-verb-test.true c.loop-verb.invariant (sym c.is_named.ensures ∙ c.if-is_named.true)

pub loop-verb-preserved : goal.loop-verb-preserved
loop-verb-preserved c =
    find-next (λ v. bytes_eq (row_of v).text c.args.word.now) verbs c.loop-verb.verb-index _ _ c.loop-verb-test.true c.loop-verb.invariant (sym c.is_named.ensures ∙ c.if-is_named.false)
