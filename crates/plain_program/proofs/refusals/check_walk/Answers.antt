use Rattle.std.proofs.Common.{rules, ◌≡◌, ◌∷◌, ◌+◌, ◌-◌, ◌<◌, Option, None, length, map, take, subst, ap, sym, ◌∙◌}
use Rattle.std.specs.List.{range_with_len}
use Rattle.legal_histories.specs.fileset_values.Orders.{Path}
use Rattle.legal_histories.specs.fileset_model.Paths.{directory_refusal, first_refusal, walk_refusal}
use Rattle.legal_histories.specs.fileset_values.declared.reply.Refusal.{Refusal}
use Rattle.plain_program.specs.Stops.{StopsFor}
use Rattle.plain_program.specs.declared.stop.Stop.TheVariants.{Refused}
use Rattle.plain_program.proofs.WalkLemmas.{stops_on_walk, walk-step}
use Rattle.plain_program.proofs.refusals.check_walk.Goals as goal

pub returns-in_err-check_directory : goal.returns-in_err-check_directory
returns-in_err-check_directory c =
    let slot = c.args.slot.now in
    let path = c.args.path.now in
    let count = c.loop-count.count in
    let within : count < length path = subst (λ (p : Path). count < length p) c.as_slice-count-end.ensures c.loop-count-test.true in
    let stop = Refused c.in_err-check_directory.field-0.0 in
    let here : StopsFor (directory_refusal slot (take count path)) stop =
    subst (λ (p : Path). StopsFor (directory_refusal slot p) stop) c.in_ok-directory.ensures c.in_err-check_directory.ensures in
    let stops : StopsFor (walk_refusal slot path) stop = stops_on_walk slot path count stop within c.loop-count.invariant here in
    search (rules, stops)

pub loop-count-preserved : goal.loop-count-preserved
loop-count-preserved c =
    let slot = c.args.slot.now in
    let path = c.args.path.now in
    let count = c.loop-count.count in
    let within : count < length path = subst (λ (p : Path). count < length p) c.as_slice-count-end.ensures c.loop-count-test.true in
    let here : None ≡ directory_refusal slot (take count path) = sym c.in_ok-check_directory.ensures ∙ ap (directory_refusal slot) c.in_ok-directory.ensures in
    ap (λ (r : Option Refusal). first_refusal (r ∷ map (directory_refusal slot) (map (λ k. take k path) (range_with_len (count + 1) (length path - (count + 1)))))) here
    ∙ sym (walk-step slot path count within)
    ∙ c.loop-count.invariant
