use Rattle.std.proofs.Common.{◌≡◌, ◌∙◌, ◌++◌, ◌∷◌, [], List, Option, append-nil, ap, subst, sym, take}
use Rattle.std.specs.List.{cons_option, filter_map}
use Rattle.domain_memory.specs.extent_maps.Runs.{IsRun}
use Rattle.domain_memory.specs.fileset_values.declared.reply.ExtentItem.{ExtentItem}
use Rattle.file_changes.specs.Extents.{extent_of}
use Rattle.file_changes.proofs.Counted.{run_in}
use Rattle.file_changes.proofs.RunsShown.{one_more_run}
use Rattle.file_changes.proofs.extents.extents_in.Goals as goal
use Rattle.file_changes.proofs.extents.extents_in.Goals.{in-Some+in_ok-push, in_default}

pub extent_of-requires : goal.extent_of-requires
extent_of-requires c = subst IsRun (sym c.run-item.is) (run_in c.args.runs.now c.loop-run.run-index c.run-item.result c.requires c.loop-run-test.true)

pub loop-run-preserved : goal.loop-run-preserved
loop-run-preserved c =
    let runs = c.args.runs.now in
    let k = c.loop-run.run-index in
    let so_far : c.loop-run.extents.items ≡ filter_map (extent_of c.args.keep) (take k runs) = c.loop-run.invariant in
    let more = one_more_run c.args.keep runs k c.run-item.result c.extent_of.result c.loop-run-test.true c.run-item.is c.extent_of.ensures in
    elim c.match-extent_of.branch [
      | in-Some+in_ok-push w ↦
          ap (λ v. v.items) w.extents-is ∙ w.in_ok-push.ensures.items ∙ ap (λ (es : List ExtentItem). es ++ w.in-Some.extent ∷ []) so_far
          ∙ ap (λ (o : Option ExtentItem). filter_map (extent_of c.args.keep) (take k runs) ++ cons_option o []) (sym w.in-Some.is) ∙ sym more
      | in_default w ↦
          ap (λ v. v.items) w.extents-is ∙ so_far ∙ sym (append-nil (filter_map (extent_of c.args.keep) (take k runs)))
          ∙ ap (λ (o : Option ExtentItem). filter_map (extent_of c.args.keep) (take k runs) ++ cons_option o []) (sym w.in_default.is) ∙ sym more
    ]
