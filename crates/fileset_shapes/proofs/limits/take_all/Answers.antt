use Rattle.std.proofs.Common.{◌≡◌, ◌-◌, ◌<◌, suc, drop, length, refl, subst, arith}
use Rattle.std.proofs.lemmas.Option.{slice_get-get_or}
use Rattle.filesets_reading.specs.quota_book.QuotaCells.{said_by}
use Rattle.fileset_shapes.specs.Limits.{HasSaid}
use Rattle.fileset_shapes.proofs.Said.{keeps_on, keeps_same, said_none, said_on}
use Rattle.fileset_shapes.proofs.limits.take_all.Goals as goal

pub loop-i-init : goal.loop-i-init
loop-i-init c = record { said = said_none c.args.tree.now c.args.records.now (length c.args.records.now) c.requires refl; kept = keeps_same c.args.tree.now }

pub loop-i-preserved : goal.loop-i-preserved
loop-i-preserved c =
    let records = c.args.records.now in
    let within : c.loop-i.i - 1 < length records = omega arith in
    let next : c.loop-i.i ≡ suc (c.loop-i.i - 1) = omega arith in
    record {
      said = said_on records (c.loop-i.i - 1) _ c.loop-i.tree c.take_said.new.tree (slice_get-get_or records (c.loop-i.i - 1) _ within)
          (subst (λ k. HasSaid (said_by (drop k records)) c.loop-i.tree) next c.loop-i.invariant.said) c.in_ok-take_said.ensures.takes;
      kept = keeps_on c.args.tree.now c.loop-i.tree c.take_said.new.tree c.loop-i.invariant.kept c.take_said.ensures.kept;
    }
