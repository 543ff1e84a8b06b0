use Rattle.std.proofs.Common.{◌≡◌, ◌∙◌, false, arith, ap, length, subst, sym}
use Rattle.extent_maps.specs.declared.run.PagePlace.TheVariants.{At}
use Rattle.extent_maps.specs.Runs.{place_of}
use Rattle.cell_records.specs.Records.{kind_of}
use Rattle.extent_records.specs.Writing.{AllSuit, is_of_holes, places_in}
use Rattle.extent_records.proofs.HalfLemmas.{chain_extents, suits_other, switched_few}
use Rattle.extent_records.proofs.RecordLemmas.{has_home, suits_changed, suits_record, suits_runs}
use Rattle.extent_records.proofs.parting.switch_in_parts.Goals as goal

pub part_runs-requires-clause-suits : goal.part_runs-requires-clause-suits
part_runs-requires-clause-suits c =
    let old = c.args.value.now in
    let volume = c.number.ensures in
    let extents = has_home (kind_of old) (places_in old c.args.page) (suits_record old c.args.page c.requires.is_map) c.requires.there in
    let suits = suits_changed old c.in_ok-map.map c.switch.new.self c.args.page (At c.args.home) c.requires.is_map c.in_ok-map.ensures c.in_ok-switch.ensures.ok
    (extents, (omega (arith, volume.value, volume.range.0), omega (arith, volume.value, volume.range.1))) in
    subst (AllSuit (kind_of old)) (sym c.runs.ensures.runs) (suits_runs (kind_of old) c.switch.new.self c.runs.ensures.longest suits)

pub part_runs-requires-clause-suits_tail : goal.part_runs-requires-clause-suits_tail
part_runs-requires-clause-suits_tail c =
    let old = c.args.value.now in
    let volume = c.number.ensures in
    let extents = has_home (kind_of old) (places_in old c.args.page) (suits_record old c.args.page c.requires.is_map) c.requires.there in
    let suits = suits_changed old c.in_ok-map.map c.switch.new.self c.args.page (At c.args.home) c.requires.is_map c.in_ok-map.ensures c.in_ok-switch.ensures.ok
    (extents, (omega (arith, volume.value, volume.range.0), omega (arith, volume.value, volume.range.1))) in
    let kind = kind_of c.empty_extents.result in
    let plain : is_of_holes kind ≡ false = ap is_of_holes c.empty_extents.ensures.kind ∙ chain_extents c.args.version in
    subst (AllSuit kind) (sym c.runs.ensures.runs) (suits_runs kind c.switch.new.self c.runs.ensures.longest (λ p. suits_other (kind_of old) kind (place_of c.switch.new.self p) extents plain (suits p)))

pub part_runs-requires-clause-few : goal.part_runs-requires-clause-few
part_runs-requires-clause-few c =
    let few = switched_few c.args.value.now c.in_ok-map.map c.switch.new.self c.args.page c.args.home c.requires.is_map c.requires.there c.in_ok-map.ensures c.runs.ensures.longest c.in_ok-switch.ensures.ok in
    omega (arith, few, ap length c.runs.ensures.runs)
