use Rattle.std.proofs.Common.{◌≡◌, ℕ, cond, ltb, ap, ◌∙◌}
use Rattle.extent_maps.specs.declared.run.PagePlace.TheVariants.{Absent}
use Rattle.extent_maps.specs.Runs.{place_of}
use Rattle.cell_records.specs.Records.{kind_of}
use Rattle.extent_records.specs.Writing.{places_before, places_in}
use Rattle.extent_records.proofs.RecordLemmas.{least_same, suits_front}
use Rattle.extent_records.proofs.FrontLemmas.{front_fits}
use Rattle.extent_records.proofs.changes.cut_from.Goals as goal

pub write_map-requires-clause-suits : goal.write_map-requires-clause-suits
write_map-requires-clause-suits c =
    suits_front c.args.value.now c.in_ok-map.map c.split_tail.new.self c.args.from c.requires c.in_ok-map.ensures c.in_ok-split_tail.ensures.ok.front_places

pub returns-clause-ok : goal.returns-clause-ok
returns-clause-ok c =
    let old = c.args.value.now in
    let front = c.split_tail.new.self in
    let parted = c.in_ok-split_tail.ensures.ok in
    let same : (p : ℕ) → place_of front p ≡ places_before c.args.from (places_in old) p = λ p.
    parted.front_places p ∙ ap (λ x. cond (ltb p c.args.from) x Absent) (c.in_ok-map.ensures p) in
    let fits = front_fits old c.args.from front c.requires parted.front_runs same in
    least_same (kind_of old) (place_of front) (places_before c.args.from (places_in old)) c.write_map.new.value same (c.write_map.ensures.written.written (c.write_map.ensures.room fits))
