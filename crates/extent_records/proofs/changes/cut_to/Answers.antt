use Rattle.std.proofs.Common.{◌≡◌, ℕ, cond, ltb, ap, ◌∙◌}
use Rattle.extent_maps.specs.declared.run.PagePlace.TheVariants.{Absent}
use Rattle.extent_maps.specs.Runs.{place_of}
use Rattle.cell_records.specs.Records.{kind_of}
use Rattle.extent_records.specs.Writing.{places_from, places_in}
use Rattle.extent_records.proofs.RecordLemmas.{least_same}
use Rattle.extent_records.proofs.BackLemmas.{back_fits, suits_back}
use Rattle.extent_records.proofs.changes.cut_to.Goals as goal

pub write_map-requires-clause-suits : goal.write_map-requires-clause-suits
write_map-requires-clause-suits c =
    suits_back c.args.value.now c.in_ok-map.map c.in_ok-tail.tail c.args.to c.requires c.in_ok-map.ensures c.in_ok-tail.ensures.ok.tail_places

pub returns-clause-ok : goal.returns-clause-ok
returns-clause-ok c =
    let old = c.args.value.now in
    let tail = c.in_ok-tail.tail in
    let parted = c.in_ok-tail.ensures.ok in
    let same : (p : ℕ) → place_of tail p ≡ places_from c.args.to (places_in old) p = λ p.
    parted.tail_places p ∙ ap (λ x. cond (ltb p c.args.to) Absent x) (c.in_ok-map.ensures p) in
    let fits = back_fits old c.args.to tail c.requires parted.tail_runs same in
    least_same (kind_of old) (place_of tail) (places_from c.args.to (places_in old)) c.write_map.new.value same (c.write_map.ensures.written.written (c.write_map.ensures.room fits))
