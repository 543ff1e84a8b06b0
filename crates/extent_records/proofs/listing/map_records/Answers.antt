use Rattle.std.proofs.Common.{◌≡◌, ap, subst, ◌∙◌}
use Rattle.extent_records.specs.Listing.{AllHomes, homes_in, holes_in}
use Rattle.extent_records.proofs.ListingLemmas.{all_maps, are_one_map, is_map_of, lists_map}
use Rattle.extent_records.proofs.LeastLemmas.{least_list}
use Rattle.extent_records.proofs.listing.map_records.Goals.{After-drop-homes-2}
use Rattle.extent_records.proofs.listing.map_records.Goals as goal

homes_are : (c : After-drop-homes-2) → c.in_ok-homes.homes.items ≡ homes_in c.args.map.now
homes_are c = c.in_ok-homes.ensures.list ∙ ap homes_in c.runs.ensures.runs

all_homes : (c : After-drop-homes-2) → AllHomes (homes_in c.args.map.now)
all_homes c = subst AllHomes (homes_are c) c.in_ok-homes.ensures.homes

pub returns-clause-full : goal.returns-clause-full
returns-clause-full c =
    lists_map c.args.version c.args.map.now c.deref.result.now c.deref-2.result.now c.deref-3.result.now c.new-records.result.items c.push_short.new.records.items c.push_chain.new.records.items c.push_kept.new.records.items
    c.new-records.ensures.items (c.deref.ensures.value ∙ homes_are c) (c.deref-2.ensures.value ∙ homes_are c) (c.deref-3.ensures.value ∙ c.in_ok-holes.ensures.list ∙ ap holes_in c.runs-2.ensures.runs)
    c.in_ok-push_short.ensures c.in_ok-push_chain.ensures c.in_ok-push_kept.ensures

pub returns-clause-one_map : goal.returns-clause-one_map
returns-clause-one_map c = are_one_map c.args.version c.args.map.now c.push_kept.new.records.items c.runs.ensures.longest (all_homes c) (returns-clause-full c)

pub returns-clause-map : goal.returns-clause-map
returns-clause-map c = is_map_of c.args.version c.args.map.now c.push_kept.new.records.items c.runs.ensures.longest (all_homes c) (returns-clause-full c)

pub returns-clause-least : goal.returns-clause-least
returns-clause-least c = least_list c.args.version c.args.map.now c.push_kept.new.records.items c.runs.ensures.longest (returns-clause-full c) (returns-clause-one_map c) (returns-clause-map c)

pub returns-clause-each : goal.returns-clause-each
returns-clause-each c = all_maps c.args.version c.args.map.now c.push_kept.new.records.items c.runs.ensures.longest (all_homes c) (returns-clause-full c)
