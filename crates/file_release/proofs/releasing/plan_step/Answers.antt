use Rattle.fileset_files.specs.extent_maps.Runs.{place_of}
use Rattle.fileset_files.specs.extent_records.Writing.{places_in}
use Rattle.fileset_files.specs.file_chains.Files.{places_of}
use Rattle.file_release.specs.Sharing.{frozen_of}
use Rattle.file_release.proofs.Planned.{before_used, cell_stands, front_stand, has_map, stands_there, tail_by}
use Rattle.std.proofs.Common.{refl}
use Rattle.file_release.proofs.releasing.plan_step.Goals as goal

pub cell_map-requires : goal.cell_map-requires
cell_map-requires g c = has_map c.args.from c.args.reader.now c.args.stale.now (g.M.MetaPages.pages c.args.pages.now) c.requires.may.0 c.requires.may.1 c.requires.may.2

pub edit_for-requires-clause-map : goal.edit_for-requires-clause-map
edit_for-requires-clause-map g c = has_map c.args.from c.args.reader.now c.args.stale.now (g.M.MetaPages.pages c.args.pages.now) c.requires.may.0 c.requires.may.1 c.requires.may.2

pub edit_for-requires-clause-before : goal.edit_for-requires-clause-before
edit_for-requires-clause-before g c = before_used c.args.from c.args.reader.now c.args.stale.now (g.M.MetaPages.pages c.args.pages.now) c.requires.may.0 c.requires.may.1 c.requires.may.2

pub returns : goal.returns
returns g c = λ chain own may.
    let pages = g.M.MetaPages.pages c.args.pages.now in
    let there = stands_there c.args.from c.args.reader.now c.args.stale.now pages chain own may in
    let map = c.in_ok-map.ensures may.spot.c.cell may.spot.value there may.spot.map in
    record {
      spot = may.spot;
      map = map;
      tail = tail_by c.args.from (frozen_of c.args.reader.now) (places_of own) (places_of own) (place_of c.in_ok-map.map) (places_in may.spot.value) c.in_ok-found.found.tail (λ p. refl) map (c.in_ok-found.ensures.tail own may.reads);
      edit = c.in_ok-edit.ensures may.spot.front may.spot.c may.spot.value (front_stand c.args.from c.args.reader.now c.args.stale.now pages chain own may) (cell_stands c.args.from c.args.reader.now c.args.stale.now pages chain own may)
          may.spot.is_at may.spot.before may.spot.map;
      read = c.in_ok-found.ensures.read own may.reads;
    }

pub tail_for-requires-clause-reads : goal.tail_for-requires-clause-reads
tail_for-requires-clause-reads g c = (c.requires.may.1, c.requires.may.2.reads)
