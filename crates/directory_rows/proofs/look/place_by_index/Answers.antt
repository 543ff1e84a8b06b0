use Rattle.std.proofs.Common.{◌∙◌, sym, arith}
use Rattle.directory_pages.specs.Index.{all_entries, index_pages}
use Rattle.directory_rows.specs.Directory.{row_pages}
use Rattle.directory_rows.proofs.Looking.{none_answer, none_at_all, none_on, none_to, page_there, some_answer}
use Rattle.directory_rows.proofs.Parts.{pages_fit}
use Rattle.directory_rows.proofs.look.place_by_index.Goals as goal

pub overflow_add-from : goal.overflow_add-from
overflow_add-from g c =
    let files = g.S.BitfileSet.files c.args.set.now in
    let pages = row_pages files c.args.dir in
    let entries = all_entries (index_pages files c.args.dir) in
    let inside = page_there pages entries c.requires.index.exact c.args.name.now c.name_hash-hash.result (sym c.name_hash-hash.ensures) c.in-Some.number c.in-Some.ensures.some.there in
    omega (arith, inside, pages_fit files c.args.dir (g.met.S.BitfileSet.sound c.args.set.now c.args.dir))

pub returns-then-is_some : goal.returns-then-is_some
returns-then-is_some g c =
    let files = g.S.BitfileSet.files c.args.set.now in
    let pages = row_pages files c.args.dir in
    let entries = all_entries (index_pages files c.args.dir) in
    let number = c.in-Some.number in
    let before = none_to pages entries c.requires.index.exact c.args.name.now c.name_hash-hash.result (sym c.name_hash-hash.ensures) c.loop-number.from number c.in-Some.ensures.some c.loop-number.invariant.none in
    some_answer c.args.name.now pages number c.place_on-place.result (sym c.is_some.ensures ∙ c.if-is_some.true) c.place_on-place.ensures before

pub loop-number-smaller : goal.loop-number-smaller
loop-number-smaller g c =
    let files = g.S.BitfileSet.files c.args.set.now in
    let pages = row_pages files c.args.dir in
    let entries = all_entries (index_pages files c.args.dir) in
    let inside = page_there pages entries c.requires.index.exact c.args.name.now c.name_hash-hash.result (sym c.name_hash-hash.ensures) c.in-Some.number c.in-Some.ensures.some.there in
    omega (arith, inside, c.in-Some.ensures.some.begins)

pub loop-number-preserved : goal.loop-number-preserved
loop-number-preserved g c =
    let files = g.S.BitfileSet.files c.args.set.now in
    let pages = row_pages files c.args.dir in
    let entries = all_entries (index_pages files c.args.dir) in
    let name = c.args.name.now in
    let number = c.in-Some.number in
    let hash = c.name_hash-hash.result in
    let inside = page_there pages entries c.requires.index.exact name hash (sym c.name_hash-hash.ensures) number c.in-Some.ensures.some.there in
    let here = none_answer name pages number c.place_on-place.result (sym c.is_some.ensures ∙ c.if-is_some.false) c.place_on-place.ensures in
    record {
      none = none_on pages entries c.requires.index.exact name hash (sym c.name_hash-hash.ensures) c.loop-number.from number c.in-Some.ensures.some c.loop-number.invariant.none here;
      within = omega (arith, inside);
    }

pub returns : goal.returns
returns g c =
    let files = g.S.BitfileSet.files c.args.set.now in
    let pages = row_pages files c.args.dir in
    let entries = all_entries (index_pages files c.args.dir) in
    none_at_all pages entries c.requires.index.exact c.args.name.now c.name_hash-hash.result (sym c.name_hash-hash.ensures) c.loop-number.from c.in_default.ensures.none c.loop-number.invariant.none
