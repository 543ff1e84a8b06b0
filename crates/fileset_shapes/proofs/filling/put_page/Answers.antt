use Rattle.std.proofs.Common.{◌≡◌, ◌∙◌, ◌*◌, [], OnOk, Result, Ok, Err, Some, sym, ap}
use Rattle.std.specs.Option.{option_copied, unwrap_or}
use Rattle.std.specs.FinMap.{insert}
use Rattle.filesets_reading.specs.fileset_model.Pages.{written}
use Rattle.fileset_shapes.specs.Stored.{bytes_at}
use Rattle.fileset_shapes.proofs.Filled.{written_whole}
use Rattle.fileset_shapes.proofs.filling.put_page.Goals as goal

on_ok : {X E : Type 0} (r : Result X E) (P Q : Type 0) → (P → Q) → OnOk r P → OnOk r Q
on_ok (Ok x) P Q so is = so is
on_ok (Err e) P Q so is = tt

pub returns-in-Some : goal.returns-in-Some
returns-in-Some g c =
    let pages = g.M.MetaPages.pages c.args.pages.now in
    let there : pages c.args.home.now ≡ Some c.in-Some.page.now = sym c.get.ensures ∙ ap option_copied c.in-Some.is in
    let same : c.bytes.result.now ≡ bytes_at pages c.args.home.now = c.bytes.ensures.value ∙ sym (ap (λ o. unwrap_or o []) there) in
    on_ok c.write.result (c.write.new.self ≡ written c.args.map.now (c.args.number * 8192) c.bytes.result.now) (c.write.new.self ≡ insert c.args.map.now c.args.number (bytes_at pages c.args.home.now))
    (λ put. put ∙ written_whole c.args.map.now c.args.number c.bytes.result.now c.bytes.ensures.len c.requires.absent ∙ ap (insert c.args.map.now c.args.number) same)
    c.write.ensures.ok
