use Rattle.std.proofs.Common.{◌≡◌, ◌∙◌, ◌++◌, List, [], Some, map, slice_get, sym, ap}
use Rattle.std.proofs.lemmas.List.{append-nil}
use Rattle.std.proofs.lemmas.Option.{slice_get-get_or, slice_get_within}
use Rattle.directory_pages.specs.declared.row.Row.{Row}
use Rattle.directory_rows.specs.Ways.{below, rows_by}
use Rattle.directory_rows.specs.declared.led.Led.{Led}
use Rattle.directory_rows.proofs.AllLed.{same_some}
use Rattle.directory_rows.proofs.walk.push_rows_of.Goals as goal

nothing_added : (old : List Led) (led : Led) (rows : List Row) → [] ≡ rows → old ≡ old ++ map (below led.path) rows
nothing_added old led rows none = sym (append-nil old) ∙ ap (λ (rs : List Row). old ++ map (below led.path) rs) none

pub returns : goal.returns
returns c = λ led at.
    let found = c.args.found.now.items in
    let there : slice_get found c.args.at ≡ Some c.index.result.now =
    slice_get-get_or found c.args.at c.index.result.now (slice_get_within found c.args.at led at) ∙ ap Some (sym c.index.ensures) in
    let same : c.index.result.now ≡ led = same_some c.index.result.now led (sym there ∙ at) in
    nothing_added found led (rows_by c.args.directories.now led.tag)
    (c.in-None.ensures ∙ ap (λ (l : Led). rows_by c.args.directories.now l.tag) same)
