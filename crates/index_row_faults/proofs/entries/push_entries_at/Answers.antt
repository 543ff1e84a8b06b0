use Rattle.std.proofs.Common.{◌≡◌, ◌∙◌, ◌++◌, List, sym, ap}
use Rattle.std.specs.Option.{option_copied}
use Rattle.std.proofs.lemmas.List.{append-nil}
use Rattle.index_row_faults.specs.declared.entries.EntryAt.{EntryAt}
use Rattle.index_row_faults.proofs.Read.{none_there}
use Rattle.index_row_faults.proofs.entries.push_entries_at.Goals as goal

pub returns-in-None : goal.returns-in-None
returns-in-None g c =
    let old = c.args.entries.now.items in
    sym (append-nil old) ∙ ap (λ (l : List EntryAt). old ++ l) (sym (none_there (g.M.MetaPages.pages c.args.pages.now) c.args.home.now (sym c.get.ensures ∙ ap option_copied c.in-None.is)))
