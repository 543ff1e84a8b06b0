use Rattle.std.proofs.Common.{◌≡◌, List, IsSomeAnd, rules, slice_get, subst}
use Rattle.fileset_table.specs.page_store.Homes.{pages_of}
use Rattle.tag_dirs.specs.declared.dir.TagPlace.{TagPlace}
use Rattle.tag_dirs.proofs.Reading.{same_directory}
use Rattle.table_tables.specs.Trial.{IsUsedTo}
use Rattle.table_tables.proofs.trial.Trial.reopen.Goals as goal

pub returns-in-Ok : goal.returns-in-Ok
returns-in-Ok c =
    let pages = pages_of c.args.self.now.pages.entries.items in
    let first = c.in_ok-first.field-0.now.home in
    let begins : IsSomeAnd (slice_get c.args.self.now.dir 0) (λ place. place.home ≡ first) = search rules in
    subst (λ (ps : List TagPlace). IsUsedTo pages ps c.args.self.now.last)
    (same_directory pages first c.args.self.now.dir c.in-Ok.dir (record { directory = c.requires.directory; begins = begins }) c.in-Ok.ensures) c.requires
