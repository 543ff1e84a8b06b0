use Rattle.fileset_table.specs.page_store.Homes.{pages_of}
use Rattle.table_tables.proofs.Trials.{slot_free}
use Rattle.table_tables.proofs.trial.Trial.enter_as.Goals as goal

pub enter_as-done-requires-clause-free : goal.enter_as-done-requires-clause-free
enter_as-done-requires-clause-free c = slot_free (pages_of c.args.self.now.pages.entries.items) c.args.self.now.dir c.args.self.now.last c.args.tag.slot c.requires c.if-tag-self.false
