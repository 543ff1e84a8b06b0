use Rattle.std.proofs.Common.{◌≡◌, ◌∙◌, sym, subst}
use Rattle.std.proofs.lemmas.Result.{on_ok_weaker}
use Rattle.slot_files.specs.fileset_table.Table.{Table}
use Rattle.image_loading.specs.Loading.{HasTagPages}
use Rattle.slot_files.specs.page_ways.Frame.{frame_in}
use Rattle.slot_files.specs.cell_faults.declared.reading.TableRead.TheVariants.{There}
use Rattle.image_loading.proofs.domain_tables.load_its_tags.Goals as goal

one_read : (a b : Table) → There a ≡ There b → a ≡ b
one_read a b same = cc

pub returns-in-There-clause-tags : goal.returns-in-There-clause-tags
returns-in-There-clause-tags g c =
    on_ok_weaker c.load_tags.result (λ has table is. subst (HasTagPages (g.M.MetaPages.pages c.load_tags.new.pages) (frame_in c.args.frame.now)) (one_read c.in-There.table table (sym c.in-There.is ∙ is)) has)
    c.load_tags.ensures.whole
