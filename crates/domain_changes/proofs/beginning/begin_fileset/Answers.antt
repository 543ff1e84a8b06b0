use Rattle.std.proofs.Common.{◌<◌, sym, ap, subst, rules}
use Rattle.std.proofs.lemmas.Result.{err_from_is_err_and}
use Rattle.domain_memory.specs.fileset_table.declared.slot.FilesetEntry.{FilesetEntry}
use Rattle.domain_memory.specs.fileset_table.declared.slot.SlotItem.TheVariants as slot
use Rattle.domain_memory.specs.Staged.{MayGoBack}
use Rattle.domain_memory.specs.declared.memory.DomainMemory.{DomainMemory}
use Rattle.domain_changes.specs.Beginning.{new_entry}
use Rattle.domain_changes.specs.Table.{PutsSlot}
use Rattle.domain_changes.proofs.BeginAsks.{mid_has_page, mid_joins, new_together}
use Rattle.domain_changes.proofs.FilesetBegun.{last_books, last_parents, last_staged}
use Rattle.domain_changes.proofs.BeginEnds.{back_last, back_then, kept_last, kept_then, within_old, within_then}
use Rattle.domain_changes.proofs.KeptParts.{back_kept}
use Rattle.domain_changes.proofs.NoneBegun.{root_none}
use Rattle.domain_changes.proofs.TableJoined.{asks_fresh}
use Rattle.domain_changes.proofs.beginning.begin_fileset.Goals as goal

-- begun: the tags; put: the table's slot; made: the root
pub returns-in_err-begun-clause-back : goal.returns-in_err-begun-clause-back
returns-in_err-begun-clause-back c =
    back_kept c.args.memory.now c.begin_tags.new.memory (ap (λ (m : DomainMemory). m.slots.items) c.begin_tags.ensures.same) c.begin_tags.ensures.kept c.requires.back

pub put_in_table-requires-clause-table : goal.put_in_table-requires-clause-table
put_in_table-requires-clause-table c =
    mid_joins c.args.number c.args.name c.in_ok-begun.begun.home c.in_ok-begun.begun.files c.args.memory.now c.begin_tags.new.memory c.requires.stands c.in_ok-begun.ensures.ok c.requires.free c.requires.named c.requires.unused c.requires.few c.new_entry-entry.result c.new_entry-entry.ensures

pub put_in_table-requires-clause-there : goal.put_in_table-requires-clause-there
put_in_table-requires-clause-there c =
    mid_has_page c.args.number c.args.name c.in_ok-begun.begun.home c.in_ok-begun.begun.files c.args.memory.now c.begin_tags.new.memory c.requires.stands c.in_ok-begun.ensures.ok

pub returns-in_err-put_in_table-clause-back : goal.returns-in_err-put_in_table-clause-back
returns-in_err-put_in_table-clause-back c =
    subst (λ (m : DomainMemory). ∥ MayGoBack m ∥₁) (sym c.in_err-put_in_table.ensures.err)
    (back_kept c.args.memory.now c.begin_tags.new.memory (ap (λ (m : DomainMemory). m.slots.items) c.begin_tags.ensures.same) c.begin_tags.ensures.kept c.requires.back)

pub make_root-requires-clause-together : goal.make_root-requires-clause-together
make_root-requires-clause-together c =
    let puts = subst (λ (e : FilesetEntry). PutsSlot c.args.number (slot.Original e) c.begin_tags.new.memory c.put_in_table.new.memory) c.new_entry-entry.ensures c.in_ok-put_in_table.ensures.ok in
    new_together c.args.number c.args.name c.in_ok-begun.begun.home c.in_ok-begun.begun.files c.args.memory.now c.begin_tags.new.memory c.requires.stands c.in_ok-begun.ensures.ok c.put_in_table.new.memory c.requires.free puts

pub make_root-requires-clause-fresh : goal.make_root-requires-clause-fresh
make_root-requires-clause-fresh c =
    let puts = subst (λ (e : FilesetEntry). PutsSlot c.args.number (slot.Original e) c.begin_tags.new.memory c.put_in_table.new.memory) c.new_entry-entry.ensures c.in_ok-put_in_table.ensures.ok in
    asks_fresh c.args.number c.args.name c.in_ok-begun.begun.home c.in_ok-begun.begun.files c.args.memory.now c.begin_tags.new.memory c.put_in_table.new.memory c.requires.free c.in_ok-begun.ensures.ok puts c.requires.stands

pub returns-in_err-make_root-clause-kept : goal.returns-in_err-make_root-clause-kept
returns-in_err-make_root-clause-kept c =
    let puts = subst (λ (e : FilesetEntry). PutsSlot c.args.number (slot.Original e) c.begin_tags.new.memory c.put_in_table.new.memory) c.new_entry-entry.ensures c.in_ok-put_in_table.ensures.ok in
    kept_then c.args.number c.args.name c.in_ok-begun.begun.home c.in_ok-begun.begun.files c.args.memory.now c.begin_tags.new.memory c.put_in_table.new.memory c.make_root.new.memory c.requires.fresh c.in_ok-begun.ensures.ok c.begin_tags.ensures.kept puts c.make_root.ensures.kept c.make_root.ensures.same

pub returns-in_err-make_root-clause-back : goal.returns-in_err-make_root-clause-back
returns-in_err-make_root-clause-back c =
    let puts = subst (λ (e : FilesetEntry). PutsSlot c.args.number (slot.Original e) c.begin_tags.new.memory c.put_in_table.new.memory) c.new_entry-entry.ensures c.in_ok-put_in_table.ensures.ok in
    back_then c.args.number c.args.name c.in_ok-begun.begun.home c.in_ok-begun.begun.files c.args.memory.now c.begin_tags.new.memory c.put_in_table.new.memory c.make_root.new.memory c.requires.fresh c.in_ok-begun.ensures.ok c.begin_tags.ensures.kept puts c.make_root.ensures.kept c.make_root.ensures.same c.requires.back

pub returns-in_err-make_root-clause-cause : goal.returns-in_err-make_root-clause-cause
returns-in_err-make_root-clause-cause c =
    let puts = subst (λ (e : FilesetEntry). PutsSlot c.args.number (slot.Original e) c.begin_tags.new.memory c.put_in_table.new.memory) c.new_entry-entry.ensures c.in_ok-put_in_table.ensures.ok in
    let p = err_from_is_err_and c.from_residual-in_err-make_root.result c.from_residual-in_err-make_root.ensures.1 in
    rw (p.1, p.2) (root_none c.args.number c.in_ok-begun.begun.home c.in_ok-begun.begun.files (slot.Original (new_entry c.args.name c.in_ok-begun.begun.home)) c.args.memory.now c.begin_tags.new.memory c.put_in_table.new.memory c.make_root.new.memory.space c.in_ok-begun.ensures.ok puts c.in_err-make_root.field-0.0 c.in_err-make_root.ensures.cause)

pub put_files-requires : goal.put_files-requires
put_files-requires c =
    let puts = subst (λ (e : FilesetEntry). PutsSlot c.args.number (slot.Original e) c.begin_tags.new.memory c.put_in_table.new.memory) c.new_entry-entry.ensures c.in_ok-put_in_table.ensures.ok in
    let low : c.args.number < 32 = search rules in
    record { within = within_then c.args.number c.args.name c.in_ok-begun.begun.home c.in_ok-begun.begun.files c.args.memory.now c.begin_tags.new.memory c.put_in_table.new.memory c.make_root.new.memory c.requires.fresh c.in_ok-begun.ensures.ok c.begin_tags.ensures.kept puts c.make_root.ensures.kept c.make_root.ensures.same c.requires.back low }

pub returns-clause-kept : goal.returns-clause-kept
returns-clause-kept c =
    let puts = subst (λ (e : FilesetEntry). PutsSlot c.args.number (slot.Original e) c.begin_tags.new.memory c.put_in_table.new.memory) c.new_entry-entry.ensures c.in_ok-put_in_table.ensures.ok in
    let low : c.args.number < 32 = search rules in
    kept_last c.args.number c.args.name c.in_ok-begun.begun.home c.in_ok-begun.begun.files c.args.memory.now c.begin_tags.new.memory c.put_in_table.new.memory c.make_root.new.memory c.requires.fresh c.in_ok-begun.ensures.ok c.begin_tags.ensures.kept puts c.make_root.ensures.kept c.make_root.ensures.same c.requires.back low c.make_root.new.files c.make_root.ensures.files c.put_files.new.memory c.requires.free c.requires.stands c.put_files.ensures.slots c.put_files.ensures.same

pub returns-clause-back : goal.returns-clause-back
returns-clause-back c =
    let puts = subst (λ (e : FilesetEntry). PutsSlot c.args.number (slot.Original e) c.begin_tags.new.memory c.put_in_table.new.memory) c.new_entry-entry.ensures c.in_ok-put_in_table.ensures.ok in
    let low : c.args.number < 32 = search rules in
    back_last c.args.number c.args.name c.in_ok-begun.begun.home c.in_ok-begun.begun.files c.args.memory.now c.begin_tags.new.memory c.put_in_table.new.memory c.make_root.new.memory c.requires.fresh c.in_ok-begun.ensures.ok c.begin_tags.ensures.kept puts c.make_root.ensures.kept c.make_root.ensures.same c.requires.back low c.make_root.new.files c.make_root.ensures.files c.put_files.new.memory c.requires.free c.requires.stands c.put_files.ensures.slots c.put_files.ensures.same

pub returns-clause-staged : goal.returns-clause-staged
returns-clause-staged c =
    let puts = subst (λ (e : FilesetEntry). PutsSlot c.args.number (slot.Original e) c.begin_tags.new.memory c.put_in_table.new.memory) c.new_entry-entry.ensures c.in_ok-put_in_table.ensures.ok in
    let low : c.args.number < 32 = search rules in
    λ all staged. last_staged c.args.number c.args.prefer c.args.name c.in_ok-begun.begun.home c.in_ok-begun.begun.files c.make_root.new.files c.args.memory.now c.begin_tags.new.memory c.put_in_table.new.memory c.make_root.new.memory c.put_files.new.memory c.requires.free c.in_ok-begun.ensures.ok puts c.in_ok-make_root.ensures.ok c.make_root.ensures.same c.make_root.ensures.files (within_old c.args.number c.args.name c.in_ok-begun.begun.home c.in_ok-begun.begun.files c.args.memory.now c.begin_tags.new.memory c.put_in_table.new.memory c.make_root.new.memory c.requires.fresh c.in_ok-begun.ensures.ok c.begin_tags.ensures.kept puts c.make_root.ensures.kept c.make_root.ensures.same c.requires.back low) c.put_files.ensures.slots c.put_files.ensures.same all staged

pub returns-clause-parents : goal.returns-clause-parents
returns-clause-parents c =
    let puts = subst (λ (e : FilesetEntry). PutsSlot c.args.number (slot.Original e) c.begin_tags.new.memory c.put_in_table.new.memory) c.new_entry-entry.ensures c.in_ok-put_in_table.ensures.ok in
    let low : c.args.number < 32 = search rules in
    λ all staged parents. last_parents c.args.number c.args.prefer c.args.name c.in_ok-begun.begun.home c.in_ok-begun.begun.files c.make_root.new.files c.args.memory.now c.begin_tags.new.memory c.put_in_table.new.memory c.make_root.new.memory c.put_files.new.memory c.requires.free c.in_ok-begun.ensures.ok puts c.in_ok-make_root.ensures.ok c.make_root.ensures.same c.make_root.ensures.files (within_old c.args.number c.args.name c.in_ok-begun.begun.home c.in_ok-begun.begun.files c.args.memory.now c.begin_tags.new.memory c.put_in_table.new.memory c.make_root.new.memory c.requires.fresh c.in_ok-begun.ensures.ok c.begin_tags.ensures.kept puts c.make_root.ensures.kept c.make_root.ensures.same c.requires.back low) c.put_files.ensures.slots c.put_files.ensures.same all staged parents

pub returns-clause-books : goal.returns-clause-books
returns-clause-books c =
    let puts = subst (λ (e : FilesetEntry). PutsSlot c.args.number (slot.Original e) c.begin_tags.new.memory c.put_in_table.new.memory) c.new_entry-entry.ensures c.in_ok-put_in_table.ensures.ok in
    let low : c.args.number < 32 = search rules in
    λ all staged are. last_books c.args.number c.args.prefer c.args.name c.in_ok-begun.begun.home c.in_ok-begun.begun.files c.make_root.new.files c.args.memory.now c.begin_tags.new.memory c.put_in_table.new.memory c.make_root.new.memory c.put_files.new.memory c.requires.free c.in_ok-begun.ensures.ok puts c.in_ok-make_root.ensures.ok c.make_root.ensures.same c.make_root.ensures.files (within_old c.args.number c.args.name c.in_ok-begun.begun.home c.in_ok-begun.begun.files c.args.memory.now c.begin_tags.new.memory c.put_in_table.new.memory c.make_root.new.memory c.requires.fresh c.in_ok-begun.ensures.ok c.begin_tags.ensures.kept puts c.make_root.ensures.kept c.make_root.ensures.same c.requires.back low) c.put_files.ensures.slots c.put_files.ensures.same all staged are
