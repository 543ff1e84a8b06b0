use Rattle.std.proofs.Common.{◌≡◌, ◌∙◌, ◌-◌, ℕ, Bool, List, false, length, replicate, sym, subst, vec_len, arith}
use Rattle.std.specs.Vec.{with_items}
use Rattle.std.proofs.lemmas.List.{with_items_is}
use Rattle.attached_domain.specs.domain_standing.Domain.{layout_of}
use Rattle.attached_domain.specs.domain_layout.Layout.{Layout}
use Rattle.attached_domain.specs.domain_memory.Staged.{staged_in}
use Rattle.attached_domain.specs.log_ring.Homes.{member_of}
use Rattle.domain_attaching.specs.Tables.{AreTablesOn, IsTableHome, Marks}
use Rattle.domain_attaching.proofs.TablesMarked.{from_none, put_there, set_other}
use Rattle.domain_attaching.proofs.tables.TablePages.mark_on.Goals as goal

pub returns-clause-tables : goal.returns-clause-tables
returns-clause-tables c =
    let layout : Layout = layout_of (staged_in c.args.memory.now) in
    let vol = c.args.vol in
    let index = c.index.ensures.value in
    let n : ℕ = vec_len c.index_mut-marks.result.now in
    let new : List Bool = c.mark_tables.new.marks in
    let P : ℕ → Type 0 = λ k. IsTableHome layout (record { vol = vol; page = k }) in
    let filled : c.fill.new.self.items ≡ replicate n false = c.fill.ensures.items (λ mark is. is) in
    let marks = with_items c.fill.new.self new in
    let whole : marks.items ≡ new = with_items_is c.fill.new.self new (c.mark_tables.ensures.count ∙ c.deref_mut.ensures.len) in
    put_there c.args.self.now.volumes.items c.index.result marks (λ m. length m.items ≡ (member_of c.args.memory.now.frame.anchor vol).pages) (λ m. AreTablesOn layout vol m.items) (vol - 1) (omega (arith, index)) c.requires
    (subst (λ (l : List Bool). AreTablesOn layout vol l) (sym whole) (from_none P n new (subst (λ (l : List Bool). Marks P l new) (c.deref_mut.ensures.value ∙ filled) c.mark_tables.ensures)))

pub returns-clause-others : goal.returns-clause-others
returns-clause-others c = λ k apart.
    let index = c.index.ensures.value in
    set_other c.args.self.now.volumes.items c.index.result _ k (λ same. apart (omega (arith, same, index)))
