use Rattle.std.proofs.Common.{◌≡◌, ◌∙◌, ◌<◌, ℕ, refl, subst, sym}
use Rattle.std.proofs.lemmas.Bool.{true≢false}
use Rattle.std.specs.Result.{IfErr, OnOk}
use Rattle.fileset_table.specs.declared.slot.SlotItem.{SlotItem}
use Rattle.fileset_table.specs.Table.{IsTable, Table, with_slot}
use Rattle.fileset_table.proofs.Tried.{handed_back, is_table, not_allowed, set_there}
use Rattle.fileset_table.proofs.table.FilesetTable.try_set_slot.Goals as goal

pub returns-then-not-is_allowed-clause-err : goal.returns-then-not-is_allowed-clause-err
returns-then-not-is_allowed-clause-err c =
    let within : c.args.number < 32 = subst (λ n. n < 32) c.number-at.ensures.value c.number-at.ensures.range in
    (refl, refl, λ is. true≢false (sym (c.is_allowed.ensures.1 (not_allowed c.args.self.now c.args.number c.args.item within is)) ∙ c.if-not-is_allowed.true))

pub invariant_of-self : goal.invariant_of-self
invariant_of-self c =
    let t : Table = record { slots = c.self.inside.slots.items; made = c.self.inside.made } in
    is_table t c.number-at.result c.args.item c.try_exchange.new.slots.items c.self.invariant c.number-at.ensures.range (c.is_allowed.ensures.0 c.if-not-is_allowed.false) c.try_exchange.result
    c.try_exchange.ensures.ok c.try_exchange.ensures.err

pub returns-clause-ok : goal.returns-clause-ok
returns-clause-ok c =
    let t : Table = record { slots = c.self.inside.slots.items; made = c.self.inside.made } in
    let new : Table = record { slots = c.try_exchange.new.slots.items; made = c.self.inside.made } in
    subst (λ (was : Table). OnOk c.try_exchange.result (IsTable (with_slot c.args.number c.args.item was) × (new ≡ with_slot c.args.number c.args.item was))) c.self.view_is
    (subst (λ (n : ℕ). OnOk c.try_exchange.result (IsTable (with_slot n c.args.item t) × (new ≡ with_slot n c.args.item t))) c.number-at.ensures.value
    (set_there t c.number-at.result c.args.item c.try_exchange.new.slots.items c.self.invariant c.number-at.ensures.range (c.is_allowed.ensures.0 c.if-not-is_allowed.false) c.try_exchange.result
    c.try_exchange.ensures.ok))

pub returns-clause-err : goal.returns-clause-err
returns-clause-err c =
    let t : Table = record { slots = c.self.inside.slots.items; made = c.self.inside.made } in
    let new : Table = record { slots = c.try_exchange.new.slots.items; made = c.self.inside.made } in
    subst (λ (was : Table). IfErr c.try_exchange.result (λ (back : SlotItem). (back ≡ c.args.item) × (new ≡ was) × ¬ IsTable (with_slot c.args.number c.args.item was))) c.self.view_is
    (subst (λ (n : ℕ). IfErr c.try_exchange.result (λ (back : SlotItem). (back ≡ c.args.item) × (new ≡ t) × ¬ IsTable (with_slot n c.args.item t))) c.number-at.ensures.value
    (handed_back t c.number-at.result c.args.item c.try_exchange.new.slots.items c.self.invariant c.number-at.ensures.range (c.is_allowed.ensures.0 c.if-not-is_allowed.false) c.try_exchange.result
    c.try_exchange.ensures.err))
