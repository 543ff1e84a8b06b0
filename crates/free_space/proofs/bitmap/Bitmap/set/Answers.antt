use Rattle.std.proofs.Common.{sym}
use Rattle.free_space.proofs.Used.{set_some, set_kept, set_viewed, insert_used, unchanged}
use Rattle.free_space.proofs.bitmap.Bitmap.set.Goals as goal

pub overflow_sub-self : goal.overflow_sub-self
overflow_sub-self c =
    set_some c.self.inside.bytes.items c.self.inside.pages c.self.inside.free c.args.page c.index_mut.result.now c.args.self.now c.self.invariant c.self.view_is c.requires c.index_mut.ensures.value
    (sym c.if-not-is_used.ensures)

pub invariant_of-self : goal.invariant_of-self
invariant_of-self c =
    set_kept c.self.inside.bytes.items c.self.inside.pages c.self.inside.free c.args.page c.index_mut.result.now c.args.self.now c.self.invariant c.self.view_is c.requires c.index_mut.ensures.value
    (sym c.if-not-is_used.ensures)

pub returns-then-not-is_used : goal.returns-then-not-is_used
returns-then-not-is_used c =
    set_viewed c.self.inside.bytes.items c.self.inside.pages c.self.inside.free c.args.page c.index_mut.result.now c.args.self.now c.self.invariant c.self.view_is c.requires c.index_mut.ensures.value

pub returns-else-not-is_used : goal.returns-else-not-is_used
returns-else-not-is_used c = unchanged c.args.self.now _ (insert_used c.args.self.now.used c.args.page (sym c.if-not-is_used.ensures))
