use Rattle.std.proofs.Common.{arith, sym}
use Rattle.free_space.proofs.Used.{clear_fits, clear_kept, clear_viewed, remove_free, unchanged}
use Rattle.free_space.proofs.bitmap.Bitmap.clear.Goals as goal

pub overflow_add-self : goal.overflow_add-self
overflow_add-self c =
    omega (
      arith,
      clear_fits c.self.inside.bytes.items c.self.inside.pages c.self.inside.free c.args.page c.index_mut.result.now c.args.self.now c.self.invariant c.self.view_is c.requires c.index_mut.ensures.value
          (sym c.if-is_used.ensures),
    )

pub invariant_of-self : goal.invariant_of-self
invariant_of-self c =
    clear_kept c.self.inside.bytes.items c.self.inside.pages c.self.inside.free c.args.page c.index_mut.result.now c.args.self.now c.self.invariant c.self.view_is c.requires c.index_mut.ensures.value
    (sym c.if-is_used.ensures)

pub returns-then-is_used : goal.returns-then-is_used
returns-then-is_used c =
    clear_viewed c.self.inside.bytes.items c.self.inside.pages c.self.inside.free c.args.page c.index_mut.result.now c.args.self.now c.self.invariant c.self.view_is c.requires c.index_mut.ensures.value

pub returns-else-is_used : goal.returns-else-is_used
returns-else-is_used c = unchanged c.args.self.now _ (remove_free c.args.self.now.used c.args.page (sym c.if-is_used.ensures))
