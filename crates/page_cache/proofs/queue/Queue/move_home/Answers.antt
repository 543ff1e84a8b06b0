use Rattle.std.proofs.Common.{◌^◌, ◌<◌, sym, subst, arith}
use Rattle.page_store.specs.sorted_sets.Homes.{number_of}
use Rattle.page_cache.specs.Queues.{Leaves}
use Rattle.page_cache.proofs.Moves.{is_free, queue_with, queue_without}
use Rattle.page_cache.proofs.queue.Queue.move_home.Goals as goal

pub returns-clause-moves : goal.returns-clause-moves
returns-clause-moves c =
    let home = c.args.home.now in
    let old = c.args.self.now.places in
    let mid = c.leave.new.self.places in
    let new = c.enter.new.self.places in
    let narrow : number_of home < 2 ^ 64 = omega (arith, c.home_number-number.ensures.value, c.if-prove.false) in
    let leaves : Leaves old.items mid.items (number_of home) c.args.old = subst (λ n. Leaves old.items mid.items n c.args.old) c.home_number-number.ensures.value c.leave.ensures.leaves in
    record {
      queues = λ groups of at.
          let without = queue_without groups of.narrow (number_of home) narrow old.items mid.items of (subst (Leaves old.items mid.items (number_of home)) (sym at) leaves) in
          queue_with groups home without.narrow mid.items new.items without narrow c.args.new c.enter.ensures.enters;
      lens = λ groups of at.
          let without = queue_without groups of.narrow (number_of home) narrow old.items mid.items of (subst (Leaves old.items mid.items (number_of home)) (sym at) leaves) in
          let there = c.leave.ensures.len (rw (c.home_number-number.ensures.value, ← at) (of.listed (number_of home))) in
          let free = c.enter.ensures.len (is_free groups home without.narrow mid.items new.items without narrow c.args.new) in
          omega (arith, there, free);
    }
