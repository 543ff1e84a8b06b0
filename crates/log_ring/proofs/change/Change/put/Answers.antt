use Rattle.std.proofs.Common.{arith}
use Rattle.log_ring.proofs.Places.{few, put_new, put_there}
use Rattle.log_ring.proofs.change.Change.put.Goals as goal

pub invariant_of-self : goal.invariant_of-self
invariant_of-self c = (
  (put_there c.args.home c.args.page c.args.self.now c.self.inside.images.items c.deref.result.now c.deref.ensures.value c.self.view_is c.self.invariant.0 c.in-Some.place c.in-Some.ensures.place).0,
  c.self.invariant.1,
)

pub returns-in-Some : goal.returns-in-Some
returns-in-Some c =
    (put_there c.args.home c.args.page c.args.self.now c.self.inside.images.items c.deref.result.now c.deref.ensures.value c.self.view_is c.self.invariant.0 c.in-Some.place c.in-Some.ensures.place).1

pub push_reserved-requires : goal.push_reserved-requires
push_reserved-requires c =
    let less = few c.args.home c.args.page c.args.self.now c.self.inside.images.items c.deref.result.now c.deref.ensures.value c.self.view_is c.self.invariant.0 c.in-None.ensures.none c.requires in
    omega (arith, less, c.self.invariant.1)

pub invariant_of-self-in-None : goal.invariant_of-self-in-None
invariant_of-self-in-None c = (
  (put_new c.args.home c.args.page c.args.self.now c.self.inside.images.items c.deref.result.now c.deref.ensures.value c.self.view_is c.self.invariant.0 c.push_reserved.new.self.items c.in-None.ensures.none c.requires c.push_reserved.ensures.items).0,
  omega (arith, c.push_reserved.ensures.capacity, c.self.invariant.1),
)

pub returns-in-None : goal.returns-in-None
returns-in-None c =
    (put_new c.args.home c.args.page c.args.self.now c.self.inside.images.items c.deref.result.now c.deref.ensures.value c.self.view_is c.self.invariant.0 c.push_reserved.new.self.items c.in-None.ensures.none c.requires c.push_reserved.ensures.items).1
