use Rattle.sorted_sets.specs.Members.{IsIn}
use Rattle.sorted_sets.proofs.Joined.{in_all, in_more}
use Rattle.sorted_sets.proofs.home_set.HomeSet.insert_set.Goals as goal

pub loop-home-preserved : goal.loop-home-preserved
loop-home-preserved c =
    in_more (IsIn c.args.self.now) (IsIn c.loop-home.self) c.args.other.now c.as_slice-home-items.result.now c.as_slice-home-items.ensures.value c.loop-home.home-index c.loop-home.invariant
    (IsIn c.insert.new.self) c.loop-home-item.result c.loop-home-test.true c.loop-home-item.is c.in_ok-insert.ensures.ok

pub returns : goal.returns
returns c =
    in_all (IsIn c.args.self.now) (IsIn c.loop-home.self) c.args.other.now c.as_slice-home-items.result.now c.as_slice-home-items.ensures.value c.loop-home.home-index c.loop-home.invariant
    c.as_slice-home-items.ensures.rising c.as_slice-home-items.ensures.numbered c.loop-home-test.false c.loop-home.auto.home-index-end
