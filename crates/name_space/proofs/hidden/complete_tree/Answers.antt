use Rattle.std.proofs.Common.{◌≡◌, ◌∙◌, inl, Some, None, sym, ap, subst, refl, option_copied}
use Rattle.name_space.specs.Trees.{IsFoundMissing}
use Rattle.name_space.proofs.BelowMissing.{below_any}
use Rattle.name_space.proofs.Counted.{all_paths, few_paths}
use Rattle.name_space.proofs.hidden.complete_tree.Goals as goal

pub returns-in-Some : goal.returns-in-Some
returns-in-Some c = λ files are below is.
    c.hide_all.ensures files c.args.led.now are (record {
      missing = subst (λ o. IsFoundMissing files (option_copied o)) c.in-Some.is (c.find_missing.ensures files are);
      is = below_any files c.args.nodes.now below c.in-Some.below.now c.args.tree.now is;
      few = few_paths files c.args.nodes.now c.args.led.now are below c.args.tree.now is;
    })

pub returns-in-None : goal.returns-in-None
returns-in-None c = λ files are below is.
    record {
      below = below;
      count = 0;
      hidden = inl refl;
      is = is;
      few = few_paths files c.args.nodes.now c.args.led.now are below c.args.tree.now is;
      all = all_paths files c.args.nodes.now c.args.led.now are below c.args.tree.now is
          (subst (λ o. IsFoundMissing files (option_copied o)) c.in-None.is (c.find_missing.ensures files are));
    }
