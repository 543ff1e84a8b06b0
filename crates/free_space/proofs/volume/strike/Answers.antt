use Rattle.std.proofs.Common.{◌-◌, length, rules, ap, sym, ◌∙◌}
use Rattle.std.proofs.lemmas.Fn.{filter_same}
use Rattle.std.specs.List.{slice_get}
use Rattle.free_space.specs.Sound.{is_one}
use Rattle.free_space.proofs.Changing.{struck_last, without_missing}
use Rattle.free_space.proofs.volume.strike.Goals as goal

pub returns-then-eq-clause-struck : goal.returns-then-eq-clause-struck
returns-then-eq-clause-struck c =
    (struck_last c.args.pages.now.items c.pop.new.self.items c.copied.result c.pop.result _ c.args.page (sym c.eq.ensures ∙ c.if-eq.true)
    (c.copied.ensures ∙ c.last.ensures.value ∙ ap (λ xs. slice_get xs (length xs - 1)) c.deref.ensures.value)
    (sym c.deref.ensures.len ∙ ap length c.deref.ensures.value) c.pop.ensures.value c.pop.ensures.items c.requires).1

pub returns-then-found-clause-struck : goal.returns-then-found-clause-struck
returns-then-found-clause-struck c = filter_same _ _ _ (λ x b f k. search rules) _ _ c.retain.ensures.filtered

pub returns-else-found-clause-struck : goal.returns-else-found-clause-struck
returns-else-found-clause-struck c =
    sym (without_missing c.args.page c.args.pages.now.items (sym (c.contains-found.ensures.value ∙ ap (λ xs. is_one xs c.args.page) c.deref-2.ensures.value) ∙ c.if-found.false))
