use Rattle.std.proofs.Common.{◌≡◌, ◌++◌, ◌+◌, ◌∷◌, [], List, take, refl, sym, ◌∙◌, ap, subst}
use Rattle.std.proofs.lemmas.List.{take_more}
use Rattle.page_cache.specs.domain_base.declared.place.Home.{Home}
use Rattle.page_cache.specs.Cache.{frames_of, order_of}
use Rattle.file_pages.specs.Lent.{used_each}
use Rattle.file_pages.proofs.LentHomes.{ComeWithin, keeps_itself, keeps_then, keeps_used, one_more_used, order_once_more}
use Rattle.file_pages.proofs.homes.touch_each.Goals as goal

pub loop-home-init : goal.loop-home-init
unfolding used_each
loop-home-init c = record { keeps = keeps_itself c.args.cache.now; order = refl; within = λ home among clean. cc }

pub loop-home-preserved : goal.loop-home-preserved
loop-home-preserved c =
    let homes : List Home = c.args.homes.now in
    let i = c.loop-home.home-index in
    let home : Home = c.home-item.result in
    let so_far = c.loop-home.invariant in
    let more : take (i + 1) homes ≡ take i homes ++ home ∷ [] = take_more homes i home c.loop-home-test.true ∙ ap (λ (x : Home). take i homes ++ x ∷ []) (sym c.home-item.is) in
    record {
      keeps = keeps_then c.args.cache.now c.loop-home.cache c.touch.new.self so_far.keeps (keeps_used home c.loop-home.cache c.touch.new.self c.touch.ensures);
      order =
          subst (λ (l : List Home). order_of c.touch.new.self ≡ used_each (frames_of c.args.cache.now) l (order_of c.args.cache.now)) (sym more)
          (order_once_more (take i homes) home c.args.cache.now c.loop-home.cache c.touch.new.self so_far.keeps c.touch.ensures so_far.order);
      within =
          subst (λ (l : List Home). ComeWithin (i + 1) l (frames_of c.args.cache.now) (order_of c.touch.new.self)) (sym more)
          (one_more_used i (take i homes) home c.args.cache.now c.loop-home.cache c.touch.new.self so_far.keeps c.touch.ensures so_far.within);
    }
