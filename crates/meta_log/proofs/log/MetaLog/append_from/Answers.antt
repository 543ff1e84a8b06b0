use Rattle.std.proofs.Common.{◌≡◌, ◌+◌, ◌^◌, ◌<◌, List, take, drop, length, vec_len, sym, ◌∙◌, ap, subst, arith}
use Rattle.std.specs.List.{All}
use Rattle.std.specs.Vec.{with_items}
use Rattle.std.proofs.lemmas.List.{with_items_is}
use Rattle.log_ring.specs.Images.{joined}
use Rattle.log_ring.specs.declared.image.PageImage.{PageImage}
use Rattle.log_ring.specs.Homes.{AreLoggable, IsLoggable}
use Rattle.meta_log.specs.Inside.{log_of}
use Rattle.meta_log.specs.Log.{HasPlaceFor, IsLog, Log, appended, images_at, next_number}
use Rattle.meta_log.proofs.Appending.{appended_is}
use Rattle.meta_log.proofs.FromStore.{length-images_at, loggable_at}
use Rattle.meta_log.proofs.log.MetaLog.append_from.Goals as goal

pub invariant_of-self : goal.invariant_of-self
invariant_of-self g c =
    let log : Log = log_of c.self.inside in
    let pages = g.M.MetaPages.pages c.args.pages.now in
    let homes = c.args.homes.now in
    let change : List PageImage = images_at pages homes in
    let logged = c.self.inside.logged in
    let end = c.self.inside.end in
    let joined_slots : List PageImage = c.join_from-self-inside.new.slots in
    let size : length joined_slots ≡ vec_len c.self.inside.slots = c.join_from-self-inside.auto.slots ∙ c.as_mut_slice.ensures.len in
    let put_back : (with_items c.self.inside.slots joined_slots).items ≡ joined_slots = with_items_is c.self.inside.slots joined_slots size in
    let slots : List PageImage = (with_items c.self.inside.slots joined_slots).items in
    let value = c.as_mut_slice.ensures.value in
    let front : take logged slots ≡ log.logged = ap (take logged) put_back ∙ c.join_from-self-inside.ensures.front ∙ ap (λ (l : List PageImage). take logged l) value in
    let behind : drop logged (take c.join_from-self-inside.result slots) ≡ joined change log.pending =
    ap (λ (l : List PageImage). drop logged (take c.join_from-self-inside.result l)) put_back ∙ c.join_from-self-inside.ensures.joined ∙ (λ i. joined change (drop logged (take end (value i)))) in
    let is : appended log change ≡ record { anchor = log.anchor; groups = log.groups; logged = take logged slots; pending = drop logged (take c.join_from-self-inside.result slots) } =
    λ i. record { anchor = log.anchor; groups = log.groups; logged = sym front i; pending = sym behind i } in
    let now : c.args.self.now ≡ log = sym c.self.view_is in
    let has_place : HasPlaceFor log (length (joined change log.pending)) = subst (λ (l : Log). HasPlaceFor l (length (joined change l.pending))) now c.requires.place in
    let loggable : AreLoggable log.anchor change = loggable_at log.anchor pages homes (subst (λ (l : Log). All (IsLoggable l.anchor) homes) now c.requires.loggable) in
    let number : next_number log + 1 < 2 ^ 63 = subst (λ (l : Log). next_number l + 1 < 2 ^ 63) now c.requires.number in
    let some : 0 < length change = omega (arith, length-images_at pages homes, c.requires.some) in
    record {
      is = subst IsLog is (appended_is log change c.self.invariant.is some loggable number has_place);
      order = omega (arith, c.self.invariant.order, c.join_from-self-inside.ensures.end);
      within = omega (arith, c.join_from-self-inside.ensures.within, size);
      slots = c.self.invariant.slots;
    }
