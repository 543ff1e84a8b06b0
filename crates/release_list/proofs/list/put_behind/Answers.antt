use Rattle.std.proofs.Common.{◌<◌, inr, List, Contains, length, get_or, refl, subst, sym, arith}
use Rattle.file_release.proofs.OfFileChains.Allocated.{there_is}
use Rattle.release_list.specs.declared.list.Entry.{Entry}
use Rattle.release_list.specs.Listing.{Orders}
use Rattle.release_list.proofs.list.put_behind.Goals as goal

pub returns-in-None-clause-orders : goal.returns-in-None-clause-orders
returns-in-None-clause-orders c =
    let items = c.args.entries.now.items in
    subst (λ o. Orders o c.args.place items items) (sym c.in-Some.is)
    (inr (record {
      none = λ k d less at.
          let within : k < length items = omega (arith, less, c.requires) in
          let it = get_or items k d in
          let inside : Contains items it = (k, within, there_is items k it d within) in
          c.in-None.ensures.none it (subst (λ (es : List Entry). Contains es it) (sym c.as_slice.ensures.value) inside) at;
      is = refl;
    }))
